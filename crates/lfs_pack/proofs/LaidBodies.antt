-- What is laid for a file stays, if its blocks do.
use Rattle.std.proofs.Common.{◌≡◌, ◌==◌, ◌+◌, ◌<◌, ℕ, Bool, true, false, List, [], ◌∷◌, length, map, refl, ap, sym, ◌∙◌, arith, cond}
use Rattle.std.specs.Prelude.{if◌then◌else◌, nat_le}
use Rattle.std.proofs.lemmas.Bool.Decides.{nat_tests}
use Rattle.std.proofs.lemmas.List.Sums.{sum_by-cons}
use Rattle.lfs_block.specs.Disk.{Disk, block_of}
use Rattle.lfs_command.specs.Command.{Command, Mkdir, Put, Rm, Mv, SetAttr, RmAttr, Grow}
use Rattle.lfs_command.specs.Planned.{HasLaid}
use Rattle.lfs_command.specs.Supplies.{Supplies, inline_limit}
use Rattle.lfs_file.specs.Laying.{laid}
use Rattle.lfs_fs.specs.Entry.{Body, Inline, Chain, Directory_at}
use Rattle.lfs_fs.specs.Uses.{body_uses, times}
use Rattle.lfs_fs.specs.Volume.{Volume}
use Rattle.lfs_law.proofs.KnownBodies.{OfNew}
use Rattle.lfs_pack.specs.NewImages.{IsLaidBody}

-- ---- blocks that a list names

one_more : (n b : ℕ) (bs : List ℕ) → times n (b ∷ bs) ≡ cond {A = ℕ} (b == n) 1 0 + times n bs
one_more n b bs = sum_by-cons (λ (x : ℕ). cond {A = ℕ} (x == n) 1 0) b bs

-- the first
first_named : (b : ℕ) (bs : List ℕ) → 0 < times b (b ∷ bs)
first_named b bs =
    let one : cond {A = ℕ} (b == b) 1 0 ≡ 1 = grind (arith, nat_tests) in
    omega (arith, one_more b b bs, one)

-- and the others
later_named : (n b : ℕ) (bs : List ℕ) → 0 < times n bs → 0 < times n (b ∷ bs)
later_named n b bs named = omega (arith, one_more n b bs, named)

blocks_same : (d f : Disk) (bs : List ℕ) → ((n : ℕ) → 0 < times n bs → block_of f n ≡ block_of d n)
    → map (block_of f) bs ≡ map (block_of d) bs
blocks_same d f [] stays = refl
blocks_same d f (b ∷ bs) stays =
    ap (λ (x : List ℕ). x ∷ map (block_of f) bs) (stays b (first_named b bs))
    ∙ ap (λ (xs : List (List ℕ)). block_of d b ∷ xs) (blocks_same d f bs (λ n named. stays n (later_named n b bs named)))

-- ---- a file's blocks

pub laid_stays : (d f : Disk) (b : Body) → f.size ≡ d.size → ((n : ℕ) → 0 < body_uses n b → block_of f n ≡ block_of d n) → IsLaidBody d b
    → IsLaidBody f b
laid_stays d f (Inline bytes) size stays is = tt
laid_stays d f (Directory_at pair) size stays is = tt
laid_stays d f (Chain blocks bytes) size stays is =
    blocks_same d f blocks stays ∙ is ∙ ap (λ (n : ℕ). laid n bytes blocks) (sym size)

laid_by : (d : Disk) (bytes blocks : List ℕ) (t : Bool) → (t ≡ false → map (block_of d) blocks ≡ laid d.size bytes blocks)
    → IsLaidBody d (if t then Inline bytes else Chain blocks bytes)
laid_by d bytes blocks true has = tt
laid_by d bytes blocks false has = has refl

-- a file's new contents are laid
pub new_laid : (f : Disk) (v : Volume) (c : Command) (s : Supplies) → HasLaid v c s f → OfNew (IsLaidBody f) v c s
new_laid f v (Mkdir p) s has = tt
new_laid f v (Rm p) s has = tt
new_laid f v (Mv p q) s has = tt
new_laid f v (SetAttr p k value) s has = tt
new_laid f v (RmAttr p k) s has = tt
new_laid f v (Grow n) s has = tt
new_laid f v (Put p bytes most) s has = laid_by f bytes s.blocks (nat_le (length bytes) (inline_limit v.size most)) has
