-- Contents that are laid in blocks are there when the links are written.
use Rattle.std.proofs.Common.{◌≡◌, ℕ, ◌-◌, ◌<◌, Bool, true, false, List, [], ◌∷◌, length, refl, ap, sym, ◌∙◌, arith, map, Some}
use Rattle.std.specs.Prelude.{Contains, slice_get, nat_le, if◌then◌else◌}
use Rattle.std.proofs.lemmas.List.Elements.{All-weaker, All-contains_itself}
use Rattle.std.proofs.lemmas.Option.{slice_get-get_or, unwrap_or-slice_get}
use Rattle.lfs_block.specs.Change.{Change}
use Rattle.lfs_block.specs.Disk.{Disk, IsDisk, block_of}
use Rattle.lfs_block.specs.Patch.{applied}
use Rattle.lfs_block.specs.PatchLaws.{KeptBlocks, KeptIsDisk}
use Rattle.lfs_file.specs.Capacity.{least_blocks}
use Rattle.lfs_file.specs.Laws.{LaidIsContent, LaidIsFound}
use Rattle.lfs_file.specs.Laying.{IsLaid, laid}
use Rattle.lfs_fs.specs.AsStored.{head_of}
use Rattle.lfs_fs.specs.Entry.{Inline, Chain}
use Rattle.lfs_fs.specs.Uses.{times}
use Rattle.lfs_fs.specs.Reading.{reading_of}
use Rattle.lfs_fs.proofs.ContainsLemmas.{contains_first, contains_later}
use Rattle.lfs_command.specs.Command.{Mkdir, Put, Rm, Mv, SetAttr, RmAttr, Grow}
use Rattle.lfs_command.specs.Supplies.{inline_limit, supply_uses}
use Rattle.lfs_law.specs.WrittenLinks.{changed_blocks, block_after}
use Rattle.lfs_law.specs.OutlineLaws.{IsThere}
use Rattle.lfs_law.specs.PlansHold.{content_blocks}
use Rattle.lfs_law.specs.PlansWritten.{LaysContents, LaidAreThere}
use Rattle.lfs_law.proofs.NamedBlocks.{supplies_once}
use Rattle.lfs_law.proofs.OutlineEntries.{cons_same}
use Rattle.lfs_law.proofs.WrittenLemmas.{times_there}

-- the last block of a chain is its head
pub head_is : (blocks : List ℕ) → 0 < length blocks → slice_get blocks (length blocks - 1) ≡ Some (head_of blocks)
head_is blocks some = slice_get-get_or blocks (length blocks - 1) 0 (omega (arith, some))
    ∙ ap Some (sym (unwrap_or-slice_get blocks (length blocks - 1) 0))

map_on : (f g : ℕ → List ℕ) (xs : List ℕ) → ((x : ℕ) → Contains xs x → f x ≡ g x) → map f xs ≡ map g xs
map_on f g [] same = refl
map_on f g (x ∷ xs) same = cons_same (f x) (g x) (map f xs) (map g xs) (same x (contains_first x xs))
    (map_on f g xs (λ y there. same y (contains_later x xs y there)))

-- in an image of the same size whose blocks are those after the changes
laid_there : LaidIsFound → LaidIsContent → (d e : Disk) (bytes blocks : List ℕ) (base : List Change) → IsDisk e → e.size ≡ d.size
    → LaysContents d bytes blocks base
    → ((n : ℕ) → Contains blocks n → n < e.count) → ((n : ℕ) → Contains blocks n → block_of e n ≡ block_after d base n)
    → IsThere (reading_of e) (Chain blocks bytes)
laid_there found content d e bytes blocks base disk size lays below same =
    let is : IsLaid e (head_of blocks) bytes blocks = record {
      count = lays.count ∙ ap (λ (n : ℕ). least_blocks n (length bytes)) (sym size);
      last = head_is blocks;
      below = All-weaker (Contains blocks) (λ (b : ℕ). b < e.count) below blocks (All-contains_itself blocks);
      apart = lays.apart;
      same = map_on (block_of e) (block_after d base) blocks same ∙ lays.same ∙ ap (λ (n : ℕ). laid n bytes blocks) (sym size);
    } in
    (found e (head_of blocks) bytes blocks disk is, sym (content e (head_of blocks) bytes blocks disk is))

body_by : (d e : Disk) (bytes blocks : List ℕ) (t : Bool) → (t ≡ false → IsThere (reading_of e) (Chain blocks bytes))
    → IsThere (reading_of e) (if t then Inline bytes else Chain blocks bytes)
body_by d e bytes blocks true there = tt
body_by d e bytes blocks false there = there refl

pub laid_are_there : LaidIsFound → LaidIsContent → KeptIsDisk → KeptBlocks → LaidAreThere
laid_are_there found content kept_disk kept_blocks d v (Mkdir path) s chosen new is_new base p disk patch stands keeps free named
    lays written = (tt, tt)
laid_are_there found content kept_disk kept_blocks d v (Rm path) s chosen new is_new base p disk patch stands keeps free named
    lays written = (tt, tt)
laid_are_there found content kept_disk kept_blocks d v (Mv from to) s chosen new is_new base p disk patch stands keeps free named
    lays written = (tt, tt)
laid_are_there found content kept_disk kept_blocks d v (SetAttr path k value) s chosen new is_new base p disk patch stands keeps free named
    lays written = (tt, tt)
laid_are_there found content kept_disk kept_blocks d v (RmAttr path k) s chosen new is_new base p disk patch stands keeps free named
    lays written = (tt, tt)
laid_are_there found content kept_disk kept_blocks d v (Grow n) s chosen new is_new base p disk patch stands keeps free named
    lays written = (tt, tt)
laid_are_there found content kept_disk kept_blocks d v (Put path bytes most) s chosen new is_new base p disk patch stands keeps free named
    lays written =
    let after = kept_disk p d disk.disk patch stands keeps in (
      body_by d (applied p d) bytes s.blocks (nat_le (length bytes) (inline_limit v.size most))
          (λ chain.
          laid_there found content d (applied p d) bytes s.blocks base after.disk after.size (lays chain)
          (λ n there.
          let taken : 0 < supply_uses v (Put path bytes most) s n = omega (
            arith,
            supplies_once v (Put path bytes most) s n,
            times_there n s.blocks there,
            ap (times n) (blocks_are chain),
          ) in
          omega (arith, free.within n taken, after.count, disk.count))
          (stays chain)),
      λ chain. map_on (block_of (applied p d)) (block_after d base) s.blocks (stays chain) ∙ (lays chain).same
          ∙ ap (λ (n : ℕ). laid n bytes s.blocks) (sym after.size),
    )
  where
    blocks_are : nat_le (length bytes) (inline_limit v.size most) ≡ false → content_blocks v (Put path bytes most) s ≡ s.blocks
    blocks_are chain = ap (λ (t : Bool). if t then [] else s.blocks) chain

    stays : nat_le (length bytes) (inline_limit v.size most) ≡ false → (n : ℕ) → Contains s.blocks n
        → block_of (applied p d) n ≡ block_after d base n
    stays chain n there =
        let some : 0 < times n (changed_blocks base) = omega
        (arith, times_there n s.blocks there, ap (times n) (named ∙ blocks_are chain)) in
        kept_blocks p d n disk.disk patch stands keeps ∙ written.kept n some
