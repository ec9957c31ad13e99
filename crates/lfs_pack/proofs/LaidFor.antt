-- What a command of a row puts is laid in the first of the blocks that are at hand, where it doesn't stand in its entry.
use Rattle.std.proofs.Common.{◌≡◌, ◌<◌, ◌≤◌, ℕ, Bool, true, false, List, [], length, map, refl, ap, sym, ◌∙◌, subst, arith, take, get_or}
use Rattle.std.specs.Prelude.{AllPairs, if◌then◌else◌, nat_le}
use Rattle.std.proofs.lemmas.Bool.Decides.{nat_tests}
use Rattle.std.proofs.lemmas.List.{get_or-take, length-take}
use Rattle.lfs_block.specs.Disk.{Disk, IsDisk, block_of}
use Rattle.lfs_file.specs.Capacity.{least_blocks}
use Rattle.lfs_file.specs.Laying.{laid}
use Rattle.lfs_fs.specs.DiskBut.{IsDiskBut}
use Rattle.lfs_fs.specs.Formatted.{empty_volume}
use Rattle.lfs_fs.specs.Limits.{new_limits}
use Rattle.lfs_fs.specs.Path.{Path}
use Rattle.lfs_fs.specs.Volume.{Volume}
use Rattle.lfs_command.specs.Command.{Command, Put}
use Rattle.lfs_command.specs.Need.{data_blocks}
use Rattle.lfs_command.specs.Planned.{HasLaid}
use Rattle.lfs_command.specs.Supplies.{Supplies, inline_limit}
use Rattle.lfs_law.specs.PlansHold.{content_blocks}

-- a command's contents are laid, and other blocks are as they were
pub record AreLaid (v : Volume) (c : Command) (s : Supplies) (d e : Disk) : Type 0 where
  pub laid : HasLaid v c s e
  pub others : IsDiskBut (content_blocks v c s) d e

in_entry : (n most : ℕ) → n ≤ most → nat_le n most ≡ true
in_entry n most le = grind (arith, nat_tests, le)

in_blocks : (n most : ℕ) → most < n → nat_le n most ≡ false
in_blocks n most lt = grind (arith, nat_tests, lt)

both_ways : (t : Bool) → t ≡ true → t ≡ false → ⊥
both_ways t there not_there = cc

nothing_but : (blocks : List ℕ) (d : Disk) → IsDisk d → IsDiskBut blocks d d
nothing_but blocks d disk = record { disk = record { disk = disk; size = refl; count = refl }; others = λ b none. refl }

-- they stand in the entry
pub short_laid : (c : Command) (p : Path) (bytes : List ℕ) (most : ℕ) (d : Disk) (v : Volume) (s : Supplies) → IsDisk d → c ≡ Put p bytes most
    → length bytes ≤ inline_limit d.size most → v.size ≡ d.size → AreLaid v c s d d
short_laid c p bytes most d v s disk is short size = subst (λ (k : Command). AreLaid v k s d d) (sym is) (record {
  laid = λ long. absurd (both_ways (nat_le (length bytes) (inline_limit v.size most)) inside long);
  others = nothing_but (content_blocks v (Put p bytes most) s) d disk;
})
  where
    inside : nat_le (length bytes) (inline_limit v.size most) ≡ true
    inside = ap (λ (n : ℕ). nat_le (length bytes) (inline_limit n most)) size ∙ in_entry (length bytes) (inline_limit d.size most) short

-- they take so many blocks
long_takes : (c : Command) (p : Path) (bytes : List ℕ) (most size : ℕ) (v : Volume) → c ≡ Put p bytes most → inline_limit size most < length bytes
    → v.size ≡ size → data_blocks v c ≡ least_blocks size (length bytes)
long_takes c p bytes most size v is long same =
    ap (data_blocks v) is
    ∙ ap (λ (n : ℕ). if nat_le (length bytes) (inline_limit n most) then 0 else least_blocks n (length bytes)) same
    ∙ ap (λ (t : Bool). if t then 0 else least_blocks size (length bytes)) (in_blocks (length bytes) (inline_limit size most) long)

pub many_blocks : (c : Command) (p : Path) (bytes : List ℕ) (most size n : ℕ) → c ≡ Put p bytes most → inline_limit size most < length bytes
    → ((v : Volume) → v.size ≡ size → n ≡ data_blocks v c) → n ≡ least_blocks size (length bytes)
many_blocks c p bytes most size n is long many =
    let v : Volume = empty_volume size 0 new_limits [] in
    many v refl ∙ long_takes c p bytes most size v is long refl

pub enough_at_hand : (c : Command) (blocks : List ℕ) (size n : ℕ) → ((v : Volume) → v.size ≡ size → data_blocks v c ≤ length blocks)
    → ((v : Volume) → v.size ≡ size → n ≡ data_blocks v c) → n ≤ length blocks
enough_at_hand c blocks size n enough many =
    let v : Volume = empty_volume size 0 new_limits [] in
    omega (arith, enough v refl, many v refl)

pub rises_so_far : (n : ℕ) (bs : List ℕ) → AllPairs ◌<◌ bs → AllPairs ◌<◌ (take n bs)
rises_so_far n bs rise i j d less within =
    let fits = length-take n bs in
    let before : get_or (take n bs) i d ≡ get_or bs i d = get_or-take n bs i d (omega (arith, less, within, fits)) in
    let behind : get_or (take n bs) j d ≡ get_or bs j d = get_or-take n bs j d (omega (arith, within, fits)) in
    let all : get_or bs i d < get_or bs j d = rise i j d less (omega (arith, within, fits)) in
    omega (arith, before, behind, all)

pub long_laid : (c : Command) (p : Path) (bytes blocks : List ℕ) (most n : ℕ) (d e : Disk) (v : Volume) (s : Supplies) → c ≡ Put p bytes most
    → inline_limit d.size most < length bytes → ((x : Volume) → x.size ≡ d.size → n ≡ data_blocks x c) → v.size ≡ d.size
    → s.blocks ≡ take (data_blocks v c) blocks → map (block_of e) (take n blocks) ≡ laid d.size bytes (take n blocks)
    → IsDiskBut (take n blocks) d e → AreLaid v c s d e
long_laid c p bytes blocks most n d e v s is long many size taken has but = subst (λ (k : Command). AreLaid v k s d e) (sym is) (record {
  laid = λ outside. ap (map (block_of e)) here ∙ has ∙ ap (laid d.size bytes) (sym here)
      ∙ ap (λ (k : ℕ). laid k bytes s.blocks) (sym but.disk.size);
  others = subst (λ (bs : List ℕ). IsDiskBut bs d e) (sym (content ∙ here)) but;
})
  where
    here : s.blocks ≡ take n blocks
    here = taken ∙ ap (λ (k : ℕ). take k blocks) (sym (many v size))

    content : (if nat_le (length bytes) (inline_limit v.size most) then [] else s.blocks) ≡ s.blocks
    content = ap (λ (t : Bool). if t then [] else s.blocks)
        (ap (λ (k : ℕ). nat_le (length bytes) (inline_limit k most)) size ∙ in_blocks (length bytes) (inline_limit d.size most) long)
