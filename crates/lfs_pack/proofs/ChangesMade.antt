-- What the changes that lay a file's contents make of an image.
use Rattle.std.proofs.Common.{◌≡◌, ℕ, List, [], ◌∷◌, ap, map, refl, ◌∙◌}
use Rattle.std.specs.List.{AllByRecursion}
use Rattle.lfs_block.specs.Change.{Change}
use Rattle.lfs_block.specs.Disk.{Disk, IsDisk, block_of}
use Rattle.lfs_block.specs.Patch.{put_all}
use Rattle.lfs_block.specs.PatchLaws.{FitsDisk, ChangedBlocks, IsDiskAs}
use Rattle.lfs_file.specs.Laying.{laid}
use Rattle.lfs_fs.specs.Uses.{times}
use Rattle.lfs_law.specs.WrittenLinks.{CanBeMade, block_after}
use Rattle.lfs_law.proofs.ChangesAt.{overlaid_none}
use Rattle.lfs_law.proofs.OutlinesWritten.{none_named}
use Rattle.lfs_write.specs.Laid.{AreLaid}
use Rattle.lfs_fs.specs.DiskBut.{IsDiskBut}

made_fit : (d : Disk) (cs : List Change) → AllByRecursion (CanBeMade d) cs → AllByRecursion (FitsDisk d) cs
made_fit d [] made = tt
made_fit d (c ∷ cs) made = ((made.0.stands.0, made.0.complete), made_fit d cs made.1)

-- what blocks hold then
each_after : (d e : Disk) (cs : List Change) → ((n : ℕ) → block_of e n ≡ block_after d cs n) → (ns : List ℕ)
    → map (block_of e) ns ≡ map (block_after d cs) ns
each_after d e cs same [] = refl
each_after d e cs same (n ∷ ns) =
    ap (λ (b : List ℕ). b ∷ map (block_of e) ns) (same n)
    ∙ ap (λ (bs : List (List ℕ)). block_after d cs n ∷ bs) (each_after d e cs same ns)

pub contents_laid : ChangedBlocks → (d : Disk) (bytes blocks : List ℕ) (cs : List Change) → IsDisk d → AreLaid d bytes blocks cs
    → map (block_of (put_all cs d)) blocks ≡ laid d.size bytes blocks
contents_laid changed d bytes blocks cs disk lays =
    each_after d (put_all cs d) cs (λ n. changed d cs n disk lays.rising (made_fit d cs lays.made)) blocks ∙ lays.lays.same

-- the blocks that they don't name stay
pub contents_but : ChangedBlocks → (d : Disk) (bytes blocks : List ℕ) (cs : List Change) → IsDisk d → AreLaid d bytes blocks cs
    → IsDiskAs d (put_all cs d)
    → IsDiskBut blocks d (put_all cs d)
contents_but changed d bytes blocks cs disk lays same = record {
  disk = same;
  others = λ n none. changed d cs n disk lays.rising (made_fit d cs lays.made) ∙ overlaid_none cs n (block_of d n)
      (none_named n cs (ap (times n) lays.numbers ∙ none));
}
