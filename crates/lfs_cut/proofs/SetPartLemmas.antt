-- What is said of the parts that are set, directory by directory.
use Rattle.std.proofs.Common.{◌≡◌, ℕ, Bool, List, [], ◌∷◌, refl, ap, sym, ◌∙◌, arith}
use Rattle.std.specs.Prelude.{◌||◌, sum_by}
use Rattle.std.specs.List.{list_any}
use Rattle.std.proofs.lemmas.List.Folds.{list_any-append}
use Rattle.std.proofs.lemmas.List.Concat.{flat_map-cons}
use Rattle.std.proofs.lemmas.List.Sums.{sum_by-cons, sum_by-append}
use Rattle.lfs_fs.specs.Weight.{superblock_weight}
use Rattle.lfs_fs.specs.Directory.{Part, Directory, parts, thread}
use Rattle.lfs_fs.specs.Volume.{Volume}
use Rattle.lfs_command.specs.Cut.{room}
use Rattle.lfs_command.specs.Need.{dirty_parts, part_blocks}
use Rattle.lfs_law.specs.OutlineCarried.{has_too_large}
use Rattle.lfs_cut.specs.SetParts.{is_set_too_large, has_too_large_by, blocks_set, set_blocks_of}
use Rattle.lfs_command.specs.Verdict.{is_too_large}
use Rattle.lfs_law.proofs.LargeParts.{any_set}
use Rattle.lfs_law.proofs.Needs.{sum_set}

any_thread : (f : Part → Bool) (ds : List Directory) → list_any f (thread ds) ≡ list_any (λ d. list_any f (parts d)) ds
any_thread f [] = refl
any_thread f (d ∷ ds) = list_any-append f (parts d) (thread ds) ∙ ap (λ (b : Bool). list_any f (parts d) || b) (any_thread f ds)

pub any_large_part : (v : Volume) (bytes superblock : ℕ) → bytes ≡ room v → superblock ≡ superblock_weight v.attributes
    → list_any (has_too_large_by bytes superblock) v.directories ≡ has_too_large v
any_large_part v bytes superblock is weighs =
    rw (is, weighs) (sym (any_thread (is_set_too_large (room v) (superblock_weight v.attributes)) v.directories)
    ∙ sym (any_set (is_too_large v) (thread v.directories)))

pub sum_thread : (f : Part → ℕ) (ds : List Directory) → sum_by f (thread ds) ≡ sum_by (λ d. sum_by f (parts d)) ds
sum_thread f [] = refl
sum_thread f (d ∷ ds) =
    omega (
      arith,
      ap (sum_by f) (flat_map-cons parts d ds),
      sum_by-append f (parts d) (thread ds),
      sum_thread f ds,
      sum_by-cons (λ (e : Directory). sum_by f (parts e)) d ds,
    )

pub all_blocks : (v : Volume) (bytes superblock : ℕ) → bytes ≡ room v → superblock ≡ superblock_weight v.attributes
    → sum_by (set_blocks_of bytes superblock) v.directories ≡ sum_by (part_blocks v) (dirty_parts v)
all_blocks v bytes superblock is weighs =
    rw (is, weighs) (sym (sum_thread (blocks_set (room v) (superblock_weight v.attributes)) v.directories)
    ∙ sym (sum_set (part_blocks v) (thread v.directories)))
