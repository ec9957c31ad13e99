-- The blocks that are free in the volume that an image holds after a command.
use Rattle.std.proofs.Common.{◌≡◌, ℕ, ◌==◌, ap, ◌∙◌}
use Rattle.std.specs.List.{range_with_len}
use Rattle.lfs_meta.specs.RunLaws.{RunsJoin}
use Rattle.lfs_fs.specs.NameOrder.{NamesAreOrdered}
use Rattle.lfs_fs.specs.Entry.{Entry}
use Rattle.lfs_fs.specs.Volume.{Volume}
use Rattle.lfs_fs.specs.Free.{free_blocks}
use Rattle.lfs_fs.specs.Uses.{uses}
use Rattle.lfs_command.specs.Edited.{edited}
use Rattle.lfs_command.specs.Cut.{cut}
use Rattle.lfs_command.specs.Clean.{clean}
use Rattle.lfs_law.specs.Laws.{FreeAfterHeld}
use Rattle.lfs_law.proofs.Cleans.{clean_uses_all}
use Rattle.lfs_law.proofs.CutsFollow.{filter_same, free_after_command}

clean_free : (v : Volume) → free_blocks (clean v) ≡ free_blocks v
clean_free v = filter_same (λ b. uses b (clean v) == 0) (λ b. uses b v == 0) (λ b. ap (λ (n : ℕ). n == 0) (clean_uses_all b v))
    (range_with_len 0 v.count)

pub free_after_held : NamesAreOrdered → RunsJoin Entry → FreeAfterHeld
free_after_held ordered join v c s chosen ok pairs = clean_free (cut chosen (edited v c s))
    ∙ free_after_command ordered join v c s chosen ok pairs
