use Rattle.std.proofs.Common.{◌≡◌, ◌*◌, take}
use Rattle.lfs_survey.proofs.all_lowered.bytes_of.Given as goal

abbrev pub invariant-loop-number : goal.invariant-loop-number
invariant-loop-number l = l.bytes.items ≡ take (l.number * l.image.disk.size) l.image.disk.bytes
