-- The lines so far.
use Rattle.std.proofs.Common.{◌≡◌, take, flat_map}
use Rattle.lfs_open.specs.FoundText.{found_line}
use Rattle.lfs_open.proofs.sending.found_text.Given as goal

abbrev pub invariant-loop-here : goal.invariant-loop-here
invariant-loop-here l = l.text.items ≡ flat_map (found_line l.form) (take l.here-index l.found)
