-- The blocks so far are told.
use Rattle.std.proofs.Common.{◌≡◌, take, flat_map}
use Rattle.lfs_step.specs.ChangedText.{line_of_changed}
use Rattle.lfs_step.proofs.changed_text.changed_json.Given as goal

abbrev pub invariant-loop-block : goal.invariant-loop-block
invariant-loop-block l = l.text.items ≡ flat_map line_of_changed (take l.block-index l.blocks)
