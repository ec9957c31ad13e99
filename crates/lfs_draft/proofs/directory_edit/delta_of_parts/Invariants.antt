-- What is left is mixed in.
use Rattle.std.proofs.Common.{◌≡◌, drop}
use Rattle.std.specs.Prelude.{bit_xor}
use Rattle.lfs_fs.specs.State.{delta_of}
use Rattle.lfs_draft.proofs.directory_edit.delta_of_parts.Given as goal

abbrev pub invariant-each : goal.invariant-each
invariant-each l = bit_xor l.delta (delta_of (drop l.part-index l.parts)) ≡ delta_of l.parts
