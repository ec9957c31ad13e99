-- The blocks so far are taken.
use Rattle.std.specs.Prelude.{◌≡◌}
use Rattle.lfs_adopt.specs.Draft.{drafted}
use Rattle.lfs_adopt.specs.Rewritten.{AreTaken}
use Rattle.lfs_adopt.proofs.adopting.taken.Given as goal

abbrev pub invariant-loop-number : goal.invariant-loop-number
invariant-loop-number g l = (l.draft.base ≡ l.image.disk) × AreTaken l.image.disk (g.B.Blocks.disk l.other) (drafted l.draft) l.flags l.number
