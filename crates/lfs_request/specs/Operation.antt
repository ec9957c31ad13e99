-- What an operation asks for that its caller owes (own).
use Rattle.std.specs.Prelude.{⊤}
use Rattle.lfs_fs.specs.Superblock.{IsLimits}
use Rattle.lfs_history.specs.Taking.{MayKeep}
use Rattle.lfs_history.specs.declared.moves.Move.TheVariants.{Do, Together}
use Rattle.lfs_request.specs.declared.operation.Operation.{Operation}
use Rattle.lfs_request.specs.declared.operation.Operation.TheVariants.{Format, Pack, Repack, Change, Tree, Batch}
use Rattle.lfs_request.specs.SaidLimits.{AreSaidInRange}

-- what an operation asks for is in range: the limits of an image that it makes are such that an image may have, and what it keeps behind a
-- command may be kept
abbrev pub IsOperationInRange : Operation → Type 0
IsOperationInRange (Format count limits) = IsLimits limits
IsOperationInRange (Pack extent limits dir most) = IsLimits limits
IsOperationInRange (Repack source extent limits most) = AreSaidInRange limits
IsOperationInRange (Change (Do command keep)) = MayKeep keep
IsOperationInRange (Change (Together commands keep)) = MayKeep keep
IsOperationInRange (Tree change keep) = MayKeep keep
IsOperationInRange (Batch file terms one) = MayKeep terms.keep
IsOperationInRange _ = ⊤
