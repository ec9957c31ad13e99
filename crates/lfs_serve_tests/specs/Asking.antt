-- Operations that ask (own).
use Rattle.lfs_request.specs.declared.operation.Operation.{Operation}
use Rattle.lfs_request.specs.declared.operation.Operation.TheVariants.{Ask, Extract, Salvage}

-- the operation asks something of an image, or makes a folder of it, and changes nothing
abbrev pub OnlyAsks : Operation → Type 0
OnlyAsks (Ask query form view) = Unit {0}
OnlyAsks (Extract dir path view) = Unit {0}
OnlyAsks (Salvage dir view) = Unit {0}
OnlyAsks _ = ⊥
