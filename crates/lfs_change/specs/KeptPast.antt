-- Steps that undos take back (own).
use Rattle.std.specs.Prelude.{List, [], ◌∷◌, None}
use Rattle.lfs_history.specs.Taking.{Move, Do}

-- a command that keeps all earlier images, so that an undo takes it back
abbrev pub KeepsPast : Move → Type 0
KeepsPast (Do asked None) = Unit {0}
KeepsPast _ = ⊥

-- all of them are, but the last may be any step: one that is refused leaves the history, so that nothing of it is to be taken back
abbrev pub AllButLast : List Move → Type 0
AllButLast [] = Unit {0}
AllButLast (step ∷ []) = Unit {0}
AllButLast (step ∷ next ∷ steps) = KeepsPast step × AllButLast (next ∷ steps)
