-- Entries that aren't saved (own).
use Rattle.std.specs.Prelude.{Bool, true, false, List, [], ◌∷◌}
use Rattle.lfs_salvage.specs.Fate.{FileFate, In_entry, In_chain, Elsewhere, Passed, Lost}
use Rattle.lfs_salvage.specs.declared.parent.Parent.{Parent}
use Rattle.lfs_salvage.specs.declared.unsaved.Unsaved.{Unsaved}
use Rattle.lfs_salvage.specs.declared.unsaved.Why.TheVariants as why

-- an entry that stands here, whose file isn't saved, and why
abbrev pub unsaved : Parent → FileFate → List Unsaved
unsaved parent In_entry = []
unsaved parent (In_chain head blocks size) = []
unsaved parent (Elsewhere other) = record { parent = parent; why = why.Elsewhere other } ∷ []
unsaved parent Passed = []
unsaved parent (Lost fault) = record { parent = parent; why = why.Fault fault } ∷ []

-- an entry that stands here, if the host can't have a name for it
abbrev pub nameless : Parent → Bool → List Unsaved
nameless parent false = []
nameless parent true = record { parent = parent; why = why.Name } ∷ []
