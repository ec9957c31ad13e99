-- Whether the last name of a path belongs to a directory, and whether something is there (own).
use Rattle.std.specs.Prelude.{List, [], ◌∷◌, Option, is_none}
use Rattle.lfs_fs.specs.Path.{Path}
use Rattle.lfs_fs.specs.Tree.{tree}
use Rattle.lfs_fs.specs.Volume.{Volume}
use Rattle.lfs_command.specs.declared.refusal.Refusal.{Refusal}
use Rattle.lfs_command.specs.declared.refusal.Refusal.TheVariants.{IsRoot, NotFound}
use Rattle.lfs_command.specs.Verdict.{refuse_if, walk_refusal, is_root}

-- the first checks of a command that needs one: the root has no last name, and the walk to it is not refused
abbrev pub parent_checks : Volume → Path → List (Option Refusal)
parent_checks v p = refuse_if (is_root p) IsRoot ∷ walk_refusal (tree v) [] p ∷ []

-- the first checks of a command on what is there: the walk to it is not refused, and it is there
abbrev pub there_checks : Volume → Path → List (Option Refusal)
there_checks v p = walk_refusal (tree v) [] p ∷ refuse_if (is_none (tree v p)) NotFound ∷ []

-- the same where that is not the root
abbrev pub entry_checks : Volume → Path → List (Option Refusal)
entry_checks v p = refuse_if (is_root p) IsRoot ∷ there_checks v p
