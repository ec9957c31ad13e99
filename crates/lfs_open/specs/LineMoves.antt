-- What the lines of a script put, and the moves that they say (own).
use Rattle.std.specs.Prelude.{◌≡◌, ℕ, List, [], ◌∷◌, Option, Some, None, flat_map}
use Rattle.lfs_fs.specs.Limits.{most_file}
use Rattle.lfs_command.specs.Command.{Asked}
use Rattle.lfs_command.specs.declared.command.Command.TheVariants.{Put}
use Rattle.lfs_history.specs.declared.moves.Move.{Move}
use Rattle.lfs_history.specs.declared.moves.Move.TheVariants.{Do}
use Rattle.lfs_history.specs.declared.source.Source.{Source}
use Rattle.lfs_history.specs.declared.source.Source.TheVariants.{File}
use Rattle.lfs_history.specs.Filling.{bytes_given}
use Rattle.lfs_history.specs.Meaning.{step_by}
use Rattle.lfs_history.specs.Taking as change
use Rattle.lfs_host.specs.Files.{Files, ReadsFile}
use Rattle.lfs_texts.specs.declared.script_line.ScriptLine.{ScriptLine}

-- ---- what lines put

-- the contents that a step of a script puts: those of a file of the host
abbrev pub HandsContents : Move Source → Option Files → List ℕ → Type 0
HandsContents (Do (Put path (File name) most) keep) files contents = ReadsFile files name.now most_file contents
HandsContents _ files contents = contents ≡ []

-- this was read for a line
abbrev pub HandsLine : Option Files → ScriptLine → List ℕ → Type 0
HandsLine files line contents = HandsContents line.step files contents

-- the step on a history that a line says, with the contents that were read for it
abbrev pub move_said : ScriptLine → List ℕ → change.Move
move_said line read = step_by (bytes_given read) line.step

-- those of lines, with what was read for each
abbrev pub moves_said : List ScriptLine → List (List ℕ) → List change.Move
moves_said (line ∷ lines) (bytes ∷ read) = move_said line bytes ∷ moves_said lines read
moves_said _ _ = []

-- ---- commands

-- the command that a step carries out, if it is one
abbrev pub command_in : change.Move → Option Asked
command_in (change.Do asked keep) = Some asked
command_in _ = None

-- what there may be, as a list
abbrev pub listed : {X : Type 0} → Option X → List X
listed None = []
listed (Some x) = x ∷ []

-- the commands among steps, in their order
abbrev pub commands_in : List change.Move → List Asked
commands_in moves = flat_map (λ move. listed (command_in move)) moves
