-- What queries, and steps on a history, are to an image and its journal (own).
use Rattle.std.specs.Prelude.{List, [], ◌∷◌}
use Rattle.lfs_exchange.specs.declared.step_kind.StepKind.{StepKind}
use Rattle.lfs_exchange.specs.declared.step_kind.StepKind.TheVariants.{Asks, Recounts, Changes}
use Rattle.lfs_request.specs.declared.query.Query.{Query}
use Rattle.lfs_request.specs.declared.query.Query.TheVariants.{Log}

-- what is asked reads no journal but to recount its changes
abbrev pub kind_of_query : {O : Type 0} → Query O → StepKind
kind_of_query Log = Recounts
kind_of_query _ = Asks

-- steps on a history change both files; none at all ask whether there is an image
abbrev pub kind_of_steps : {S : Type 0} → List S → StepKind
kind_of_steps [] = Asks
kind_of_steps (step ∷ steps) = Changes
