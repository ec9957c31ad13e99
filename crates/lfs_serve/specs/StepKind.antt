-- What a step is to an image and its journal (own).
use Rattle.lfs_exchange.specs.StepKind.{kind_of_query, kind_of_steps}
use Rattle.lfs_exchange.specs.declared.step_kind.StepKind.{StepKind}
use Rattle.lfs_exchange.specs.declared.step_kind.StepKind.TheVariants.{Makes, Changes, Forgets, Adopts}
use Rattle.lfs_step.specs.declared.step.Step.{Step}
use Rattle.lfs_step.specs.declared.step.Step.TheVariants.{Format, Pack, Ask, Forget, Adopt, Change, Tree}

-- the kind of a step
abbrev pub kind_of : Step → StepKind
kind_of (Format count limits) = Makes
kind_of (Pack count limits rows) = Makes
kind_of (Ask query form) = kind_of_query query
kind_of Forget = Forgets
kind_of (Adopt form replaces) = Adopts
kind_of (Change steps) = kind_of_steps steps.now
kind_of (Tree change keep) = Changes
