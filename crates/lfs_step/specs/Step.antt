-- What a step asks for that its caller owes, and on which state it may be done (own).
use Rattle.std.specs.Prelude.{Bool, true, false}
use Rattle.std.specs.List.{AllByRecursion, list_all}
use Rattle.lfs_fs.specs.Superblock.{IsLimits}
use Rattle.lfs_history.specs.Meaning.{step_of}
use Rattle.lfs_history.specs.Taking.{Move, Do, Together, KeepsInRange, MayKeep}
use Rattle.lfs_step.specs.declared.step.Step.{Step}
use Rattle.lfs_step.specs.declared.step.Step.TheVariants.{Format, Pack, Change, Tree}
use Rattle.lfs_step.specs.TreeChanging.{IsChangeInRange}

-- what a step asks for is in range: the limits of an image that it makes are such that an image may have, and what each of its steps on
-- a history keeps may be kept; of a change of a tree too, and its rows say what some folder has
abbrev pub IsStepInRange : Step → Type 0
IsStepInRange (Format count limits) = IsLimits limits
IsStepInRange (Pack count limits rows) = IsLimits limits
IsStepInRange (Change steps) = AllByRecursion (λ step. KeepsInRange (step_of step)) steps.now
IsStepInRange (Tree changing keep) = MayKeep keep × IsChangeInRange changing
IsStepInRange _ = Unit {0}

-- a move along a history, or to its image alone: it carries no command out
abbrev pub carries_nothing_out : Move → Bool
carries_nothing_out (Do asked keep) = false
carries_nothing_out (Together asked keep) = false
carries_nothing_out _ = true

-- the state before commits of a later disk version may be taken for the image of a step: the step carries no command out, which would drop
-- what a device wrote
abbrev pub may_take_older : Step → Bool
may_take_older (Change steps) = list_all (λ step. carries_nothing_out (step_of step)) steps.now
may_take_older (Tree changing keep) = false
may_take_older _ = true
