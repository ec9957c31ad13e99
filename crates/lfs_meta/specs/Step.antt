-- Why one more tag is refused (own: the names of the faults).
use Rattle.std.specs.Prelude.{◌≡◌, true, length, None, Some}
use Rattle.lfs_block.specs.declared.mount_fault.MountFault.{MountFault}
use Rattle.lfs_block.specs.declared.mount_fault.MountFault.TheVariants.{UnknownTag, BadTag, Memory}
use Rattle.lfs_tag.specs.Tag.{type_of}
use Rattle.lfs_tag.specs.Commit.{Item}
use Rattle.lfs_meta.specs.declared.action.Action.{Action}
use Rattle.lfs_meta.specs.Action.{action_of, is_bad}
use Rattle.lfs_meta.specs.Part.{RawPart}

-- its type isn't known, or it is bad; want of memory has no cause
abbrev pub StepCause : MountFault → RawPart → Item → Type 0
StepCause UnknownTag p t = action_of (type_of t.word) ≡ None
StepCause BadTag p t = (a : Action) × (action_of (type_of t.word) ≡ Some a) × (is_bad a t (length p.entries) ≡ true)
StepCause Memory p t = Unit {0}
StepCause _ p t = ⊥
