-- Pairs whose blocks hold no part, so that what hangs below is reached by nothing (own).
use Rattle.std.specs.Prelude.{Bool, true, false, List}
use Rattle.std.specs.List.{list_any}
use Rattle.lfs_block.specs.declared.mount_fault.MountFault.{MountFault}
use Rattle.lfs_block.specs.declared.mount_fault.MountFault.TheVariants.{NoValidCommit, UnknownTag, BadTag, IncompleteEntry, BadName}
use Rattle.lfs_survey.specs.declared.area.Area.{Area}
use Rattle.lfs_survey.specs.declared.found.Found.{Found}
use Rattle.lfs_survey.specs.declared.found.Found.TheVariants.{Part, Refused}

-- a fault is of what a pair's blocks hold
abbrev pub is_of_blocks : MountFault → Bool
is_of_blocks NoValidCommit = true
is_of_blocks UnknownTag = true
is_of_blocks BadTag = true
is_of_blocks IncompleteEntry = true
is_of_blocks BadName = true
is_of_blocks _ = false

-- a pair isn't read for such a fault
abbrev pub is_unread : Found → Bool
is_unread (Part p) = false
is_unread (Refused fault) = is_of_blocks fault

-- some pair of areas isn't
abbrev pub has_unread : List Area → Bool
has_unread areas = list_any (λ a. list_any is_unread a.found.items) areas
