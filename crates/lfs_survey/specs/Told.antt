-- What is told of the places of a survey: the pair there, its file's chain, whether a line is told, and where a fault is (own).
use Rattle.std.specs.Prelude.{◌≡◌, ◌+◌, ◌-◌, ◌^◌, ℕ, Bool, true, false, List, Option, None, Some, MatchBool, min}
use Rattle.std.specs.Option.{option_and_then, option_map_or}
use Rattle.lfs_block.specs.Disk.{Disk}
use Rattle.lfs_block.specs.declared.mount_fault.MountFault.{MountFault}
use Rattle.lfs_block.specs.declared.mount_fault.MountFault.TheVariants.{NoSuperblock, Version, Geometry, Limits, UnfinishedMove, UnknownState, Memory}
use Rattle.lfs_fs.specs.Pair.{root}
use Rattle.lfs_lower.specs.Through.{IsLoweredThrough}
use Rattle.lfs_meta.specs.Body.{Pair, StoredBody, Inline, Chain, Directory_at}
use Rattle.lfs_meta.specs.Entry.{StoredEntry}
use Rattle.lfs_survey.specs.AllPlaces.{call_at, entry_at_place, found_at}
use Rattle.lfs_survey.specs.Survey.{IsSurvey}
use Rattle.lfs_survey.specs.declared.area.Area.{Area}
use Rattle.lfs_survey.specs.declared.call.Call.{Call}
use Rattle.lfs_survey.specs.declared.entry_place.EntryPlace.{EntryPlace}
use Rattle.lfs_survey.specs.declared.fault_line.FaultPlace.{FaultPlace}
use Rattle.lfs_survey.specs.declared.found.Found.TheVariants.{Refused}
use Rattle.lfs_survey.specs.declared.lines.Lines.{Lines}
use Rattle.lfs_survey.specs.declared.place.Place.{Place}
use Rattle.lfs_survey.specs.declared.survey.Survey.{Survey}
use Rattle.lfs_survey.specs.declared.way.Way.{Way}
use Rattle.lfs_survey.specs.declared.way.Way.TheVariants.{Start, Entry, Next}

-- ---- at a place

-- the pair there; the root's if there is none
abbrev pub pair_at : List Area → Place → Pair
pair_at areas p = option_map_or (λ (c : Call). c.pair) (call_at areas p) root

-- the last block of a chain, and how many bytes the file has
abbrev pub body_head : StoredBody → Option (ℕ × ℕ)
body_head (Inline bytes) = None
body_head (Chain head size) = Some (head, size)
body_head (Directory_at first second) = None

-- those of the entry there
abbrev pub head_at : List Area → EntryPlace → Option (ℕ × ℕ)
head_at areas p = option_and_then (λ (e : StoredEntry). body_head e.body) (entry_at_place areas p)

-- a pair is named by an entry, or by the part before it
abbrev pub is_named : Way → Bool
is_named Start = false
is_named (Entry from index) = true
is_named (Next from) = true

-- the pair there is
abbrev pub is_named_at : List Area → Place → Bool
is_named_at areas p = option_map_or (λ (c : Call). is_named c.way) (call_at areas p) false

-- ---- lines

-- how many lines are told at most
abbrev pub most_lines : ℕ
most_lines = 100

-- how many more there are
abbrev pub more_lines : Lines → ℕ
more_lines l = l.more

-- one more is counted, unless it is told
abbrev pub counted : Bool → ℕ → ℕ
counted true more = more
counted false more = min (more + 1) (2 ^ 64 - 1)

-- ---- the place of a fault

-- a fault has a place
abbrev pub has_place : MountFault → Bool
has_place NoSuperblock = false
has_place Version = false
has_place Geometry = false
has_place Limits = false
has_place UnfinishedMove = false
has_place UnknownState = false
has_place Memory = false
has_place _ = true

-- the pair with which an image begins isn't read for a fault
abbrev pub IsFrontRefused : MountFault → List Area → Type 0
IsFrontRefused fault areas = found_at areas (record { area = 0; call = 0 }) ≡ Some (Refused fault)

-- the image in which pairs are read: the same, or as a device reads it one with each block lowered
abbrev pub IsReadIn : Bool → Disk → Disk → Type 0
IsReadIn false d e = e ≡ d
IsReadIn true d e = IsLoweredThrough d e

-- A survey of an image, whose pairs are read so.
pub record IsSurveyBy (by_device : Bool) (d : Disk) (s : Survey) : Type 0 where
  pub read : Disk
  pub is : IsReadIn by_device d read
  pub surveyed : IsSurvey read s

-- It is told of a fault that has a place, and whether that is the pair with which the image begins.
pub record IsPlaceTold (by_device : Bool) (d : Disk) (fault : MountFault) (p : FaultPlace) : Type 0 where
  pub placed : has_place fault ≡ true
  pub survey : Survey
  pub surveyed : IsSurveyBy by_device d survey
  pub front : MatchBool p.is_front (IsFrontRefused fault survey.areas.items) (IsFrontRefused fault survey.areas.items → ⊥)
