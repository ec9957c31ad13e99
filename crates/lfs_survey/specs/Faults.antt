-- Which fault stands at a place of areas (own).
use Rattle.std.specs.Prelude.{◌≡◌, ◌≢◌, ◌⊎◌, ◌≤◌, ◌-◌, ◌==◌, ℕ, false, List, [], Option, None, Some, Contains, length, slice_get, if◌then◌else◌}
use Rattle.std.specs.Option.{option_and_then}
use Rattle.lfs_block.specs.Disk.{Disk}
use Rattle.lfs_file.specs.SkipList.{chain_of}
use Rattle.lfs_fs.specs.FrontCause.{IsOversized}
use Rattle.lfs_fs.specs.NameOrder.{precedes}
use Rattle.lfs_fs.specs.Superblock.{IsSuperblock, header_of}
use Rattle.lfs_fs.specs.declared.limits.Limits.{Limits}
use Rattle.lfs_meta.specs.Body.{Pair, StoredBody, Inline, Chain, Directory_at}
use Rattle.lfs_meta.specs.Entry.{StoredEntry}
use Rattle.lfs_meta.specs.declared.kind.Kind.TheVariants.{Super}
use Rattle.lfs_survey.specs.AllPlaces.{entry_at_place, found_at, found_entries}
use Rattle.lfs_survey.specs.Survey.{found_tail}
use Rattle.lfs_survey.specs.declared.area.Area.{Area}
use Rattle.lfs_survey.specs.declared.call.Call.{Call}
use Rattle.lfs_survey.specs.declared.entry_place.EntryPlace.{EntryPlace}
use Rattle.lfs_survey.specs.declared.found.Found.{Found}
use Rattle.lfs_survey.specs.declared.place.Place.{Place}
use Rattle.lfs_survey.specs.declared.way.Way.{Way}
use Rattle.lfs_survey.specs.declared.way.Way.TheVariants.{Start, Entry, Next}

-- the entry there is of these
abbrev pub EntryIs : (StoredEntry → Type 0) → List Area → EntryPlace → Type 0
EntryIs these areas p = (e : StoredEntry) × (entry_at_place areas p ≡ Some e) × these e

-- a file's blocks are no chain
abbrev pub LacksChain : Disk → StoredBody → Type 0
LacksChain d (Inline bytes) = ⊥
LacksChain d (Chain head size) = chain_of d head size ≡ None
LacksChain d (Directory_at first second) = ⊥

-- of a head the table has a size of which the disk has a chain
abbrev pub KnowsChains : Disk → List ℕ → Type 0
KnowsChains d known = (head size : ℕ) → slice_get known head ≡ Some size → (found : List ℕ) × (chain_of d head size ≡ Some found)

-- the entry there is such a file's
abbrev pub EntryHasNoChain : Disk → List Area → EntryPlace → Type 0
EntryHasNoChain d areas p = EntryIs (λ e. LacksChain d e.body) areas p

-- an entry stands behind one before which its name comes, neither of which is a superblock
abbrev pub AreMisordered : StoredEntry → StoredEntry → Type 0
AreMisordered e f = (e.kind ≢ Super) × (f.kind ≢ Super) × (precedes e.name f.name ≡ false)

-- the last entry of what is found
abbrev pub last_entry : Found → Option StoredEntry
last_entry f = slice_get (found_entries f) (length (found_entries f) - 1)

-- the last entry of the part behind which a directory goes on by this way
abbrev pub entry_behind : List Found → Way → Option StoredEntry
entry_behind found Start = None
entry_behind found (Entry from index) = None
entry_behind found (Next from) = option_and_then last_entry (slice_get found from)

-- the entry before the first one of the pair there, where its directory goes on there
abbrev pub entry_before_part : List Area → Place → Option StoredEntry
entry_before_part areas p =
    option_and_then (λ (a : Area). option_and_then (λ (c : Call). entry_behind a.found.items c.way) (slice_get a.calls.items p.call))
    (slice_get areas p.area)

-- the entry before the one there in its directory
abbrev pub entry_before : List Area → EntryPlace → Option StoredEntry
entry_before areas p =
    if p.entry == 0 then entry_before_part areas p.at else entry_at_place areas (record { at = p.at; entry = p.entry - 1 })

-- the entry there stands behind one before which it comes
abbrev pub IsMisplaced : List Area → EntryPlace → Type 0
IsMisplaced areas p = (e f : StoredEntry) × (entry_before areas p ≡ Some e) × (entry_at_place areas p ≡ Some f) × AreMisordered e f

-- behind what is found the thread goes on past an image of so many blocks
abbrev pub TailIsPast : ℕ → Found → Type 0
TailIsPast count f = (t : Pair) × Contains (found_tail f) t × ((count ≤ t.0) ⊎ (count ≤ t.1))

-- behind the part there it does
abbrev pub GoesOnPast : ℕ → List Area → Place → Type 0
GoesOnPast count areas p = (f : Found) × (found_at areas p ≡ Some f) × TailIsPast count f

-- the first entry of the root
abbrev pub first_entry : EntryPlace
first_entry = record { at = record { area = 0; call = 0 }; entry = 0 }

-- the first entry is a superblock that states these limits
abbrev pub StatesLimits : List Area → Limits → Type 0
StatesLimits areas limits = EntryIs (λ e. (bytes : List ℕ) × IsSuperblock e bytes × (limits ≡ (header_of bytes []).limits)) areas first_entry

-- a superblock stands there, which isn't the first one
abbrev pub IsElsewhere : List Area → EntryPlace → Type 0
IsElsewhere areas p = EntryIs (λ e. e.kind ≡ Super) areas p × (p ≢ first_entry)

-- the entry there is over these limits
abbrev pub IsOver : Limits → List Area → EntryPlace → Type 0
IsOver limits areas p = EntryIs (IsOversized limits) areas p
