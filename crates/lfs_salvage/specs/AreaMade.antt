-- What is saved of an area (own).
use Rattle.std.specs.Prelude.{ℕ, ◌+◌, Bool, true, false, List, [], ◌∷◌, ◌++◌, Option, Some, None, option_map}
use Rattle.lfs_block.specs.Disk.{Disk}
use Rattle.lfs_host.specs.NewFolder.{Made, FolderMade, FileMade}
use Rattle.lfs_meta.specs.Entry.{StoredEntry}
use Rattle.lfs_salvage.specs.CallWords.{CallWords, first_call, first_entry, later_calls, later_entries}
use Rattle.lfs_salvage.specs.Fate.{fate, saved_bytes, uses_behind}
use Rattle.lfs_salvage.specs.Folder.{call_folder, way_at}
use Rattle.lfs_salvage.specs.Unsaved.{nameless, unsaved}
use Rattle.lfs_salvage.specs.Word.{word_in}
use Rattle.lfs_salvage.specs.declared.block_use.BlockUse.{BlockUse}
use Rattle.lfs_salvage.specs.declared.parent.Parent.{Parent}
use Rattle.lfs_salvage.specs.declared.unsaved.Unsaved.{Unsaved}
use Rattle.lfs_salvage.specs.declared.wording.Wording.{Wording}
use Rattle.lfs_survey.specs.declared.area.Area.{Area}
use Rattle.lfs_survey.specs.declared.found.Found.{Found}
use Rattle.lfs_survey.specs.declared.found.Found.TheVariants.{Part, Refused}
use Rattle.lfs_survey.specs.declared.way.Way.{Way}
use Rattle.lfs_survey.specs.declared.way.Way.TheVariants.{Start, Entry, Next}

-- ---- of entries

abbrev pub call_parent : ℕ → ℕ → ℕ → Parent
call_parent area call entry = record { area = area; call = call; entry = entry }

-- a file of a name with these bytes, if there are some and there is a name
abbrev pub file_made : Option (List ℕ) → Option (List ℕ) → List Made
file_made name None = []
file_made None (Some bytes) = []
file_made (Some name) (Some bytes) = FileMade name bytes ∷ []

-- the file of an entry of this number of the part that begins at this block, in a folder, under this word for its name or none
abbrev pub entry_made : Disk → List ℕ → ℕ → ℕ → Option Wording → List BlockUse → StoredEntry → List Made
entry_made d folder block index word uses e =
    file_made (option_map (word_in folder block index e.name) word) (saved_bytes d e.body (fate d uses e))

-- a file is lost for its name: there are bytes to be saved, and no word
abbrev pub is_nameless : Option Wording → Option (List ℕ) → Bool
is_nameless word None = false
is_nameless None (Some bytes) = true
is_nameless (Some word) (Some bytes) = false

-- what isn't saved of an entry that stands here
abbrev pub entry_unsaved : Disk → Parent → Option Wording → List BlockUse → StoredEntry → List Unsaved
entry_unsaved d parent word uses e =
    unsaved parent (fate d uses e) ++ nameless parent (is_nameless word (saved_bytes d e.body (fate d uses e)))

-- what blocks are used for behind it
abbrev pub uses_by_entry : Disk → List BlockUse → Parent → StoredEntry → List BlockUse
uses_by_entry d uses parent e = uses_behind uses parent (fate d uses e)

-- those of entries, of which the first has this number: each behind the ones before it
abbrev pub entries_made : Disk → List ℕ → List (Option Wording) → ℕ → List BlockUse → ℕ → ℕ → ℕ → List StoredEntry → List Made
entries_made d folder words block uses area call index [] = []
entries_made d folder words block uses area call index (e ∷ es) =
    entry_made d folder block index (first_entry words) uses e
    ++ entries_made d folder (later_entries words) block (uses_by_entry d uses (call_parent area call index) e) area call (index + 1) es

abbrev pub entries_uses : Disk → List BlockUse → ℕ → ℕ → ℕ → List StoredEntry → List BlockUse
entries_uses d uses area call index [] = uses
entries_uses d uses area call index (e ∷ es) =
    entries_uses d (uses_by_entry d uses (call_parent area call index) e) area call (index + 1) es

abbrev pub entries_unsaved : Disk → List (Option Wording) → List BlockUse → ℕ → ℕ → ℕ → List StoredEntry → List Unsaved
entries_unsaved d words uses area call index [] = []
entries_unsaved d words uses area call index (e ∷ es) =
    entry_unsaved d (call_parent area call index) (first_entry words) uses e
    ++ entries_unsaved d (later_entries words) (uses_by_entry d uses (call_parent area call index) e) area call (index + 1) es

-- ---- of what is found

-- a folder is made where a directory begins, if there is a word for its name
abbrev pub folder_made : Way → Option Wording → List ℕ → List Made
folder_made Start word folder = FolderMade folder ∷ []
folder_made (Entry from index) None folder = []
folder_made (Entry from index) (Some word) folder = FolderMade folder ∷ []
folder_made (Next from) word folder = []

-- a directory begins, and there is none
abbrev pub is_folder_nameless : Way → Option Wording → Bool
is_folder_nameless Start word = false
is_folder_nameless (Entry from index) None = true
is_folder_nameless (Entry from index) (Some word) = false
is_folder_nameless (Next from) word = false

-- where the entry of the directory stands that begins
abbrev pub way_parent : ℕ → Way → Parent
way_parent area Start = call_parent area 0 0
way_parent area (Entry from index) = call_parent area from index
way_parent area (Next from) = call_parent area from 0

abbrev pub folder_unsaved : ℕ → Way → Option Wording → List Unsaved
folder_unsaved area way word = nameless (way_parent area way) (is_folder_nameless way word)

-- of what is found at a call, in its folder: nothing where no part is
abbrev pub found_made : Disk → Way → List ℕ → CallWords → List BlockUse → ℕ → ℕ → Found → List Made
found_made d way folder words uses area call (Part p) =
    folder_made way words.folder folder ++ entries_made d folder words.entries p.0.0 uses area call 0 p.1.entries
found_made d way folder words uses area call (Refused fault) = []

abbrev pub found_uses : Disk → List BlockUse → ℕ → ℕ → Found → List BlockUse
found_uses d uses area call (Part p) = entries_uses d uses area call 0 p.1.entries
found_uses d uses area call (Refused fault) = uses

abbrev pub found_unsaved : Disk → Way → CallWords → List BlockUse → ℕ → ℕ → Found → List Unsaved
found_unsaved d way words uses area call (Part p) =
    folder_unsaved area way words.folder ++ entries_unsaved d words.entries uses area call 0 p.1.entries
found_unsaved d way words uses area call (Refused fault) = []

-- ---- of what is found at calls, of which the first has this number, each behind the ones before it, whose folders these are

-- the folder of a call of an area
abbrev pub folder_of : List ℕ → Area → List (List ℕ) → Option Wording → ℕ → Found → List ℕ
folder_of base a folders word call f = call_folder base a.found.items folders word (way_at a.calls.items call) f

abbrev pub call_made : Disk → List ℕ → Area → ℕ → ℕ → List (List ℕ) → CallWords → List BlockUse → Found → List Made
call_made d base a area call folders words uses f =
    found_made d (way_at a.calls.items call) (folder_of base a folders words.folder call f) words uses area call f

abbrev pub calls_made : Disk → List ℕ → Area → ℕ → ℕ → List (List ℕ) → List CallWords → List BlockUse → List Found → List Made
calls_made d base a area call folders words uses [] = []
calls_made d base a area call folders words uses (f ∷ fs) =
    call_made d base a area call folders (first_call words) uses f
    ++ calls_made d base a area (call + 1) (folders ++ folder_of base a folders (first_call words).folder call f ∷ [])
    (later_calls words) (found_uses d uses area call f) fs

abbrev pub calls_uses : Disk → List BlockUse → ℕ → ℕ → List Found → List BlockUse
calls_uses d uses area call [] = uses
calls_uses d uses area call (f ∷ fs) = calls_uses d (found_uses d uses area call f) area (call + 1) fs

abbrev pub call_unsaved : Disk → Area → ℕ → ℕ → CallWords → List BlockUse → Found → List Unsaved
call_unsaved d a area call words uses f = found_unsaved d (way_at a.calls.items call) words uses area call f

abbrev pub calls_unsaved : Disk → Area → ℕ → ℕ → List CallWords → List BlockUse → List Found → List Unsaved
calls_unsaved d a area call words uses [] = []
calls_unsaved d a area call words uses (f ∷ fs) =
    call_unsaved d a area call (first_call words) uses f
    ++ calls_unsaved d a area (call + 1) (later_calls words) (found_uses d uses area call f) fs

-- ---- of an area of this number, in a folder, where blocks are used so

-- what is made, in order
abbrev pub area_made : Disk → List ℕ → ℕ → List CallWords → List BlockUse → Area → List Made
area_made d base number words uses a = calls_made d base a number 0 [] words uses a.found.items

-- what blocks are used for then
abbrev pub area_uses : Disk → ℕ → List BlockUse → Area → List BlockUse
area_uses d number uses a = calls_uses d uses number 0 a.found.items

-- the entries that aren't saved
abbrev pub area_unsaved : Disk → ℕ → List CallWords → List BlockUse → Area → List Unsaved
area_unsaved d number words uses a = calls_unsaved d a number 0 words uses a.found.items
