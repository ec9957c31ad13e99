-- The folders of calls (own).
use Rattle.std.specs.Prelude.{ℕ, List, [], Option, Some, None, slice_get, slice_index_or, unwrap_or, option_map, option_and_then}
use Rattle.lfs_meta.specs.Entry.{StoredEntry}
use Rattle.lfs_meta.specs.Name.{Name}
use Rattle.lfs_salvage.specs.Word.{word_in}
use Rattle.lfs_salvage.specs.declared.wording.Wording.{Wording}
use Rattle.lfs_survey.specs.AllPlaces.{found_entries}
use Rattle.lfs_survey.specs.declared.call.Call.{Call}
use Rattle.lfs_survey.specs.declared.found.Found.{Found}
use Rattle.lfs_survey.specs.declared.found.Found.TheVariants.{Part, Refused}
use Rattle.lfs_survey.specs.declared.way.Way.{Way}
use Rattle.lfs_survey.specs.declared.way.Way.TheVariants.{Start, Entry, Next}

-- the entry of this number of what is found at the call of that number
abbrev pub found_entry : List Found → ℕ → ℕ → Option StoredEntry
found_entry found from index = option_and_then (λ f. slice_get (found_entries f) index) (slice_get found from)

-- its name; none where there is no such entry
abbrev pub name_at : List Found → ℕ → ℕ → Name
name_at found from index = unwrap_or (option_map (λ e. e.name) (found_entry found from index)) []

-- the first block of the part that is found there; none where none is
abbrev pub found_block : Found → ℕ
found_block (Part p) = p.0.0
found_block (Refused fault) = 0

abbrev pub block_of_found : List Found → ℕ → ℕ
block_of_found found from = unwrap_or (option_map found_block (slice_get found from)) 0

-- how the call of this number is come to; it is begun with where there is no such call
abbrev pub way_at : List Call → ℕ → Way
way_at calls call = unwrap_or (option_map (λ c. c.way) (slice_get calls call)) Start

-- the folder of a directory in another one: that with its word, or if it has none the other one
abbrev pub folder_in : List ℕ → List Found → ℕ → ℕ → Option Wording → List ℕ
folder_in above found from index None = above
folder_in above found from index (Some word) = word_in above (block_of_found found from) index (name_at found from index) word

-- the folder of a call, behind those of the calls before it: the area's own, that of the call whose directory goes on, or that of a directory
-- in the folder of its part
abbrev pub folder_at : List ℕ → List Found → List (List ℕ) → Option Wording → Way → List ℕ
folder_at base found folders word Start = base
folder_at base found folders word (Entry from index) = folder_in (slice_index_or folders from base) found from index word
folder_at base found folders word (Next from) = slice_index_or folders from base

-- that of a pair that isn't read is the area's own
abbrev pub call_folder : List ℕ → List Found → List (List ℕ) → Option Wording → Way → Found → List ℕ
call_folder base found folders word way (Part p) = folder_at base found folders word way
call_folder base found folders word way (Refused fault) = base
