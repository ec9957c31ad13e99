-- A host's words for names (own).
use Rattle.std.specs.Fmt.{decimal}
use Rattle.std.specs.List.{list_any}
use Rattle.std.specs.Prelude.{ℕ, ◌&&◌, ◌||◌, not, nat_lt, Bool, List, ◌∷◌, ◌++◌, if◌then◌else◌, codes, flat_map, length}
use Rattle.std.specs.Str.{is_utf8}
use Rattle.lfs_extract.specs.HostNames.{is_host_name}
use Rattle.lfs_extract.specs.PathBelow.{name_in}
use Rattle.lfs_listing.specs.Listing.{shown_byte}
use Rattle.lfs_meta.specs.Name.{Name, is_name}
use Rattle.lfs_salvage.specs.declared.wording.Wording.{Wording}
use Rattle.lfs_salvage.specs.declared.wording.Wording.TheVariants.{Own, Numbered, Alone}
use Rattle.lfs_survey.specs.AllPlaces.{found_entries}
use Rattle.lfs_survey.specs.declared.area.Area.{Area}

-- whether a host can have a name: an image may hold it, and it is UTF-8 with no byte of zero
abbrev pub is_own_word : Name → Bool
is_own_word n = is_host_name n && is_utf8 n

-- the host_word for a name that a host can't have: its bytes as a listing shows them; and for what is no name, which no part has
abbrev pub other_word : Name → List ℕ
other_word n = if is_name n then flat_map shown_byte n else codes "~"

-- a host's host_word for a name: the name itself, where a host can have it, or another one
abbrev pub host_word : Name → List ℕ
host_word n = if is_own_word n then n else other_word n

-- whether a host may not have a name as it is: it can't, or the name is longer than most take
abbrev pub is_other_name : Name → Bool
is_other_name n = not (is_own_word n) || nat_lt 255 (length n)

-- one of the names of what is found is so
abbrev pub has_other_names : List Area → Bool
has_other_names areas = list_any (λ a. list_any (λ f. list_any (λ e. is_other_name e.name) (found_entries f)) a.found.items) areas

-- a host_word with a block's number behind it, and an entry's
abbrev pub numbers : ℕ → ℕ → List ℕ
numbers block index = (126 ∷ decimal block) ++ (46 ∷ decimal index)

abbrev pub numbered_word : List ℕ → ℕ → ℕ → List ℕ
numbered_word w block index = w ++ numbers block index

-- a word for the name of an entry of this number of the part that begins at this block: the host's word for it, that with both numbers behind
-- it, or these alone
abbrev pub entry_word : Wording → ℕ → ℕ → Name → List ℕ
entry_word Own block index n = host_word n
entry_word Numbered block index n = numbered_word (host_word n) block index
entry_word Alone block index n = numbers block index

-- a host's name of what has it in a folder
abbrev pub word_in : List ℕ → ℕ → ℕ → Name → Wording → List ℕ
word_in folder block index n word = name_in folder (entry_word word block index n)
