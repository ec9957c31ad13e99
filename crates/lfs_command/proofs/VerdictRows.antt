-- What the definitions say of small volumes, computed: verdicts with their numbers, runs and needs.
use Rattle.std.proofs.Common.{◌≡◌, ℕ, false, List, [], ◌∷◌, refl, map}
use Rattle.std.specs.Prelude.{Some, None, replicate, sum_by}
use Rattle.std.specs.List.{range_with_len}
use Rattle.lfs_meta.specs.Attribute.{put_by}
use Rattle.lfs_meta.specs.Name.{Name}
use Rattle.lfs_meta.specs.Body.{Pair}
use Rattle.lfs_meta.specs.Runs.{runs_after, onto}
use Rattle.lfs_fs.specs.Entry.{Inline, Directory_at, Entry}
use Rattle.lfs_fs.specs.Weight.{weight, superblock_weight}
use Rattle.lfs_fs.specs.Directory.{Part, Directory}
use Rattle.lfs_fs.specs.Volume.{Volume}
use Rattle.lfs_command.specs.declared.refusal.Refusal.TheVariants.{Exists, NotEmpty, IntoItself, IsRoot, EntryTooLarge, NoSpace, BadCount}
use Rattle.lfs_command.specs.EntryEdit.{place}
use Rattle.lfs_command.specs.DirectoryEdit.{drop_later, link_parts, touch_last_of, absorb_in}
use Rattle.lfs_command.specs.ThreadEdit.{add_after, take_out}
use Rattle.lfs_command.specs.Command.{Command, Mkdir, Put, Rm, Mv, SetAttr, Grow}
use Rattle.lfs_command.specs.Supplies.{nothing}
use Rattle.lfs_command.specs.Edited.{edited}
use Rattle.lfs_command.specs.Freed.{free_after}
use Rattle.lfs_command.specs.Cut.{room, runs}
use Rattle.lfs_command.specs.Need.{dirty_parts, need}
use Rattle.lfs_command.specs.Verdict.{verdict}

-- ---- small volumes

abbrev volume : ℕ → ℕ → List Directory → Volume
volume size count ds = record {
  size = size;
  count = count;
  limits = record { name = 255; file = 2147483647; attribute = 1022 };
  attributes = [];
  directories = ds;
}

abbrev part : Pair → List Entry → Part
part pair es = record { pair = pair; entries = es; delta = 0; dirty = false }

abbrev directory : Pair → List Entry → Directory
directory pair es = record { first = part pair es; more = [] }

abbrev file : Name → Entry
file n = record { name = n; body = Inline []; attributes = [] }

abbrev folder : Name → Pair → Entry
folder n pair = record { name = n; body = Directory_at pair; attributes = [] }

-- names of some letters a, b or c
abbrev letters_a : ℕ → Name
letters_a n = replicate n 97

abbrev letters_b : ℕ → Name
letters_b n = replicate n 98

abbrev letters_c : ℕ → Name
letters_c n = replicate n 99

-- a root that is full to the last byte
abbrev full_root : ℕ → Volume
full_root count = volume 256 count (directory (0, 1) (file (letters_a 80) ∷ file (letters_c 80) ∷ []) ∷ [])

abbrev weights_of_runs : Volume → Command → List (List ℕ)
weights_of_runs v c = map (λ p. map (sum_by weight) (runs (edited v c nothing) p)) (dirty_parts (edited v c nothing))

-- ---- a full root

two_files_fill_the_root : (superblock_weight [] ≡ 40) × (sum_by weight (file (letters_a 80) ∷ file (letters_c 80) ∷ []) ≡ 176)
    × (room (full_root 4) ≡ 216)
two_files_fill_the_root = (refl, refl, refl)

one_more_file_needs_four_blocks : verdict (full_root 4) (Put (letters_b 130 ∷ []) [] 1022) ≡ Some (NoSpace 4 2)
unfolding place link_parts runs_after onto
one_more_file_needs_four_blocks = refl

four_free_blocks_are_enough : verdict (full_root 6) (Put (letters_b 130 ∷ []) [] 1022) ≡ None
unfolding place link_parts runs_after onto
four_free_blocks_are_enough = refl

-- behind the superblock's 40 the first run has 88, the directory's entry weighs 146
one_more_directory_makes_three_runs : weights_of_runs (full_root 8) (Mkdir (letters_b 130 ∷ [])) ≡ (88 ∷ 146 ∷ 88 ∷ []) ∷ (0 ∷ []) ∷ []
unfolding place link_parts touch_last_of add_after runs_after onto
one_more_directory_makes_three_runs = refl

one_more_directory_needs_six_blocks : verdict (full_root 7) (Mkdir (letters_b 130 ∷ [])) ≡ Some (NoSpace 6 5)
unfolding place link_parts touch_last_of add_after runs_after onto
one_more_directory_needs_six_blocks = refl

six_free_blocks_are_enough : verdict (full_root 8) (Mkdir (letters_b 130 ∷ [])) ≡ None
unfolding place link_parts touch_last_of add_after runs_after onto
six_free_blocks_are_enough = refl

-- ---- the root's own attributes

abbrev fresh_root : Volume
fresh_root = volume 256 4 (directory (0, 1) [] ∷ [])

attribute_fills_the_root : verdict fresh_root (SetAttr [] 1 (replicate 172 0)) ≡ None
unfolding put_by runs_after onto
attribute_fills_the_root = refl

attribute_is_one_byte_too_long : verdict fresh_root (SetAttr [] 1 (replicate 173 0)) ≡ Some EntryTooLarge
unfolding put_by runs_after onto
attribute_is_one_byte_too_long = refl

-- ---- what is moved and removed

-- /a is a directory with the file /a/b
abbrev nested : Volume
nested = volume 256 8 (directory (0, 1) (folder (letters_a 1) (2, 3) ∷ []) ∷ directory (2, 3) (file (letters_b 1) ∷ []) ∷ [])

directory_into_itself : verdict nested (Mv (letters_a 1 ∷ []) (letters_a 1 ∷ letters_b 1 ∷ [])) ≡ Some IntoItself
unfolding place link_parts runs_after onto
directory_into_itself = refl

-- /a is a file
abbrev flat : Volume
flat = volume 256 8 (directory (0, 1) (file (letters_a 1) ∷ []) ∷ [])

file_into_itself : verdict flat (Mv (letters_a 1 ∷ []) (letters_a 1 ∷ letters_b 1 ∷ [])) ≡ Some IntoItself
unfolding place link_parts runs_after onto
file_into_itself = refl

moved_to_itself : verdict flat (Mv (letters_a 1 ∷ []) (letters_a 1 ∷ [])) ≡ Some Exists
unfolding place link_parts runs_after onto
moved_to_itself = refl

directory_has_a_file : verdict nested (Rm (letters_a 1 ∷ [])) ≡ Some NotEmpty
unfolding drop_later take_out absorb_in runs_after onto
directory_has_a_file = refl

root_stays : verdict nested (Rm []) ≡ Some IsRoot
unfolding drop_later take_out absorb_in runs_after onto
root_stays = refl

-- ---- a later part that is emptied

-- a root in two parts, the later of which has only the file c, and a delta
abbrev last_alone : Volume
last_alone = volume 512 6 (record {
  first = part (0, 1) (file (letters_a 1) ∷ file (letters_b 1) ∷ []);
  more = record { pair = (2, 3); entries = file (letters_c 1) ∷ []; delta = 5; dirty = false } ∷ [];
} ∷ [])

-- the pairs of the parts that are set, with their deltas
abbrev set_parts : Volume → List (Pair × ℕ)
set_parts v = map (λ p. (p.pair, p.delta)) (dirty_parts v)

emptied_part_leaves : set_parts (edited last_alone (Rm (letters_c 1 ∷ [])) nothing) ≡ ((0, 1), 5) ∷ []
unfolding drop_later
emptied_part_leaves = refl

emptied_part_is_free : free_after last_alone (Rm (letters_c 1 ∷ [])) nothing (λ p. []) ≡ 2 ∷ 3 ∷ 4 ∷ 5 ∷ []
unfolding drop_later
emptied_part_is_free = refl

emptied_part_is_free_after_a_move : free_after last_alone (Mv (letters_c 1 ∷ []) (letters_c 2 ∷ [])) nothing (λ p. []) ≡ 2 ∷ 3 ∷ 4 ∷ 5 ∷ []
unfolding drop_later place link_parts
emptied_part_is_free_after_a_move = refl

-- ---- a full number of entries

-- the superblock and 999 files
abbrev crowded_root : Volume
crowded_root = volume 65536 8 (directory (0, 1) (map (λ n. file (n ∷ [])) (range_with_len 1 999)) ∷ [])

one_entry_more_needs_two_blocks : need crowded_root (Put ((2000 ∷ []) ∷ []) [] 1022) ≡ 2
unfolding place link_parts runs_after onto
one_entry_more_needs_two_blocks = refl

-- ---- parts of other tools' images that are too heavy

-- a root of 340 bytes where there is room for 216
abbrev heavy_root : Volume
heavy_root = volume 256 2 (directory (0, 1) (file (letters_a 92) ∷ file (letters_b 92) ∷ file (letters_c 92) ∷ []) ∷ [])

heavy_part_must_be_cut_first : verdict heavy_root (Rm (letters_c 92 ∷ [])) ≡ Some (NoSpace 2 0)
unfolding drop_later take_out absorb_in runs_after onto
heavy_part_must_be_cut_first = refl

-- a root with an entry that has no room by itself
abbrev oversized_root : Volume
oversized_root = volume 256 2 (directory (0, 1) (file (letters_a 250) ∷ file (letters_b 1) ∷ []) ∷ [])

sibling_is_too_large : verdict oversized_root (SetAttr (letters_b 1 ∷ []) 1 []) ≡ Some EntryTooLarge
unfolding runs_after onto
sibling_is_too_large = refl

oversized_entry_may_go : verdict oversized_root (Rm (letters_a 250 ∷ [])) ≡ None
unfolding drop_later take_out absorb_in runs_after onto
oversized_entry_may_go = refl

-- ---- two parts cut by one command

-- a root of two parts: the first is full, the second too heavy
abbrev two_parts : Volume
two_parts = volume 256 8 (record {
  first = part (0, 1) (file (letters_a 80) ∷ file (letters_b 80) ∷ []);
  more = part (2, 3) (file (letters_c 92) ∷ file (letters_c 91) ∷ file (letters_c 90) ∷ []) ∷ [];
} ∷ [])

both_parts_are_cut : need two_parts (Mkdir (letters_a 81 ∷ [])) ≡ 6
unfolding place link_parts touch_last_of add_after runs_after onto
both_parts_are_cut = refl

-- ---- an image that is lengthened

it_has_as_many : verdict fresh_root (Grow 4) ≡ Some BadCount
it_has_as_many = refl

no_image_is_so_long : verdict (volume 65536 1024 (directory (0, 1) [] ∷ [])) (Grow 1025) ≡ Some BadCount
no_image_is_so_long = refl

it_is_lengthened : verdict fresh_root (Grow 5) ≡ None
unfolding runs_after onto
it_is_lengthened = refl

added_blocks_are_free : verdict heavy_root (Grow 4) ≡ None
unfolding runs_after onto
added_blocks_are_free = refl

too_few_are_added : verdict heavy_root (Grow 3) ≡ Some (NoSpace 2 1)
unfolding runs_after onto
too_few_are_added = refl
