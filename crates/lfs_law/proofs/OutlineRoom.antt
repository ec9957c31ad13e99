-- An outline takes the room that its volume does.
use Rattle.std.proofs.Common.{◌≡◌, ℕ, ◌-◌, ◌*◌, nat_lt, Bool, true, false, List, [], ◌∷◌, length, refl, ap, ◌∙◌, subst, arith, map}
use Rattle.std.specs.Prelude.{◌&&◌, ◌||◌, if◌then◌else◌, sum_by, All}
use Rattle.std.specs.List.{filter, list_any}
use Rattle.std.proofs.lemmas.List.{length-map, length-replicate}
use Rattle.std.proofs.lemmas.List.Elements.{All-head, All-tail, All-cons, All-nil}
use Rattle.std.proofs.lemmas.List.Sums.{sum_by-cons}
use Rattle.lfs_meta.specs.Body.{Pair}
use Rattle.lfs_meta.specs.Runs.{later_runs}
use Rattle.lfs_fs.specs.Entry.{Body, Inline, Chain, Directory_at, Entry}
use Rattle.lfs_fs.specs.Weight.{weight, superblock_weight}
use Rattle.lfs_fs.specs.Directory.{Part, Directory, thread}
use Rattle.lfs_fs.specs.Volume.{Volume}
use Rattle.lfs_fs.specs.Uses.{times}
use Rattle.lfs_fs.specs.Outlined.{blank, outlined_body, outlined_entry, outlined_part, outlined_directory, outlined}
use Rattle.lfs_fs.proofs.OutlinedLemmas.{outlined_uses, outlined_free}
use Rattle.lfs_command.specs.Cut.{room, is_first, runs, new_pairs, HasEnough}
use Rattle.lfs_law.specs.CutOutline.{for_parts}
use Rattle.lfs_command.specs.Need.{dirty_parts, part_blocks}
use Rattle.lfs_command.specs.Verdict.{is_too_large}
use Rattle.lfs_law.specs.JudgedAlike.{OutlinesTakeSameRoom, PairsAreChosenAlike}
use Rattle.lfs_law.proofs.OutlineEntries.{cons_same, outlined_entries, weight_same}
use Rattle.lfs_law.proofs.OutlineDirectories.{outlined_parts, thread_outlined}
use Rattle.lfs_law.proofs.OutlineCuts.{runs_outlined, later_outlined}

-- ---- mapped lists

pub sum_over : {X Y : Type 0} (f : X → ℕ) (g : Y → ℕ) (h : X → Y) → ((x : X) → g (h x) ≡ f x) → (xs : List X)
    → sum_by g (map h xs) ≡ sum_by f xs
sum_over f g h same [] = refl
sum_over f g h same (x ∷ xs) = omega (arith, sum_by-cons g (h x) (map h xs), sum_by-cons f x xs, same x, sum_over f g h same xs)

pub any_over : {X Y : Type 0} (s : X → Bool) (t : Y → Bool) (h : X → Y) → ((x : X) → t (h x) ≡ s x) → (xs : List X)
    → list_any t (map h xs) ≡ list_any s xs
any_over s t h same [] = refl
any_over s t h same (x ∷ xs) = ap (λ (a : Bool). a || list_any t (map h xs)) (same x) ∙ ap (λ (a : Bool). s x || a) (any_over s t h same xs)

pub dirty_over : (ps : List Part) → filter (λ p. p.dirty) (outlined_parts ps) ≡ outlined_parts (filter (λ p. p.dirty) ps)
dirty_over [] = refl
dirty_over (p ∷ ps) = by p.dirty (dirty_over ps)
  where
    by : (t : Bool) → filter (λ p. p.dirty) (outlined_parts ps) ≡ outlined_parts (filter (λ p. p.dirty) ps)
        → (if t then outlined_part p ∷ filter (λ p. p.dirty) (outlined_parts ps) else filter (λ p. p.dirty) (outlined_parts ps))
        ≡ outlined_parts
        (if t then p ∷ filter (λ p. p.dirty) ps else filter (λ p. p.dirty) ps)
    by true rest = ap (λ (xs : List Part). outlined_part p ∷ xs) rest
    by false rest = rest

pub dirty_outlined : (v : Volume) → dirty_parts (outlined v) ≡ outlined_parts (dirty_parts v)
dirty_outlined v = ap (filter (λ (p : Part). p.dirty)) (thread_outlined v.directories) ∙ dirty_over (thread v.directories)

-- ---- room

large_outlined : (v : Volume) (p : Part) → is_too_large (outlined v) (outlined_part p) ≡ is_too_large v p
large_outlined v p =
    ap (λ (t : Bool). (is_first p && nat_lt (room v) (superblock_weight v.attributes)) || t)
    (any_over (λ e. nat_lt (room v) (weight e)) (λ e. nat_lt (room v) (weight e)) outlined_entry
    (λ e. ap (nat_lt (room v)) (weight_same e)) p.entries)

blocks_outlined : (v : Volume) (p : Part) → part_blocks (outlined v) (outlined_part p) ≡ part_blocks v p
blocks_outlined v p = ap (λ (n : ℕ). 2 * (n - 1)) (ap length (runs_outlined v p) ∙ length-map (runs v p) outlined_entries)

pub outlines_take_same_room : OutlinesTakeSameRoom
outlines_take_same_room v = record {
  used = λ b. outlined_uses b v;
  free = outlined_free v;
  large = ap (list_any (is_too_large (outlined v))) (dirty_outlined v)
      ∙ any_over (is_too_large v) (is_too_large (outlined v)) outlined_part (large_outlined v) (dirty_parts v);
  blocks = ap (sum_by (part_blocks (outlined v))) (dirty_outlined v) ∙ sum_over (part_blocks v) (part_blocks (outlined v)) outlined_part
      (blocks_outlined v) (dirty_parts v);
}

-- ---- pairs for new parts

enough_by : (chosen : Part → List Pair) (v : Volume) (p : Part) → HasEnough chosen (outlined v) (outlined_part p)
    → HasEnough (for_parts chosen) v p
enough_by chosen v p enough set = enough set ∙ ap length (ap later_runs (runs_outlined v p) ∙ later_outlined (runs v p))
    ∙ length-map (later_runs (runs v p)) outlined_entries

enough_all : (chosen : Part → List Pair) (v : Volume) (ps : List Part) → All (HasEnough chosen (outlined v)) (outlined_parts ps)
    → All (HasEnough (for_parts chosen) v) ps
enough_all chosen v [] enough = All-nil (HasEnough (for_parts chosen) v)
enough_all chosen v (p ∷ ps) enough =
    All-cons (HasEnough (for_parts chosen) v) p ps (enough_by chosen v p
    (All-head (HasEnough chosen (outlined v)) (outlined_part p) (outlined_parts ps) enough))
    (enough_all chosen v ps (All-tail (HasEnough chosen (outlined v)) (outlined_part p) (outlined_parts ps) enough))

-- how often the new pairs of a part use a block
abbrev pairs_use : (Part → List Pair) → ℕ → Part → ℕ
pairs_use chosen b p = sum_by (λ (q : Pair). times b (q.0 ∷ q.1 ∷ [])) (new_pairs chosen p)

pub pairs_are_chosen_alike : PairsAreChosenAlike
pairs_are_chosen_alike chosen v = record {
  enough = λ enough. enough_all chosen v (thread v.directories) (subst (All (HasEnough chosen (outlined v)))
      (thread_outlined v.directories) enough);
  pairs = λ b. ap (sum_by (pairs_use chosen b)) (thread_outlined v.directories)
      ∙ sum_over (pairs_use (for_parts chosen) b) (pairs_use chosen b) outlined_part (λ p. refl) (thread v.directories);
}

-- ---- the outline of an outline

body_twice : (b : Body) → outlined_body (outlined_body b) ≡ outlined_body b
body_twice (Inline bytes) = refl
body_twice (Chain blocks bytes) = ap (λ (n : ℕ). Chain blocks (blank n)) (length-replicate (length bytes) 0)
body_twice (Directory_at pair) = refl

map_twice : {X : Type 0} (f : X → X) → ((x : X) → f (f x) ≡ f x) → (xs : List X) → map f (map f xs) ≡ map f xs
map_twice f twice [] = refl
map_twice f twice (x ∷ xs) = cons_same (f (f x)) (f x) (map f (map f xs)) (map f xs) (twice x) (map_twice f twice xs)

entry_twice : (e : Entry) → outlined_entry (outlined_entry e) ≡ outlined_entry e
entry_twice e = ap (λ (b : Body). record { name = e.name; body = b; attributes = e.attributes }) (body_twice e.body)

part_twice : (p : Part) → outlined_part (outlined_part p) ≡ outlined_part p
part_twice p = ap (λ (es : List Entry). record { pair = p.pair; entries = es; delta = p.delta; dirty = p.dirty })
    (map_twice outlined_entry entry_twice p.entries)

directory_twice : (d : Directory) → outlined_directory (outlined_directory d) ≡ outlined_directory d
directory_twice d =
    ap (λ (p : Part). record { first = p; more = outlined_parts (outlined_parts d.more) }) (part_twice d.first)
    ∙ ap (λ (ps : List Part). record { first = outlined_part d.first; more = ps }) (map_twice outlined_part part_twice d.more)

pub outlined_twice : (v : Volume) → outlined (outlined v) ≡ outlined v
outlined_twice v =
    ap (λ (ds : List Directory). record { size = v.size; count = v.count; limits = v.limits; attributes = v.attributes; directories = ds })
    (map_twice outlined_directory directory_twice v.directories)
