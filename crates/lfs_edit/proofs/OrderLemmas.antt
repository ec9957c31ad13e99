-- In which order a command takes its blocks, on an outline as on its volume.
use Rattle.std.proofs.Common.{◌≡◌, ◌≤◌, ℕ, Bool, true, false, List, [], ◌∷◌, ◌++◌, length, take, drop, refl, ap, sym, ◌∙◌, arith}
use Rattle.std.proofs.Common.{Option, Some, None, nat_lt}
use Rattle.std.specs.Prelude.{if◌then◌else◌, find, nat_le}
use Rattle.std.specs.List.{filter}
use Rattle.std.specs.Option.{option_and_then, option_map}
use Rattle.std.proofs.lemmas.List.{length-map, take-append-drop, take-take}
use Rattle.lfs_meta.specs.Body.{Pair}
use Rattle.lfs_meta.specs.Name.{Name}
use Rattle.lfs_file.specs.Capacity.{least_blocks}
use Rattle.lfs_fs.specs.Directory.{Directory, Part, begins_at, parts}
use Rattle.lfs_fs.specs.Outlined.{outlined, outlined_directories, outlined_directory, outlined_part}
use Rattle.lfs_fs.specs.Pair.{same_pair}
use Rattle.lfs_fs.specs.Volume.{Volume}
use Rattle.lfs_command.specs.Command.{Command, Mkdir, Put, Rm, Mv, SetAttr, RmAttr, Grow}
use Rattle.lfs_command.specs.Cut.{runs}
use Rattle.lfs_command.specs.DirectoryEdit.{has_name}
use Rattle.lfs_command.specs.Parent.{parent_of}
use Rattle.lfs_command.specs.Leading.{leading_pair, pair_among, pair_in, path_of}
use Rattle.lfs_command.specs.Need.{dirty_parts}
use Rattle.lfs_command.specs.Ordered.{blocks_chosen, blocks_made, blocks_of_pairs, leader_first, leader_of, overflowing, overflowing_led, pair_blocks}
use Rattle.lfs_command.specs.Supplies.{inline_limit}
use Rattle.lfs_draft.specs.LeastSupplies.{least_pair, least_supplies, made_blocks}
use Rattle.lfs_law.specs.CutOutline.{for_parts}
use Rattle.lfs_law.proofs.OutlineCuts.{runs_outlined}
use Rattle.lfs_law.proofs.OutlineDirectories.{find_directory_outlined, outlined_parts}
use Rattle.lfs_law.proofs.OutlineEntries.{any_named_outlined, outlined_entries}
use Rattle.lfs_law.proofs.OutlineRoom.{dirty_outlined}
use Rattle.lfs_law.proofs.OutlinesFollow.{parent_outlined}

-- ---- the part that leads

part_found : (n : Name) (ps : List Part) → find (has_name n) (outlined_parts ps) ≡ option_map outlined_part (find (has_name n) ps)
part_found n [] = refl
part_found n (p ∷ ps) =
    ap (λ (t : Bool). if t then Some (outlined_part p) else find (has_name n) (outlined_parts ps)) (any_named_outlined n p.entries)
    ∙ by (has_name n p) (part_found n ps)
  where
    by : (t : Bool) → find (has_name n) (outlined_parts ps) ≡ option_map outlined_part (find (has_name n) ps)
        → (if t then Some (outlined_part p) else find (has_name n) (outlined_parts ps))
        ≡ option_map outlined_part (if t then Some p else find (has_name n) ps)
    by true rest = refl
    by false rest = rest

pair_found : (n : Name) (d : Directory) → pair_in n (outlined_directory d) ≡ pair_in n d
pair_found n d = ap (option_map (λ (p : Part). p.pair)) (part_found n (parts d)) ∙ by (find (has_name n) (parts d))
  where
    by : (o : Option Part) → option_map (λ (p : Part). p.pair) (option_map outlined_part o) ≡ option_map (λ (p : Part). p.pair) o
    by None = refl
    by (Some p) = refl

among_found : (ds : List Directory) (parent : Pair × Name) → pair_among (outlined_directories ds) parent ≡ pair_among ds parent
among_found ds parent = ap (option_and_then (pair_in parent.1)) (find_directory_outlined parent.0 ds) ∙ by (find (begins_at parent.0) ds)
  where
    by : (o : Option Directory) → option_and_then (pair_in parent.1) (option_map outlined_directory o) ≡ option_and_then (pair_in parent.1) o
    by None = refl
    by (Some d) = pair_found parent.1 d

-- an outline leads as its volume
pub leading_outlined : (v : Volume) (c : Command) → leading_pair (outlined v) c ≡ leading_pair v c
leading_outlined v c =
    ap (option_and_then (pair_among (outlined v).directories)) (parent_outlined v (path_of c)) ∙ by (parent_of v (path_of c))
  where
    by : (o : Option (Pair × Name)) → option_and_then (pair_among (outlined v).directories) o ≡ option_and_then (pair_among v.directories) o
    by None = refl
    by (Some parent) = among_found v.directories parent

-- ---- the parts that overflow

abbrev overflows : Volume → Part → Bool
overflows v p = nat_lt 1 (length (runs v p))

same_overflow : (v : Volume) (p : Part) → overflows (outlined v) (outlined_part p) ≡ overflows v p
same_overflow v p = ap (nat_lt 1) (ap length (runs_outlined v p) ∙ length-map (runs v p) outlined_entries)

some_outlined : (v : Volume) (ps : List Part)
    → filter (overflows (outlined v)) (outlined_parts ps) ≡ outlined_parts (filter (overflows v) ps)
some_outlined v [] = refl
some_outlined v (p ∷ ps) =
    ap (λ (t : Bool). if t then outlined_part p ∷ filter (overflows (outlined v)) (outlined_parts ps)
    else filter (overflows (outlined v)) (outlined_parts ps)) (same_overflow v p)
    ∙ by (overflows v p) (some_outlined v ps)
  where
    by : (t : Bool) → filter (overflows (outlined v)) (outlined_parts ps) ≡ outlined_parts (filter (overflows v) ps)
        → (if t then outlined_part p ∷ filter (overflows (outlined v)) (outlined_parts ps) else filter (overflows (outlined v))
        (outlined_parts ps))
        ≡ outlined_parts (if t then p ∷ filter (overflows v) ps else filter (overflows v) ps)
    by true rest = ap (λ (qs : List Part). outlined_part p ∷ qs) rest
    by false rest = rest

led_by : (k : Pair) (ps : List Part) → leader_of (λ p. p.pair) k (outlined_parts ps) ≡ outlined_parts (leader_of (λ p. p.pair) k ps)
led_by k [] = refl
led_by k (p ∷ []) = refl
led_by k (p ∷ q ∷ []) = by (same_pair q.pair k)
  where
    by : (t : Bool) → (if t then outlined_part q ∷ outlined_part p ∷ [] else outlined_part p ∷ outlined_part q ∷ [])
        ≡ outlined_parts (if t then q ∷ p ∷ [] else p ∷ q ∷ [])
    by true = refl
    by false = refl
led_by k (p ∷ q ∷ r ∷ ps) = refl

led_outlined : (leading : Option Pair) (ps : List Part)
    → leader_first (λ p. p.pair) leading (outlined_parts ps) ≡ outlined_parts (leader_first (λ p. p.pair) leading ps)
led_outlined None ps = refl
led_outlined (Some k) ps = led_by k ps

overflowing_outlined : (leading : Option Pair) (v : Volume)
    → overflowing_led leading (outlined v) ≡ outlined_parts (overflowing_led leading v)
overflowing_outlined leading v =
    ap (λ (ps : List Part). leader_first (λ (p : Part). p.pair) leading (filter (overflows (outlined v)) ps)) (dirty_outlined v)
    ∙ ap (leader_first (λ (p : Part). p.pair) leading) (some_outlined v (dirty_parts v))
    ∙ led_outlined leading (overflowing v)

chosen_over : (chosen : Part → List Pair) (ps : List Part) → blocks_chosen (for_parts chosen) ps ≡ blocks_chosen chosen (outlined_parts ps)
chosen_over chosen [] = refl
chosen_over chosen (p ∷ ps) = ap (λ (bs : List ℕ). blocks_of_pairs (chosen (outlined_part p)) ++ bs) (chosen_over chosen ps)

-- the same blocks are chosen for them
pub chosen_outlined : (chosen : Part → List Pair) (leading : Option Pair) (v : Volume)
    → blocks_chosen (for_parts chosen) (overflowing_led leading v) ≡ blocks_chosen chosen (overflowing_led leading (outlined v))
chosen_outlined chosen leading v =
    chosen_over chosen (overflowing_led leading v) ∙ ap (blocks_chosen chosen) (sym (overflowing_outlined leading v))

-- ---- what is made comes first

pair_first : (free : List ℕ) → 2 ≤ length free → pair_blocks (least_pair free) ≡ take 2 free
pair_first [] enough = absurd (omega arith)
pair_first (a ∷ []) enough = absurd (omega (arith, enough))
pair_first (a ∷ b ∷ more) enough = refl

body_first : (free : List ℕ) (least : ℕ) (t : Bool) → (if t then [] else take (if t then 0 else least) free) ≡ take (if t then 0 else least) free
body_first free least true = refl
body_first free least false = refl

pub made_first : (v : Volume) (c : Command) (free : List ℕ) → made_blocks v c ≤ length free
    → blocks_made v c (least_supplies v c free) ≡ take (made_blocks v c) free
made_first v (Mkdir p) free enough = pair_first free enough
made_first v (Put p bytes most) free enough =
    body_first free (least_blocks v.size (length bytes)) (nat_le (length bytes) (inline_limit v.size most))
    ∙ ap (λ (k : ℕ). take k free) (omega arith)
made_first v (Rm p) free enough = refl
made_first v (Mv p q) free enough = refl
made_first v (SetAttr p k value) free enough = refl
made_first v (RmAttr p k) free enough = refl
made_first v (Grow n) free enough = refl

-- the first of the first ones, and the others
pub front_and_back : (m n : ℕ) (xs : List ℕ) → m ≤ n → take m xs ++ drop m (take n xs) ≡ take n xs
front_and_back m n xs le = ap (λ (ys : List ℕ). ys ++ drop m (take n xs)) (sym (take-take m n xs le)) ∙ take-append-drop m (take n xs)
