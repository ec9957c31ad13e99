-- A command leads to one volume, since it takes its blocks in order.
use Rattle.std.proofs.Common.{◌≡◌, ℕ, Bool, true, false, List, [], ◌∷◌, ◌++◌, length, map, take, refl, ap, sym, ◌∙◌, subst, arith, Option, true≢false}
use Rattle.std.specs.Prelude.{All, Contains, if◌then◌else◌, flat_map, nat_le, nat_lt}
use Rattle.std.specs.List.{filter}
use Rattle.std.specs.Option.{option_or}
use Rattle.std.proofs.lemmas.Bool.Decides.{nat_tests}
use Rattle.std.proofs.lemmas.List.Concat.{flat_map-cons}
use Rattle.std.proofs.lemmas.List.Elements.{All-cons, All-contains, All-contains_itself, All-filter, All-head, All-nil, All-tail, All-weaker}
use Rattle.std.proofs.lemmas.List.Sorted.{All-permutation, IsPermutation-sym}
use Rattle.lfs_meta.specs.Body.{Pair}
use Rattle.lfs_meta.specs.Runs.{later_runs}
use Rattle.lfs_fs.specs.Directory.{Directory, Part, parts, thread}
use Rattle.lfs_fs.specs.Entry.{Body, Chain, Entry, Inline}
use Rattle.lfs_fs.specs.Free.{free_blocks}
use Rattle.lfs_fs.specs.Tree.{entry_at}
use Rattle.lfs_fs.specs.Volume.{Volume}
use Rattle.lfs_command.specs.Clean.{clean}
use Rattle.lfs_command.specs.Command.{Command, Mkdir, Put, Rm, Mv, SetAttr, RmAttr, Grow}
use Rattle.lfs_command.specs.Cut.{HasEnough, cut, cut_directory, cut_head, cut_tail, more_parts, runs}
use Rattle.lfs_command.specs.Edited.{edited, make_directory, put_file, with_directories}
use Rattle.lfs_command.specs.Growth.{grown}
use Rattle.lfs_command.specs.Parent.{parent_of}
use Rattle.lfs_command.specs.Leading.{leading_pair}
use Rattle.lfs_command.specs.Need.{data_blocks, dirty_parts, need}
use Rattle.lfs_command.specs.Ordered.{blocks_chosen, blocks_made, blocks_of_pairs, leader, overflowing, overflowing_led}
use Rattle.lfs_command.specs.Planned.{CarriesOut}
use Rattle.lfs_command.specs.Supplies.{Supplies, inline_limit}
use Rattle.lfs_law.specs.Laws.{CommandsLeadOneWay}
use Rattle.lfs_law.proofs.Cuts.{All-left, All-right}
use Rattle.lfs_law.proofs.Leaders.{leader_permutes}

-- ---- lists that are joined

fronts_same : {X : Type 0} (xs ys us vs : List X) → length xs ≡ length ys → xs ++ us ≡ ys ++ vs → (xs ≡ ys) × (us ≡ vs)
fronts_same [] [] us vs len is = (refl, is)
fronts_same [] (y ∷ ys) us vs len is = absurd (omega (arith, len))
fronts_same (x ∷ xs) [] us vs len is = absurd (omega (arith, len))
fronts_same {X} (x ∷ xs) (y ∷ ys) us vs len is =
    let complete : x ∷ (xs ++ us) ≡ y ∷ (ys ++ vs) = is in
    let first : x ≡ y = cc in
    let others : xs ++ us ≡ ys ++ vs = cc in
    let rest = fronts_same xs ys us vs (omega (arith, len)) others in
    (ap (λ (z : X). z ∷ xs) first ∙ ap (λ (zs : List X). y ∷ zs) rest.0, rest.1)

pair_is : (q r : Pair) → q.0 ≡ r.0 → q.1 ≡ r.1 → q ≡ r
pair_is q r first second =
    let with_second : ℕ → Pair = λ n. (n, q.1) in
    let with_first : ℕ → Pair = λ n. (r.0, n) in
    ap with_second first ∙ ap with_first second

-- the blocks of as many pairs tell them
pairs_same : (qs rs : List Pair) (us vs : List ℕ) → length qs ≡ length rs → blocks_of_pairs qs ++ us ≡ blocks_of_pairs rs ++ vs
    → (qs ≡ rs) × (us ≡ vs)
pairs_same [] [] us vs len is = (refl, is)
pairs_same [] (r ∷ rs) us vs len is = absurd (omega (arith, len))
pairs_same (q ∷ qs) [] us vs len is = absurd (omega (arith, len))
pairs_same (q ∷ qs) (r ∷ rs) us vs len is =
    let complete : q.0 ∷ q.1 ∷ (blocks_of_pairs qs ++ us) ≡ r.0 ∷ r.1 ∷ (blocks_of_pairs rs ++ vs) = is in
    let first : q.0 ≡ r.0 = cc in
    let second : q.1 ≡ r.1 = cc in
    let others : blocks_of_pairs qs ++ us ≡ blocks_of_pairs rs ++ vs = cc in
    let rest = pairs_same qs rs us vs (omega (arith, len)) others in
    (ap (λ (x : Pair). x ∷ qs) (pair_is q r first second) ∙ ap (λ (xs : List Pair). r ∷ xs) rest.0, rest.1)

-- where as many pairs are chosen for each of some parts, their blocks tell them
chosen_same : (f g : Part → List Pair) (ps : List Part) → All (λ p. length (f p) ≡ length (g p)) ps
    → blocks_chosen f ps ≡ blocks_chosen g ps → All (λ p. f p ≡ g p) ps
chosen_same f g [] len is = All-nil (λ (p : Part). f p ≡ g p)
chosen_same f g (p ∷ ps) len is =
    let both = pairs_same (f p) (g p) (blocks_chosen f ps) (blocks_chosen g ps) (All-head (λ (q : Part). length (f q) ≡ length (g q)) p ps len) is in
    All-cons (λ (q : Part). f q ≡ g q) p ps both.0
    (chosen_same f g ps (All-tail (λ (q : Part). length (f q) ≡ length (g q)) p ps len) both.1)

-- ---- those of a list that pass a test

pub tested : {X : Type 0} (t : X → Bool) (P : X → Type 0) (xs : List X) → All (λ x. t x ≡ true → P x) xs → All P (filter t xs)
tested t P [] all = All-nil P
tested {X} t P (x ∷ xs) all = by (t x) refl (tested t P xs (All-tail (λ (y : X). t y ≡ true → P y) x xs all))
  where
    by : (b : Bool) → t x ≡ b → All P (filter t xs) → All P (if b then x ∷ filter t xs else filter t xs)
    by true is rest = All-cons P x (filter t xs) (All-head (λ (y : X). t y ≡ true → P y) x xs all is) rest
    by false is rest = rest

passing : {X : Type 0} (t : X → Bool) (P : X → Type 0) (xs : List X) → All P (filter t xs) → All (λ x. t x ≡ true → P x) xs
passing {X} t P [] all = All-nil (λ (y : X). t y ≡ true → P y)
passing {X} t P (x ∷ xs) all = by (t x) refl all (passing t P xs)
  where
    by : (b : Bool) → t x ≡ b → All P (if b then x ∷ filter t xs else filter t xs)
        → (All P (filter t xs) → All (λ y. t y ≡ true → P y) xs) → All (λ y. t y ≡ true → P y) (x ∷ xs)
    by true is both rest =
        All-cons (λ (y : X). t y ≡ true → P y) x xs (λ passes. All-head P x (filter t xs) both) (rest (All-tail P x (filter t xs) both))
    by false is both rest =
        All-cons (λ (y : X). t y ≡ true → P y) x xs (λ passes. absurd (true≢false (sym passes ∙ is))) (rest both)

-- ---- the pairs that are chosen for parts

pub none_later : (rs : List (List Entry)) → nat_lt 1 (length rs) ≡ false → length (later_runs rs) ≡ 0
none_later [] few = refl
none_later (run ∷ []) few = refl
none_later (run ∷ next ∷ rs) few = absurd (grind (arith, nat_tests, few))

pub none_is : {X : Type 0} (xs : List X) → length xs ≡ 0 → xs ≡ []
none_is [] none = refl
none_is (x ∷ xs) none = absurd (omega (arith, none))

module _ (f g : Part → List Pair) (v : Volume) (leading : Option Pair) (enough_f : All (HasEnough f v) (thread v.directories))
    (enough_g : All (HasEnough g v) (thread v.directories))
    (same : blocks_chosen f (overflowing_led leading v) ≡ blocks_chosen g (overflowing_led leading v)) where
  abbrev IsSame : Part → Type 0
  IsSame p = f p ≡ g p

  as_many : All (λ p. p.dirty ≡ true → length (f p) ≡ length (g p)) (thread v.directories)
  as_many =
      All-weaker (Contains (thread v.directories)) (λ (p : Part). p.dirty ≡ true → length (f p) ≡ length (g p))
      (λ p there set. All-contains (HasEnough f v) (thread v.directories) p enough_f there set
      ∙ sym (All-contains (HasEnough g v) (thread v.directories) p enough_g there set))
      (thread v.directories) (All-contains_itself (thread v.directories))

  all_same : All IsSame (overflowing v)
  all_same =
      let led : List Part = overflowing_led leading v in
      let lens : All (λ p. length (f p) ≡ length (g p)) (overflowing v) =
      All-filter (λ (p : Part). nat_lt 1 (length (runs v p))) (λ (p : Part). length (f p) ≡ length (g p)) (dirty_parts v)
      (tested (λ (p : Part). p.dirty) (λ (p : Part). length (f p) ≡ length (g p)) (thread v.directories) as_many) in
      let order = leader_permutes (λ (p : Part). p.pair) leading (overflowing v) in
      All-permutation IsSame led (overflowing v) (IsPermutation-sym (overflowing v) led order)
      (chosen_same f g led (All-permutation (λ (p : Part). length (f p) ≡ length (g p)) (overflowing v) led order lens) same)

  -- a part that doesn't overflow needs none
  each_by : (p : Part) → Contains (thread v.directories) p → p.dirty ≡ true → (t : Bool) → nat_lt 1 (length (runs v p)) ≡ t
      → (t ≡ true → IsSame p) → IsSame p
  each_by p there set true over one = one refl
  each_by p there set false over one =
      let none = none_later (runs v p) over in
      none_is (f p) (All-contains (HasEnough f v) (thread v.directories) p enough_f there set ∙ none)
      ∙ sym (none_is (g p) (All-contains (HasEnough g v) (thread v.directories) p enough_g there set ∙ none))

  each_same : All (λ p. p.dirty ≡ true → IsSame p) (thread v.directories)
  each_same =
      let over : All (λ p. p.dirty ≡ true → nat_lt 1 (length (runs v p)) ≡ true → IsSame p) (thread v.directories) =
      passing (λ (p : Part). p.dirty) (λ (p : Part). nat_lt 1 (length (runs v p)) ≡ true → IsSame p) (thread v.directories)
      (passing (λ (p : Part). nat_lt 1 (length (runs v p))) IsSame (dirty_parts v) all_same) in
      All-weaker (Contains (thread v.directories)) (λ (p : Part). p.dirty ≡ true → IsSame p)
      (λ p there set. each_by p there set (nat_lt 1 (length (runs v p))) refl
      (All-contains (λ (q : Part). q.dirty ≡ true → nat_lt 1 (length (runs v q)) ≡ true → IsSame q) (thread v.directories) p over there set))
      (thread v.directories) (All-contains_itself (thread v.directories))

  -- ---- so parts are cut alike

  abbrev CutsAlike : Part → Type 0
  CutsAlike p = p.dirty ≡ true → IsSame p

  tail_by : (p : Part) (rs : List (List Entry)) (t : Bool) → p.dirty ≡ t → CutsAlike p
      → (if t then more_parts (f p) rs else []) ≡ (if t then more_parts (g p) rs else [])
  tail_by p rs true set alike = ap (λ (qs : List Pair). more_parts qs rs) (alike set)
  tail_by p rs false set alike = refl

  tail_same : (p : Part) → CutsAlike p → cut_tail f v p ≡ cut_tail g v p
  tail_same p alike = tail_by p (later_runs (runs v p)) p.dirty refl alike

  parts_same : (ps : List Part) → All CutsAlike ps
      → flat_map (λ p. cut_head v p ∷ cut_tail f v p) ps ≡ flat_map (λ p. cut_head v p ∷ cut_tail g v p) ps
  parts_same [] alike = refl
  parts_same (p ∷ ps) alike =
      ap (λ (qs : List Part). (cut_head v p ∷ qs) ++ flat_map (λ (q : Part). cut_head v q ∷ cut_tail f v q) ps)
      (tail_same p (All-head CutsAlike p ps alike))
      ∙ ap (λ (qs : List Part). (cut_head v p ∷ cut_tail g v p) ++ qs) (parts_same ps (All-tail CutsAlike p ps alike))

  directory_same : (d : Directory) → All CutsAlike (parts d) → cut_directory f v d ≡ cut_directory g v d
  directory_same d alike =
      ap (λ (qs : List Part). record {
        first = cut_head v d.first;
        more = qs ++ flat_map (λ (p : Part). cut_head v p ∷ cut_tail f v p) d.more;
      }) (tail_same d.first (All-head CutsAlike d.first d.more alike))
      ∙ ap (λ (qs : List Part). record { first = cut_head v d.first; more = cut_tail g v d.first ++ qs })
      (parts_same d.more (All-tail CutsAlike d.first d.more alike))

  directories_same : (ds : List Directory) → All CutsAlike (thread ds) → map (cut_directory f v) ds ≡ map (cut_directory g v) ds
  directories_same [] alike = refl
  directories_same (d ∷ ds) alike =
      let both : All CutsAlike (parts d ++ thread ds) = subst (All CutsAlike) (flat_map-cons parts d ds) alike in
      ap (λ (e : Directory). e ∷ map (cut_directory f v) ds) (directory_same d (All-left CutsAlike (parts d) (thread ds) both))
      ∙ ap (λ (es : List Directory). cut_directory g v d ∷ es) (directories_same ds (All-right CutsAlike (parts d) (thread ds) both))

  cut_same : cut f v ≡ cut g v
  cut_same = ap (with_directories v) (directories_same v.directories each_same)

-- ---- what a command makes

made_same : (v : Volume) (c : Command) (s t : Supplies) (us vs : List ℕ) → length s.blocks ≡ length t.blocks
    → blocks_made v c s ++ us ≡ blocks_made v c t ++ vs → (edited v c s ≡ edited v c t) × (us ≡ vs)
made_same v (Mkdir p) s t us vs len is =
    let complete : s.pair.0 ∷ s.pair.1 ∷ us ≡ t.pair.0 ∷ t.pair.1 ∷ vs = is in
    let first : s.pair.0 ≡ t.pair.0 = cc in
    let second : s.pair.1 ≡ t.pair.1 = cc in
    let others : us ≡ vs = cc in
    (ap (λ (q : Pair). make_directory v q (parent_of v p)) (pair_is s.pair t.pair first second), others)
made_same v (Put p bytes most) s t us vs len is =
    let both = by (nat_le (length bytes) (inline_limit v.size most)) is in
    (ap (λ (b : Body). put_file v b (parent_of v p) (entry_at v p)) both.0, both.1)
  where
    by : (inline : Bool) → (if inline then [] else s.blocks) ++ us ≡ (if inline then [] else t.blocks) ++ vs
        → ((if inline then Inline bytes else Chain s.blocks bytes) ≡ (if inline then Inline bytes else Chain t.blocks bytes)) × (us ≡ vs)
    by true same = (refl, same)
    by false same =
        let both = fronts_same s.blocks t.blocks us vs len same in (ap (λ (bs : List ℕ). Chain bs bytes) both.0, both.1)
made_same v (Rm p) s t us vs len is = (refl, is)
made_same v (Mv p q) s t us vs len is = (refl, is)
made_same v (SetAttr p k value) s t us vs len is = (refl, is)
made_same v (RmAttr p k) s t us vs len is = (refl, is)
made_same v (Grow n) s t us vs len is = (refl, is)

-- ---- the whole

-- A command on a volume leaves another one, where it takes these blocks in order.
pub record IsLeftBy (v : Volume) (c : Command) (taken : List ℕ) (w : Volume) : Type 0 where
  pub supplies : Supplies
  pub chosen : Part → List Pair
  pub blocks : length supplies.blocks ≡ data_blocks v c
  pub enough : All (HasEnough chosen (edited v c supplies)) (thread (edited v c supplies).directories)
  pub ordered : blocks_made v c supplies ++ blocks_chosen chosen (overflowing_led (leader v c supplies) (edited v c supplies)) ≡ taken
  pub is : w ≡ clean (cut chosen (edited v c supplies))

pub one_left : (v : Volume) (c : Command) (taken : List ℕ) (w u : Volume) → IsLeftBy v c taken w → IsLeftBy v c taken u → u ≡ w
one_left v c taken w u one other =
    let set : Volume = edited v c one.supplies in
    let leading : Option Pair = leader v c one.supplies in
    let both = made_same v c one.supplies other.supplies
    (blocks_chosen one.chosen (overflowing_led leading set))
    (blocks_chosen other.chosen (overflowing_led (leader v c other.supplies) (edited v c other.supplies)))
    (one.blocks ∙ sym other.blocks) (one.ordered ∙ sym other.ordered) in
    let same : blocks_chosen one.chosen (overflowing_led leading set) ≡ blocks_chosen other.chosen (overflowing_led leading set) =
    both.1 ∙ ap (λ (x : Volume). blocks_chosen other.chosen (overflowing_led (option_or (leading_pair v c) (leading_pair x c)) x))
    (sym both.0) in
    let enough = subst (λ (x : Volume). All (HasEnough other.chosen x) (thread x.directories)) (sym both.0) other.enough in
    other.is ∙ ap (λ (x : Volume). clean (cut other.chosen x)) (sym both.0)
    ∙ ap clean (sym (cut_same one.chosen other.chosen set leading one.enough enough same)) ∙ sym one.is

pub left_by : (v : Volume) (c : Command) (w : Volume) → CarriesOut c v w → IsLeftBy v c (take (need v c) (free_blocks (grown c v))) w
left_by v c w does = record {
  supplies = does.supplies;
  chosen = does.chosen;
  blocks = does.blocks;
  enough = does.pairs.enough;
  ordered = does.ordered;
  is = does.is;
}

pub commands_lead_one_way : CommandsLeadOneWay
commands_lead_one_way v c w u one other =
    one_left v c (take (need v c) (free_blocks (grown c v))) w u (left_by v c w one) (left_by v c u other)
