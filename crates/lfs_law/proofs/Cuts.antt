-- What cutting does to the directories of a volume.
use Rattle.std.proofs.Common.{◌≡◌, ℕ, ◌+◌, Bool, true, false, cond, List, [], ◌∷◌, ◌++◌, refl, ap, sym, ◌∙◌, subst, arith, length}
use Rattle.std.proofs.Common.{append-nil, map}
use Rattle.std.specs.Prelude.{All, sum_by, count_by, flat_map, find, if◌then◌else◌, bit_xor}
use Rattle.std.specs.Int.Bits.{xor_zero_l, xor_zero_r}
use Rattle.std.proofs.lemmas.List.Elements.{All-head, All-tail, All-cons, All-nil}
use Rattle.std.proofs.lemmas.List.Concat.{flat_map-cons}
use Rattle.std.proofs.lemmas.List.Sums.{sum_by-cons, sum_by-append}
use Rattle.std.proofs.lemmas.Grind.{flat_map-append}
use Rattle.lfs_meta.specs.Name.{Name}
use Rattle.lfs_meta.specs.Body.{Pair}
use Rattle.lfs_meta.specs.RunLaws.{RunsJoin}
use Rattle.lfs_meta.specs.Runs.{runs_after, first_run, later_runs}
use Rattle.lfs_fs.specs.declared.limits.Limits.{Limits}
use Rattle.lfs_fs.specs.Pair.{unordered, same_pair}
use Rattle.lfs_fs.specs.Entry.{Entry, target, is_named}
use Rattle.lfs_fs.specs.Weight.{weight, superblock_weight}
use Rattle.lfs_fs.specs.Directory.{Part, Directory, parts, entries, begins_at, thread}
use Rattle.lfs_fs.specs.Volume.{Volume}
use Rattle.lfs_fs.specs.Tree.{entry_in}
use Rattle.lfs_fs.specs.Uses.{times, entry_uses, pair_uses, directory_uses}
use Rattle.lfs_fs.specs.Named.{leads_to, names_of}
use Rattle.lfs_fs.specs.State.{delta_of}
use Rattle.lfs_fs.specs.Sound.{StartsAtRoot, Rise, IsProper}
use Rattle.lfs_command.specs.Cut.{runs, is_first, room, more_parts, cut_head, cut_tail, cut_directory, new_pairs, HasEnough}
use Rattle.lfs_law.proofs.DirectoryEdits.{delta_append}
use Rattle.lfs_law.proofs.Effect.{Effect, AreGood, none}

-- ---- the runs of a part join to its entries

joined_by : RunsJoin Entry → (t : Bool) (v : Volume) (p : Part)
    → flat_map (λ run. run) (if t then runs_after weight (room v) (superblock_weight v.attributes) 1 p.entries else runs_after weight
    (room v) 0 0 p.entries) ≡ p.entries
joined_by join true v p = join weight (room v) (superblock_weight v.attributes) 1 p.entries
joined_by join false v p = join weight (room v) 0 0 p.entries

pub joined : RunsJoin Entry → (v : Volume) (p : Part) → flat_map (λ run. run) (runs v p) ≡ p.entries
joined join v p = joined_by join (is_first p) v p

first_and_later : (rs : List (List Entry)) → first_run rs ++ flat_map (λ run. run) (later_runs rs) ≡ flat_map (λ run. run) rs
first_and_later [] = refl
first_and_later (run ∷ rs) = sym (flat_map-cons (λ (x : List Entry). x) run rs)

-- ---- one part

-- what a part becomes
abbrev pub cut_part : (Part → List Pair) → Volume → Part → List Part
cut_part chosen v p = cut_head v p ∷ cut_tail chosen v p

abbrev pub pair_times : ℕ → Pair → ℕ
pair_times b q = times b (q.0 ∷ q.1 ∷ [])

more_entries : (pairs : List Pair) (rs : List (List Entry)) → length pairs ≡ length rs
    → flat_map (λ p. p.entries) (more_parts pairs rs) ≡ flat_map (λ run. run) rs
more_entries pairs [] h = refl
more_entries [] (run ∷ rs) h = let no : ⊥ = omega arith in absurd no
more_entries (pair ∷ pairs) (run ∷ rs) h =
    let rest : flat_map (λ p. p.entries) (more_parts pairs rs) ≡ flat_map (λ run. run) rs = more_entries pairs rs (omega arith) in
    flat_map-cons (λ (p : Part). p.entries) (record { pair = pair; entries = run; delta = 0; dirty = true }) (more_parts pairs rs)
    ∙ ap (λ es. run ++ es) rest ∙ sym (flat_map-cons (λ (x : List Entry). x) run rs)

more_uses : (b : ℕ) (pairs : List Pair) (rs : List (List Entry)) → length pairs ≡ length rs
    → sum_by (pair_uses b) (more_parts pairs rs) ≡ sum_by (pair_times b) pairs
more_uses b [] [] h = refl
more_uses b (pair ∷ pairs) [] h = let no : ⊥ = omega arith in absurd no
more_uses b [] (run ∷ rs) h = let no : ⊥ = omega arith in absurd no
more_uses b (pair ∷ pairs) (run ∷ rs) h =
    let rest : sum_by (pair_uses b) (more_parts pairs rs) ≡ sum_by (pair_times b) pairs = more_uses b pairs rs (omega arith) in
    omega (
      arith,
      sum_by-cons (pair_uses b) (record { pair = pair; entries = run; delta = 0; dirty = true }) (more_parts pairs rs),
      sum_by-cons (pair_times b) pair pairs,
    )

more_delta : (pairs : List Pair) (rs : List (List Entry)) → delta_of (more_parts pairs rs) ≡ 0
more_delta pairs [] = refl
more_delta [] (run ∷ rs) = refl
more_delta (pair ∷ pairs) (run ∷ rs) = xor_zero_l (delta_of (more_parts pairs rs)) ∙ more_delta pairs rs

-- A part that is cut, by whether it is set.
abbrev pub head_by : Volume → Part → Bool → Part
head_by v p set = if set then record { pair = p.pair; entries = first_run (runs v p); delta = p.delta; dirty = true } else p

abbrev pub tail_by : (Part → List Pair) → Volume → Part → Bool → List Part
tail_by chosen v p set = if set then more_parts (chosen p) (later_runs (runs v p)) else []

cut_entries_by : RunsJoin Entry → (chosen : Part → List Pair) (v : Volume) (p : Part) (set : Bool)
    → (set ≡ true → length (chosen p) ≡ length (later_runs (runs v p)))
    → flat_map (λ q. q.entries) (head_by v p set ∷ tail_by chosen v p set) ≡ p.entries
cut_entries_by join chosen v p true enough =
    flat_map-cons (λ (q : Part). q.entries) (head_by v p true) (tail_by chosen v p true)
    ∙ ap (λ es. first_run (runs v p) ++ es) (more_entries (chosen p) (later_runs (runs v p)) (enough refl))
    ∙ first_and_later (runs v p) ∙ joined join v p
cut_entries_by join chosen v p false enough = flat_map-cons (λ (q : Part). q.entries) p [] ∙ append-nil p.entries

cut_entries : RunsJoin Entry → (chosen : Part → List Pair) (v : Volume) (p : Part) → HasEnough chosen v p
    → flat_map (λ q. q.entries) (cut_part chosen v p) ≡ p.entries
cut_entries join chosen v p enough = cut_entries_by join chosen v p p.dirty enough

cut_uses_by : (b : ℕ) (chosen : Part → List Pair) (v : Volume) (p : Part) (set : Bool)
    → (set ≡ true → length (chosen p) ≡ length (later_runs (runs v p)))
    → sum_by (pair_uses b) (head_by v p set ∷ tail_by chosen v p set) ≡ pair_uses b p + sum_by (pair_times b) (if set then chosen p else [])
cut_uses_by b chosen v p true enough = sum_by-cons (pair_uses b) (head_by v p true) (tail_by chosen v p true)
    ∙ ap (λ n. pair_uses b p + n) (more_uses b (chosen p) (later_runs (runs v p)) (enough refl))
cut_uses_by b chosen v p false enough = sum_by-cons (pair_uses b) p []

cut_uses : (b : ℕ) (chosen : Part → List Pair) (v : Volume) (p : Part) → HasEnough chosen v p
    → sum_by (pair_uses b) (cut_part chosen v p) ≡ pair_uses b p + sum_by (pair_times b) (new_pairs chosen p)
cut_uses b chosen v p enough = cut_uses_by b chosen v p p.dirty enough

cut_delta_by : (chosen : Part → List Pair) (v : Volume) (p : Part) (set : Bool)
    → delta_of (head_by v p set ∷ tail_by chosen v p set) ≡ p.delta
cut_delta_by chosen v p true = ap (λ x. bit_xor p.delta x) (more_delta (chosen p) (later_runs (runs v p))) ∙ xor_zero_r p.delta
cut_delta_by chosen v p false = xor_zero_r p.delta

pub head_pair_by : (v : Volume) (p : Part) (set : Bool) → (head_by v p set).pair ≡ p.pair
head_pair_by v p true = refl
head_pair_by v p false = refl

-- ---- the parts of a directory

all_entries : RunsJoin Entry → (chosen : Part → List Pair) (v : Volume) (ps : List Part) → All (HasEnough chosen v) ps
    → flat_map (λ q. q.entries) (flat_map (cut_part chosen v) ps) ≡ flat_map (λ q. q.entries) ps
all_entries join chosen v [] enough = refl
all_entries join chosen v (p ∷ ps) enough =
    let here : flat_map (λ q. q.entries) (cut_part chosen v p) ≡ p.entries =
    cut_entries join chosen v p (All-head (HasEnough chosen v) p ps enough) in
    let rest = all_entries join chosen v ps (All-tail (HasEnough chosen v) p ps enough) in
    ap (flat_map (λ (q : Part). q.entries)) (flat_map-cons (cut_part chosen v) p ps)
    ∙ flat_map-append (λ (q : Part). q.entries) (cut_part chosen v p) (flat_map (cut_part chosen v) ps)
    ∙ ap (λ es. es ++ flat_map (λ (q : Part). q.entries) (flat_map (cut_part chosen v) ps)) here
    ∙ ap (λ es. p.entries ++ es) rest
    ∙ sym (flat_map-cons (λ (q : Part). q.entries) p ps)

-- how often the new pairs of parts use a block
abbrev pub pairs_for : (Part → List Pair) → ℕ → List Part → ℕ
pairs_for chosen b ps = sum_by (λ p. sum_by (pair_times b) (new_pairs chosen p)) ps

pub all_uses : (b : ℕ) (chosen : Part → List Pair) (v : Volume) (ps : List Part) → All (HasEnough chosen v) ps
    → sum_by (pair_uses b) (flat_map (cut_part chosen v) ps) ≡ sum_by (pair_uses b) ps + pairs_for chosen b ps
all_uses b chosen v [] enough = refl
all_uses b chosen v (p ∷ ps) enough =
    let here = cut_uses b chosen v p (All-head (HasEnough chosen v) p ps enough) in
    let rest = all_uses b chosen v ps (All-tail (HasEnough chosen v) p ps enough) in
    let split : sum_by (pair_uses b) (flat_map (cut_part chosen v) (p ∷ ps))
    ≡ sum_by (pair_uses b) (cut_part chosen v p) + sum_by (pair_uses b) (flat_map (cut_part chosen v) ps) =
    ap (sum_by (pair_uses b)) (flat_map-cons (cut_part chosen v) p ps) ∙ sum_by-append (pair_uses b) (cut_part chosen v p)
    (flat_map (cut_part chosen v) ps) in
    omega (arith, sum_by-cons (pair_uses b) p ps, sum_by-cons (λ (q : Part). sum_by (pair_times b) (new_pairs chosen q)) p ps)

all_deltas : (chosen : Part → List Pair) (v : Volume) (ps : List Part) → delta_of (flat_map (cut_part chosen v) ps) ≡ delta_of ps
all_deltas chosen v [] = refl
all_deltas chosen v (p ∷ ps) =
    ap delta_of (flat_map-cons (cut_part chosen v) p ps) ∙ delta_append (cut_part chosen v p) (flat_map (cut_part chosen v) ps)
    ∙ ap (λ x. bit_xor x (delta_of (flat_map (cut_part chosen v) ps))) (cut_delta_by chosen v p p.dirty)
    ∙ ap (λ x. bit_xor p.delta x) (all_deltas chosen v ps)

-- ---- directories

pub cut_parts : (chosen : Part → List Pair) (v : Volume) (d : Directory)
    → parts (cut_directory chosen v d) ≡ flat_map (cut_part chosen v) (parts d)
cut_parts chosen v d = sym (flat_map-cons (cut_part chosen v) d.first d.more)

pub cut_directory_entries : RunsJoin Entry → (chosen : Part → List Pair) (v : Volume) (d : Directory) → All (HasEnough chosen v) (parts d)
    → entries (cut_directory chosen v d) ≡ entries d
cut_directory_entries join chosen v d enough = ap (flat_map (λ (p : Part). p.entries)) (cut_parts chosen v d)
    ∙ all_entries join chosen v (parts d) enough

cut_directory_uses : RunsJoin Entry → (b : ℕ) (chosen : Part → List Pair) (v : Volume) (d : Directory) → All (HasEnough chosen v) (parts d)
    → directory_uses b (cut_directory chosen v d) ≡ directory_uses b d + pairs_for chosen b (parts d)
cut_directory_uses join b chosen v d enough =
    let pairs : sum_by (pair_uses b) (parts (cut_directory chosen v d)) ≡ sum_by (pair_uses b) (parts d) + pairs_for chosen b (parts d) =
    ap (sum_by (pair_uses b)) (cut_parts chosen v d) ∙ all_uses b chosen v (parts d) enough in
    let contents : sum_by (entry_uses b) (entries (cut_directory chosen v d)) ≡ sum_by (entry_uses b) (entries d) =
    ap (sum_by (entry_uses b)) (cut_directory_entries join chosen v d enough) in
    omega arith

pub cut_begins : (k : Pair) (chosen : Part → List Pair) (v : Volume) (d : Directory)
    → begins_at k (cut_directory chosen v d) ≡ begins_at k d
cut_begins k chosen v d = ap (λ (q : Pair). same_pair k (unordered q)) (head_pair_by v d.first d.first.dirty)

-- ---- all directories

pub All-left : {X : Type 0} (P : X → Type 0) (xs ys : List X) → All P (xs ++ ys) → All P xs
All-left P [] ys h = All-nil P
All-left P (x ∷ xs) ys h = All-cons P x xs (All-head P x (xs ++ ys) h) (All-left P xs ys (All-tail P x (xs ++ ys) h))

pub All-right : {X : Type 0} (P : X → Type 0) (xs ys : List X) → All P (xs ++ ys) → All P ys
All-right P [] ys h = h
All-right P (x ∷ xs) ys h = All-right P xs ys (All-tail P x (xs ++ ys) h)

abbrev pub cut_all : (Part → List Pair) → Volume → List Directory → List Directory
cut_all chosen v ds = map (cut_directory chosen v) ds

-- the parts of each directory have enough pairs
pub enough_each : (chosen : Part → List Pair) (v : Volume) (ds : List Directory) → All (HasEnough chosen v) (thread ds)
    → All (λ d. All (HasEnough chosen v) (parts d)) ds
enough_each chosen v [] enough = All-nil (λ d. All (HasEnough chosen v) (parts d))
enough_each chosen v (d ∷ ds) enough =
    let both : All (HasEnough chosen v) (parts d ++ thread ds) = subst (All (HasEnough chosen v)) (flat_map-cons parts d ds) enough in
    All-cons (λ e. All (HasEnough chosen v) (parts e)) d ds (All-left (HasEnough chosen v) (parts d) (thread ds) both)
    (enough_each chosen v ds (All-right (HasEnough chosen v) (parts d) (thread ds) both))

pub cut_uses_all : RunsJoin Entry → (b : ℕ) (chosen : Part → List Pair) (v : Volume) (ds : List Directory)
    → All (λ d. All (HasEnough chosen v) (parts d)) ds
    → sum_by (directory_uses b) (cut_all chosen v ds) ≡ sum_by (directory_uses b) ds + pairs_for chosen b (thread ds)
cut_uses_all join b chosen v [] enough = refl
cut_uses_all join b chosen v (d ∷ ds) enough =
    let here = cut_directory_uses join b chosen v d (All-head (λ e. All (HasEnough chosen v) (parts e)) d ds enough) in
    let rest = cut_uses_all join b chosen v ds (All-tail (λ e. All (HasEnough chosen v) (parts e)) d ds enough) in
    let split : pairs_for chosen b (thread (d ∷ ds)) ≡ pairs_for chosen b (parts d) + pairs_for chosen b (thread ds) =
    ap (pairs_for chosen b) (flat_map-cons parts d ds) ∙ sum_by-append (λ (p : Part). sum_by (pair_times b) (new_pairs chosen p)) (parts d)
    (thread ds) in
    omega (arith, sum_by-cons (directory_uses b) (cut_directory chosen v d) (cut_all chosen v ds), sum_by-cons (directory_uses b) d ds)

cut_names_all : RunsJoin Entry → (k : Pair) (chosen : Part → List Pair) (v : Volume) (ds : List Directory)
    → All (λ d. All (HasEnough chosen v) (parts d)) ds
    → sum_by (names_of k) (cut_all chosen v ds) ≡ sum_by (names_of k) ds
cut_names_all join k chosen v [] enough = refl
cut_names_all join k chosen v (d ∷ ds) enough =
    let here : names_of k (cut_directory chosen v d) ≡ names_of k d =
    ap (sum_by (λ (e : Entry). leads_to k (target e))) (cut_directory_entries join chosen v d
    (All-head (λ e. All (HasEnough chosen v) (parts e)) d ds enough)) in
    let rest = cut_names_all join k chosen v ds (All-tail (λ e. All (HasEnough chosen v) (parts e)) d ds enough) in
    omega (arith, sum_by-cons (names_of k) (cut_directory chosen v d) (cut_all chosen v ds), sum_by-cons (names_of k) d ds)

cut_count_all : (k : Pair) (chosen : Part → List Pair) (v : Volume) (ds : List Directory)
    → count_by (begins_at k) (cut_all chosen v ds) ≡ count_by (begins_at k) ds
cut_count_all k chosen v [] = refl
cut_count_all k chosen v (d ∷ ds) =
    let one : cond {A = ℕ} (begins_at k (cut_directory chosen v d)) 1 0 ≡ cond {A = ℕ} (begins_at k d) 1 0 =
    ap (λ (t : Bool). cond {A = ℕ} t 1 0) (cut_begins k chosen v d) in
    let rest = cut_count_all k chosen v ds in
    omega (
      arith,
      sum_by-cons (λ (e : Directory). cond (begins_at k e) 1 0) (cut_directory chosen v d) (cut_all chosen v ds),
      sum_by-cons (λ (e : Directory). cond (begins_at k e) 1 0) d ds,
    )

pub cut_thread : (chosen : Part → List Pair) (v : Volume) (ds : List Directory)
    → thread (cut_all chosen v ds) ≡ flat_map (cut_part chosen v) (thread ds)
cut_thread chosen v [] = refl
cut_thread chosen v (d ∷ ds) =
    flat_map-cons parts (cut_directory chosen v d) (cut_all chosen v ds)
    ∙ ap (λ ps. ps ++ thread (cut_all chosen v ds)) (cut_parts chosen v d)
    ∙ ap (λ ps. flat_map (cut_part chosen v) (parts d) ++ ps) (cut_thread chosen v ds)
    ∙ sym (flat_map-append (cut_part chosen v) (parts d) (thread ds))
    ∙ ap (flat_map (cut_part chosen v)) (sym (flat_map-cons parts d ds))

cut_starts : (chosen : Part → List Pair) (v : Volume) (ds : List Directory) → StartsAtRoot ds → StartsAtRoot (cut_all chosen v ds)
cut_starts chosen v [] h = h
cut_starts chosen v (d ∷ ds) h = head_pair_by v d.first d.first.dirty ∙ h

-- only the new pairs come
pub cut_effect : RunsJoin Entry → (chosen : Part → List Pair) (v : Volume) (ds : List Directory) → All (HasEnough chosen v) (thread ds)
    → Effect none (record { uses = λ b. pairs_for chosen b (thread ds); names = λ k. 0; directories = λ k. 0 }) ds (cut_all chosen v ds)
cut_effect join chosen v ds enough = record {
  uses = λ b. omega (arith, cut_uses_all join b chosen v ds (enough_each chosen v ds enough));
  names = λ k. omega (arith, cut_names_all join k chosen v ds (enough_each chosen v ds enough));
  directories = λ k. omega (arith, cut_count_all k chosen v ds);
  starts = cut_starts chosen v ds;
  delta = ap delta_of (cut_thread chosen v ds) ∙ all_deltas chosen v (thread ds);
}

-- what is said of each directory's entries stays
pub cut_all_entries : (P : List Entry → Type 0) → RunsJoin Entry → (chosen : Part → List Pair) (v : Volume) (ds : List Directory)
    → All (λ d. All (HasEnough chosen v) (parts d)) ds
    → All (λ d. P (entries d)) ds → All (λ d. P (entries d)) (cut_all chosen v ds)
cut_all_entries P join chosen v [] enough h = All-nil (λ d. P (entries d))
cut_all_entries P join chosen v (d ∷ ds) enough h =
    All-cons (λ e. P (entries e)) (cut_directory chosen v d) (cut_all chosen v ds)
    (subst P (sym (cut_directory_entries join chosen v d (All-head (λ e. All (HasEnough chosen v) (parts e)) d ds enough)))
    (All-head (λ e. P (entries e)) d ds h))
    (cut_all_entries P join chosen v ds (All-tail (λ e. All (HasEnough chosen v) (parts e)) d ds enough)
    (All-tail (λ e. P (entries e)) d ds h))

pub cut_good : RunsJoin Entry → (limits : Limits) (chosen : Part → List Pair) (v : Volume) (ds : List Directory)
    → All (HasEnough chosen v) (thread ds) → AreGood limits ds
    → AreGood limits (cut_all chosen v ds)
cut_good join limits chosen v ds enough good = record {
  order = cut_all_entries Rise join chosen v ds (enough_each chosen v ds enough) good.order;
  proper = cut_all_entries (All (IsProper limits)) join chosen v ds (enough_each chosen v ds enough) good.proper;
}

-- every name stands for what it stood for
edge_by : RunsJoin Entry → (chosen : Part → List Pair) (v : Volume) (k : Pair) (n : Name) (d : Directory) (ds : List Directory) (t : Bool)
    → begins_at k d ≡ t → All (HasEnough chosen v) (parts d)
    → entry_in (cut_all chosen v ds) k n ≡ entry_in ds k n → entry_in (cut_all chosen v (d ∷ ds)) k n ≡ entry_in (d ∷ ds) k n
edge_by join chosen v k n d ds true is enough rest =
    let after : begins_at k (cut_directory chosen v d) ≡ true = cut_begins k chosen v d ∙ is in
    rw (is, after) (ap (find (is_named n)) (cut_directory_entries join chosen v d enough))
edge_by join chosen v k n d ds false is enough rest =
    let after : begins_at k (cut_directory chosen v d) ≡ false = cut_begins k chosen v d ∙ is in
    rw (is, after) rest

cut_edges_each : RunsJoin Entry → (chosen : Part → List Pair) (v : Volume) (ds : List Directory)
    → All (λ d. All (HasEnough chosen v) (parts d)) ds
    → (k : Pair) (n : Name) → entry_in (cut_all chosen v ds) k n ≡ entry_in ds k n
cut_edges_each join chosen v [] enough k n = refl
cut_edges_each join chosen v (d ∷ ds) enough k n =
    edge_by join chosen v k n d ds (begins_at k d) refl (All-head (λ e. All (HasEnough chosen v) (parts e)) d ds enough)
    (cut_edges_each join chosen v ds (All-tail (λ e. All (HasEnough chosen v) (parts e)) d ds enough) k n)

pub cut_edges : RunsJoin Entry → (chosen : Part → List Pair) (v : Volume) (ds : List Directory) → All (HasEnough chosen v) (thread ds)
    → (k : Pair) (n : Name)
    → entry_in (cut_all chosen v ds) k n ≡ entry_in ds k n
cut_edges join chosen v ds enough = cut_edges_each join chosen v ds (enough_each chosen v ds enough)
