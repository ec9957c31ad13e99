-- What an outline shares with its volume.
use Rattle.std.proofs.Common.{◌≡◌, ◌+◌, ◌==◌, ℕ, Bool, true, false, List, [], ◌∷◌, ◌++◌, length, map, Option, Some, None, refl, ap, sym}
use Rattle.std.proofs.Common.{◌∙◌, subst, arith, cond}
use Rattle.std.specs.Prelude.{All, sum_by, count_by, find, bit_xor, if◌then◌else◌}
use Rattle.std.specs.List.{range_with_len}
use Rattle.std.specs.Option.{option_map, option_and_then}
use Rattle.std.proofs.lemmas.List.{map-append, length-replicate}
use Rattle.std.proofs.lemmas.List.Elements.{All-cons, All-nil, All-head, All-tail, All-map, All-weaker, filter_agree}
use Rattle.std.proofs.lemmas.List.Sums.{sum_by-cons}
use Rattle.lfs_meta.specs.Name.{Name}
use Rattle.lfs_meta.specs.Body.{Pair}
use Rattle.lfs_fs.specs.Graph.{entry_within, walk}
use Rattle.lfs_fs.specs.Path.{Path}
use Rattle.lfs_fs.specs.Pair.{root}
use Rattle.lfs_fs.specs.NameOrder.{precedes}
use Rattle.lfs_fs.specs.Entry.{Entry, Body, Inline, Chain, Directory_at, body_length, body_target, target, is_named}
use Rattle.lfs_fs.specs.Directory.{Part, Directory, parts, entries, key, begins_at, thread}
use Rattle.lfs_fs.specs.Volume.{Volume}
use Rattle.lfs_fs.specs.Tree.{entry_in, entry_at, top, Reached}
use Rattle.lfs_fs.specs.Uses.{body_uses, entry_uses, pair_uses, directory_uses, uses}
use Rattle.lfs_fs.specs.Free.{free_blocks}
use Rattle.lfs_fs.specs.Named.{leads_to, names_of, named}
use Rattle.lfs_fs.specs.State.{delta_of}
use Rattle.lfs_fs.specs.Sound.{Rise}
use Rattle.lfs_fs.specs.Outlined.{outlined_body, outlined_entry, outlined_part, outlined_directory, outlined_directories, outlined}
use Rattle.lfs_fs.specs.Gathering.{part_entries}

-- ---- lists

pub sum_same : {X : Type 0} (f : X → ℕ) (g : X → X) → ((x : X) → f (g x) ≡ f x) → (xs : List X) → sum_by f (map g xs) ≡ sum_by f xs
sum_same f g same [] = refl
sum_same f g same (x ∷ xs) = omega (arith, sum_by-cons f (g x) (map g xs), sum_by-cons f x xs, same x, sum_same f g same xs)

pub count_same : {X : Type 0} (p : X → Bool) (g : X → X) → ((x : X) → p (g x) ≡ p x) → (xs : List X) → count_by p (map g xs) ≡ count_by p xs
count_same p g same xs = sum_same (λ x. cond {A = ℕ} (p x) 1 0) g (λ x. ap (λ b. cond {A = ℕ} b 1 0) (same x)) xs

find_by : {X : Type 0} (b : Bool) (g : X → X) (x : X) (o : Option X) → (if b then Some (g x) else option_map g o)
    ≡ option_map g (if b then Some x else o)
find_by true g x o = refl
find_by false g x o = refl

pub find_mapped : {X : Type 0} (p : X → Bool) (g : X → X) → ((x : X) → p (g x) ≡ p x) → (xs : List X)
    → find p (map g xs) ≡ option_map g (find p xs)
find_mapped p g same [] = refl
find_mapped p g same (x ∷ xs) =
    ap (λ b. if b then Some (g x) else find p (map g xs)) (same x)
    ∙ ap (λ o. if p x then Some (g x) else o) (find_mapped p g same xs)
    ∙ find_by (p x) g x (find p xs)

-- ---- entries

pub outlined_part_entries : (ps : List Part) → part_entries (map outlined_part ps) ≡ map outlined_entry (part_entries ps)
outlined_part_entries [] = refl
outlined_part_entries (p ∷ ps) = ap (λ (es : List Entry). map outlined_entry p.entries ++ es) (outlined_part_entries ps)
    ∙ sym (map-append outlined_entry p.entries (part_entries ps))

pub outlined_entries : (d : Directory) → entries (outlined_directory d) ≡ map outlined_entry (entries d)
outlined_entries d = outlined_part_entries (parts d)

pub outlined_length : (b : Body) → body_length (outlined_body b) ≡ body_length b
outlined_length (Inline bytes) = refl
outlined_length (Chain blocks bytes) = length-replicate (length bytes) 0
outlined_length (Directory_at pair) = refl

pub body_leads_on : (b : Body) → body_target (outlined_body b) ≡ body_target b
body_leads_on (Inline bytes) = refl
body_leads_on (Chain blocks bytes) = refl
body_leads_on (Directory_at pair) = refl

pub outlined_target : (e : Entry) → target (outlined_entry e) ≡ target e
outlined_target e = body_leads_on e.body

pub body_uses_same : (b : ℕ) (body : Body) → body_uses b (outlined_body body) ≡ body_uses b body
body_uses_same b (Inline bytes) = refl
body_uses_same b (Chain blocks bytes) = refl
body_uses_same b (Directory_at pair) = refl

-- ---- blocks

pub directory_uses_same : (b : ℕ) (d : Directory) → directory_uses b (outlined_directory d) ≡ directory_uses b d
directory_uses_same b d =
    let pairs : sum_by (pair_uses b) (parts (outlined_directory d)) ≡ sum_by (pair_uses b) (parts d) =
    sum_same (pair_uses b) outlined_part (λ p. refl) (parts d) in
    let chains : sum_by (entry_uses b) (entries (outlined_directory d)) ≡ sum_by (entry_uses b) (entries d) =
    ap (sum_by (entry_uses b)) (outlined_entries d) ∙ sum_same (entry_uses b) outlined_entry (λ e. body_uses_same b e.body) (entries d) in
    omega (arith, pairs, chains)

pub outlined_uses : (b : ℕ) (v : Volume) → uses b (outlined v) ≡ uses b v
outlined_uses b v = sum_same (directory_uses b) outlined_directory (directory_uses_same b) v.directories

pub outlined_free : (v : Volume) → free_blocks (outlined v) ≡ free_blocks v
outlined_free v = filter_agree (λ b. uses b (outlined v) == 0) (λ b. uses b v == 0) (λ b. ap (λ n. n == 0) (outlined_uses b v))
    (range_with_len 0 v.count)

-- ---- the thread

pub outlined_thread : (ds : List Directory) → thread (outlined_directories ds) ≡ map outlined_part (thread ds)
outlined_thread [] = refl
outlined_thread (d ∷ ds) = ap (λ (ps : List Part). map outlined_part (parts d) ++ ps) (outlined_thread ds)
    ∙ sym (map-append outlined_part (parts d) (thread ds))

deltas_same : (ps : List Part) → delta_of (map outlined_part ps) ≡ delta_of ps
deltas_same [] = refl
deltas_same (p ∷ ps) = ap (bit_xor p.delta) (deltas_same ps)

pub outlined_delta : (v : Volume) → delta_of (thread (outlined v).directories) ≡ delta_of (thread v.directories)
outlined_delta v = ap delta_of (outlined_thread v.directories) ∙ deltas_same (thread v.directories)

pairs_same : (ps : List Part) → map (λ (p : Part). p.pair) (map outlined_part ps) ≡ map (λ (p : Part). p.pair) ps
pairs_same [] = refl
pairs_same (p ∷ ps) = ap (λ (ks : List Pair). p.pair ∷ ks) (pairs_same ps)

-- ---- directories

pub outlined_begins : (k : Pair) (v : Volume) → count_by (begins_at k) (outlined v).directories ≡ count_by (begins_at k) v.directories
outlined_begins k v = count_same (begins_at k) outlined_directory (λ d. refl) v.directories

names_same : (k : Pair) (d : Directory) → names_of k (outlined_directory d) ≡ names_of k d
names_same k d =
    ap (sum_by (λ (e : Entry). leads_to k (target e))) (outlined_entries d)
    ∙ sum_same (λ (e : Entry). leads_to k (target e)) outlined_entry (λ e. ap (leads_to k) (outlined_target e)) (entries d)

pub outlined_named : (k : Pair) (v : Volume) → named k (outlined v) ≡ named k v
outlined_named k v = ap (λ n. leads_to k (Some root) + n) (sum_same (names_of k) outlined_directory (names_same k) v.directories)

-- ---- names in order

name_before : (e : Entry) (es : List Entry) → All (λ f. precedes e.name f.name ≡ true) (map outlined_entry es)
    → All (λ f. precedes e.name f.name ≡ true) es
name_before e [] all = All-nil (λ (f : Entry). precedes e.name f.name ≡ true)
name_before e (f ∷ es) all =
    All-cons (λ (x : Entry). precedes e.name x.name ≡ true) f es
    (All-head (λ (x : Entry). precedes e.name x.name ≡ true) (outlined_entry f) (map outlined_entry es) all)
    (name_before e es (All-tail (λ (x : Entry). precedes e.name x.name ≡ true) (outlined_entry f) (map outlined_entry es) all))

-- names rise in a volume where they do in its outline
pub rise_of_outlined : (es : List Entry) → Rise (map outlined_entry es) → Rise es
rise_of_outlined [] rise = tt
rise_of_outlined (e ∷ es) rise = (name_before e es rise.0, rise_of_outlined es rise.1)

-- and in the outline where they do in the volume
pub rise_outlined : (es : List Entry) → Rise es → Rise (map outlined_entry es)
rise_outlined [] rise = tt
rise_outlined (e ∷ es) rise = (All-map (λ (f : Entry). precedes e.name f.name ≡ true) outlined_entry es rise.0, rise_outlined es rise.1)

pub all_rise : (ds : List Directory) → All (λ d. Rise (entries d)) (outlined_directories ds) → All (λ d. Rise (entries d)) ds
all_rise [] all = All-nil (λ (d : Directory). Rise (entries d))
all_rise (d ∷ ds) all =
    All-cons (λ (x : Directory). Rise (entries x)) d ds
    (rise_of_outlined (entries d) (subst Rise (outlined_entries d) (All-head (λ (x : Directory). Rise (entries x)) (outlined_directory d)
    (outlined_directories ds) all)))
    (all_rise ds (All-tail (λ (x : Directory). Rise (entries x)) (outlined_directory d) (outlined_directories ds) all))

pub all_rise_outlined : (ds : List Directory) → All (λ d. Rise (entries d)) ds → All (λ d. Rise (entries d)) (outlined_directories ds)
all_rise_outlined ds all =
    All-map (λ (d : Directory). Rise (entries d)) outlined_directory ds
    (All-weaker (λ (d : Directory). Rise (entries d)) (λ (d : Directory). Rise (entries (outlined_directory d)))
    (λ d rise. subst Rise (sym (outlined_entries d)) (rise_outlined (entries d) rise)) ds all)

-- ---- paths

pub entry_of_found : (n : Name) (o : Option Directory) → option_and_then (λ d. find (is_named n) (entries d)) (option_map outlined_directory o)
    ≡ option_map outlined_entry (option_and_then (λ d. find (is_named n) (entries d)) o)
entry_of_found n None = refl
entry_of_found n (Some d) = ap (find (is_named n)) (outlined_entries d) ∙ find_mapped (is_named n) outlined_entry (λ e. refl) (entries d)

pub entry_in_same : (ds : List Directory) (k : Pair) (n : Name) → entry_in (outlined_directories ds) k n
    ≡ option_map outlined_entry (entry_in ds k n)
entry_in_same ds k n = ap (option_and_then (λ d. find (is_named n) (entries d)))
    (find_mapped (begins_at k) outlined_directory (λ d. refl) ds) ∙ entry_of_found n (find (begins_at k) ds)

pub step_on : (ds : List Directory) (n : Name) (o : Option Pair) → option_and_then (λ k. entry_in (outlined_directories ds) k n) o
    ≡ option_map outlined_entry (option_and_then (λ k. entry_in ds k n) o)
step_on ds n None = refl
step_on ds n (Some k) = entry_in_same ds k n

step_same : (ds : List Directory) (n : Name) (here : Option Entry) → entry_within target (entry_in (outlined_directories ds)) n
    (option_map outlined_entry here) ≡ option_map outlined_entry (entry_within target (entry_in ds) n here)
step_same ds n None = refl
step_same ds n (Some e) = ap (option_and_then (λ k. entry_in (outlined_directories ds) k n)) (outlined_target e) ∙ step_on ds n (target e)

pub walk_same : (ds : List Directory) (here : Option Entry) (path : Path)
    → walk target (entry_in (outlined_directories ds)) (option_map outlined_entry here) path
    ≡ option_map outlined_entry (walk target (entry_in ds) here path)
walk_same ds here [] = refl
walk_same ds here (n ∷ ns) =
    ap (λ (o : Option Entry). walk target (entry_in (outlined_directories ds)) o ns) (step_same ds n here)
    ∙ walk_same ds (entry_within target (entry_in ds) n here) ns

pub outlined_at : (v : Volume) (path : Path) → entry_at (outlined v) path ≡ option_map outlined_entry (entry_at v path)
outlined_at v path = walk_same v.directories (Some (top v)) path

-- ---- what is reached

pub outlined_reached : (v : Volume) (k : Pair) → Reached v k → Reached (outlined v) k
outlined_reached v k (path, e, at, leads) = (
  path,
  outlined_entry e,
  outlined_at v path ∙ ap (option_map outlined_entry) at,
  outlined_target e ∙ leads,
)

reached_by : (v : Volume) (k : Pair) (path : Path) (o : Option Entry) (f : Entry) → entry_at v path ≡ o
    → option_map outlined_entry o ≡ Some f → target f ≡ Some k → Reached v k
reached_by v k path None f at is leads = cc
reached_by v k path (Some e) f at is leads =
    let same : outlined_entry e ≡ f = cc in
    (path, e, at, sym (outlined_target e) ∙ ap target same ∙ leads)

pub reached_of_outlined : (v : Volume) (k : Pair) → Reached (outlined v) k → Reached v k
reached_of_outlined v k (path, f, at, leads) = reached_by v k path (entry_at v path) f refl (sym (outlined_at v path) ∙ at) leads

pub all_reached : (v : Volume) (ds : List Directory) → All (λ d. Reached (outlined v) (key d)) (outlined_directories ds)
    → All (λ d. Reached v (key d)) ds
all_reached v [] all = All-nil (λ (d : Directory). Reached v (key d))
all_reached v (d ∷ ds) all =
    All-cons (λ (x : Directory). Reached v (key x)) d ds
    (reached_of_outlined v (key d) (All-head (λ (x : Directory). Reached (outlined v) (key x)) (outlined_directory d)
    (outlined_directories ds) all))
    (all_reached v ds (All-tail (λ (x : Directory). Reached (outlined v) (key x)) (outlined_directory d) (outlined_directories ds) all))
