-- How often a front and a whole thread use a block and name a directory.
use Rattle.std.proofs.Common.{◌≡◌, ◌⊎◌, ℕ, ◌+◌, ◌≤◌, Bool, true, false, List, [], ◌∷◌, ◌++◌, refl, ap, sym, ◌∙◌, subst, arith, append-nil}
use Rattle.std.proofs.Common.{map, Option, Some, None}
use Rattle.std.specs.Prelude.{Contains, sum_by, count_by, if◌then◌else◌, nat_le, option_to_list}
use Rattle.std.proofs.lemmas.Bool.Decides.{nat_tests}
use Rattle.std.proofs.lemmas.List.{map-append}
use Rattle.std.proofs.lemmas.List.Sums.{sum_by-cons, sum_by-append, get_or-le-sum_by, sum_by-le-sum_by}
use mathlib.Core.Logic.{inl, inr}
use Rattle.lfs_meta.specs.Body.{Pair}
use Rattle.lfs_meta.specs.Part.{StoredPart}
use Rattle.lfs_fs.specs.Pair.{root, same_pair}
use Rattle.lfs_fs.specs.Entry.{Entry, target}
use Rattle.lfs_fs.specs.Directory.{Part, Directory, parts, entries, begins_at}
use Rattle.lfs_fs.specs.Volume.{Volume}
use Rattle.lfs_fs.specs.Uses.{times, entry_uses, pair_uses, directory_uses, uses}
use Rattle.lfs_fs.specs.Named.{leads_to, names_of, named}
use Rattle.lfs_fs.specs.Thread.{Link}
use Rattle.lfs_fs.specs.Reading.{Reading}
use Rattle.lfs_fs.specs.Front.{Follow, Begins, pair_names, pairs_name, next_after, next_pair, IsThread}
use Rattle.lfs_fs.specs.Superblock.{Header}
use Rattle.lfs_fs.specs.Held.{link_of, link_at, volume_at}
use Rattle.lfs_fs.specs.Sound.{IsSound}
use Rattle.lfs_fs.proofs.OneMountLemmas.{follow_after}
use Rattle.lfs_fs.proofs.PrefixLemmas.{IsSum, sum_pieces}

-- ---- sums over parts

abbrev pub part_uses : ℕ → Part → ℕ
part_uses b p = pair_uses b p + sum_by (entry_uses b) p.entries

uses_sum : (b : ℕ) → IsSum (directory_uses b) (part_uses b)
uses_sum b = record {
  one = λ p. omega (arith, sum_by-cons (pair_uses b) p [], sum_by-append (entry_uses b) p.entries []);
  more = λ p d. omega (arith, sum_by-cons (pair_uses b) p (parts d), sum_by-append (entry_uses b) p.entries (entries d));
}

abbrev pub part_names : Pair → Part → ℕ
part_names k p = sum_by (λ e. leads_to k (target e)) p.entries

names_sum : (k : Pair) → IsSum (names_of k) (part_names k)
names_sum k = record {
  one = λ p. omega (arith, sum_by-append (λ (e : Entry). leads_to k (target e)) p.entries []);
  more = λ p d. sum_by-append (λ (e : Entry). leads_to k (target e)) p.entries (entries d);
}

-- over the pairs of a front
pub uses_at : (r : Reading) (h : Header) (b : ℕ) (ps : List Pair) → uses b (volume_at r h ps)
    ≡ sum_by (λ (l : Link). part_uses b l.part) (map (link_at r) ps)
uses_at r h b ps = sum_pieces (directory_uses b) (part_uses b) (map (link_at r) ps) (uses_sum b)

pub named_at : (r : Reading) (h : Header) (k : Pair) (ps : List Pair)
    → named k (volume_at r h ps) ≡ leads_to k (Some root) + sum_by (λ (l : Link). part_names k l.part) (map (link_at r) ps)
named_at r h k ps = ap (λ x. leads_to k (Some root) + x) (sum_pieces (names_of k) (part_names k) (map (link_at r) ps) (names_sum k))

pub link_pair : (r : Reading) (q : Pair) (o : Option StoredPart) → (link_of r q o).part.pair ≡ q
link_pair r q None = refl
link_pair r q (Some s) = refl

sums : (f : Link → ℕ) (r : Reading) (front rest : List Pair) → sum_by f (map (link_at r) (front ++ rest))
    ≡ sum_by f (map (link_at r) front) + sum_by f (map (link_at r) rest)
sums f r front rest = ap (sum_by f) (map-append (link_at r) front rest) ∙ sum_by-append f (map (link_at r) front) (map (link_at r) rest)

-- what may come behind a beginning of the thread
abbrev pub Ends : List Pair → Option Pair → Type 0
Ends rest next = (next ≡ None) ⊎ ((q : Pair) × (more : List Pair) × (next ≡ Some q) × (rest ≡ q ∷ more))

pub ends_by : (r : Reading) (ps front rest : List Pair) → IsThread r ps → ps ≡ front ++ rest → Ends rest (next_after r front)
ends_by r ps front [] h is = inl (ap (next_after r) (sym (is ∙ append-nil front)) ∙ h.ends)
ends_by r ps front (q ∷ more) h is = inr (
  q,
  more,
  follow_after (next_pair r) (Some root) front q more
      (subst (Follow (next_pair r) (Some root)) is h.front.follow),
  refl,
)

one_pair : (b : ℕ) (q : Pair) → pairs_name b (q ∷ []) ≡ pair_names b q
one_pair b q = omega arith

-- a beginning and the pair behind it use no block more often than the thread
front_uses : (r : Reading) (b : ℕ) (front rest : List Pair) (next : Option Pair) → Ends rest next
    → sum_by (λ (l : Link). part_uses b l.part) (map (link_at r) front) + pairs_name b (option_to_list next)
    ≤ sum_by (λ (l : Link). part_uses b l.part) (map (link_at r) (front ++ rest))
front_uses r b front rest next (inl none) =
    let complete = sums (λ (l : Link). part_uses b l.part) r front rest in
    let no : pairs_name b (option_to_list next) ≡ 0 = ap (λ (o : Option Pair). pairs_name b (option_to_list o)) none in
    omega arith
front_uses r b front rest next (inr (q, more, some, is)) =
    let complete = sums (λ (l : Link). part_uses b l.part) r front rest in
    let one : pairs_name b (option_to_list next) ≡ pair_names b q = ap (λ (o : Option Pair). pairs_name b (option_to_list o)) some
    ∙ one_pair b q in
    let same : pair_uses b (link_at r q).part ≡ pair_names b q = ap (pair_names b) (link_pair r q (r.part q)) in
    let rest_is : sum_by (λ (l : Link). part_uses b l.part) (map (link_at r) rest)
    ≡ part_uses b (link_at r q).part + sum_by (λ (l : Link). part_uses b l.part) (map (link_at r) more) =
    ap (λ (x : List Pair). sum_by (λ (l : Link). part_uses b l.part) (map (link_at r) x)) is
    ∙ sum_by-cons (λ (l : Link). part_uses b l.part) (link_at r q) (map (link_at r) more) in
    omega arith

pub uses_of_front : (r : Reading) (h k : Header) (b : ℕ) (ps front : List Pair) → IsThread r ps → Begins front ps
    → uses b (volume_at r h front) + pairs_name b (option_to_list (next_after r front)) ≤ uses b (volume_at r k ps)
uses_of_front r h k b ps front thread begins =
    let ends = ends_by r ps front begins.0 thread begins.1 in
    let few = front_uses r b front begins.0 (next_after r front) ends in
    let these = uses_at r h b front in
    let all : uses b (volume_at r k ps) ≡ sum_by (λ (l : Link). part_uses b l.part) (map (link_at r) (front ++ begins.0)) =
    uses_at r k b ps ∙ ap (λ (x : List Pair). sum_by (λ (l : Link). part_uses b l.part) (map (link_at r) x)) begins.1 in
    omega arith

-- a beginning names no directory more often than the thread
pub named_of_front : (r : Reading) (h k : Header) (p : Pair) (ps front : List Pair) → Begins front ps
    → named p (volume_at r h front) ≤ named p (volume_at r k ps)
named_of_front r h k p ps front begins =
    let complete = sums (λ (l : Link). part_names p l.part) r front begins.0 in
    let these = named_at r h p front in
    let all : named p (volume_at r k ps) ≡ leads_to p (Some root) + sum_by (λ (l : Link). part_names p l.part)
    (map (link_at r) (front ++ begins.0)) = named_at r k p ps ∙ ap (λ (x : List Pair).
    leads_to p (Some root) + sum_by (λ (l : Link). part_names p l.part) (map (link_at r) x)) begins.1 in
    omega arith

-- ---- a directory uses the blocks of its pair

begins_by : (le : Bool) (k p : Pair) → ((if same_pair k (if le then p else (p.1, p.0)) then 1 else 0) ≤ times k.0 (p.0 ∷ p.1 ∷ []))
    × ((if same_pair k (if le then p else (p.1, p.0)) then 1 else 0) ≤ times k.1 (p.0 ∷ p.1 ∷ []))
begins_by true k p = (grind (arith, nat_tests), grind (arith, nat_tests))
begins_by false k p = (grind (arith, nat_tests), grind (arith, nat_tests))

first_uses : (k : Pair) (d : Directory) → ((if begins_at k d then 1 else 0) ≤ directory_uses k.0 d)
    × ((if begins_at k d then 1 else 0) ≤ directory_uses k.1 d)
first_uses k d =
    let both = begins_by (nat_le d.first.pair.0 d.first.pair.1) k d.first.pair in
    (omega (arith, both.0, sum_by-cons (pair_uses k.0) d.first d.more), omega (arith, both.1, sum_by-cons (pair_uses k.1) d.first d.more))

pub count_uses : (k : Pair) (v : Volume) → (count_by (begins_at k) v.directories ≤ uses k.0 v)
    × (count_by (begins_at k) v.directories ≤ uses k.1 v)
count_uses k v = (
  sum_by-le-sum_by (λ (d : Directory). if begins_at k d then 1 else 0) (directory_uses k.0) v.directories (λ d. (first_uses k d).0),
  sum_by-le-sum_by (λ (d : Directory). if begins_at k d then 1 else 0) (directory_uses k.1) v.directories (λ d. (first_uses k d).1),
)

-- in a sound volume a directory is named once at most
pub named_once : (k : Pair) (v : Volume) → IsSound v → named k v ≤ 1
named_once k v sound =
    let count = (count_uses k v).0 in
    let once = sound.once k.0 in
    let names = sound.names k in
    omega arith

-- ---- an entry of a volume names what it leads to

pub element_le : {X : Type 0} (f : X → ℕ) (xs : List X) (x : X) → Contains xs x → f x ≤ sum_by f xs
element_le f xs x (k, within, is) = subst (λ y. f y ≤ sum_by f xs) is (get_or-le-sum_by f xs k x within)

pub leads_once : (k : Pair) (o : Option Pair) → o ≡ Some k → leads_to k o ≡ 1
leads_once k None is = cc
leads_once k (Some j) is = let same : j ≡ k = cc in rw same (grind (arith, nat_tests))

pub names_some : (k : Pair) (v : Volume) (d : Directory) (e : Entry) → Contains v.directories d → Contains (entries d) e → target e ≡ Some k
    → 1 ≤ named k v
names_some k v d e there member leads =
    let one = leads_once k (target e) leads in
    let in_directory : leads_to k (target e) ≤ names_of k d = element_le (λ (x : Entry). leads_to k (target x)) (entries d) e member in
    let in_volume : names_of k d ≤ sum_by (names_of k) v.directories = element_le (names_of k) v.directories d there in
    omega arith
