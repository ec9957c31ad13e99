-- In a sound volume one path at most leads to each directory.
use Rattle.std.proofs.Common.{◌≡◌, ◌+◌, ◌≤◌, Bool, true, false, List, [], ◌∷◌, Option, Some, None, refl, ap, sym, ◌∙◌, arith, inl, inr}
use Rattle.std.specs.Prelude.{sum_by, count_by, find, if◌then◌else◌, nat_le}
use Rattle.std.specs.Option.{option_and_then}
use Rattle.std.proofs.lemmas.Bool.Decides.{nat_tests}
use Rattle.std.proofs.lemmas.List.Sums.{sum_by-cons, sum_by-le-sum_by}
use Rattle.std.proofs.lemmas.Option.{none-some, same_Some}
use Rattle.std.proofs.lemmas.Slice.Eq.{bytes_eq-Decides}
use Rattle.lfs_meta.specs.Name.{Name}
use Rattle.lfs_meta.specs.Body.{Pair}
use Rattle.lfs_fs.specs.Path.{Path}
use Rattle.lfs_fs.specs.Pair.{root, same_pair}
use Rattle.lfs_fs.specs.Entry.{Entry, target, is_named}
use Rattle.lfs_fs.specs.Directory.{Directory, entries, key, begins_at}
use Rattle.lfs_fs.specs.Volume.{Volume}
use Rattle.lfs_fs.specs.Tree.{entry_in, entry_at, top}
use Rattle.lfs_fs.specs.Uses.{times, pair_uses, directory_uses, uses}
use Rattle.lfs_fs.specs.Named.{leads_to, names_of, named}
use Rattle.lfs_fs.specs.Sound.{IsSound}
use Rattle.lfs_fs.proofs.CountLemmas.{leads_once}
use Rattle.lfs_law.proofs.Walks.{LeadOnce, one_walk}
use Rattle.lfs_law.proofs.Decided.{same_pair_decides, same_pair_or_not, same_name_or_not}
use Rattle.lfs_law.proofs.Found.{found_passes, found_le, two_found_le}

-- ---- a pair begins one directory at most

begins_uses : (le : Bool) (k p : Pair) → (if same_pair k (if le then p else (p.1, p.0)) then 1 else 0) ≤ times k.0 (p.0 ∷ p.1 ∷ [])
begins_uses true k p = grind (arith, nat_tests)
begins_uses false k p = grind (arith, nat_tests)

directory_begins : (k : Pair) (d : Directory) → (if begins_at k d then 1 else 0) ≤ directory_uses k.0 d
directory_begins k d = omega (
  arith,
  begins_uses (nat_le d.first.pair.0 d.first.pair.1) k d.first.pair,
  sum_by-cons (pair_uses k.0) d.first d.more,
)

-- no more directories begin at a pair than its lesser block is used
pub count_le_uses : (k : Pair) (v : Volume) → count_by (begins_at k) v.directories ≤ uses k.0 v
count_le_uses k v = sum_by-le-sum_by (λ (d : Directory). if begins_at k d then 1 else 0) (directory_uses k.0) v.directories
    (directory_begins k)

pub one_directory : (v : Volume) → IsSound v → (k : Pair) → count_by (begins_at k) v.directories ≤ 1
one_directory v sound k = omega (arith, count_le_uses k v, sound.once k.0)

pub named_once : (v : Volume) → IsSound v → (k : Pair) → named k v ≤ 1
named_once v sound k = omega (arith, sound.names k, one_directory v sound k)

-- ---- an edge is an entry of a directory

-- a directory and an entry of it, each found by its test
pub entry_found : (ds : List Directory) (k : Pair) (n : Name) (e : Entry) → entry_in ds k n ≡ Some e
    → (d : Directory) × (find (begins_at k) ds ≡ Some d) × (find (is_named n) (entries d) ≡ Some e)
entry_found ds k n e h = found_in (find (begins_at k) ds) h
  where
    found_in : (o : Option Directory) → option_and_then (λ (d : Directory). find (is_named n) (entries d)) o ≡ Some e
        → (d : Directory) × (o ≡ Some d) × (find (is_named n) (entries d) ≡ Some e)
    found_in None h = absurd (none-some e h)
    found_in (Some d) h = (d, refl, h)

pub found_key : (ds : List Directory) (k : Pair) (d : Directory) → find (begins_at k) ds ≡ Some d → k ≡ key d
found_key ds k d h = (same_pair_decides k (key d)).0 (found_passes (begins_at k) ds d h)

pub found_name : (es : List Entry) (n : Name) (e : Entry) → find (is_named n) es ≡ Some e → n ≡ e.name
found_name es n e h = (bytes_eq-Decides n e.name).0 (found_passes (is_named n) es e h)

-- an entry of a directory names what it leads to
found_names : (i : Pair) (d : Directory) (n : Name) (e : Entry) → find (is_named n) (entries d) ≡ Some e → target e ≡ Some i
    → 1 ≤ names_of i d
found_names i d n e h leads =
    let few : leads_to i (target e) ≤ names_of i d = found_le (λ (x : Entry). leads_to i (target x)) (is_named n) (entries d) e h in
    omega (arith, few, leads_once i (target e) leads)

-- two entries of one directory that lead to one place have one name
one_name : (i : Pair) (d : Directory) (n m : Name) (e f : Entry) → find (is_named n) (entries d) ≡ Some e
    → find (is_named m) (entries d) ≡ Some f → target e ≡ Some i
    → target f ≡ Some i → names_of i d ≤ 1 → n ≡ m
one_name i d n m e f h k leads leads' once = elim (same_name_or_not n m) [
  | inl same ↦ same
  | inr different ↦ (
      let apart : e ≡ f → ⊥ = λ is. different (found_name (entries d) n e h ∙ ap (λ (x : Entry). x.name) is
      ∙ sym (found_name (entries d) m f k)) in
      let both : leads_to i (target e) + leads_to i (target f) ≤ names_of i d =
      two_found_le (λ (x : Entry). leads_to i (target x)) (is_named n) (is_named m) (entries d) e f h k apart in
      absurd (omega (arith, both, leads_once i (target e) leads, leads_once i (target f) leads', once))
      )
]

-- two edges that lead to one place are one
one_edge : (ds : List Directory) (k j i : Pair) (n m : Name) (e f : Entry) → sum_by (names_of i) ds ≤ 1 → entry_in ds k n ≡ Some e
    → entry_in ds j m ≡ Some f
    → target e ≡ Some i → target f ≡ Some i → (k ≡ j) × (n ≡ m)
one_edge ds k j i n m e f once h h' leads leads' =
    let a = entry_found ds k n e h in
    let b = entry_found ds j m f h' in
    let here : 1 ≤ names_of i a.0 = found_names i a.0 n e a.2 leads in
    let there : 1 ≤ names_of i b.0 = found_names i b.0 m f b.2 leads' in
    elim (same_pair_or_not k j) [
      | inl same ↦ (
          let d_is : a.0 ≡ b.0 = same_Some a.0 b.0 (sym a.1 ∙ ap (λ (x : Pair). find (begins_at x) ds) same ∙ b.1) in
          let f_in : find (is_named m) (entries a.0) ≡ Some f = ap (λ (x : Directory). find (is_named m) (entries x)) d_is ∙ b.2 in
          let few : names_of i a.0 ≤ sum_by (names_of i) ds = found_le (names_of i) (begins_at k) ds a.0 a.1 in
          (same, one_name i a.0 n m e f a.2 f_in leads leads' (omega (arith, few, once)))
          )
      | inr different ↦ (
          let apart : a.0 ≡ b.0 → ⊥ = λ is. different (found_key ds k a.0 a.1 ∙ ap key is ∙ sym (found_key ds j b.0 b.1)) in
          let both : names_of i a.0 + names_of i b.0 ≤ sum_by (names_of i) ds =
          two_found_le (names_of i) (begins_at k) (begins_at j) ds a.0 b.0 a.1 b.1 apart in
          absurd (omega (arith, both, here, there, once))
          )
    ]

-- no entry leads to the root
no_edge_to_root : (v : Volume) → IsSound v → (k i : Pair) (n : Name) (e : Entry) → entry_in v.directories k n ≡ Some e → target e ≡ Some i
    → target (top v) ≡ Some i → ⊥
no_edge_to_root v sound k i n e h leads at_root =
    let a = entry_found v.directories k n e h in
    let here : 1 ≤ names_of i a.0 = found_names i a.0 n e a.2 leads in
    let few : names_of i a.0 ≤ sum_by (names_of i) v.directories = found_le (names_of i) (begins_at k) v.directories a.0 a.1 in
    let root_is : leads_to i (Some root) ≡ 1 = leads_once i (Some root) at_root in
    omega (arith, here, few, root_is, named_once v sound i)

pub lead_once : (v : Volume) → IsSound v → LeadOnce target (entry_in v.directories) (top v)
lead_once v sound = record {
  one = λ k j i n m e f h h' leads leads'. one_edge v.directories k j i n m e f (omega (arith, named_once v sound i)) h h' leads leads';
  top_alone = no_edge_to_root v sound;
}

-- paths that lead to one directory are one
pub one_path : (v : Volume) → IsSound v → (p q : Path) (e f : Entry) (k : Pair) → entry_at v p ≡ Some e → entry_at v q ≡ Some f
    → target e ≡ Some k → target f ≡ Some k → p ≡ q
one_path v sound = one_walk target (entry_in v.directories) (top v) (lead_once v sound)
