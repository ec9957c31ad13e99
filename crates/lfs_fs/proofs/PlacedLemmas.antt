-- Places of a directory's entries.
use Rattle.std.proofs.Common.{◌≡◌, ℕ, ◌+◌, ◌≤◌, ◌<◌, Bool, false, List, [], ◌∷◌, ◌++◌, Some, refl, ap, sym, ◌∙◌, subst, arith, map, length}
use Rattle.std.proofs.Common.{drop, get_or, zero, suc, append_assoc, inl, inr}
use Rattle.std.specs.Prelude.{◌==◌, flat_map, slice_get, IsSome, IfSome, if◌then◌else◌}
use Rattle.std.proofs.lemmas.Bool.Decides.{nat_tests}
use Rattle.std.specs.List.{All}
use Rattle.std.specs.Option.{option_and_then, unwrap_or}
use Rattle.std.proofs.lemmas.Option.{slice_get_cases}
use Rattle.std.proofs.lemmas.List.{map-append, length-append, length-map}
use Rattle.std.proofs.lemmas.List.Concat.{flat_map-cons}
use Rattle.std.proofs.lemmas.List.Elements.{All-nil, All-cons, All-append}
use Rattle.lfs_fs.specs.declared.place.Place.{Place}
use Rattle.lfs_fs.specs.Entry.{Entry}
use Rattle.lfs_fs.specs.Directory.{Part, Directory, parts, entries}
use Rattle.lfs_fs.specs.Volume.{Volume}
use Rattle.lfs_fs.specs.Tree.{top}
use Rattle.lfs_fs.specs.Listed.{Listed}
use Rattle.lfs_fs.specs.Placed.{entry_in_directories, entry_placed, ArePlaces, no_entry, listed_at, places_from, places_in}
use Rattle.lfs_fs.proofs.ItemLemmas.{drop_at}
use Rattle.lfs_fs.proofs.ListedLemmas.{listed_below}
use Rattle.lfs_fs.proofs.DirectoryTableLemmas.{slice_get_seam}

-- ---- what waits

-- the part before those that wait
part_pushed : (k d i len : ℕ) (ps : List Part) (p : Part) (old new back : List Place) → i < length ps → p ≡ get_or ps i p
    → len ≡ length p.entries
    → old ≡ places_in k d (i + 1) (drop (i + 1) ps) ++ back → new ≡ places_from k d i 0 len ++ old
    → new ≡ places_in k d i (drop i ps) ++ back
part_pushed k d i len ps p old new back within at len_is is new_is =
    let one : drop i ps ≡ p ∷ drop (i + 1) ps = drop_at ps i p within at in
    let places : places_from k d i 0 len ≡ places_from k d i 0 (length p.entries) = ap (places_from k d i 0) len_is in
    let next : places_in k d (i + 1) (drop (i + 1) ps) ≡ places_in k d (suc i) (drop (i + 1) ps) =
    ap (λ (j : ℕ). places_in k d j (drop (i + 1) ps)) (omega arith) in
    new_is ∙ ap (λ (xs : List Place). xs ++ old) places ∙ ap (λ (xs : List Place). places_from k d i 0 (length p.entries) ++ xs)
    (is ∙ ap (λ (xs : List Place). xs ++ back) next)
    ∙ sym (append_assoc (places_from k d i 0 (length p.entries)) (places_in k d (suc i) (drop (i + 1) ps)) back)
    ∙ ap (λ (qs : List Part). places_in k d i qs ++ back) (sym one)

pub parts_pushed : (k d i j len : ℕ) (ps : List Part) (old new back : List Place) → j ≡ i + 1 → j ≤ length ps
    → IfSome (slice_get ps i) (λ p. len ≡ length p.entries)
    → old ≡ places_in k d j (drop j ps) ++ back → new ≡ places_from k d i 0 len ++ old
    → new ≡ places_in k d i (drop i ps) ++ back
parts_pushed k d i j len ps old new back next few len_is is new_is = elim (slice_get_cases ps i).1 [
  | inl (p, within, at, there) ↦
      part_pushed k d i len ps p old new back within (sym there) (subst (λ o. IfSome o (λ (q : Part). len ≡ length q.entries)) at len_is)
      (is ∙ ap (λ (m : ℕ). places_in k d m (drop m ps) ++ back) next) new_is
  | inr (past, none) ↦ absurd (omega (arith, next, few, past))
]

-- ---- what stands there

below_root : (k : ℕ) → (suc k == 0) ≡ false
below_root k = grind (arith, nat_tests)

-- the entry at a place
placed_at : (v : Volume) (k i j n : ℕ) (d : Directory) (p : Part) (e : Entry) → slice_get v.directories i ≡ Some d
    → slice_get (parts d) j ≡ Some p → slice_get p.entries n ≡ Some e
    → entry_placed v (record { depth = suc k; directory = i; part = j; entry = n }) ≡ Some e
placed_at v k i j n d p e at there is =
    ap (λ (b : Bool). if b then Some (top v) else entry_in_directories v.directories
    (record { depth = suc k; directory = i; part = j; entry = n })) (below_root k)
    ∙ ap (option_and_then (λ (c : Directory). option_and_then (λ (x : Part). slice_get x.entries n) (slice_get (parts c) j))) at
    ∙ ap (option_and_then (λ (x : Part). slice_get x.entries n)) there ∙ is

listed_placed : (v : Volume) (x : Place) (e : Entry) → entry_placed v x ≡ Some e → listed_at v x ≡ listed_below x.depth e
listed_placed v x e is = ap (λ o. record { depth = x.depth; entry = unwrap_or o no_entry }) is

is_place : (v : Volume) (x : Place) (e : Entry) → entry_placed v x ≡ Some e → IsSome (entry_placed v x)
is_place v x e is = rw is refl

next_in : {X : Type 0} (front : List X) (x : X) (n : ℕ) → n ≡ length front → suc n ≡ length (front ++ x ∷ [])
next_in front x n is = omega (arith, is, length-append front (x ∷ []))

here_in : {X : Type 0} (xs front : List X) (x : X) (rest : List X) (n : ℕ) → n ≡ length front → xs ≡ front ++ x ∷ rest
    → slice_get xs n ≡ Some x
here_in xs front x rest n is complete = ap (slice_get xs) is ∙ ap (λ ys. slice_get ys (length front)) complete ∙ slice_get_seam front x rest

-- places of a part, and the entries there
module _ (v : Volume) (k i : ℕ) (d : Directory) (at : slice_get v.directories i ≡ Some d) where
  listed_from : (j n : ℕ) (p : Part) (front rest : List Entry) → slice_get (parts d) j ≡ Some p → n ≡ length front
      → p.entries ≡ front ++ rest
      → (map (listed_at v) (places_from (suc k) i j n (length rest)) ≡ map (listed_below (suc k)) rest)
      × ArePlaces v (places_from (suc k) i j n (length rest))
  listed_from j n p front [] there is complete = (refl, All-nil (λ (x : Place). IsSome (entry_placed v x)))
  listed_from j n p front (e ∷ rest) there is complete =
      let x : Place = record { depth = suc k; directory = i; part = j; entry = n } in
      let one : entry_placed v x ≡ Some e = placed_at v k i j n d p e at there (here_in p.entries front e rest n is complete) in
      let more = listed_from j (suc n) p (front ++ e ∷ []) rest there (next_in front e n is)
      (complete ∙ sym (append_assoc front (e ∷ []) rest)) in (
        ap (λ (y : Listed). y ∷ map (listed_at v) (places_from (suc k) i j (suc n) (length rest))) (listed_placed v x e one)
            ∙ ap (λ (ys : List Listed). listed_below (suc k) e ∷ ys) more.0,
        All-cons (λ (y : Place). IsSome (entry_placed v y)) x (places_from (suc k) i j (suc n) (length rest)) (is_place v x e one) more.1,
      )

  listed_in : (j : ℕ) (front rest : List Part) → j ≡ length front → parts d ≡ front ++ rest
      → (map (listed_at v) (places_in (suc k) i j rest) ≡ map (listed_below (suc k)) (flat_map (λ p. p.entries) rest))
      × ArePlaces v (places_in (suc k) i j rest)
  listed_in j front [] is complete = (refl, All-nil (λ (x : Place). IsSome (entry_placed v x)))
  listed_in j front (p ∷ rest) is complete =
      let first = listed_from j 0 p [] p.entries (here_in (parts d) front p rest j is complete) refl refl in
      let more = listed_in (suc j) (front ++ p ∷ []) rest (next_in front p j is) (complete ∙ sym (append_assoc front (p ∷ []) rest)) in
      let here = places_from (suc k) i j 0 (length p.entries) in
      let later = places_in (suc k) i (suc j) rest in (
        map-append (listed_at v) here later ∙ ap (λ (ys : List Listed). ys ++ map (listed_at v) later) first.0
            ∙ ap (λ (ys : List Listed). map (listed_below (suc k)) p.entries ++ ys) more.0
            ∙ sym (map-append (listed_below (suc k)) p.entries (flat_map (λ (q : Part). q.entries) rest))
            ∙ ap (map (listed_below (suc k))) (sym (flat_map-cons (λ (q : Part). q.entries) p rest)),
        All-append (λ (x : Place). IsSome (entry_placed v x)) here later first.1 more.1,
      )

-- the places of a directory's entries
pub listed_children : (v : Volume) (k i : ℕ) (d : Directory) → slice_get v.directories i ≡ Some d
    → map (listed_at v) (places_in (suc k) i 0 (parts d)) ≡ map (listed_below (suc k)) (entries d)
listed_children v k i d at = (listed_in v k i d at 0 [] (parts d) refl refl).0

pub are_places : (v : Volume) (k i : ℕ) (d : Directory) → slice_get v.directories i ≡ Some d → ArePlaces v (places_in (suc k) i 0 (parts d))
are_places v k i d at = (listed_in v k i d at 0 [] (parts d) refl refl).1

pub count_places : (v : Volume) (k i : ℕ) (d : Directory) → slice_get v.directories i ≡ Some d
    → length (places_in (suc k) i 0 (parts d)) ≡ length (entries d)
count_places v k i d at =
    let places = places_in (suc k) i 0 (parts d) in
    omega (arith, ap length (listed_children v k i d at), length-map places (listed_at v), length-map (entries d) (listed_below (suc k)))

-- ---- their depth

depth_from : (k i j n more m : ℕ) → k ≤ m → All (λ (x : Place). x.depth ≤ m) (places_from k i j n more)
depth_from k i j n zero m few = All-nil (λ (x : Place). x.depth ≤ m)
depth_from k i j n (suc more) m few = All-cons (λ (x : Place). x.depth ≤ m) (record { depth = k; directory = i; part = j; entry = n })
    (places_from k i j (suc n) more) few (depth_from k i j (suc n) more m few)

pub depth_in : (k i j : ℕ) (ps : List Part) (m : ℕ) → k ≤ m → All (λ (x : Place). x.depth ≤ m) (places_in k i j ps)
depth_in k i j [] m few = All-nil (λ (x : Place). x.depth ≤ m)
depth_in k i j (p ∷ ps) m few = All-append (λ (x : Place). x.depth ≤ m) (places_from k i j 0 (length p.entries)) (places_in k i (suc j) ps)
    (depth_from k i j 0 (length p.entries) m few) (depth_in k i (suc j) ps m few)
