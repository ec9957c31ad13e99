-- The places at a byte: the file has all of each, and they are few.
use Rattle.std.proofs.Common.{◌≡◌, ℕ, ◌+◌, ◌-◌, ◌*◌, ◌≤◌, Bool, true, false, leb, List, [], ◌∷◌, ◌++◌, length, drop, Option, Some, None, refl, subst, sym, arith, length-append, length-drop}
use Rattle.std.specs.Prelude.{nat_le, IfSome, MatchBool, option_to_list, if◌then◌else◌}
use Rattle.std.specs.List.{AllByRecursion}
use Rattle.std.specs.Option.{option_or}
use Rattle.std.proofs.lemmas.Bool.{and_parts, leb-true}
use Rattle.std.proofs.lemmas.Option.{cond_some, option_and_then_some}
use Rattle.lfs_block.specs.Geometry.{is_geometry}
use Rattle.lfs_block.proofs.GeometryTests.{geometry_true}
use Rattle.lfs_lower.specs.Beginning.{begins_with}
use Rattle.lfs_lower.specs.declared.told.Superblock.{Superblock}
use Rattle.lfs_find.specs.Found.{IsBest, IsWithin, costs, extent, mounts, place_before, places_at, places_of}
use Rattle.lfs_find.specs.Place.{fits_in, place_at, place_in}
use Rattle.lfs_find.specs.declared.found.Found.{Found}
use Rattle.lfs_find.specs.declared.place.Place.{Place}

-- ---- one place

in_room : (at room : ℕ) (s : Superblock) (p : Place) → place_in at room s ≡ Some p → (p.at ≡ at) × (extent p ≤ room) × (extent p ≤ 67108864)
in_room at room s p e =
    let is = cond_some (fits_in room s) (record { at = at; version = s.version; size = s.size; count = s.count }) p e in
    let parts = and_parts (is_geometry s.size s.count) (leb (s.count * s.size) room) is.0 in
    let fits : s.count * s.size ≤ room = leb-true _ _ parts.1 in
    let small = (geometry_true s.size s.count parts.0).length_fits in
    subst (λ (q : Place). (q.at ≡ at) × (extent q ≤ room) × (extent q ≤ 67108864)) is.1 (refl, fits, small)

pub place_within : (bytes : List ℕ) (size at : ℕ) (p : Place) → at ≤ length bytes → place_at bytes size at ≡ Some p → IsWithin bytes p
place_within bytes size at p within e =
    option_and_then_some (place_in at (length (drop at bytes))) (begins_with size (drop at bytes)) p e (λ s _ f.
    let room = in_room at (length (drop at bytes)) s p f in
    (omega (arith, room.0, room.1, length-drop at bytes), room.2))

before_within : (bytes : List ℕ) (size from at : ℕ) (p : Place) → at ≤ length bytes → place_before bytes size from at ≡ Some p → IsWithin bytes p
before_within bytes size from at p within e = by_test (nat_le (from + size) at) e
  where
    by_test : (t : Bool) → (if t then place_at bytes size (at - size) else None) ≡ Some p → IsWithin bytes p
    by_test true f = place_within bytes size (at - size) p (omega arith) f
    by_test false f = absurd cc

-- ---- lists of them

module _ (P : Place → Type 0) where
  all_of_option : (o : Option Place) → ((p : Place) → o ≡ Some p → P p) → AllByRecursion P (option_to_list o)
  all_of_option None h = tt
  all_of_option (Some p) h = (h p refl, tt)

  all_joined : (ps qs : List Place) → AllByRecursion P ps → AllByRecursion P qs → AllByRecursion P (ps ++ qs)
  all_joined [] qs h k = k
  all_joined (p ∷ ps) qs h k = (h.0, all_joined ps qs h.1 k)

of_size_within : (bytes : List ℕ) (from at size : ℕ) → at ≤ length bytes → AllByRecursion (IsWithin bytes) (places_of bytes from at size)
of_size_within bytes from at size within =
    all_joined (IsWithin bytes) (option_to_list (place_at bytes size at)) (option_to_list (place_before bytes size from at))
    (all_of_option (IsWithin bytes) (place_at bytes size at) (λ p. place_within bytes size at p within))
    (all_of_option (IsWithin bytes) (place_before bytes size from at) (λ p. before_within bytes size from at p within))

pub places_within : (bytes sizes : List ℕ) (from at : ℕ) → at ≤ length bytes → AllByRecursion (IsWithin bytes) (places_at bytes sizes from at)
places_within bytes [] from at within = tt
places_within bytes (size ∷ sizes) from at within =
    all_joined (IsWithin bytes) (places_of bytes from at size) (places_at bytes sizes from at) (of_size_within bytes from at size within)
    (places_within bytes sizes from at within)

-- ---- how many they are, and what they cost

one_at_most : (o : Option Place) → length (option_to_list o) ≤ 1
one_at_most None = omega arith
one_at_most (Some p) = omega arith

two_at_most : (bytes : List ℕ) (from at size : ℕ) → length (places_of bytes from at size) ≤ 2
two_at_most bytes from at size =
    omega (
      arith,
      length-append (option_to_list (place_at bytes size at)) (option_to_list (place_before bytes size from at)),
      one_at_most (place_at bytes size at),
      one_at_most (place_before bytes size from at),
    )

pub few_places : (bytes sizes : List ℕ) (from at : ℕ) → length (places_at bytes sizes from at) ≤ 2 * length sizes
few_places bytes [] from at = omega arith
few_places bytes (size ∷ sizes) from at =
    omega (
      arith,
      length-append (places_of bytes from at size) (places_at bytes sizes from at),
      two_at_most bytes from at size,
      few_places bytes sizes from at,
    )

pub small_costs : (bytes : List ℕ) (ps : List Place) → AllByRecursion (IsWithin bytes) ps → costs ps ≤ 1025 * length ps
small_costs bytes [] h = omega arith
small_costs bytes (p ∷ ps) h = let rest = small_costs bytes ps h.1 in let one = h.0.1 in omega arith

-- ---- the best of them

either_case : (t : Bool) (A B R : Type 0) → MatchBool t A B → (A → R) → (B → R) → R
either_case true A B R h f g = f h
either_case false A B R h f g = g h

found_next : (P : Place → Type 0) (found : Found) → P found.place → (first : Option Found) → IfSome first (λ f. P f.place)
    → IfSome (option_or first (Some found)) (λ f. P f.place)
found_next P found here None h = here
found_next P found here (Some f) h = h

-- it stands at one of them
pub best_within : (bytes : List ℕ) (P : Place → Type 0) (ps : List Place) (first best : Option Found) → AllByRecursion P ps
    → IfSome first (λ f. P f.place) → IsBest bytes ps first best → IfSome best (λ f. P f.place)
best_within bytes P [] first best all earlier is = subst (λ (o : Option Found). IfSome o (λ f. P f.place)) (sym is) earlier
best_within bytes P (p ∷ ps) first best all earlier (found, at, there, rest) =
    let here : P found.place = subst P (sym at) all.0 in
    either_case (mounts found.fault) (best ≡ Some found) (IsBest bytes ps (option_or first (Some found)) best) (IfSome best (λ f. P f.place)) rest
    (λ is. subst (λ (o : Option Found). IfSome o (λ f. P f.place)) (sym is) here)
    (best_within bytes P ps (option_or first (Some found)) best all.1 (found_next P found here first earlier))
