-- Of two that are led the leading one comes first.
use Rattle.std.proofs.Common.{◌≡◌, Bool, true, false, List, [], ◌∷◌, map, refl, Option, Some, None}
use Rattle.std.specs.Prelude.{IsPermutation, if◌then◌else◌}
use Rattle.std.proofs.lemmas.List.Sorted.{IsPermutation-refl, IsPermutation-to_front}
use Rattle.lfs_meta.specs.Body.{Pair}
use Rattle.lfs_fs.specs.Pair.{same_pair}
use Rattle.lfs_command.specs.Ordered.{leader_first, leader_of}

-- nothing is lost or added
permutes_by : {X : Type 0} (pair : X → Pair) (k : Pair) (xs : List X) → IsPermutation xs (leader_of pair k xs)
permutes_by pair k [] = IsPermutation-refl []
permutes_by pair k (x ∷ []) = IsPermutation-refl (x ∷ [])
permutes_by pair k (x ∷ y ∷ []) = by (same_pair (pair y) k)
  where
    by : (t : Bool) → IsPermutation (x ∷ y ∷ []) (if t then y ∷ x ∷ [] else x ∷ y ∷ [])
    by true = IsPermutation-to_front (x ∷ []) y
    by false = IsPermutation-refl (x ∷ y ∷ [])
permutes_by pair k (x ∷ y ∷ z ∷ zs) = IsPermutation-refl (x ∷ y ∷ z ∷ zs)

pub leader_permutes : {X : Type 0} (pair : X → Pair) (leading : Option Pair) (xs : List X)
    → IsPermutation xs (leader_first pair leading xs)
leader_permutes pair None xs = IsPermutation-refl xs
leader_permutes pair (Some k) xs = permutes_by pair k xs

-- what is made of each is led as they are
maps_by : {X Y : Type 0} (f : X → Y) (pair : Y → Pair) (k : Pair) (xs : List X)
    → leader_of pair k (map f xs) ≡ map f (leader_of (λ x. pair (f x)) k xs)
maps_by f pair k [] = refl
maps_by f pair k (x ∷ []) = refl
maps_by {X} {Y} f pair k (x ∷ y ∷ []) = by (same_pair (pair (f y)) k)
  where
    by : (t : Bool) → (if t then f y ∷ f x ∷ [] else f x ∷ f y ∷ []) ≡ map f (if t then y ∷ x ∷ [] else x ∷ y ∷ [])
    by true = refl
    by false = refl
maps_by f pair k (x ∷ y ∷ z ∷ zs) = refl

pub leader_maps : {X Y : Type 0} (f : X → Y) (pair : Y → Pair) (leading : Option Pair) (xs : List X)
    → leader_first pair leading (map f xs) ≡ map f (leader_first (λ x. pair (f x)) leading xs)
leader_maps f pair None xs = refl
leader_maps f pair (Some k) xs = maps_by f pair k xs
