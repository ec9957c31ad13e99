-- Members of a list, as sums and products that compute.
use Rattle.std.proofs.Common.{◌≡◌, ◌<◌, ◌⊎◌, ℕ, List, [], ◌∷◌, zero, suc, sym, inl, inr, arith, length, slice_index_or}
use Rattle.std.specs.List.{All, Contains}

abbrev pub In : {X : Type 0} → X → List X → Type 0
In x [] = ⊥
In x (y ∷ ys) = (x ≡ y) ⊎ In x ys

abbrev pub Each : {X : Type 0} → (X → Type 0) → List X → Type 0
Each P [] = Unit {0}
Each P (x ∷ xs) = P x × Each P xs

pub each_in : {X : Type 0} (P : X → Type 0) (xs : List X) (x : X) → Each P xs → In x xs → P x
each_in P [] x all here = absurd here
each_in P (y ∷ ys) x all (inl is) = rw is all.0
each_in P (y ∷ ys) x all (inr later) = each_in P ys x all.1 later

contained_at : {X : Type 0} (xs : List X) (x : X) (k : ℕ) → k < length xs → slice_index_or xs k x ≡ x → In x xs
contained_at [] x k lt is = absurd (omega arith)
contained_at (y ∷ ys) x zero lt is = inl (sym is)
contained_at (y ∷ ys) x (suc k) lt is = inr (contained_at ys x k (omega arith) is)

pub contained : {X : Type 0} (xs : List X) (x : X) → Contains xs x → In x xs
contained xs x h = contained_at xs x h.0 h.1 h.2

pub contains : {X : Type 0} (xs : List X) (x : X) → In x xs → Contains xs x
contains [] x here = absurd here
contains (y ∷ ys) x (inl is) = (0, omega arith, sym is)
contains (y ∷ ys) x (inr later) =
    let rest = contains ys x later in
    (suc rest.0, omega (arith, rest.1), rest.2)

pub each : {X : Type 0} (P : X → Type 0) (xs : List X) → All P xs → Each P xs
each P [] all = tt
each P (x ∷ xs) all = (all 0 x (omega arith), each P xs (λ k d lt. all (suc k) d (omega arith)))

pub every : {X : Type 0} (P : X → Type 0) (xs : List X) → Each P xs → All P xs
every P [] all k d lt = absurd (omega arith)
every P (x ∷ xs) all zero d lt = all.0
every P (x ∷ xs) all (suc k) d lt = every P xs all.1 k d (omega arith)
