-- One turn of a loop that adds to a list what the rest of another one gives.
use Rattle.std.proofs.Common.{◌≡◌, ℕ, ◌+◌, ◌<◌, ◌≤◌, List, [], ◌∷◌, ◌++◌, length, drop, get_or, ap, sym, ◌∙◌, append_assoc, append-nil}
use Rattle.std.proofs.lemmas.List.{drop_more, drop_all}

-- the next element of those that are left
pub next_of : {X : Type 0} (xs : List X) (i : ℕ) (x : X) → i < length xs → x ≡ get_or xs i x → drop i xs ≡ x ∷ drop (i + 1) xs
next_of {X} xs i x within is = drop_more xs i x within ∙ ap (λ (y : X). y ∷ drop (i + 1) xs) (sym is)

-- two additions, and what is still to come
pub joined : {Z : Type 0} (before between after front next rest : List Z) → between ≡ before ++ front → after ≡ between ++ next
    → after ++ rest ≡ before ++ (front ++ (next ++ rest))
joined {Z} before between after front next rest first second =
    ap (λ (zs : List Z). zs ++ rest) (second ∙ ap (λ (zs : List Z). zs ++ next) first)
    ∙ append_assoc (before ++ front) next rest
    ∙ append_assoc before front (next ++ rest)

-- what is left of two lists gives the rest
pub turned : {X Y Z : Type 0} (F : List X → List Y → List Z) (xs : List X) (i : ℕ) (x : X) (left later : List Y) (before after all : List Z)
    → i < length xs → x ≡ get_or xs i x → after ++ F (drop (i + 1) xs) later ≡ before ++ F (x ∷ drop (i + 1) xs) left
    → before ++ F (drop i xs) left ≡ all → after ++ F (drop (i + 1) xs) later ≡ all
turned {X} F xs i x left later before after all within is step so_far =
    step ∙ ap (λ (ys : List X). before ++ F ys left) (sym (next_of xs i x within is)) ∙ so_far

-- what is left of one list gives the rest
pub moved_on : {X Z : Type 0} (F : List X → List Z) (xs : List X) (i : ℕ) (x : X) (before all : List Z) → i < length xs
    → x ≡ get_or xs i x → before ++ F (drop i xs) ≡ all → before ++ F (x ∷ drop (i + 1) xs) ≡ all
moved_on {X} F xs i x before all within is so_far =
    ap (λ (ys : List X). before ++ F ys) (sym (next_of xs i x within is)) ∙ so_far

-- nothing is left
pub ended : {X Z : Type 0} (F : List X → List Z) (xs : List X) (i : ℕ) (before all : List Z) → F [] ≡ [] → length xs ≤ i
    → before ++ F (drop i xs) ≡ all → before ≡ all
ended {X} {Z} F xs i before all empty past so_far =
    sym (append-nil before)
    ∙ ap (λ (zs : List Z). before ++ zs) (sym (ap F (drop_all i xs past) ∙ empty))
    ∙ so_far
