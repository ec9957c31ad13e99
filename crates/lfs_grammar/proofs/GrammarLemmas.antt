-- A fold over the first rows of a list, one by one.
use Rattle.std.proofs.Common.{◌≡◌, ◌∙◌, ◌<◌, ◌+◌, ℕ, List, fold, length, map, slice_index_or, sym, ap, take}
use Rattle.std.proofs.lemmas.List.Folds.{fold-map}
use Rattle.std.proofs.lemmas.List.Sums.{fold_more}

-- one row more
pub fold_row : {X Y Z : Type 0} (f : Z → Y → Z) (h : X → Y) (z : Z) (xs : List X) (i : ℕ) (x : X) → i < length xs
    → fold f z (map h (take (i + 1) xs)) ≡ f (fold f z (map h (take i xs))) (h (slice_index_or xs i x))
fold_row f h z xs i x lt =
    fold-map f h z (take (i + 1) xs) ∙ fold_more (λ b y. f b (h y)) z xs i x lt
    ∙ ap (λ b. f b (h (slice_index_or xs i x))) (sym (fold-map f h z (take i xs)))
