-- The rest of a list in a loop: its next item, or nothing.
use Rattle.std.proofs.Common.{◌≡◌, ◌<◌, ◌≤◌, ◌+◌, ℕ, List, [], ◌∷◌, ap, length, drop, get_or, map}
use Rattle.std.proofs.Math.ListN.{drop_of_length-le}
use Rattle.lfs_fs.proofs.ItemLemmas.{drop_at}

pub map_one : {X Y : Type 0} (f : X → Y) (xs : List X) (i : ℕ) (x : X) → i < length xs → x ≡ get_or xs i x
    → map f (drop i xs) ≡ f x ∷ map f (drop (i + 1) xs)
map_one f xs i x within here = ap (map f) (drop_at xs i x within here)

pub drop_all : {X : Type 0} (xs : List X) (i : ℕ) → length xs ≤ i → drop i xs ≡ []
drop_all xs i behind = drop_of_length-le xs behind

pub map_all : {X Y : Type 0} (f : X → Y) (xs : List X) (i : ℕ) → length xs ≤ i → map f (drop i xs) ≡ []
map_all f xs i behind = ap (map f) (drop_of_length-le xs behind)
