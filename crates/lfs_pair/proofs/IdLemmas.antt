-- The ids that the fates of entries take.
use Rattle.std.proofs.Common.{◌≡◌, ℕ, ◌+◌, ◌<◌, ◌≤◌, List, [], ◌∷◌, length, map, drop, get_or, ap, arith}
use Rattle.lfs_meta.specs.Entry.{StoredEntry}
use Rattle.lfs_pair.specs.Difference.{Fate, Goes, Stays, Comes, olds, news}
use Rattle.lfs_pair.proofs.TurnLemmas.{next_of}

-- how many entries a fate has of those of all
abbrev pub Counts : (List Fate → List StoredEntry) → Type 0
Counts entries = (x : Fate) (more : List Fate) → length (entries (x ∷ more)) ≡ length (entries (x ∷ [])) + length (entries more)

pub olds-cons : Counts olds
unfolding olds
olds-cons (Goes e) more = omega arith
olds-cons (Stays e f) more = omega arith
olds-cons (Comes f) more = omega arith

pub news-cons : Counts news
unfolding news
news-cons (Goes e) more = omega arith
news-cons (Stays e f) more = omega arith
news-cons (Comes f) more = omega arith

-- the ids that are left are enough for the next fate, and then for those behind it
pub enough-here : {X : Type 0} (entries : List Fate → List StoredEntry) → Counts entries → (seen : X → Fate) (xs : List X) (i : ℕ) (x : X)
    (id : ℕ) → i < length xs → x ≡ get_or xs i x → id + length (entries (map seen (drop i xs))) ≤ 1023
    → id + length (entries (seen x ∷ [])) ≤ 1023
enough-here {X} entries counts seen xs i x id within is few =
    let all : length (entries (map seen (drop i xs))) ≡ length (entries (seen x ∷ map seen (drop (i + 1) xs))) =
    ap (λ (ys : List X). length (entries (map seen ys))) (next_of xs i x within is) in
    omega (arith, few, all, counts (seen x) (map seen (drop (i + 1) xs)))

pub enough-later : {X : Type 0} (entries : List Fate → List StoredEntry) → Counts entries → (seen : X → Fate) (xs : List X) (i : ℕ) (x : X)
    (id next : ℕ) → i < length xs → x ≡ get_or xs i x → id + length (entries (map seen (drop i xs))) ≤ 1023
    → next ≤ id + length (entries (seen x ∷ [])) → next + length (entries (map seen (drop (i + 1) xs))) ≤ 1023
enough-later {X} entries counts seen xs i x id next within is few small =
    let all : length (entries (map seen (drop i xs))) ≡ length (entries (seen x ∷ map seen (drop (i + 1) xs))) =
    ap (λ (ys : List X). length (entries (map seen ys))) (next_of xs i x within is) in
    omega (arith, few, small, all, counts (seen x) (map seen (drop (i + 1) xs)))
