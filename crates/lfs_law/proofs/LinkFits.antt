-- The tails of links name what tails can.
use Rattle.std.proofs.Common.{ℕ, ◌<◌, ◌≤◌, List, [], ◌∷◌, ◌++◌, arith}
use Rattle.std.specs.Prelude.{All}
use Rattle.std.proofs.lemmas.List.Elements.{All-nil, All-cons, All-head, All-tail, All-append}
use Rattle.lfs_meta.specs.declared.tail.Tail.{Tail}
use Rattle.lfs_meta.specs.Body.{Pair}
use Rattle.lfs_meta.specs.Fits.{NumbersFit, TailFits}
use Rattle.lfs_fs.specs.Directory.{Part, Directory, parts, thread}
use Rattle.lfs_fs.specs.Thread.{Link, links_of, links, tail_to, hard_to}
use Rattle.lfs_fs.proofs.ApartLemmas.{All-both}

-- numbers of blocks
abbrev pub BlocksFit : ℕ → Pair → Type 0
BlocksFit count q = (q.0 < count) × (q.1 < count)

numbers_fit : (count : ℕ) (q : Pair) → count ≤ 65536 → BlocksFit count q → NumbersFit q.0 q.1
numbers_fit count q few below = record {
  first_fits = omega (arith, few, below.0);
  second_fits = omega (arith, few, below.1);
  some' = λ h k. omega (arith, few, below.0, h);
}

tails_along : (count : ℕ) → count ≤ 65536 → (p : Part) (ps : List Part) (tail : Tail) → All (λ q. BlocksFit count q.pair) ps → TailFits tail
    → All (λ l. TailFits l.tail) (links_of p ps tail)
tails_along count few p [] tail below fits = All-cons (λ (l : Link). TailFits l.tail) (record { part = p; tail = tail }) [] fits
    (All-nil (λ (l : Link). TailFits l.tail))
tails_along count few p (q ∷ ps) tail below fits =
    All-cons (λ (l : Link). TailFits l.tail) (record { part = p; tail = hard_to q.pair }) (links_of q ps tail)
    (numbers_fit count q.pair few (All-head (λ (x : Part). BlocksFit count x.pair) q ps below))
    (tails_along count few q ps tail (All-tail (λ (x : Part). BlocksFit count x.pair) q ps below) fits)

tail_to_fits : (count : ℕ) → count ≤ 65536 → (ds : List Directory) → All (λ q. BlocksFit count q.pair) (thread ds) → TailFits (tail_to ds)
tail_to_fits count few [] below = tt
tail_to_fits count few (d ∷ ds) below = numbers_fit count d.first.pair few
    (All-head (λ (x : Part). BlocksFit count x.pair) d.first (d.more ++ thread ds) below)

pub tails_fit : (count : ℕ) → count ≤ 65536 → (ds : List Directory) → All (λ q. BlocksFit count q.pair) (thread ds)
    → All (λ l. TailFits l.tail) (links ds)
tails_fit count few [] below = All-nil (λ (l : Link). TailFits l.tail)
tails_fit count few (d ∷ ds) below =
    let split = All-both (λ (x : Part). BlocksFit count x.pair) (parts d) (thread ds) below in
    All-append (λ (l : Link). TailFits l.tail) (links_of d.first d.more (tail_to ds)) (links ds)
    (tails_along count few d.first d.more (tail_to ds) (All-tail (λ (x : Part). BlocksFit count x.pair) d.first d.more split.0)
    (tail_to_fits count few ds split.1))
    (tails_fit count few ds split.1)
