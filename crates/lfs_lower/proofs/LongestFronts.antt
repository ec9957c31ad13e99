-- Fronts of readings that agree on their pairs, and fronts that no pair prolongs.
use Rattle.std.proofs.Common.{◌≡◌, ℕ, ◌≤◌, ◌<◌, List, [], ◌∷◌, ◌++◌, Option, Some, ap, sym, ◌∙◌, subst, arith, append-nil}
use Rattle.std.specs.Prelude.{Contains}
use Rattle.std.proofs.lemmas.Bool.Decides.{nat_tests}
use Rattle.std.proofs.lemmas.List.Sums.{sum_by-append, sum_by-cons}
use Rattle.lfs_meta.specs.Body.{Pair}
use Rattle.lfs_fs.specs.Pair.{root}
use Rattle.lfs_fs.specs.Reading.{Reading}
use Rattle.lfs_fs.specs.Front.{Begins, Follow, IsFront, IsThread, next_pair, pair_names, pairs_name, tail_of}
use Rattle.lfs_fs.proofs.ContainsLemmas.{contains_first, contains_later}
use Rattle.lfs_fs.proofs.CountLemmas.{element_le}
use Rattle.lfs_fs.proofs.StoredLemmas.{front_of_thread}

-- no pair more makes a front
abbrev pub IsLongest : Reading → List Pair → Type 0
IsLongest r ps = (p : Pair) → IsFront r (ps ++ p ∷ []) → ⊥

-- two readings have the same parts at pairs
abbrev pub AgreeAt : Reading → Reading → List Pair → Type 0
AgreeAt r q ps = (p : Pair) → Contains ps p → q.part p ≡ r.part p

-- ---- the blocks of pairs

-- a pair names both of its blocks
pub names_first : (p : Pair) → 1 ≤ pair_names p.0 p
names_first p = grind (arith, nat_tests)

names_second : (p : Pair) → 1 ≤ pair_names p.1 p
names_second p = grind (arith, nat_tests)

-- pairs name both blocks of each of them
pub pairs_name_both : (ps : List Pair) (p : Pair) → Contains ps p → (0 < pairs_name p.0 ps) × (0 < pairs_name p.1 ps)
pairs_name_both ps p there = (
  omega (arith, element_le (pair_names p.0) ps p there, names_first p),
  omega (arith, element_le (pair_names p.1) ps p there, names_second p),
)

-- ---- steps that agree

-- pairs that one step follows, and one behind them
follow_alike : (step walk : Pair → Option Pair) (from : Option Pair) (ps rest : List Pair)
    → ((from : Option Pair) → Follow step from rest → Follow walk from rest)
    → ((p : Pair) → Contains ps p → walk p ≡ step p) → Follow step from (ps ++ rest) → Follow walk from (ps ++ rest)
follow_alike step walk from [] rest last same h = last from h
follow_alike step walk from (p ∷ ps) rest last same h = (
  h.0,
  subst (λ (x : Option Pair). Follow walk x (ps ++ rest)) (sym (same p (contains_first p ps)))
      (follow_alike step walk (step p) ps rest last (λ x there. same x (contains_later p ps x there)) h.1),
)

-- two readings go on alike at pairs
abbrev pub StepAlike : Reading → Reading → List Pair → Type 0
StepAlike r q ps = (p : Pair) → Contains ps p → next_pair q p ≡ next_pair r p

pub steps_agree : (r q : Reading) (ps : List Pair) → AgreeAt r q ps → StepAlike r q ps
steps_agree r q ps agree p there = ap tail_of (agree p there)

-- a front of one reading is one of another that goes on alike there
pub front_alike : (r q : Reading) (ps : List Pair) → q.count ≡ r.count → StepAlike r q ps → IsFront r ps → IsFront q ps
front_alike r q ps count alike h = record {
  follow = subst (Follow (next_pair q) (Some root)) (append-nil ps)
      (follow_alike (next_pair r) (next_pair q) (Some root) ps [] (λ from none. tt) alike
      (subst (Follow (next_pair r) (Some root)) (sym (append-nil ps)) h.follow));
  within = λ b some. subst (λ (n : ℕ). b < n) (sym count) (h.within b some);
  once = h.once;
}

-- and so with one pair more, at which they needn't
pub front_alike_more : (r q : Reading) (ps : List Pair) (p : Pair) → q.count ≡ r.count → StepAlike r q ps → IsFront r (ps ++ p ∷ [])
    → IsFront q (ps ++ p ∷ [])
front_alike_more r q ps p count alike h = record {
  follow = follow_alike (next_pair r) (next_pair q) (Some root) ps (p ∷ []) (λ from one. (one.0, tt)) alike h.follow;
  within = λ b some. subst (λ (n : ℕ). b < n) (sym count) (h.within b some);
  once = h.once;
}

-- ---- what begins a front

follow_begun : (step : Pair → Option Pair) (from : Option Pair) (ps : List Pair) (q : Pair) (more : List Pair)
    → Follow step from (ps ++ q ∷ more) → Follow step from (ps ++ q ∷ [])
follow_begun step from [] q more h = (h.0, tt)
follow_begun step from (p ∷ ps) q more h = (h.0, follow_begun step (step p) ps q more h.1)

named_begun : (b : ℕ) (ps : List Pair) (q : Pair) (more : List Pair) → pairs_name b (ps ++ q ∷ []) ≤ pairs_name b (ps ++ q ∷ more)
named_begun b ps q more =
    omega (
      arith,
      sum_by-append (pair_names b) ps (q ∷ []),
      sum_by-append (pair_names b) ps (q ∷ more),
      sum_by-cons (pair_names b) q more,
      sum_by-cons (pair_names b) q [],
    )

front_begun : (r : Reading) (ps : List Pair) (q : Pair) (more : List Pair) → IsFront r (ps ++ q ∷ more) → IsFront r (ps ++ q ∷ [])
front_begun r ps q more h = record {
  follow = follow_begun (next_pair r) (Some root) ps q more h.follow;
  within = λ b some. h.within b (omega (arith, some, named_begun b ps q more));
  once = λ b. omega (arith, h.once b, named_begun b ps q more);
}

-- what a longest front begins is that front
longest_ends : (r : Reading) (front rest : List Pair) → IsLongest r front → IsFront r (front ++ rest) → front ++ rest ≡ front
longest_ends r front [] longest h = append-nil front
longest_ends r front (q ∷ more) longest h = absurd (longest q (front_begun r front q more h))

-- a front that a longest one begins is that one
pub longest_is : (r : Reading) (front ps : List Pair) → IsLongest r front → IsFront r ps → Begins front ps → ps ≡ front
longest_is r front ps longest h begins = begins.1 ∙ longest_ends r front begins.0 longest (subst (IsFront r) begins.1 h)

-- the thread is the longest front
pub thread_is_longest : (r : Reading) (front ps : List Pair) → IsFront r front → IsLongest r front → IsThread r ps → ps ≡ front
thread_is_longest r front ps is_front longest thread = longest_is r front ps longest thread.front (front_of_thread r ps front thread is_front)
