-- The parts that are held along a thread.
use Rattle.std.proofs.Common.{◌≡◌, List, [], ◌∷◌, ◌++◌, map, Option, Some, None, refl, ap, sym, ◌∙◌, subst}
use Rattle.std.specs.Prelude.{All, Contains, IsSome, option_map, option_to_list}
use Rattle.std.proofs.lemmas.List.Elements.{All-head, All-tail}
use Rattle.lfs_meta.specs.declared.tail.Tail.{Tail}
use Rattle.lfs_meta.specs.declared.tail.Tail.TheVariants.{End, Hard, Soft}
use Rattle.lfs_meta.specs.Body.{Pair}
use Rattle.lfs_meta.specs.Part.{StoredPart}
use Rattle.lfs_fs.specs.Pair.{root}
use Rattle.lfs_fs.specs.Front.{Follow, after, next_pair, tail_of}
use Rattle.lfs_fs.specs.Gathering.{PairPart, link_from}
use Rattle.lfs_fs.specs.Held.{link_at, link_of}
use Rattle.lfs_fs.specs.Reading.{Reading}
use Rattle.lfs_fs.specs.Thread.{Link}
use Rattle.lfs_fs.proofs.BothSidesLemmas.{some_part}
use Rattle.lfs_fs.proofs.ContainsLemmas.{contains_cases, contains_first, contains_later, contains_none}
use Rattle.lfs_lower.specs.Joining.{parts_held}
use Rattle.lfs_lower.proofs.GatheredParts.{held_none, held_some}
use Rattle.lfs_lower.proofs.LongestFronts.{AgreeAt}
use Rattle.lfs_lower.proofs.PairsAlong.{along_alike}
use Rattle.lfs_settle.specs.InStep.{stepped_part, stepped_tail, stepping, thread_pairs, thread_parts}
use Rattle.lfs_settle.specs.Laws.{AreLinked, first_pair}
use mathlib.Core.Logic.{inl, inr}

-- all pairs are read
abbrev pub AreRead : Reading → List Pair → Type 0
AreRead r ps = All (λ p. IsSome (r.part p)) ps

read_first : (r : Reading) (p : Pair) (ps : List Pair) → AreRead r (p ∷ ps) → (s : StoredPart) × (r.part p ≡ Some s)
read_first r p ps all = some_part r p (r.part p) refl (All-head (λ (q : Pair). IsSome (r.part q)) p ps all)

read_later : (r : Reading) (p : Pair) (ps : List Pair) → AreRead r (p ∷ ps) → AreRead r ps
read_later r p ps all = All-tail (λ (q : Pair). IsSome (r.part q)) p ps all

-- as links they are those of their pairs
pub links_are : (r : Reading) (ps : List Pair) → AreRead r ps → map (link_from r) (parts_held r ps) ≡ map (link_at r) ps
links_are r [] all = refl
links_are r (p ∷ ps) all =
    let part = read_first r p ps all in
    ap (map (link_from r)) (held_some r p ps part.0 part.1)
    ∙ ap (λ (o : Option StoredPart). link_of r p o ∷ map (link_from r) (parts_held r ps)) (sym part.1)
    ∙ ap (λ (ls : List Link). link_at r p ∷ ls) (links_are r ps (read_later r p ps all))

-- they are one thread, from a pair on
pub record LinkedFrom (from : Option Pair) (ps : List PairPart) : Type 0 where
  pub first : first_pair ps ≡ from
  pub linked : AreLinked ps

linked_more : (r : Reading) (from : Option Pair) (p : Pair) (ps : List Pair) (s : StoredPart) → from ≡ Some p → r.part p ≡ Some s
    → LinkedFrom (next_pair r p) (parts_held r ps) → LinkedFrom from (parts_held r (p ∷ ps))
linked_more r from p ps s at read rest =
    let here : LinkedFrom from ((p, s) ∷ parts_held r ps) = record {
      first = sym at;
      linked = (sym (ap tail_of read) ∙ sym rest.first, rest.linked);
    } in
    rw (held_some r p ps s read) here

pub linked_along : (r : Reading) (from : Option Pair) (ps : List Pair) → AreRead r ps → Follow (next_pair r) from ps
    → after (next_pair r) from ps ≡ None → LinkedFrom from (parts_held r ps)
linked_along r from [] all follow ends = record { first = sym ends; linked = tt }
linked_along r from (p ∷ ps) all follow ends =
    let part = read_first r p ps all in
    linked_more r from p ps part.0 follow.0 part.1 (linked_along r (next_pair r p) ps (read_later r p ps all) follow.1 ends)

-- ---- each is what its pair holds

held_first : (r : Reading) (p : Pair) (ps : List Pair) (q : PairPart) (o : Option StoredPart) → r.part p ≡ o
    → (Contains (parts_held r ps) q → r.part q.0 ≡ Some q.1) → Contains (parts_held r (p ∷ ps)) q → r.part q.0 ≡ Some q.1
held_first r p ps q None read rest there = rest (subst (λ (xs : List PairPart). Contains xs q) (held_none r p ps read) there)
held_first r p ps q (Some s) read rest there =
    elim (contains_cases (p, s) (parts_held r ps) q (subst (λ (xs : List PairPart). Contains xs q) (held_some r p ps s read) there)) [
      | inl is ↦ ap (λ (x : PairPart). r.part x.0) is ∙ read ∙ ap (λ (x : PairPart). Some x.1) (sym is)
      | inr later ↦ rest later
    ]

pub held_is : (r : Reading) (ps : List Pair) (q : PairPart) → Contains (parts_held r ps) q → r.part q.0 ≡ Some q.1
held_is r [] q there = absurd (contains_none q there)
held_is r (p ∷ ps) q there = held_first r p ps q (r.part p) refl (held_is r ps q) there

-- and its pair is one of them
held_pair_first : (r : Reading) (p : Pair) (ps : List Pair) (q : PairPart) (o : Option StoredPart) → r.part p ≡ o
    → (Contains (parts_held r ps) q → Contains ps q.0) → Contains (parts_held r (p ∷ ps)) q → Contains (p ∷ ps) q.0
held_pair_first r p ps q None read rest there = contains_later p ps q.0 (rest (subst (λ (xs : List PairPart). Contains xs q) (held_none r p ps read) there))
held_pair_first r p ps q (Some s) read rest there =
    elim (contains_cases (p, s) (parts_held r ps) q (subst (λ (xs : List PairPart). Contains xs q) (held_some r p ps s read) there)) [
      | inl is ↦ subst (λ (x : Pair). Contains (p ∷ ps) x) (ap (λ (x : PairPart). x.0) (sym is)) (contains_first p ps)
      | inr later ↦ contains_later p ps q.0 (rest later)
    ]

pub held_pair : (r : Reading) (ps : List Pair) (q : PairPart) → Contains (parts_held r ps) q → Contains ps q.0
held_pair r [] q there = absurd (contains_none q there)
held_pair r (p ∷ ps) q there = held_pair_first r p ps q (r.part p) refl (held_pair r ps q) there

-- readings that agree on pairs have the same parts along them
pub held_alike : (r q : Reading) (ps : List Pair) → AgreeAt r q ps → parts_held q ps ≡ parts_held r ps
held_alike r q [] agree = refl
held_alike r q (p ∷ ps) agree =
    ap (λ (o : Option StoredPart). option_to_list (option_map (λ (x : StoredPart). (p, x)) o) ++ parts_held q ps) (agree p (contains_first p ps))
    ∙ ap (λ (xs : List PairPart). option_to_list (option_map (λ (x : StoredPart). (p, x)) (r.part p)) ++ xs)
    (held_alike r q ps (λ x there. agree x (contains_later p ps x there)))

-- ---- without a step

tail_unstepped : (tail : Tail) → stepped_tail [] tail ≡ tail
tail_unstepped End = refl
tail_unstepped (Soft first second) = refl
tail_unstepped (Hard first second) = refl

part_unstepped : (o : Option StoredPart) → option_map (stepped_part []) o ≡ o
part_unstepped None = refl
part_unstepped (Some s) = ap (λ (t : Tail). Some (record { entries = s.entries; tail = t; delta = s.delta })) (tail_unstepped s.tail)

-- if no pair is named, the thread is as it was
pub unstepped_pairs : (r : Reading) → thread_pairs (stepping [] r) ≡ thread_pairs r
unstepped_pairs r =
    along_alike (next_pair r) (next_pair (stepping [] r)) r.count [] r.count (Some root) (λ p there. ap tail_of (part_unstepped (r.part p)))

pub unstepped : (r : Reading) → thread_parts (stepping [] r) ≡ thread_parts r
unstepped r =
    ap (parts_held (stepping [] r)) (unstepped_pairs r)
    ∙ held_alike r (stepping [] r) (thread_pairs r) (λ p there. part_unstepped (r.part p))
