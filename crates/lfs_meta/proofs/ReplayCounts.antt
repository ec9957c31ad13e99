-- How many entries tags leave: each tag adds one, or names one whose id is below 1,024.
use Rattle.std.proofs.Common.{◌≡◌, ℕ, ◌+◌, ◌-◌, ◌<◌, ◌≤◌, List, [], ◌∷◌, length, take, drop, subst, arith, Option, Some, None, suc}
use Rattle.std.specs.Prelude.{replicate, slice_index_or}
use Rattle.std.proofs.lemmas.List.{length-append, length-take, length-drop, length-replicate, length-set}
use Rattle.std.proofs.lemmas.Option.{option_and_then_some}
use Rattle.lfs_tag.specs.Tag.{type_of, id_of}
use Rattle.lfs_tag.specs.Commit.{Item}
use Rattle.lfs_meta.specs.declared.action.Action.{Action}
use Rattle.lfs_meta.specs.declared.action.Action.TheVariants.{Create, Delete, SetName, SetBody, SetAttribute, SetTail, SetDelta}
use Rattle.lfs_meta.specs.Action.{action_of, is_bad}
use Rattle.lfs_meta.specs.Entry.{RawEntry, blank}
use Rattle.lfs_meta.specs.Part.{RawPart, empty_part}
use Rattle.lfs_meta.specs.Replay.{acted, replay_by, step, replay_from, replay, at_entry, up_to, named_by, embodied_by, attributed_by}
use Rattle.lfs_meta.proofs.ReplayFitsLemmas.{taken}

at_entry-length : (i : ℕ) (f : RawEntry → RawEntry) (xs : List RawEntry) → length (at_entry i f xs) ≡ length xs
at_entry-length i f xs = length-set xs i (f (slice_index_or xs i blank))

up_to-few : (i n : ℕ) (xs : List RawEntry) → i < n → length xs ≤ n → length (up_to i xs) ≤ n
up_to-few i n xs below few = omega (
  arith,
  below,
  few,
  length-append xs (replicate (i + 1 - length xs) blank),
  length-replicate (i + 1 - length xs) blank,
)

-- a tag adds at most one to a bound of 1,024 entries or more
acted-few : (a : Action) (t : Item) (p : RawPart) (n : ℕ) → 1024 ≤ n → length p.entries ≤ n → length (acted a t p).entries ≤ n + 1
unfolding acted
acted-few Create t p n most few =
    let i : ℕ = id_of t.word in
    omega (arith, few, length-append (take i p.entries) (blank ∷ drop i p.entries), length-take i p.entries, length-drop i p.entries)
acted-few Delete t p n most few =
    let i : ℕ = id_of t.word in
    omega (arith, few, length-append (take i p.entries) (drop (suc i) p.entries), length-take i p.entries, length-drop (suc i) p.entries)
acted-few SetName t p n most few =
    let i : ℕ = id_of t.word in
    let below : i < n = omega (arith, most) in
    omega (arith, up_to-few i n p.entries below few, at_entry-length i (named_by t) (up_to i p.entries))
acted-few SetBody t p n most few = omega (arith, few, at_entry-length (id_of t.word) (embodied_by t) p.entries)
acted-few SetAttribute t p n most few = omega (arith, few, at_entry-length (id_of t.word) (attributed_by t) p.entries)
acted-few SetTail t p n most few = omega (arith, few)
acted-few SetDelta t p n most few = omega (arith, few)

step-few : (o : Option Action) (p q : RawPart) (t : Item) (n : ℕ) → 1024 ≤ n → length p.entries ≤ n → replay_by o p t ≡ Some q
    → length q.entries ≤ n + 1
step-few None p q t n most few e = cc
step-few (Some a) p q t n most few e =
    subst (λ (r : RawPart). length r.entries ≤ n + 1) (taken (is_bad a t (length p.entries)) (acted a t p) q e) (acted-few a t p n most few)

replay_from-few : (p q : RawPart) (tags : List Item) (n : ℕ) → 1024 ≤ n → length p.entries ≤ n → replay_from p tags ≡ Some q
    → length q.entries ≤ n + length tags
unfolding replay_from
replay_from-few p q [] n most few e = let same : p ≡ q = cc in subst (λ (r : RawPart). length r.entries ≤ n + 0) same (omega (arith, few))
replay_from-few p q (t ∷ ts) n most few e =
    option_and_then_some (λ r. replay_from r ts) (step p t) q e
    (λ r stepped left.
    let one : length r.entries ≤ n + 1 = step-few (action_of (type_of t.word)) p r t n most few stepped in
    let later : length q.entries ≤ n + 1 + length ts = replay_from-few r q ts (n + 1) (omega (arith, most)) one left in
    omega (arith, later))

empty-few : length empty_part.entries ≤ 1024
unfolding empty_part
empty-few = omega arith

pub replay-few : (tags : List Item) (p : RawPart) → replay tags ≡ Some p → length p.entries ≤ 1024 + length tags
replay-few tags p e = replay_from-few empty_part p tags 1024 (omega arith) empty-few e
