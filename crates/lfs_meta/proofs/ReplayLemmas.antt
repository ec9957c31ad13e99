-- Tags replayed one after another: what is left decides the whole.
use Rattle.std.proofs.Common.{◌≡◌, List, [], ◌∷◌, refl, ap, sym, ◌∙◌, arith, Some, None, suc, subst}
use Rattle.std.specs.Prelude.{option_and_then}
use Rattle.std.specs.List.{AllByRecursion, Any}
use Rattle.lfs_block.specs.declared.mount_fault.MountFault.{MountFault}
use Rattle.lfs_block.specs.declared.mount_fault.MountFault.TheVariants as fault
use Rattle.lfs_tag.specs.Tag.{type_of}
use Rattle.lfs_tag.specs.Commit.{Item, IsItem}
use Rattle.lfs_meta.specs.Action.{action_of}
use Rattle.lfs_meta.specs.Part.{RawPart, empty_part}
use Rattle.lfs_meta.specs.Replay.{step, replay_from, replay, HasUnknown, HasBad, HasBadFrom}
use Rattle.lfs_meta.specs.Step.{StepCause}
use Rattle.lfs_meta.specs.Cause.{TagsCause}

pub replay_from-cons : (p q : RawPart) (t : Item) (ts : List Item) → step p t ≡ Some q → replay_from p (t ∷ ts) ≡ replay_from q ts
unfolding replay_from
replay_from-cons p q t ts e = ap (option_and_then (λ r. replay_from r ts)) e

pub replay_from-none : (p : RawPart) → replay_from p [] ≡ Some p
unfolding replay_from
replay_from-none p = refl

-- the replay of all tags has come to the part p, and has these left
pub record IsReplayedTo (all : List Item) (p : RawPart) (left : List Item) : Type 0 where
  pub complete : replay all ≡ replay_from p left
  pub items : AllByRecursion IsItem left
  pub unknown : HasUnknown left → HasUnknown all
  pub bad : HasBadFrom p left → HasBad all

pub replay-first : (all : List Item) (p : RawPart) → p ≡ empty_part → AllByRecursion IsItem all → IsReplayedTo all p all
replay-first all p e items = record {
  complete = ap (λ q. replay_from q all) (sym e);
  items = items;
  unknown = λ h. h;
  bad = λ h. subst (λ q. HasBadFrom q all) e h;
}

pub bad-cons : (p q : RawPart) (t : Item) (ts : List Item) → step p t ≡ Some q → HasBadFrom q ts → HasBadFrom p (t ∷ ts)
bad-cons p q t ts e (front, u, after, is, r, replayed, a, known, bad) =
    (t ∷ front, u, after, ap (λ xs. t ∷ xs) is, r, replay_from-cons p q t front e ∙ replayed, a, known, bad)

any-cons : (P : Item → Type 0) (t : Item) (ts : List Item) → Any P ts → Any P (t ∷ ts)
any-cons P t ts (k, x, within, is, holds) = (suc k, x, omega arith, is, holds)

more : (all : List Item) (p q : RawPart) (t : Item) (ts : List Item) → IsReplayedTo all p (t ∷ ts) → step p t ≡ Some q
    → IsReplayedTo all q ts
more all p q t ts h e = record {
  complete = h.complete ∙ replay_from-cons p q t ts e;
  items = h.items.1;
  unknown = λ u. h.unknown (any-cons (λ i. action_of (type_of i.word) ≡ None) t ts u);
  bad = λ b. h.bad (bad-cons p q t ts e b);
}

pub replay-more : (all : List Item) (p q : RawPart) (t : Item) (ts left : List Item) → IsReplayedTo all p left → left ≡ t ∷ ts
    → step p t ≡ Some q → IsReplayedTo all q ts
replay-more all p q t ts left h split e = more all p q t ts (subst (IsReplayedTo all p) split h) e

pub replay-all : (all : List Item) (p : RawPart) (left : List Item) → IsReplayedTo all p left → left ≡ [] → replay all ≡ Some p
replay-all all p left h none = h.complete ∙ ap (replay_from p) none ∙ replay_from-none p

refused : (f : MountFault) (all : List Item) (p : RawPart) (t : Item) (ts : List Item) → IsReplayedTo all p (t ∷ ts) → StepCause f p t
    → TagsCause f all
refused fault.UnknownTag all p t ts h cause = h.unknown (0, t, omega arith, refl, cause)
refused fault.BadTag all p t ts h (a, known, bad) = h.bad ([], t, ts, refl, p, replay_from-none p, a, known, bad)
refused fault.Memory all p t ts h cause = tt
refused _ all p t ts h cause = cause

-- a refusal of the next tag has its cause in all tags
pub replay-refused : (f : MountFault) (all : List Item) (p : RawPart) (t : Item) (ts left : List Item) → IsReplayedTo all p left
    → left ≡ t ∷ ts
    → StepCause f p t → TagsCause f all
replay-refused f all p t ts left h split cause = refused f all p t ts (subst (IsReplayedTo all p) split h) cause
