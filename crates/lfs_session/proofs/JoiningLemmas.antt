-- Commands that are carried out one after another, as one patch.
use Rattle.std.proofs.Common.{◌≡◌, ℕ, ◌+◌, ◌<◌, List, [], ◌∷◌, ◌++◌, length, map, take, drop, get_or, suc, Option, Some, None, refl, ap, sym}
use Rattle.std.proofs.Common.{◌∙◌, subst, arith}
use Rattle.std.proofs.lemmas.List.{get_or-map, length-map, length-take-le, map_more, take-map}
use Rattle.std.proofs.Math.Seq.{split_at}
use Rattle.lfs_block.specs.Disk.{Disk, IsDisk}
use Rattle.lfs_block.specs.Patch.{ChangeSet, IsGrowth, AgreesOld, AgreesNew, applied, reverted}
use Rattle.lfs_block.specs.PatchLaws.{AppliedAgrees, AppliedRevertsBack}
use Rattle.lfs_journal.specs.Joined.{applied_all, composed}
use Rattle.lfs_journal.specs.JointLaws.{ComposedApplies, OneMoreTogether}
use Rattle.lfs_command.specs.AskedFor.{OnTexts, asked_for}
use Rattle.lfs_command.specs.Command.{Asked}
use Rattle.lfs_command.specs.declared.refusal.Refusal.{Refusal}
use Rattle.lfs_command.specs.Planned.{Plans, RefusesPlan}
use Rattle.lfs_history.specs.History.{IsMounted}
use Rattle.lfs_history.specs.Together.{PlansAll, PlansTogether, RefusesTogether}
use Rattle.lfs_history.specs.TogetherLaws.{TogetherIsOneByOne}
use Rattle.lfs_history.proofs.MoveLemmas.{Follow, planned_mounts}
use Rattle.lfs_history.proofs.TogetherLemmas.{one_more_planned}
use Rattle.lfs_session.specs.Joining.{AreJoined, CarriesOneMore, IsBehind, MayJoin, MayTakeBack, taken_back}

-- ---- one patch behind others

-- a patch that can be made in the image that they lead to makes a patch with them
pub may_join : ComposedApplies → (joint : Option ChangeSet) (e : Disk) (q : ChangeSet) → IsBehind joint e → IsGrowth q → AgreesOld q e
    → MayJoin joint q
may_join law None e q behind growth stands = tt
may_join law (Some p) e q (d, disk, first, agrees, is) growth stands =
    (law p q d disk first growth agrees (subst (AgreesOld q) is stands)).growth

-- ---- what is owed by the layers below

pub record Join : Type 0 where
  pub two : ComposedApplies
  pub one : TogetherIsOneByOne
  pub more : OneMoreTogether

-- of changes that are taken back
pub record Back : Type 0 where
  pub agrees : AppliedAgrees
  pub back : AppliedRevertsBack

-- ---- commands so far

pub behind_joined : Join → (d : Disk) (asked : List Asked) (joint : Option ChangeSet) (e : Disk) → IsDisk d → AreJoined d asked joint e
    → IsBehind joint e
behind_joined law d asked None e disk joined = tt
behind_joined law d asked (Some p) e disk joined =
    let is = law.one d asked p joined.0 disk in
    (d, disk, is.growth, is.stands, joined.1)

-- the image is the one that their patches make one after another
one_by_one : Join → (d : Disk) (asked : List Asked) (p : ChangeSet) (e : Disk) → IsDisk d → (plans : PlansTogether d asked p)
    → e ≡ applied p d → e ≡ applied_all (plans.first ∷ plans.later) d
one_by_one law d asked p e disk plans is = is ∙ (law.one d asked p plans disk).same

-- one command more
pub joined_more : Join → (d : Disk) (asked : List Asked) (a : Asked) (before after : Option ChangeSet) (mid e : Disk) → IsDisk d
    → AreJoined d asked before mid → CarriesOneMore mid before a after e → AreJoined d (asked ++ a ∷ []) after e
joined_more law d asked a None after mid e disk joined on =
    let q = on.change in
    let plans : Plans d a q = subst (λ (x : Disk). Plans x a q) joined.1 on.plans in
    let all : PlansTogether d (a ∷ []) q = record { first = q; later = []; plans = (plans, tt); is = refl } in
    let here : PlansTogether d (asked ++ a ∷ []) q = subst (λ (them : List Asked). PlansTogether d (them ++ a ∷ []) q) (sym joined.0) all in
    subst (λ (o : Option ChangeSet). AreJoined d (asked ++ a ∷ []) o e) (sym on.joint) (here, on.image ∙ ap (applied q) joined.1)
joined_more law d asked a (Some p) after mid e disk joined on =
    let q = on.change in
    let plans = joined.0 in
    let ps = plans.first ∷ plans.later in
    let one = law.one d asked p plans disk in
    let step : mid ≡ applied_all ps d = one_by_one law d asked p mid disk plans joined.1 in
    let all : PlansTogether d (asked ++ a ∷ []) (composed p q) = record {
      first = plans.first;
      later = plans.later ++ q ∷ [];
      plans = one_more_planned d asked ps a q plans.plans (subst (λ (x : Disk). Plans x a q) step on.plans);
      is = ap (λ (r : ChangeSet). composed r q) plans.is ∙ sym (law.more plans.first plans.later q);
    } in
    let both = law.two p q d disk one.growth on.plans.patch one.stands (subst (AgreesOld q) joined.1 on.plans.stands) in
    subst (λ (o : Option ChangeSet). AreJoined d (asked ++ a ∷ []) o e) (sym on.joint)
    (all, on.image ∙ ap (applied q) joined.1 ∙ sym both.same)

-- so it is by the next command of a list
pub joined_next : Join → (d : Disk) (commands : List OnTexts) (i : ℕ) (c : OnTexts) (before after : Option ChangeSet) (mid e : Disk)
    → IsDisk d → i < length commands → AreJoined d (map asked_for (take i commands)) before mid
    → CarriesOneMore mid before (asked_for (get_or commands i c)) after e → AreJoined d (map asked_for (take (i + 1) commands)) after e
joined_next law d commands i c before after mid e disk within joined on =
    subst (λ (them : List Asked). AreJoined d them after e) (sym (map_more asked_for commands i c within))
    (joined_more law d (map asked_for (take i commands)) (asked_for (get_or commands i c)) before after mid e disk joined on)

-- and the image mounts
pub mounts_on : Follow → (mid e : Disk) (before after : Option ChangeSet) (a : Asked) → CarriesOneMore mid before a after e → IsMounted e
mounts_on law mid e before after a on = subst IsMounted (sym on.image) (planned_mounts law mid a on.change on.plans)

-- ---- one that is refused

-- what was done can be taken back
pub may_take_back : Join → Back → (d : Disk) (asked : List Asked) (joint : Option ChangeSet) (e : Disk) → IsDisk d
    → AreJoined d asked joint e → MayTakeBack joint e
may_take_back law back d asked None e disk joined = tt
may_take_back law back d asked (Some p) e disk joined =
    let one = law.one d asked p joined.0 disk in
    subst (AgreesNew p) (sym joined.1) (back.agrees p d disk one.growth.patch one.stands)

-- which leaves the first image
pub taken_back_is : Join → Back → (d : Disk) (asked : List Asked) (joint : Option ChangeSet) (e : Disk) → IsDisk d
    → AreJoined d asked joint e → taken_back joint e ≡ d
taken_back_is law back d asked None e disk joined = joined.1
taken_back_is law back d asked (Some p) e disk joined =
    let one = law.one d asked p joined.0 disk in
    ap (reverted p) joined.1 ∙ back.back p d disk one.growth.patch one.stands

-- it is the first of a list that is
record Reached (d : Disk) (asked : List Asked) (e : Disk) : Type 0 where
  changes : List ChangeSet
  plans : PlansAll d asked changes
  is : e ≡ applied_all changes d

reached : Join → (d : Disk) (asked : List Asked) (joint : Option ChangeSet) (e : Disk) → IsDisk d → AreJoined d asked joint e
    → Reached d asked e
reached law d asked None e disk joined = record {
  changes = [];
  plans = subst (λ (them : List Asked). PlansAll d them []) (sym joined.0) tt;
  is = joined.1;
}
reached law d asked (Some p) e disk joined = record {
  changes = joined.0.first ∷ joined.0.later;
  plans = joined.0.plans;
  is = one_by_one law d asked p e disk joined.0 joined.1;
}

pub refused_next : Join → (d : Disk) (commands : List OnTexts) (i : ℕ) (c : OnTexts) (joint : Option ChangeSet) (e : Disk) (r : Refusal)
    → IsDisk d → i < length commands → AreJoined d (map asked_for (take i commands)) joint e
    → RefusesPlan e (asked_for (get_or commands i c)) r → RefusesTogether d (map asked_for commands) i r
refused_next law d commands i c joint e r disk within joined refused =
    let asked = map asked_for commands in
    let many : i < length asked = subst (λ (n : ℕ). i < n) (sym (length-map commands asked_for)) within in
    let to = reached law d (map asked_for (take i commands)) joint e disk joined in
    let is : asked_for (get_or commands i c) ≡ get_or asked i (asked_for c) = sym (get_or-map asked_for commands i c (asked_for c) within) in
    record {
      before = take i asked;
      next = get_or asked i (asked_for c);
      behind = drop (suc i) asked;
      are = split_at asked i (asked_for c) many;
      place = length-take-le i asked (omega arith);
      changes = to.changes;
      plans = subst (λ (them : List Asked). PlansAll d them to.changes) (sym (take-map asked_for i commands)) to.plans;
      refused = subst (λ (x : Disk). RefusesPlan x (get_or asked i (asked_for c)) r) to.is
          (subst (λ (a : Asked). RefusesPlan e a r) is refused);
    }

-- a command that is refused leaves what was done as it was
pub still_joined : (d : Disk) (asked : List Asked) (before after : Option ChangeSet) (mid e : Disk) → after ≡ before → e ≡ mid
    → AreJoined d asked before mid → AreJoined d asked after e
still_joined d asked before after mid e same is joined =
    subst (λ (o : Option ChangeSet). AreJoined d asked o e) (sym same) (subst (AreJoined d asked before) (sym is) joined)
