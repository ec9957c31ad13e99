-- Several commands as one change.
use Rattle.std.proofs.Common.{ℕ, List, [], ◌∷◌, ◌++◌, Option, refl, sym, subst}
use Rattle.lfs_block.specs.Disk.{Disk}
use Rattle.lfs_block.specs.Patch.{ChangeSet, applied}
use Rattle.lfs_journal.specs.Joined.{FollowOn, applied_all, together}
use Rattle.lfs_journal.specs.JointLaws.{IsJoint, TogetherApplies}
use Rattle.lfs_fs.specs.Path.{Path}
use Rattle.lfs_fs.specs.Volume.{Volume}
use Rattle.lfs_fs.specs.Tree.{Node}
use Rattle.lfs_fs.specs.Reading.{reading_of}
use Rattle.lfs_fs.specs.Holds.{Holds}
use Rattle.lfs_fs.specs.Mounts.{Mounts}
use Rattle.lfs_command.specs.Command.{Asked}
use Rattle.lfs_command.specs.Equation.{equation}
use Rattle.lfs_command.specs.Planned.{Plans}
use Rattle.lfs_history.specs.History.{History, IsHistory, IsMounted}
use Rattle.lfs_history.specs.Laws.{CommandsAreEquations}
use Rattle.lfs_history.specs.Together.{AreCarriedOut, DoesSome, PlansAll}
use Rattle.lfs_history.specs.TogetherLaws.{DoneIsOne, OneIsDone, TogetherAreEquations, TogetherIsOneByOne, TogetherPushEquations}
use Rattle.lfs_history.proofs.MoveLemmas.{Follow, Make, change_keeps, planned_mounts}

-- ---- on an image

-- patches that carry commands out can be made one after another
pub plans_follow : (d : Disk) (asked : List Asked) (ps : List ChangeSet) → PlansAll d asked ps → FollowOn ps d
plans_follow d [] [] plans = tt
plans_follow d (a ∷ asked) (p ∷ ps) plans = (plans.0.patch, plans.0.stands, plans_follow (applied p d) asked ps plans.1)
plans_follow d [] (p ∷ ps) plans = absurd plans
plans_follow d (a ∷ asked) [] plans = absurd plans

pub one_by_one : TogetherApplies → TogetherIsOneByOne
one_by_one law d asked r plans disk =
    let joint = law plans.first plans.later d disk (plans_follow d asked (plans.first ∷ plans.later) plans.plans) in
    subst (λ (q : ChangeSet). IsJoint q d (applied_all (plans.first ∷ plans.later) d)) (sym plans.is) joint

-- the image that they make mounts
all_mount : Follow → (d : Disk) (asked : List Asked) (ps : List ChangeSet) → PlansAll d asked ps → IsMounted d
    → IsMounted (applied_all ps d)
all_mount law d [] [] plans mounts = mounts
all_mount law d (a ∷ asked) (p ∷ ps) plans mounts =
    all_mount law (applied p d) asked ps plans.1 (planned_mounts law d a p plans.0)
all_mount law d [] (p ∷ ps) plans mounts = absurd plans
all_mount law d (a ∷ asked) [] plans mounts = absurd plans

-- one command more
pub one_more_planned : (d : Disk) (asked : List Asked) (ps : List ChangeSet) (a : Asked) (q : ChangeSet) → PlansAll d asked ps
    → Plans (applied_all ps d) a q → PlansAll d (asked ++ a ∷ []) (ps ++ q ∷ [])
one_more_planned d [] [] a q plans next = (next, tt)
one_more_planned d (b ∷ asked) (p ∷ ps) a q plans next = (plans.0, one_more_planned (applied p d) asked ps a q plans.1 next)
one_more_planned d [] (p ∷ ps) a q plans next = absurd plans
one_more_planned d (b ∷ asked) [] a q plans next = absurd plans

-- ---- on the tree

all_carried : CommandsAreEquations → (d : Disk) (asked : List Asked) (ps : List ChangeSet) (v : Volume) (t : Path → Option Node)
    → PlansAll d asked ps → Holds (reading_of d) v → Mounts d t → AreCarriedOut asked (applied_all ps d) v t
all_carried law d [] [] v t plans holds mounts =
    record { commands = []; spell = tt; volume = v; holds = holds; follow = refl; mounts = mounts }
all_carried law d (a ∷ asked) (p ∷ ps) v t plans holds mounts =
    let first = law d a p v t plans.0 holds mounts in
    let rest = all_carried law (applied p d) asked ps first.volume (equation first.command t) plans.1 first.holds first.mounts in
    record {
      commands = first.command ∷ rest.commands;
      spell = (first.spells, rest.spell);
      volume = rest.volume;
      holds = rest.holds;
      follow = (first.volume, first.follows, rest.follow);
      mounts = rest.mounts;
    }
all_carried law d [] (p ∷ ps) v t plans holds mounts = absurd plans
all_carried law d (a ∷ asked) [] v t plans holds mounts = absurd plans

pub together_equations : TogetherIsOneByOne → CommandsAreEquations → TogetherAreEquations
together_equations one law d asked r v t plans disk holds mounts =
    subst (λ (e : Disk). AreCarriedOut asked e v t) (sym (one d asked r plans disk).same)
    (all_carried law d asked (plans.first ∷ plans.later) v t plans.plans holds mounts)

-- ---- on a history

pub push_all_equations : TogetherAreEquations → TogetherPushEquations
push_all_equations law asked keep old new v t does h holds mounts =
    let p = does.pushes in
    record {
      past = p.past;
      future = p.future;
      present = subst (λ (d : Disk). AreCarriedOut asked d v t) (sym p.present)
          (law old.present asked does.change v t does.plans h.disk holds mounts);
    }

pub together_keeps : Make → Follow → TogetherApplies → (asked : List Asked) (keep : Option ℕ) (old new : History)
    → DoesSome asked keep old new → IsHistory old → IsHistory new
together_keeps make follow law asked keep old new does h =
    let d = old.present in
    let ps = does.plans.first ∷ does.plans.later in
    let joint = one_by_one law d asked does.change does.plans h.disk in
    let mounts : IsMounted (applied does.change d) =
    subst IsMounted (sym joint.same) (all_mount follow d asked ps does.plans.plans h.mounts) in
    change_keeps make keep does.change old new h does.room joint.growth joint.stands mounts does.pushes

-- ---- a list of one

one_planned : (d : Disk) (a : Asked) (p : ChangeSet) (ps : List ChangeSet) → PlansAll d (a ∷ []) (p ∷ ps) → Plans d a (together p ps)
one_planned d a p [] plans = plans.0
one_planned d a p (q ∷ ps) plans = absurd plans.1

pub one_is_done : OneIsDone
one_is_done a keep old new does =
    let plans = does.plans in
    record {
      room = does.room;
      change = does.change;
      plans = subst (Plans old.present a) (sym plans.is) (one_planned old.present a plans.first plans.later plans.plans);
      pushes = does.pushes;
    }

pub done_is_one : DoneIsOne
done_is_one a keep old new does = record {
  room = does.room;
  change = does.change;
  plans = record { first = does.change; later = []; plans = (does.plans, tt); is = refl };
  pushes = does.pushes;
}
