-- What is owed where an outline that is ready is cut.
use Rattle.std.proofs.Common.{◌≡◌, ◌+◌, ◌≤◌, ℕ, Bool, List, [], length, ap, sym, ◌∙◌, subst, arith}
use Rattle.std.specs.Prelude.{sum_by}
use Rattle.std.specs.List.{filter}
use Rattle.std.proofs.lemmas.List.{length-take-le}
use Rattle.lfs_fs.specs.Free.{free_blocks}
use Rattle.lfs_fs.specs.Outlined.{outlined}
use Rattle.lfs_fs.specs.Sound.{IsSound}
use Rattle.lfs_fs.specs.SoundOutlines.{OutlinesAreSound}
use Rattle.lfs_fs.specs.Volume.{Volume}
use Rattle.lfs_command.specs.Accepted.{Follows, IsAccepted}
use Rattle.lfs_draft.specs.LeastSupplies.{made_blocks}
use Rattle.lfs_edit.specs.Carried.{IsReady, supplies_of}
use Rattle.lfs_edit.specs.CarryingLaws.{CarryingLaws}
use Rattle.lfs_cut.specs.Chosen.{HasPairsOnce}
use Rattle.lfs_command.specs.Command.{Command}
use Rattle.lfs_command.specs.Edited.{edited}
use Rattle.lfs_command.specs.Growth.{grown}
use Rattle.lfs_command.specs.Need.{changed_parts, dirty_parts, need, part_blocks}
use Rattle.lfs_law.specs.OutlineCarried.{IsCarried}
use Rattle.lfs_edit.proofs.CarryingLemmas.{within_need}
use Rattle.lfs_edit.proofs.FewOverflow.{few_are_more, is_more}
use Rattle.lfs_law.proofs.FrugalPlans.{enough_free}
use Rattle.lfs_law.proofs.OutlineRoom.{outlines_take_same_room}
use Rattle.lfs_edit.proofs.PairsOnce.{pairs_once}
use Rattle.lfs_edit.proofs.Supplied.{supplies_free}

-- what is known of such an outline
pub record IsKnown (v : Volume) (c : Command) (blocks : List ℕ) (o : Volume) : Type 0 where
  pub frame : o.size ≡ v.size
  pub made : made_blocks v c ≤ length blocks
  pub needed : length blocks ≡ made_blocks v c + sum_by (part_blocks o) (dirty_parts o)
  pub once : HasPairsOnce o
  pub few : length (filter (is_more o) (dirty_parts o)) ≤ 2
  pub left : (w : Volume) × IsSound w × (o ≡ outlined w)

pub known_ready : (laws : CarryingLaws) (v : Volume) (c : Command) (used : List Bool) (blocks : List ℕ) (o : Volume)
    → IsReady v c used blocks o → IsKnown v c blocks o
known_ready laws v c used blocks o ready = record {
  frame = ap (λ (x : Volume). x.size) is ∙ follows.size;
  made = omega (arith, long, within_need v c);
  needed = long ∙ carried.needed;
  once = subst HasPairsOnce (sym is) (pairs_once (outlined w) (λ b. omega
      (arith, (outlines_take_same_room w).used b, follows.sound.once b)));
  few = subst (λ (x : Volume). length (filter (is_more x) (dirty_parts x)) ≤ 2) (sym is)
      (omega (arith, few_are_more laws.command v c (supplies_of v c) accepted, few));
  left = (w, follows.sound, is);
}
  where
    w : Volume
    w = edited v c (supplies_of v c)

    is : o ≡ outlined w
    is = ready.outline ∙ sym (laws.outlines v c (supplies_of v c))

    enough : need v c ≤ length (free_blocks (grown c v))
    enough = enough_free v c ready.unrefused

    long : length blocks ≡ need v c
    long = ap length ready.least ∙ length-take-le (need v c) (free_blocks (grown c v)) enough

    accepted : IsAccepted v c (supplies_of v c)
    accepted = record {
      sound = ready.holdable.sound;
      names = ready.names;
      free = supplies_free v c ready.holdable.sound (omega (arith, within_need v c, enough));
      unrefused = ready.unrefused;
    }

    follows : Follows v c w
    follows = laws.command v c (supplies_of v c) accepted

    carried : IsCarried v c (supplies_of v c) (λ p. []) o
    carried = subst (IsCarried v c (supplies_of v c) (λ p. [])) (sym ready.outline) (laws.carried v c (supplies_of v c) (λ p. []))

    few : length (changed_parts v w) ≤ 2
    few = laws.few v c (supplies_of v c) accepted ready.holdable.clean

-- it is sound
pub ready_sound : (laws : CarryingLaws) → OutlinesAreSound → (v : Volume) (c : Command) (used : List Bool) (blocks : List ℕ) (o : Volume)
    → IsReady v c used blocks o → IsSound o
ready_sound laws sound v c used blocks o ready =
    let left = (known_ready laws v c used blocks o ready).left in
    subst IsSound (sym left.2) (sound left.0 left.1)
