-- Blocks by themselves, among those that are in no use.
use Rattle.std.proofs.Common.{◌≡◌, ◌∙◌, Bool, List, true, ap, inl, subst, sym}
use Rattle.std.proofs.lemmas.Result.{IfOk-weaker}
use Rattle.lfs_block.specs.Disk.{Disk}
use Rattle.lfs_salvage.specs.AllMade.{marked_used}
use Rattle.lfs_salvage.specs.Saved.{AreLeft}
use Rattle.lfs_survey.specs.Lone.{AreLone}
use Rattle.lfs_survey.specs.Unread.{has_unread}
use Rattle.lfs_salvage.proofs.saving_image.find_left.Goals as goal

pub returns-clause-left : goal.returns-clause-left
returns-clause-left g c =
    let e : Disk = g.C.Blocks.disk c.args.parts.now in
    let after : List Bool = c.lone_areas.new.looked in
    let table : c.mark_used.new.looked ≡ marked_used c.args.survey.now.looked.items 0 c.args.uses.now =
    c.mark_used.ensures.value ∙ ap (λ (t : List Bool). marked_used t 0 c.args.uses.now) c.as_mut_slice-table.ensures.value in
    let unread : has_unread c.args.survey.now.areas.items ≡ true = sym c.if-not-has_unread.ensures in
    IfOk-weaker c.lone_areas.result (λ lone. AreLone e c.mark_used.new.looked after lone.items)
    (λ lone. AreLeft e c.args.survey.now c.args.uses.now lone.items)
    (λ lone are. inl (unread, (after, subst (λ (t : List Bool). AreLone e t after lone.items) table are))) c.lone_areas.ensures.areas
