-- Each edit takes what its tag and its data do.
use Rattle.std.proofs.Common.{◌<◌, ◌-◌, length, ap, ◌∙◌, arith}
use Rattle.std.proofs.lemmas.List.{take_all}
use Rattle.lfs_tag.specs.Writing.{items, tags_len}
use Rattle.lfs_tag.proofs.Puts.{tags_len-more}
use Rattle.lfs_tag.proofs.writing.room_behind.Goals as goal

pub loop-edit-preserved : goal.loop-edit-preserved
loop-edit-preserved c =
    let within : c.loop-edit.edit-index < length c.args.edits.now = omega arith in
    omega (
      arith,
      c.loop-edit.invariant,
      c.saturating_sub-left.ensures,
      ap length c.as_bytes.ensures,
      tags_len-more c.args.edits.now c.loop-edit.edit-index c.edit-item.result within c.edit-item.is,
    )

pub returns : goal.returns
returns c = c.loop-edit.invariant
    ∙ ap (λ ts. c.args.room - tags_len (items ts)) (take_all c.loop-edit.edit-index c.args.edits.now (omega arith))
