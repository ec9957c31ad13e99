-- The last part is set where it stands.
use Rattle.std.proofs.Common.{◌-◌, true, sym, refl, ◌∙◌, arith, vec_len, rules}
use Rattle.lfs_command.specs.DirectoryEdit.{touch}
use Rattle.lfs_draft.proofs.LastParts.{touched_last, changed_among, changed_alone}
use Rattle.lfs_draft.proofs.directory_edit.touch_last_part.Goals as goal

pub returns-in-Some : goal.returns-in-Some
returns-in-Some c =
    changed_among (touch true (λ es. es)) c.args.first.now c.args.more.now.items
    (vec_len c.args.more.now - 1) c.in-Some.part.now c.touch.new.part
    (omega (arith, c.args.more.now.ok, c.in-Some.ensures.variant.0 refl)) c.in-Some.ensures.value c.touch.ensures
    ∙ sym (touched_last c.args.first.now c.args.more.now.items)

pub returns-in-None : goal.returns-in-None
returns-in-None c =
    changed_alone (touch true (λ es. es)) c.args.first.now c.touch-in-None.new.part c.args.more.now.items
    (search rules) c.touch-in-None.ensures
    ∙ sym (touched_last c.args.first.now c.args.more.now.items)
