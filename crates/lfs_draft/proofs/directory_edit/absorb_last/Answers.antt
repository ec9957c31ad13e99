-- The last part takes up the delta where it stands.
use Rattle.std.proofs.Common.{◌-◌, sym, refl, ◌∙◌, arith, vec_len, rules}
use Rattle.lfs_command.specs.DirectoryEdit.{taking_up}
use Rattle.lfs_draft.proofs.LastParts.{absorbed_last, changed_among, changed_alone}
use Rattle.lfs_draft.proofs.directory_edit.absorb_last.Goals as goal

pub returns-in-Some : goal.returns-in-Some
returns-in-Some c =
    changed_among (taking_up c.args.delta.now) c.args.first.now c.args.more.now.items
    (vec_len c.args.more.now - 1) c.in-Some.part.now c.absorb_into.new.part
    (omega (arith, c.args.more.now.ok, c.in-Some.ensures.variant.0 refl)) c.in-Some.ensures.value c.absorb_into.ensures
    ∙ sym (absorbed_last c.args.delta.now c.args.first.now c.args.more.now.items)

pub returns-in-None : goal.returns-in-None
returns-in-None c =
    changed_alone (taking_up c.args.delta.now) c.args.first.now c.absorb_into-in-None.new.part c.args.more.now.items
    (search rules) c.absorb_into-in-None.ensures
    ∙ sym (absorbed_last c.args.delta.now c.args.first.now c.args.more.now.items)
