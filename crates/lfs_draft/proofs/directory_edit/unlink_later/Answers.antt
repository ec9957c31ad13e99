-- The one later part that has the name goes, or is changed where it stands.
use Rattle.std.proofs.Common.{◌≡◌, ◌<◌, Some, true, false, length, ap, sym, ◌∙◌, arith}
use Rattle.std.specs.Prelude.{slice_index_or}
use Rattle.std.specs.List.{position}
use Rattle.std.proofs.lemmas.List.{get_or_default}
use Rattle.std.proofs.lemmas.List.Quantifiers.{position-Some}
use Rattle.lfs_fs.specs.Directory.{Part}
use Rattle.lfs_command.specs.EntryEdit.{without}
use Rattle.lfs_command.specs.DirectoryEdit.{has_name, has_only, touch}
use Rattle.lfs_draft.proofs.OneNamed.{few_have, only_fewer}
use Rattle.lfs_draft.proofs.UnlinkedParts.{gone_with_it, later_left, nothing_left}
use Rattle.lfs_draft.proofs.directory_edit.unlink_later.Goals as goal

pub returns-in_default : goal.returns-in_default
returns-in_default c =
    nothing_left c.args.name.now c.args.first.now c.args.more.now.items c.requires.elsewhere
    (ap (position (has_name c.args.name.now)) (sym c.deref.ensures.value) ∙ sym c.first_with.ensures ∙ c.in_default.is)

pub drop_emptied-requires : goal.drop_emptied-requires
drop_emptied-requires c =
    omega (
      arith,
      c.requires.once,
      only_fewer c.args.name.now c.args.more.now.items,
      few_have c.args.name.now c.args.more.now.items,
    )

pub returns-then-has_only : goal.returns-then-has_only
returns-then-has_only c =
    let n = c.args.name.now in
    let found : position (has_name n) c.args.more.now.items ≡ Some c.in-Some.at =
    ap (position (has_name n)) (sym c.deref.ensures.value) ∙ sym c.first_with.ensures ∙ c.in-Some.is in
    let here = position-Some (has_name n) c.args.more.now.items c.in-Some.at c.index.result.now found in
    c.drop_emptied.ensures
    ∙ gone_with_it n c.args.first.now c.args.more.now.items c.in-Some.at c.index.result.now c.requires.elsewhere here.0
    (ap (has_only n) (sym c.index.ensures) ∙ sym c.has_only.ensures ∙ c.if-has_only.true) c.requires.once

pub returns-else-has_only : goal.returns-else-has_only
returns-else-has_only c =
    let n = c.args.name.now in
    let found : position (has_name n) c.args.more.now.items ≡ Some c.in-Some.at =
    ap (position (has_name n)) (sym c.deref.ensures.value) ∙ sym c.first_with.ensures ∙ c.in-Some.is in
    let here = position-Some (has_name n) c.args.more.now.items c.in-Some.at c.index.result.now found in
    later_left n c.args.first.now c.args.more.now.items c.in-Some.at c.index_mut.result.now c.take_out_of.new.part c.requires.elsewhere found
    c.requires.once
    (ap (has_only n) (get_or_default c.args.more.now.items c.in-Some.at c.index_mut.result.now c.index.result.now here.0 ∙ sym c.index.ensures)
    ∙ sym c.has_only.ensures ∙ c.if-has_only.false)
    (c.take_out_of.ensures ∙ ap (λ (p : Part). touch (has_name n p) (without n) p) c.index_mut.ensures.value)
