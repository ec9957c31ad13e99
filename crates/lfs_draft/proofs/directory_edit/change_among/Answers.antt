-- The one part that has the name is changed where it stands.
use Rattle.std.proofs.Common.{◌≡◌, ◌≤◌, Some, true, count_by, subst, ap, sym, ◌∙◌, arith}
use Rattle.std.specs.List.{position}
use Rattle.std.proofs.lemmas.List.Quantifiers.{position-Some}
use Rattle.lfs_fs.specs.Entry.{is_named}
use Rattle.lfs_fs.specs.Directory.{Part}
use Rattle.lfs_draft.specs.EntryChange.{entry_change}
use Rattle.lfs_command.specs.EntryEdit.{changed}
use Rattle.lfs_command.specs.DirectoryEdit.{has_name, touch}
use Rattle.lfs_draft.proofs.OneIndex.{at_position, at_no_position}
use Rattle.lfs_draft.proofs.OneNamed.{few_have, few_in, where_named}
use Rattle.lfs_draft.proofs.directory_edit.change_among.Goals as goal

pub change_in_part-requires-clause-once : goal.change_in_part-requires-clause-once
change_in_part-requires-clause-once c =
    let found : position (has_name c.args.name.now) c.args.parts.now.items ≡ Some c.in-Some.at =
    ap (position (has_name c.args.name.now)) (sym c.deref.ensures.value) ∙ sym c.first_with.ensures ∙ c.in-Some.is in
    let here = position-Some (has_name c.args.name.now) c.args.parts.now.items c.in-Some.at c.index_mut.result.now found in
    let few = few_in c.args.name.now c.args.parts.now.items c.in-Some.at c.index_mut.result.now here.0 in
    subst (λ (p : Part). count_by (is_named c.args.name.now) p.entries ≤ 1) (sym c.index_mut.ensures.value)
    (omega (arith, few, c.requires.once))

pub returns-in_ok-change_in_part-clause-changed : goal.returns-in_ok-change_in_part-clause-changed
returns-in_ok-change_in_part-clause-changed c =
    let f : Part → Part = touch true (changed c.args.name.now (entry_change c.args.change)) in
    at_position (has_name c.args.name.now) f c.args.parts.now.items c.in-Some.at c.index_mut.result.now c.change_in_part.new.part
    (ap (position (has_name c.args.name.now)) (sym c.deref.ensures.value) ∙ sym c.first_with.ensures ∙ c.in-Some.is)
    (omega (arith, few_have c.args.name.now c.args.parts.now.items, c.requires.once))
    (c.in_ok-change_in_part.ensures.changed ∙ ap f c.index_mut.ensures.value)
    ∙ where_named c.args.name.now (entry_change c.args.change) c.args.parts.now.items

pub returns-in_default-clause-changed : goal.returns-in_default-clause-changed
returns-in_default-clause-changed c =
    sym (at_no_position (has_name c.args.name.now) (touch true (changed c.args.name.now (entry_change c.args.change)))
    c.args.parts.now.items
    (ap (position (has_name c.args.name.now)) (sym c.deref.ensures.value) ∙ sym c.first_with.ensures ∙ c.in_default.is))
    ∙ where_named c.args.name.now (entry_change c.args.change) c.args.parts.now.items
