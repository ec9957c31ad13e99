-- The part where the name belongs is set at its place.
use Rattle.std.proofs.Common.{ℕ, ◌<◌, length, ap, subst, sym, ◌∙◌}
use Rattle.lfs_meta.specs.Name.{Name}
use Rattle.lfs_fs.specs.Entry.{Entry}
use Rattle.lfs_command.specs.DirectoryEdit.{has_greater}
use Rattle.lfs_draft.proofs.LastNames.{part_rises}
use Rattle.lfs_draft.proofs.LinkedParts.{first_or_last, linked_by, one_of_them}
use Rattle.lfs_draft.proofs.directory_edit.link_among.Goals as goal

pub place_in-requires : goal.place_in-requires
place_in-requires c =
    part_rises c.args.parts.now.items c.parent_among-at.result c.index_mut.result.now c.requires.rise
    (subst (λ (i : ℕ). i < length c.args.parts.now.items)
    (sym (c.parent_among-at.ensures ∙ ap (first_or_last (has_greater c.deref-2.result.now)) c.deref.ensures.value))
    (one_of_them (has_greater c.deref-2.result.now) c.args.parts.now.items c.requires.some))
    c.index_mut.ensures.value

pub returns-clause-linked : goal.returns-clause-linked
returns-clause-linked c p ps are =
    linked_by c.args.entry p ps c.args.parts.now.items c.parent_among-at.result c.index_mut.result.now c.place_in.new.part are
    (c.parent_among-at.ensures
    ∙ ap (λ (n : Name). first_or_last (has_greater n) c.deref.result.now)
    (c.deref-2.ensures.value ∙ ap (λ (e : Entry). e.name) c.entry.view_is)
    ∙ ap (first_or_last (has_greater c.args.entry.name)) c.deref.ensures.value)
    c.index_mut.ensures.value
    c.in_ok-place_in.ensures.placed
