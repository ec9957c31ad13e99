-- The entry goes into the first part where it belongs there, else into one of the others.
use Rattle.std.proofs.Common.{◌≡◌, ◌<◌, true, false, length, ap, sym, ◌∙◌, ◌⊎◌, subst}
use Rattle.lfs_meta.specs.Name.{Name}
use Rattle.lfs_fs.specs.declared.outline_directory.OutlineParts.{OutlineParts}
use Rattle.lfs_fs.specs.Entry.{Entry}
use Rattle.lfs_fs.specs.Directory.{Directory}
use Rattle.lfs_command.specs.DirectoryEdit.{has_greater, link_in, touch}
use Rattle.lfs_command.specs.EntryEdit.{place}
use Rattle.lfs_draft.proofs.LinkedParts.{linked_first, linked_later}
use Rattle.lfs_fs.specs.Directory.{entries}
use Rattle.lfs_fs.specs.Sound.{Rise}
use Rattle.lfs_draft.proofs.LastNames.{rise_left, rise_right}
use Rattle.lfs_law.proofs.DirectoryEdits.{entries_of}
use Rattle.lfs_draft.proofs.directory_edit.link_in.Goals as goal

pub returns-in_ok-place_in-clause-linked : goal.returns-in_ok-place_in-clause-linked
returns-in_ok-place_in-clause-linked c =
    rw (c.in_ok-place_in.ensures.placed) (
    subst (λ (ps : OutlineParts). record { first = touch true (place c.args.entry) ps.first; more = ps.more.items } ≡ link_in c.args.entry c.args.directory.now)
    (sym c.deref_mut.ensures.value)
    (linked_first c.args.entry c.directory.inside.parts.value.first c.directory.inside.parts.value.more.items
    (subst (λ (n : Name). (length c.directory.inside.parts.value.more.items ≡ 0) ⊎ (has_greater n c.directory.inside.parts.value.first ≡ true))
    (c.deref.ensures.value ∙ ap (λ (e : Entry). e.name) c.entry.view_is)
    (subst (λ (d : Directory). (length d.more ≡ 0) ⊎ (has_greater c.deref.result.now d.first ≡ true))
    (sym c.directory.view_is) c.if-belongs_first.ensures))
    ∙ ap (link_in c.args.entry) c.directory.view_is))

pub returns-in_ok-link_among-clause-linked : goal.returns-in_ok-link_among-clause-linked
returns-in_ok-link_among-clause-linked c =
    let parts = c.deref_mut-else-belongs_first.result.now in
    let others : (0 < length parts.more.items) × (has_greater c.args.entry.name parts.first ≡ false) =
    subst (λ (ps : OutlineParts). (0 < length ps.more.items) × (has_greater c.args.entry.name ps.first ≡ false))
    (sym c.deref_mut-else-belongs_first.ensures.value)
    (subst (λ (n : Name). (0 < length c.directory.inside.parts.value.more.items) × (has_greater n c.directory.inside.parts.value.first ≡ false))
    (c.deref.ensures.value ∙ ap (λ (e : Entry). e.name) c.entry.view_is)
    (subst (λ (d : Directory). (0 < length d.more) × (has_greater c.deref.result.now d.first ≡ false))
    (sym c.directory.view_is) c.if-belongs_first.ensures)) in
    linked_later c.args.entry parts.first parts.more.items c.link_among.new.parts.items others.0 others.1 c.in_ok-link_among.ensures.linked
    ∙ ap (λ (ps : OutlineParts). link_in c.args.entry (record { first = ps.first; more = ps.more.items }))
    c.deref_mut-else-belongs_first.ensures.value
    ∙ ap (link_in c.args.entry) c.directory.view_is

pub place_in-requires : goal.place_in-requires
place_in-requires c =
    let parts = c.deref_mut.result.now in
    rise_left parts.first.entries (entries_of parts.more.items)
    (subst (λ (ps : OutlineParts). Rise (entries (record { first = ps.first; more = ps.more.items })))
    (sym c.deref_mut.ensures.value)
    (subst (λ (d : Directory). Rise (entries d)) (sym c.directory.view_is) c.requires))

pub link_among-requires-clause-rise : goal.link_among-requires-clause-rise
link_among-requires-clause-rise c =
    let parts = c.deref_mut-else-belongs_first.result.now in
    rise_right parts.first.entries (entries_of parts.more.items)
    (subst (λ (ps : OutlineParts). Rise (entries (record { first = ps.first; more = ps.more.items })))
    (sym c.deref_mut-else-belongs_first.ensures.value)
    (subst (λ (d : Directory). Rise (entries d)) (sym c.directory.view_is) c.requires))
