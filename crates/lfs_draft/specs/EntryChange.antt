-- What a command does to an entry that is there (own).
use Rattle.std.specs.Prelude.{◌<◌, length}
use Rattle.lfs_meta.specs.Attribute.{set_attribute, remove_attribute}
use Rattle.lfs_meta.specs.Fits.{BodyFits}
use Rattle.lfs_fs.specs.AsStored.{stored_body}
use Rattle.lfs_fs.specs.Entry.{Entry}
use Rattle.lfs_fs.specs.OutlineHeld.{outline_body_held}
use Rattle.lfs_draft.specs.declared.entry_change.EntryChange.{EntryChange}
use Rattle.lfs_draft.specs.declared.entry_change.EntryChange.TheVariants as case
use Rattle.lfs_command.specs.Edited.{with_body, with_entry_attributes}

-- the entry afterwards
abbrev pub entry_change : EntryChange → Entry → Entry
entry_change (case.Body body) = with_body (outline_body_held body)
entry_change (case.SetAttribute kind value) = with_entry_attributes (set_attribute kind value.now)
entry_change (case.RemoveAttribute kind) = with_entry_attributes (remove_attribute kind)

-- the body or the value fits into tags
abbrev pub ChangeFits : EntryChange → Type 0
ChangeFits (case.Body body) = BodyFits (stored_body (outline_body_held body))
ChangeFits (case.SetAttribute kind value) = length value.now < 1023
ChangeFits (case.RemoveAttribute kind) = Unit {0}
