-- An entry without anything is blank.
use Rattle.std.proofs.Common.{ap}
use Rattle.std.specs.Prelude.{None}
use Rattle.lfs_meta.specs.Entry.{RawEntry, blank}
use Rattle.lfs_meta.specs.Attribute.{Attributes}
use Rattle.lfs_meta.proofs.entry_draft.EntryDraft.blank.Goals as goal

pub returns : goal.returns
unfolding blank
returns c = ap (λ (a : Attributes). let e : RawEntry = record { name = None; body = None; attributes = a } in e) c.new.ensures.items
