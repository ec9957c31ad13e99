use Rattle.std.proofs.Common.{ap, ◌∙◌}
use Rattle.std.specs.Prelude.{bytes_eq}
use Rattle.lfs_fs.specs.Entry.{Entry}
use Rattle.lfs_fs.proofs.outline_entry.OutlineEntry.is_named.Goals as goal

pub returns : goal.returns
returns c = c.eq.ensures ∙ ap (bytes_eq c.args.name.now) (c.as_slice.ensures.value ∙ ap (λ (e : Entry). e.name) c.self.view_is)
