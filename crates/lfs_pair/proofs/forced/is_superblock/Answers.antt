use Rattle.std.proofs.Common.{ℕ, ◌==◌, ap, ◌∙◌}
use Rattle.lfs_meta.specs.Entry.{StoredEntry}
use Rattle.lfs_pair.specs.Spelling.{name_kind}
use Rattle.lfs_pair.proofs.forced.is_superblock.Goals as goal

pub returns : goal.returns
returns c = ap (λ (n : ℕ). n == 0x0ff) (c.name_kind.ensures ∙ ap (λ (e : StoredEntry). name_kind e.kind) c.entry.view_is)
