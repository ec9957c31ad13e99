use Rattle.std.proofs.Common.{Some, ap, sym, ◌∙◌}
use Rattle.std.specs.Prelude.{slice_get}
use Rattle.lfs_fs.specs.Directory.{Directory, parts}
use Rattle.lfs_fs.specs.declared.outline_directory.OutlineParts.{OutlineParts}
use Rattle.lfs_fs.proofs.outline_directory.OutlineDirectory.part.Goals as goal

pub returns-then-index-eq0 : goal.returns-then-index-eq0
returns-then-index-eq0 c =
    ap (λ (ps : OutlineParts). Some ps.first) c.deref.ensures ∙ ap (λ (d : Directory). Some d.first) c.self.view_is ∙ ap (slice_get (parts c.args.self.now)) (sym c.if-index-eq0.true)
