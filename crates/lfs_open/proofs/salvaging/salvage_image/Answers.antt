-- The image mounts or not.
use Rattle.std.proofs.Common.{rules, Some, ap, inl, inr, refl}
use Rattle.lfs_fs.specs.Cause.{IsOfFormat}
use Rattle.lfs_host.specs.Scene.{Scene}
use Rattle.lfs_open.proofs.SalvagingLemmas.{whole_without_memory}
use Rattle.lfs_open.proofs.salvaging.salvage_image.Goals as goal

pub returns-in-Ok-clause-made : goal.returns-in-Ok-clause-made
returns-in-Ok-clause-made g c = c.salvage_mounted.ensures.made

pub returns-in-Err-Memory-clause-made : goal.returns-in-Err-Memory-clause-made
returns-in-Err-Memory-clause-made g c =
    let old : Scene = g.H.Known.known c.args.host.now in
    inl (whole_without_memory c.args.dir.now old.tree old.made old c.args.reading.now.image.disk c.args.reading.now.disk.disk c.args.reading.now.parts.disk
    (Some c.from.result.fault) refl (ap Some c.from.ensures))

pub returns-in-Err-clause-made : goal.returns-in-Err-clause-made
returns-in-Err-clause-made g c =
    let format : IsOfFormat c.in-Err.cause = search rules in
    inr (inr (inr (c.in-Err.cause, format, c.in-Err.ensures.refused, c.save_readable.ensures.made)))
