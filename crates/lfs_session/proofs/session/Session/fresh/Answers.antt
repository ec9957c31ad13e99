-- The image's outline is that of its mount.
use Rattle.std.proofs.Common.{rules, subst, sym}
use Rattle.lfs_fs.specs.Mounted.{IsOutlineOf}
use Rattle.lfs_session.specs.Known.{IsKnown}
use Rattle.lfs_session.proofs.OpeningLemmas.{mount_outlined}
use Rattle.lfs_session.proofs.session.Session.fresh.Goals as goal

pub invariant_of-result : goal.invariant_of-result
invariant_of-result c =
    let d = c.args.image.disk in
    let known : IsKnown d c.known_by-known.result = c.known_by-known.ensures d
    (subst (IsOutlineOf d) (sym c.into_outline.ensures) (mount_outlined d c.in-Ok.mounted c.in-Ok.ensures.mounted)) in
    record { at = search rules; known = known; room = search rules }
