-- The image that bytes are is opened, or refused.
use Rattle.std.proofs.Common.{IfOk, subst}
use Rattle.lfs_block.specs.Disk.{Disk}
use Rattle.lfs_open.specs.Opened.{IsOpenedOn}
use Rattle.lfs_open.proofs.OpenedLemmas.{disk_is, judged}
use Rattle.lfs_open.proofs.opened.opened_as.Goals as goal

pub returns-in-Ok-clause-opened : goal.returns-in-Ok-clause-opened
returns-in-Ok-clause-opened c =
    let is = c.in-Ok.ensures in
    subst (λ (d : Disk). IfOk c.opened_on.result (IsOpenedOn d))
    (disk_is c.args.size c.args.bytes.items c.in-Ok.image.disk is.disk is.size is.bytes) c.opened_on.ensures.opened

pub returns-in-Ok-clause-refused : goal.returns-in-Ok-clause-refused
returns-in-Ok-clause-refused c =
    let is = c.in-Ok.ensures in
    judged c.args.size c.args.bytes.items c.in-Ok.image.disk is.disk
    (disk_is c.args.size c.args.bytes.items c.in-Ok.image.disk is.disk is.size is.bytes) c.opened_on.result c.opened_on.ensures.refused
