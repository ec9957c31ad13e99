-- The image that bytes are is relaid.
use Rattle.std.proofs.Common.{inl}
use Rattle.std.proofs.lemmas.Result.{IfOk-weaker}
use Rattle.lfs_block.specs.Disk.{Disk, IsDisk}
use Rattle.lfs_block.proofs.BytesLemmas.{at_bytes}
use Rattle.lfs_settle.specs.ByDevice.{AreRelaid}
use Rattle.lfs_settle.proofs.by_device.read_by_device.Goals as goal

pub returns-in-Ok : goal.returns-in-Ok
returns-in-Ok c =
    let d : Disk = c.in-Ok.image.disk in
    let made = c.in-Ok.ensures in
    IfOk-weaker c.relaid.result _ _ (λ read relaid.
    inl (at_bytes d c.args.size c.args.bytes.items (λ x. IsDisk x × AreRelaid x read.items) made.disk made.size made.bytes (made.disk, relaid)))
    c.relaid.ensures
