-- Of the image that bytes are as many are kept as it states.
use Rattle.std.proofs.Common.{◌≡◌, inl}
use Rattle.std.proofs.lemmas.Result.{IfOk-weaker}
use Rattle.lfs_block.specs.Disk.{Disk, IsDisk}
use Rattle.lfs_block.proofs.BytesLemmas.{at_bytes}
use Rattle.lfs_lower.specs.Own.{own_part}
use Rattle.lfs_lower.proofs.own.own_bytes.Goals as goal

pub returns-in-Ok : goal.returns-in-Ok
returns-in-Ok c =
    let d : Disk = c.in-Ok.image.disk in
    let made = c.in-Ok.ensures in
    IfOk-weaker c.own_part.result _ _ (λ own kept.
    inl (at_bytes d c.args.size c.args.bytes.items (λ x. IsDisk x × (own.items ≡ own_part x)) made.disk made.size made.bytes (made.disk, kept)))
    c.own_part.ensures
