-- What is made of an image is made of its bytes, or memory is wanting for those of its file.
use Rattle.std.proofs.Common.{ℕ, ◌≤◌, List, length, refl, subst, sym}
use Rattle.std.proofs.lemmas.Result.{err_from_is_err_and}
use Rattle.lfs_block.specs.Disk.{Disk}
use Rattle.lfs_command.specs.declared.refusal.Refusal.TheVariants.{Memory}
use Rattle.lfs_host.specs.Scene.{Scene}
use Rattle.lfs_report.specs.Stop.{stopped_by}
use Rattle.lfs_request.specs.declared.fault.Fault.TheVariants.{Refused}
use Rattle.lfs_open.specs.Salvaging.{EndsImage}
use Rattle.lfs_open.proofs.SalvagingLemmas.{ends_of_bytes, own_ends, own_without_memory}
use Rattle.lfs_open.proofs.StopLemmas.{stopped_at}
use Rattle.lfs_open.proofs.salvaging.salvage_bytes.Goals as goal

pub reading_of-requires : goal.reading_of-requires
reading_of-requires g c =
    subst (λ (l : List ℕ). length l ≤ length c.args.held.own.items) (sym c.in-Ok.ensures.bytes) c.requires

pub returns-in_err-reading-in-Ok-clause-made : goal.returns-in_err-reading-in-Ok-clause-made
returns-in_err-reading-in-Ok-clause-made g c =
    let old : Scene = g.H.Known.known c.args.host.now in
    let own : List ℕ = c.args.held.own.items in
    let i : Disk = c.in-Ok.image.disk in
    let on = c.from_residual in
    let p = err_from_is_err_and on.result on.ensures.1 in
    ends_of_bytes c.args.dir.now old.tree old.made old own i c.args.held.size c.args.held.read.items (stopped_by on.result)
    c.in-Ok.ensures.size c.in-Ok.ensures.bytes
    (own_without_memory c.args.dir.now old.tree old.made old i c.in-Ok.ensures.disk own (stopped_by on.result) refl
    (stopped_at on.result (Refused Memory) p.0 p.1 p.2))

pub returns-in_ok-reading-in-Ok-clause-made : goal.returns-in_ok-reading-in-Ok-clause-made
returns-in_ok-reading-in-Ok-clause-made g c =
    let old : Scene = g.H.Known.known c.args.host.now in
    let new : Scene = g.H.Known.known c.salvage_image.new.host in
    let own : List ℕ = c.args.held.own.items in
    let i : Disk = c.in-Ok.image.disk in
    let d : Disk = c.in_ok-reading-in-Ok.reading.disk.disk in
    let e : Disk = c.in_ok-reading-in-Ok.reading.parts.disk in
    let ended = stopped_by c.salvage_image.result in
    ends_of_bytes c.args.dir.now old.tree old.made new own i c.args.held.size c.args.held.read.items ended
    c.in-Ok.ensures.size c.in-Ok.ensures.bytes
    (own_ends c.args.dir.now old.tree old.made new i c.in-Ok.ensures.disk own d e ended c.in_ok-reading-in-Ok.ensures.own
    (subst (λ (x : Disk). EndsImage x d e c.args.dir.now old.tree old.made new ended) c.in_ok-reading-in-Ok.ensures.image
    c.salvage_image.ensures.made))
