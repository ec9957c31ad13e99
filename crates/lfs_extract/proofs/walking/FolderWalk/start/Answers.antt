use Rattle.std.proofs.Common.{map, reverse, string_bytes}
use Rattle.std.proofs.lemmas.Result.{err_from_is_err_and}
use Rattle.lfs_extract.specs.declared.walking.TheConstants.{MOST_BYTES}
use Rattle.lfs_extract.proofs.WalkStepLemmas.{walk_start, start_refused}
use Rattle.lfs_extract.proofs.walking.FolderWalk.start.Goals as goal

pub returns-in_err-enter-clause-refused : goal.returns-in_err-enter-clause-refused
returns-in_err-enter-clause-refused g c =
    let p = err_from_is_err_and c.from_residual.result c.from_residual.ensures.1 in
    rw (p.1, p.2) (start_refused (g.H.Known.known c.args.host.now).tree c.args.dir.now c.in_err-enter.field-0.0 c.in_err-enter.ensures.refused)

pub returns-clause-walking : goal.returns-clause-walking
returns-clause-walking g c =
    let entered = rw (c.new.ensures.items, c.new-2.ensures.items) at c.in_ok-enter.ensures.entered in
    walk_start MOST_BYTES (g.H.Known.known c.args.host.now).tree c.args.dir.now c.enter.new.self.rows.items
    (map (λ s. string_bytes s) (reverse c.enter.new.self.waiting.items)) entered
