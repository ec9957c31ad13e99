-- The words end as they do without the one that asks for JSON; a fault is told.
use Rattle.std.proofs.Common.{List, ℕ, ◌∙◌, ap, map, string_bytes, sym, subst}
use Rattle.clap.specs.Words.{Text}
use Rattle.lfs_host.specs.Scene.{Scene}
use Rattle.lfsed.specs.Words.{EndsLine, EndsWords}
use Rattle.lfsed.proofs.cli.cli.Goals as goal

pub returns-in-Ok : goal.returns-in-Ok
returns-in-Ok g c =
    let old : Scene = g.H.Known.known c.args.host.now in
    let by_done : Scene = g.H.Known.known c.done.new.host in
    let is = ap (map string_bytes) c.as_slice.ensures.value ∙ c.plain-words.ensures in
    record { ended = subst (λ (ws : List Text). EndsWords ws old by_done c.in-Ok.status) is c.in-Ok.ensures.ended }

pub returns : goal.returns
returns g c =
    let old : Scene = g.H.Known.known c.args.host.now in
    let by_done : Scene = g.H.Known.known c.done.new.host in
    let words = map string_bytes c.args.words.items in
    let is = ap (map string_bytes) c.as_slice.ensures.value ∙ c.plain-words.ensures in
    let told = c.report_of_image.result in
    let as_read = subst (λ (s : ℕ). EndsWords (map string_bytes c.as_slice.result.now) old by_done s) (sym c.report_of_image.ensures.status)
    c.in-Err.ensures.ended in
    let ends : EndsLine words old by_done told = subst (λ (ws : List Text). EndsWords ws old by_done told) is as_read in
    record { ended = subst (λ (new : Scene). EndsLine words old new c.report_of_image.result) (sym c.report_of_image.ensures.kept) ends }
