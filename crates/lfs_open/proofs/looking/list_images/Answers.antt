use Rattle.std.proofs.Common.{◌∙◌, ℕ, List, inr, subst}
use Rattle.std.specs.Result.{result_err}
use Rattle.lfs_host.specs.Scene.{Scene}
use Rattle.lfs_open.specs.Finding.{PrintsText}
use Rattle.lfs_find.specs.Found.{AreFound}
use Rattle.lfs_open.specs.FoundText.{found_text}
use Rattle.lfs_find.specs.declared.found.Found.{Found}
use Rattle.lfs_open.proofs.FindingLemmas.{prints_from}
use Rattle.lfs_open.proofs.looking.list_images.Goals as goal

pub returns : goal.returns
returns g c =
    let old : Scene = g.H.Known.known c.args.host.now in
    let mid : Scene = g.H.Known.known c.flash_bytes.new.host in
    let new : Scene = g.H.Known.known c.print_found.new.host in
    let first = c.flash_bytes.ensures.kept in
    let then = c.print_found.ensures.kept in
    let fault = result_err c.print_found.result in
    let bytes = c.in_ok-bytes.bytes.items in
    let found = c.in_ok-found.found.items in
    let are = subst (λ (b : List ℕ). AreFound b found) c.deref.ensures.value c.in_ok-found.ensures in
    let prints = subst (λ (f : List Found). PrintsText fault mid new (found_text c.args.form f)) c.deref-2.ensures.value c.print_found.ensures.printed in (
      (then.0 ∙ first.0.0, then.1 ∙ first.0.1, (then.2.0 ∙ first.2, then.2.1 ∙ first.3)),
      inr (bytes, c.in_ok-bytes.ensures.read, (found, are, prints_from fault mid old new (found_text c.args.form found) first.0.2 prints)),
    )
