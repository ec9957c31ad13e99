-- All lines are read.
use Rattle.std.proofs.Common.{◌≡◌, ◌<◌, ◌∙◌, ◌++◌, ◌∷◌, [], ℕ, List, Option, drop, length, arith, refl, ap, rules, subst, sym}
use Rattle.std.proofs.Math.ListN.{drop_of_length-le}
use Rattle.std.proofs.lemmas.Result.{err_from_is_err_and}
use Rattle.std.specs.Global.{Vec}
use Rattle.std.specs.List.{AllZip}
use Rattle.std.specs.Prelude.{All}
use Rattle.lfs_command.specs.declared.refusal.Refusal.TheVariants.{Memory}
use Rattle.lfs_exchange.specs.Handing.{IsUnread}
use Rattle.lfs_history.specs.declared.source.Source.TheVariants.{Input}
use Rattle.lfs_host.specs.Files.{Files}
use Rattle.lfs_host.specs.Scene.{Scene}
use Rattle.lfs_open.specs.LineContents.{AreFilesRead, content_at, contents_by}
use Rattle.lfs_open.specs.LineMoves.{HandsContents, HandsLine}
use Rattle.lfs_open.proofs.ContentsLemmas.{contents_more, within_more}
use Rattle.lfs_open.proofs.LineLemmas.{all_read, read_one}
use Rattle.lfs_open.proofs.StopLemmas.{keeps_all, told_as}
use Rattle.lfs_request.specs.declared.fault.Fault.TheVariants.{Refused}
use Rattle.lfs_open.proofs.line_contents.read_lines.Goals as goal

pub each-init : goal.each-init
each-init g c =
    let none : contents_by c.in_ok-known.known.read.items c.new-places.result.items ≡ [] =
    ap (contents_by c.in_ok-known.known.read.items) c.new-places.ensures.items in
    record {
      read = λ more zips. subst (λ (bs : List (List ℕ)). AllZip (HandsLine (g.H.Known.known c.args.host.now).files) c.args.lines.now (bs ++ more)) (sym none) zips;
      within = λ k d less. absurd (omega (arith, less, ap (λ (xs : List ℕ). length xs) c.new-places.ensures.items));
      known = c.in_ok-known.ensures (g.H.Known.known c.args.host.now).files;
      kept = search rules;
    }

pub returns-in_err-push-clause-refused : goal.returns-in_err-push-clause-refused
returns-in_err-push-clause-refused g c =
    let on = c.from_residual-in_err-push in
    let p = err_from_is_err_and on.result on.ensures.1 in
    told_as on.result (IsUnread (g.H.Known.known c.place_put.new.host)) (Refused Memory) p.0 p.1 p.2 (Input, refl)

pub returns-clause-read : goal.returns-clause-read
returns-clause-read g c =
    let lines = c.args.lines.now in
    all_read (g.H.Known.known c.args.host.now).files lines (drop c.each.line-index lines) _
    (drop_of_length-le lines (omega (arith, c.each-test.false))) c.each.invariant.read

pub each-preserved : goal.each-preserved
each-preserved g c =
    let old : Scene = g.H.Known.known c.args.host.now in
    let mid : Scene = g.H.Known.known c.each.host in
    let new : Scene = g.H.Known.known c.place_put.new.host in
    let same : mid.files ≡ old.files = c.each.invariant.kept.0.0 in
    let read : List (Vec ℕ) = c.each.known.read.items in
    let more : List (Vec ℕ) = c.place_put.new.known.read.items in
    let places : List ℕ = c.each.places.items in
    let place : ℕ = c.in_ok-place.place in
    let longer = c.in_ok-place.ensures.more in
    let pushed = c.in_ok-push.ensures.items in
    let hands = subst (λ (f : Option Files). HandsContents c.line-item.result.step f (content_at more place)) same c.in_ok-place.ensures.hands in
    let now = ap (contents_by more) pushed
    ∙ subst (λ (r : List (Vec ℕ)). contents_by r (places ++ place ∷ []) ≡ contents_by read places ++ content_at r place ∷ []) (sym longer.1)
    (contents_more read longer.0 places place c.each.invariant.within) in
    record {
      read = read_one old.files c.args.lines.now c.each.line-index c.line-item.result (contents_by read places) _ (content_at more place)
          c.each-test.true c.line-item.is hands c.each.invariant.read now;
      within = subst (λ (ks : List ℕ). All (λ k. k < length more) ks) (sym pushed)
          (within_more read more places place longer c.each.invariant.within c.in_ok-place.ensures.there);
      known = subst (λ (f : Option Files). AreFilesRead f c.place_put.new.known) same c.in_ok-place.ensures.known;
      kept = keeps_all old mid new c.each.invariant.kept c.place_put.ensures.kept;
    }
