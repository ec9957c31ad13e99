use Rattle.std.proofs.Common.{rules, ◌≡◌, ◌+◌, ◌-◌, length, drop, ap, ◌∙◌, arith, length-drop, subst}
use Rattle.std.proofs.lemmas.Bool.Decides.{nat_tests}
use Rattle.std.proofs.lemmas.List.{drop-drop, take_all}
use Rattle.std.specs.Io.KnownBytes.{Appends}
use Rattle.lfs_sink.proofs.SendLemmas.{sends_more}
use Rattle.lfs_sink.proofs.sending.send.Goals as goal

pub rest-preserved : goal.rest-preserved
rest-preserved g c =
    let n = c.rest.invariant.0 in
    let k = c.in-Some.count in
    let text = c.args.text.now in
    let at : c.rest.rest.now ≡ drop n text = c.rest.invariant.2 in
    let left : length (drop n text) ≡ length text - n = length-drop n text in
    let same : length c.rest.rest.now ≡ length (drop n text) = ap length at in (
      n + k,
      omega arith,
      c.split_at.ensures.back ∙ ap (drop k) at ∙ drop-drop k n text,
      sends_more _ _ _ text c.rest.rest.now n k at c.rest.invariant.3 c.in-Some.ensures.sent,
      search rules,
      c.in-Some.ensures.kept ∙ c.rest.invariant.5,
    )

pub returns-clause-sent : goal.returns-clause-sent
returns-clause-sent g c =
    let n = c.rest.invariant.0 in
    let text = c.args.text.now in
    let left : length (drop n text) ≡ length text - n = length-drop n text in
    let same : length c.rest.rest.now ≡ length (drop n text) = ap length c.rest.invariant.2 in
    let none : length c.rest.rest.now ≡ 0 = grind (arith, nat_tests) in
    subst (Appends (g.S.Sink.sent c.args.out.now) (g.S.Sink.sent c.rest.out)) (take_all n text (omega (arith, left, same, none)))
    c.rest.invariant.3
