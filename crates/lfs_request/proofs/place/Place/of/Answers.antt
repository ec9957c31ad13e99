-- The whole of the first path leads to something, so the place is on the second.
use Rattle.std.proofs.Common.{rules, ◌≡◌, ℕ, length, map, refl, subst, ◌∙◌, arith, inr}
use Rattle.std.proofs.lemmas.List.{length-map}
use Rattle.lfs_draft.specs.Reaches.{Reaches}
use Rattle.lfs_fs.specs.Path.{IsPathText}
use Rattle.lfs_request.proofs.place.Place.of.Goals as goal

pub returns-clause-on : goal.returns-clause-on
returns-clause-on c =
    let v = c.args.outline.now in
    let names = map (λ n. n.now) c.deref.result.now in
    let others = map (λ n. n.now) c.deref-2.result.now in
    let spelled : IsPathText c.args.path.now names = search rules in
    let target_spelled : IsPathText c.in-Some.target.now others = search rules in
    let as_many : length c.deref.result.now ≡ c.len.result = search rules in
    let many : length names ≡ c.len.result = length-map c.deref.result.now (λ n. n.now) ∙ as_many in
    let all : c.reach-reached.result ≡ length names = omega (arith, many, c.reach-reached.ensures.within, c.if-reached-len.false) in
    let complete = subst (λ (n : ℕ). Reaches v names n) all c.reach-reached.ensures in
    rw c.in-Some.is (inr (refl, (names, spelled, complete), (others, target_spelled, c.reach.ensures)))
