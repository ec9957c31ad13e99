-- A piece is taken off after another.
use Rattle.std.proofs.Common.{ℕ, List, ◌++◌, None, Some, ap, sym, ◌∙◌}
use Rattle.std.specs.List.{concat}
use Rattle.std.proofs.lemmas.Bool.Decides.{Decides-eqb}
use Rattle.std.proofs.lemmas.Slice.Eq.{strip_prefix_is}
use Rattle.lfs_listing.proofs.UnreadLemmas.{differs, ends_early, goes_on, taken}
use Rattle.lfs_listing.proofs.unread.Unread.takes.Goals as goal

pub returns-in-Some : goal.returns-in-Some
returns-in-Some g c =
    let way = c.rest.invariant in
    taken c.args.self.now c.args.bytes.now way.0 c.rest.self-inside.slice.now (concat c.rest.self-inside.later) c.rest.rest.now
    (sym c.self.view_is ∙ way.1) way.2 c.in-Some.left.now
    (strip_prefix_is Decides-eqb c.rest.self-inside.slice.now c.rest.rest.now (Some c.in-Some.left) c.in-Some.ensures.cases)

pub returns-in_default-strip_prefix : goal.returns-in_default-strip_prefix
returns-in_default-strip_prefix g c =
    let way = c.rest.invariant in
    differs c.args.self.now c.args.bytes.now way.0 c.rest.self-inside.slice.now (concat c.rest.self-inside.later) c.rest.rest.now
    (sym c.self.view_is ∙ way.1) way.2
    (strip_prefix_is Decides-eqb c.rest.self-inside.slice.now c.rest.rest.now None c.in_default.ensures.cases)
    (strip_prefix_is Decides-eqb c.rest.rest.now c.rest.self-inside.slice.now None c.in_default-strip_prefix.ensures.cases)

pub returns-in_default-next : goal.returns-in_default-next
returns-in_default-next g c =
    let way = c.rest.invariant in
    ends_early c.args.self.now c.args.bytes.now way.0 c.rest.self-inside.slice.now (concat c.rest.self-inside.later) c.rest.rest.now
    (sym c.self.view_is ∙ way.1) way.2
    (strip_prefix_is Decides-eqb c.rest.self-inside.slice.now c.rest.rest.now None c.in_default.ensures.cases)
    (ap (λ (l : List (List ℕ)). concat l) c.in_default-next.ensures.steps.0)

pub rest-preserved : goal.rest-preserved
rest-preserved g c =
    let way = c.rest.invariant in
    goes_on (c.self.inside.slice.now ++ concat c.self.inside.later) c.args.bytes.now way.0 c.rest.self-inside.slice.now
    (concat c.rest.self-inside.later) c.rest.rest.now way.1 way.2 c.in-Some-strip_prefix.later.now c.in-Some-next.slice.now
    (concat c.next.new.self)
    (strip_prefix_is Decides-eqb c.rest.rest.now c.rest.self-inside.slice.now (Some c.in-Some-strip_prefix.later)
    c.in-Some-strip_prefix.ensures.cases)
    (ap (λ (l : List (List ℕ)). concat l) c.in-Some-next.ensures.steps)
