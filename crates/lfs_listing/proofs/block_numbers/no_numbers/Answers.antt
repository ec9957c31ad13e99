use Rattle.std.proofs.Common.{◌≡◌, ◌++◌, ◌∷◌, ◌∙◌, List, None, Option, [], ap, arith, replicate, ℕ}
use Rattle.std.proofs.lemmas.List.{replicate_more}
use Rattle.lfs_listing.proofs.block_numbers.no_numbers.Goals as goal

pub loop-init : goal.loop-init
loop-init c = c.in_ok-numbers.ensures.items

pub loop-preserved : goal.loop-preserved
loop-preserved c =
    c.in_ok-push.ensures.items ∙ ap (λ (xs : List (Option ℕ)). xs ++ None ∷ []) c.loop.invariant ∙ replicate_more c.loop.counter None

pub returns : goal.returns
returns c =
    let all : c.loop.counter ≡ c.args.count = omega arith in
    c.loop.invariant ∙ ap (λ (n : ℕ). replicate n None) all
