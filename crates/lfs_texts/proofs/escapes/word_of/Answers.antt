-- A byte more is taken.
use Rattle.std.proofs.Common.{◌≡◌, ◌∷◌, List, ℕ}
use Rattle.lfs_texts.proofs.WordLemmas.{byte_taken}
use Rattle.lfs_texts.proofs.escapes.word_of.Goals as goal

pub loop-first-preserved : goal.loop-first-preserved
loop-first-preserved c =
    let left : List ℕ = c.loop-first.left.now in
    let is : left ≡ c.in-Some.first.now ∷ c.in-Some.rest.now = c.in-Some.ensures.cases.0 in
    byte_taken c.args.text.now left c.in-Some.rest.now c.in-Some-first_of.behind.now c.loop-first.word.items c.push.new.self.items
    c.in-Some.first.now c.in-Some-first_of.byte c.loop-first.invariant is c.in-Some-first_of.ensures.byte c.in_ok-push.ensures.items
