-- Four words are all that there are.
use Rattle.std.proofs.Common.{◌≡◌, ◌∙◌, ◌∷◌, [], List, ℕ, ap, map, refl, sym, subst, arith}
use Rattle.std.proofs.lemmas.Result.{err_from_is_err_and}
use Rattle.lfs_texts.specs.Steps.{IsFault}
use Rattle.lfs_texts.proofs.StepLemmas.{four_items}
use Rattle.lfs_texts.proofs.steps.step_said.Goals as goal

pub returns-in_err-command-in-len4-clause-refused : goal.returns-in_err-command-in-len4-clause-refused
returns-in_err-command-in-len4-clause-refused c =
    let verb = c.verb-item-then-words-lt5.result in
    let first = c.first-item-then-words-lt5.result in
    let second = c.second-item-then-words-lt5.result in
    let third = c.third-item.result in
    let fault = c.in_err-command-in-len4.field-0.0 in
    let p = err_from_is_err_and c.from_residual-in_err-command-in-len4.result c.from_residual-in_err-command-in-len4.ensures.1 in
    let all : c.args.words.now ≡ verb ∷ first ∷ second ∷ third ∷ [] =
    four_items c.args.words.now verb first second third (omega (arith, c.in-len4.len_at_least, c.in-len4.len_below))
    c.verb-item-then-words-lt5.is c.first-item-then-words-lt5.is c.second-item-then-words-lt5.is c.third-item.is in
    let texts = ap (λ (text : List ℕ). text ∷ c.deref-in-len4-2.result.now ∷ c.deref-in-len4-3.result.now ∷ c.deref-in-len4-4.result.now ∷ [])
    c.deref-in-len4.ensures.value
    ∙ ap (λ (text : List ℕ). verb.items ∷ text ∷ c.deref-in-len4-3.result.now ∷ c.deref-in-len4-4.result.now ∷ []) c.deref-in-len4-2.ensures.value
    ∙ ap (λ (text : List ℕ). verb.items ∷ first.items ∷ text ∷ c.deref-in-len4-4.result.now ∷ []) c.deref-in-len4-3.ensures.value
    ∙ ap (λ (text : List ℕ). verb.items ∷ first.items ∷ second.items ∷ text ∷ []) c.deref-in-len4-4.ensures.value
    ∙ ap (map (λ w. w.items)) (sym all) in
    rw (p.1, p.2) (subst (λ (words : List (List ℕ)). IsFault words fault) texts c.in_err-command-in-len4.ensures.refused)
