-- Lines are asked one after the other, up to the first that says no step.
use Rattle.std.proofs.Common.{◌≡◌, ◌∙◌, ◌+◌, ◌∷◌, drop, refl, ap, sym, arith}
use Rattle.std.proofs.Math.ListN.{drop_of_length-le}
use Rattle.std.proofs.lemmas.List.{drop_more}
use Rattle.lfs_texts.specs.declared.line_words.LineWords.{LineWords}
use Rattle.lfs_texts.proofs.SaidLemmas.{all_taken, first_silent, first_words, none_taken, one_taken}
use Rattle.lfs_texts.proofs.script_steps.lines_said.Goals as goal

pub each-init : goal.each-init
each-init c = none_taken c.args.terms c.args.lines.now c.args.lines.now c.new-said.result.items refl c.new-said.ensures.items c.requires

pub take_step-requires : goal.take_step-requires
take_step-requires c =
    let lines = c.args.lines.now in
    let i = c.each.line-index in
    let line = c.line-item.result in
    let is : drop i lines ≡ line ∷ drop (i + 1) lines =
    drop_more lines i line c.each-test.true ∙ ap (λ (l : LineWords). l ∷ drop (i + 1) lines) (sym c.line-item.is) in
    first_words (drop i lines) (drop (i + 1) lines) line is c.each.invariant.words

pub each-preserved : goal.each-preserved
each-preserved c =
    let lines = c.args.lines.now in
    let i = c.each.line-index in
    let line = c.line-item.result in
    let is : drop i lines ≡ line ∷ drop (i + 1) lines =
    drop_more lines i line c.each-test.true ∙ ap (λ (l : LineWords). l ∷ drop (i + 1) lines) (sym c.line-item.is) in
    one_taken c.args.terms lines (drop i lines) (drop (i + 1) lines) line c.each.said.items c.take_step.new.said.items c.each.invariant is
    c.in_default.ensures.taken

pub returns-in-Err-clause-refused : goal.returns-in-Err-clause-refused
returns-in-Err-clause-refused c =
    let lines = c.args.lines.now in
    let i = c.each.line-index in
    let line = c.line-item.result in
    let is : drop i lines ≡ line ∷ drop (i + 1) lines =
    drop_more lines i line c.each-test.true ∙ ap (λ (l : LineWords). l ∷ drop (i + 1) lines) (sym c.line-item.is) in
    first_silent c.args.terms lines (drop i lines) (drop (i + 1) lines) line c.each.said.items c.fault_at.result c.each.invariant is
    c.fault_at.ensures.number c.fault_at.ensures.refused c.fault_at.ensures.flaw

pub returns-clause-said : goal.returns-clause-said
returns-clause-said c =
    let lines = c.args.lines.now in
    all_taken c.args.terms lines (drop c.each.line-index lines) c.each.said.items c.each.invariant
    (drop_of_length-le lines (omega (arith, c.each-test.false)))

pub returns-clause-terms : goal.returns-clause-terms
returns-clause-terms c = c.each.invariant.keeps
