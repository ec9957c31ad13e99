-- The lines of a script have their words, up to the first that has none.
use Rattle.std.proofs.Common.{List, ℕ, subst, sym}
use Rattle.std.specs.List.{AllByRecursion, AllZip}
use Rattle.std.proofs.lemmas.Result.{err_from_is_err_and}
use Rattle.lfs_texts.specs.Script.{AreSplit, HasItsWords, IsFirstFault, IsFirstSilent, IsLineSaid, SaysLine, asking_lines}
use Rattle.lfs_texts.specs.declared.line_words.LineWords.{LineWords}
use Rattle.lfs_texts.proofs.SaidLemmas.{all_said, silent_is_first, split_words, wordless_is_first}
use Rattle.lfs_texts.proofs.script_steps.script_lines.Goals as goal

pub lines_said-requires : goal.lines_said-requires
lines_said-requires c =
    let script = c.script.inside in
    subst (AllByRecursion HasItsWords) (sym c.deref.ensures.value) (split_words script.text.now script.lines.items script.fault c.script.invariant)

pub returns-in_err-said-clause-refused : goal.returns-in_err-said-clause-refused
returns-in_err-said-clause-refused c =
    let script = c.script.inside in
    let fault = c.in_err-said.field-0.0 in
    let p = err_from_is_err_and c.from_residual.result c.from_residual.ensures.1 in
    let silent = subst (λ (ls : List LineWords). IsFirstSilent ls fault) c.deref.ensures.value c.in_err-said.ensures.refused in
    let first = silent_is_first script.text.now script.lines.items script.fault fault c.script.invariant silent in
    rw (p.1, p.2) (subst (λ (text : List ℕ). IsFirstFault text fault) c.script.view_is first)

pub returns-in-Some-clause-refused : goal.returns-in-Some-clause-refused
returns-in-Some-clause-refused c =
    let script = c.script.inside in
    let fault = c.in-Some.fault in
    let said = c.in_ok-said.said.items in
    let split = subst (AreSplit script.text.now script.lines.items) c.in-Some.is c.script.invariant in
    let says = subst (λ (ls : List LineWords). AllZip IsLineSaid ls said) c.deref.ensures.value c.in_ok-said.ensures.said in
    subst (λ (text : List ℕ). IsFirstFault text fault) c.script.view_is (wordless_is_first script.text.now script.lines.items said fault split says)

pub returns-clause-lines : goal.returns-clause-lines
returns-clause-lines c =
    let script = c.script.inside in
    let said = c.in_ok-said.said.items in
    let split = subst (AreSplit script.text.now script.lines.items) c.in-None.is c.script.invariant in
    let says = subst (λ (ls : List LineWords). AllZip IsLineSaid ls said) c.deref.ensures.value c.in_ok-said.ensures.said in
    subst (λ (text : List ℕ). AllZip SaysLine (asking_lines text) said) c.script.view_is
    (all_said script.text.now script.lines.items said split says)
