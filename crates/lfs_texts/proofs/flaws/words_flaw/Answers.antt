-- Without a mark the word is told, at its column.
use Rattle.std.proofs.Common.{◌≡◌, ◌∙◌, ℕ, Bool, true, List, Option, None, ap, sym, arith}
use Rattle.std.specs.Prelude.{if◌then◌else◌}
use Rattle.lfs_texts.specs.Flaws.{is_of_counting, mark_or_word, stray_mark, word_column, words_flaw}
use Rattle.lfs_texts.specs.declared.flaw.Flaw.{Flaw}
use Rattle.lfs_texts.specs.declared.wrong_word.WrongWord.{WrongWord}
use Rattle.lfs_texts.proofs.flaws.words_flaw.Goals as goal
use Rattle.lfs_texts.proofs.flaws.words_flaw.Goals.{then-is_of_counting, else-is_of_counting}

-- the mark, where words are counted
abbrev mark_if : Bool → List ℕ → Option Flaw
mark_if counts line = if counts then stray_mark 1 true line else None

word_told : (line : List ℕ) (word : WrongWord) (column : ℕ) → mark_if (is_of_counting word.reason) line ≡ None
    → column ≡ word_column 1 word.place line → record { reason = word.reason; column = column } ≡ words_flaw line word
word_told line word column none at =
    ap (λ (n : ℕ). record { reason = word.reason; column = n }) at ∙ sym (ap (λ (mark : Option Flaw). mark_or_word mark line word) none)

pub returns-in-None : goal.returns-in-None
returns-in-None c =
    let line = c.args.line.now in
    let found : c.if-is_of_counting.mark ≡ mark_if c.is_of_counting.result line = elim c.if-is_of_counting.branch [
      | then-is_of_counting w ↦ w.mark-is ∙ w.stray_mark-mark.ensures ∙ ap (λ (b : Bool). mark_if b line) (sym w.if-is_of_counting.true)
      | else-is_of_counting w ↦ w.mark-is ∙ ap (λ (b : Bool). mark_if b line) (sym w.if-is_of_counting.false)
    ] in
    word_told line c.args.word _ (ap (λ (b : Bool). mark_if b line) (sym c.is_of_counting.ensures) ∙ sym found ∙ c.in-None.is) (omega arith)
