-- The text is a word of the fault, a space and its name.
use Rattle.std.proofs.Common.{arith}
use Rattle.lfs_texts.specs.Explanations.{fault_of}
use Rattle.lfs_texts.proofs.FaultLemmas.{said_by_both}
use Rattle.lfs_texts.proofs.explanation.Explanation.is_said.Goals as goal

pub returns-then-is_word : goal.returns-then-is_word
returns-then-is_word c =
    let split = c.in-Some.ensures.byte (omega arith) (λ w o h. h) in
    said_by_both c.args.text.now c.in-Some.word.now c.in-Some.name.now (fault_of c.args.self.now) c.eq_ignore_ascii_case.result split.0 split.1 split.2
    (c.is_word.ensures.0 c.if-is_word.true) c.eq_ignore_ascii_case.ensures.test.0 c.eq_ignore_ascii_case.ensures.test.1
