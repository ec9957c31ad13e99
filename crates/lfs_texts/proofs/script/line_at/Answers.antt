-- The line at a place.
use Rattle.std.proofs.Common.{◌≡◌, ◌-◌, ◌==◌, List, ℕ, arith, false}
use Rattle.std.proofs.lemmas.Bool.Decides.{nat_tests}
use Rattle.std.proofs.lemmas.Iterator.Consumers.{YieldsList-from_first, nth_from_yields_List}
use Rattle.lfs_texts.specs.Script.{lines_in}
use Rattle.lfs_texts.proofs.script.line_at.Goals as goal

pub returns-else-number-eq0 : goal.returns-else-number-eq0
returns-else-number-eq0 c =
    let lines : List (List ℕ) = lines_in c.args.text.now in
    let some : (c.args.number == 0) ≡ false = grind (arith, nat_tests) in
    rw some
    (nth_from_yields_List c.nth.result c.nth.new.self (c.args.number - 1) c.nth.ensures.ran
    (YieldsList-from_first (λ x. x.now) (λ rest. rest) lines c.lines.ensures.value))
