use Rattle.std.proofs.Common.{◌≤◌, length, sym, ◌∙◌, arith}
use Rattle.std.proofs.lemmas.Bool.Decides.{nat_tests}
use Rattle.lfs_fs.proofs.NameTestLemmas.{longer_first, none_left}
use Rattle.lfs_fs.proofs.names.precedes.Goals as goal

pub returns-in_default : goal.returns-in_default
returns-in_default c =
    let test = c.in_default.ensures.lookup.0 in
    let over : length c.args.right.now ≤ c.each.index = grind (arith, nat_tests) in
    sym (longer_first c.each.index c.args.left.now c.args.right.now c.each-test.true over) ∙ c.each.invariant

pub returns : goal.returns
returns c = sym (none_left c.each.index c.args.left.now c.args.right.now c.each-test.false) ∙ c.each.invariant
