use Rattle.std.proofs.Common.{◌≡◌, arith, sym, ◌∙◌, ap, length, true, false}
use Rattle.std.proofs.lemmas.Result.{err_from_is_err_and}
use Rattle.lfs_file.specs.SkipList.{is_linked}
use Rattle.lfs_file.proofs.WalkLemmas.{ChainCause-from_walk, found-chain, length-walk, none-too_many, none-unlinked, walked-chain}
use Rattle.lfs_file.proofs.skip_list.chain.Goals as goal

pub returns-in_default-clause-refused : goal.returns-in_default-clause-refused
returns-in_default-clause-refused g c =
    let no = none-too_many (g.B.Blocks.disk c.args.blocks.now) c.args.head c.args.len (omega arith) c.in_default.ensures.longer in
    (no.none, no.no)

pub returns-in_err-chain-clause-refused : goal.returns-in_err-chain-clause-refused
returns-in_err-chain-clause-refused g c =
    let d = g.B.Blocks.disk c.args.blocks.now in
    let cause = ChainCause-from_walk c.in_err-chain.field-0.0 d c.args.head c.args.len c.in-Some.count
    (omega arith) c.in-Some.ensures.count c.in_err-chain.ensures.refused in
    let p = err_from_is_err_and c.from_residual.result c.from_residual.ensures.1 in
    rw (p.1, p.2) cause

pub is_linked-requires-clause-few : goal.is_linked-requires-clause-few
is_linked-requires-clause-few g c =
    let d = g.B.Blocks.disk c.args.blocks.now in
    omega (arith, ap length c.deref.ensures.value, ap length c.in_ok-chain.ensures.found, length-walk d c.args.head c.in-Some.count)

pub returns-then-not-is_linked-clause-refused : goal.returns-then-not-is_linked-clause-refused
returns-then-not-is_linked-clause-refused g c =
    let d = g.B.Blocks.disk c.args.blocks.now in
    let linked : c.is_linked.result ≡ false = cc in
    let fails : is_linked d c.in_ok-chain.chain.items ≡ false = ap (is_linked d) (sym c.deref.ensures.value) ∙ sym c.is_linked.ensures
    ∙ linked in
    let no = none-unlinked d c.args.head c.args.len c.in-Some.count c.in_ok-chain.chain.items
    (omega arith) c.in-Some.ensures.count c.in_ok-chain.ensures.found fails in
    (no.none, no.no)

pub returns-clause-computed : goal.returns-clause-computed
returns-clause-computed g c =
    let d = g.B.Blocks.disk c.args.blocks.now in
    let linked : c.is_linked.result ≡ true = cc in
    let passes : is_linked d c.in_ok-chain.chain.items ≡ true = ap (is_linked d) (sym c.deref.ensures.value) ∙ sym c.is_linked.ensures
    ∙ linked in
    walked-chain d c.args.head c.args.len c.in-Some.count c.in_ok-chain.chain.items
    (omega arith) c.in-Some.ensures.count c.in_ok-chain.ensures.found passes

pub returns-clause-found : goal.returns-clause-found
returns-clause-found g c = found-chain (g.B.Blocks.disk c.args.blocks.now) c.args.head c.args.len c.in_ok-chain.chain.items (omega arith)
    (returns-clause-computed g c)
