use Rattle.std.proofs.Common.{◌≡◌, ◌++◌, cond, drop, map}
use Rattle.lfs_grammar.specs.Hyphens.{dashed}
use Rattle.lfs_grammar.proofs.hyphens.dashed.Given as goal

abbrev pub invariant-loop-word : goal.invariant-loop-word
invariant-loop-word g l =
    let rest = map g.W.AsStr.text (drop l.word-index l.words) in
    map (λ word. word.now) l.read.items ++ cond l.is_dashed rest (dashed rest) ≡ dashed (map g.W.AsStr.text l.words)
