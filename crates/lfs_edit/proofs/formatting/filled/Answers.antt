-- All bytes are kept, and erased ones put behind them.
use Rattle.std.proofs.Common.{◌≡◌, ℕ, ◌-◌, List, ◌++◌, length, ap, ◌∙◌, arith}
use Rattle.std.specs.Prelude.{replicate}
use Rattle.std.specs.Vec.{vec_len}
use Rattle.std.proofs.lemmas.List.{take_all}
use Rattle.lfs_edit.proofs.formatting.filled.Goals as goal

pub returns-clause-filled : goal.returns-clause-filled
returns-clause-filled c =
    let bytes = c.args.bytes.items in
    let all : vec_len c.args.bytes ≡ length bytes = omega (arith, c.args.bytes.ok) in
    c.in_ok-resize.ensures.items
    ∙ ap (λ (front : List ℕ). front ++ replicate (c.args.len - vec_len c.args.bytes) 0xff) (take_all c.args.len bytes c.requires)
    ∙ ap (λ (n : ℕ). bytes ++ replicate (c.args.len - n) 0xff) all
