-- One step more is looked at.
use Rattle.std.proofs.Common.{◌∙◌, ◌++◌, List, Option, ap, map, refl}
use Rattle.lfs_command.specs.AskedFor.{asked_for}
use Rattle.lfs_command.specs.Command.{Asked}
use Rattle.lfs_open.specs.LineMoves.{listed}
use Rattle.lfs_open.proofs.LineLemmas.{commands_further}
use Rattle.lfs_open.proofs.line_moves.commands_of.Goals as goal

pub each-preserved : goal.each-preserved
each-preserved c =
    let old : List Asked = map asked_for c.each.commands.items in
    commands_further c.args.moves.now c.each.step-index _ _ old (map asked_for c.take_command.new.commands.items) c.each-test.true
    refl c.each.invariant
    (c.in_ok-take_command.ensures ∙ ap (λ (one : Option Asked). old ++ listed one) c.command_in.ensures)
