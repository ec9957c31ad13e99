-- The last of what was made, filled.
use Rattle.std.proofs.Common.{arith, length, ◌-◌}
use Rattle.lfs_host.specs.MadeEntry.{made_as}
use Rattle.lfs_host.proofs.MadeLemmas.{fills_none, last_by}
use Rattle.lfs_host.proofs.made_entry.fill_last.Goals as goal

pub returns-in-Some : goal.returns-in-Some
returns-in-Some c =
    last_by made_as c.args.bytes.now c.args.made.now (length c.args.made.now - 1) c.in-Some.last.now c.fill.new.self c.fill.result
    (omega (arith, c.in-Some.ensures.item.3.0)) c.in-Some.ensures.item.1 c.fill.ensures

pub returns-in-None : goal.returns-in-None
returns-in-None c = fills_none made_as c.args.bytes.now c.args.made.now (omega (arith, c.in-None.ensures.item.3))
