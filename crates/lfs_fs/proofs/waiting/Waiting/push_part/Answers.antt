use Rattle.std.proofs.Common.{arith}
use Rattle.lfs_fs.specs.declared.waiting_entries.WaitingEntries.{WaitingEntries}
use Rattle.lfs_fs.proofs.WaitingLemmas.{are_pushed}
use Rattle.lfs_fs.proofs.waiting.Waiting.push_part.Goals as goal

pub invariant_of-self : goal.invariant_of-self
invariant_of-self c =
    let w : WaitingEntries = record { depth = c.args.depth; directory = c.args.directory; part = c.args.part; next = 0; end = c.args.len } in
    are_pushed c.self.inside.entries.items c.push.new.items.items w c.push.result (omega (arith, c.if-len-eq0.false)) c.self.invariant
    c.push.ensures.pushed c.push.ensures.unchanged
