use Rattle.lfs_fs.proofs.WaitingLemmas.{are_fewer, are_pushed}
use Rattle.lfs_fs.proofs.waiting.Waiting.take_next.Goals as goal

pub invariant_of-self-in_err-push : goal.invariant_of-self-in_err-push
invariant_of-self-in_err-push c =
    let fewer = are_fewer c.self.inside.entries.items c.pop.new.self.items c.in-Some.entries c.in-Some.ensures.items c.self.invariant in
    are_pushed c.pop.new.self.items c.push.new.items.items c.in-Some-behind.behind c.push.result c.in-Some-behind.ensures.more fewer.1
    c.push.ensures.pushed c.push.ensures.unchanged
