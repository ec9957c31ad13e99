-- The blocks that a command takes can be marked, and those that it gives back are marked then.
use Rattle.std.proofs.Common.{subst, sym}
use Rattle.lfs_fs.specs.Used.{AddsBlocks, AreMarked, CanBeMarked}
use Rattle.lfs_edit.proofs.carrying.settle.Goals as goal

pub take-requires : goal.take-requires
take-requires c = subst (CanBeMarked c.args.used.now) (sym c.deref.ensures.value) c.requires.table.free

pub give_back-requires : goal.give_back-requires
give_back-requires c =
    let more = c.take.new.self in
    subst (AreMarked more) (sym c.deref-2.ensures.value)
    (c.requires.table.marked more (subst (AddsBlocks c.args.used.now more) c.deref.ensures.value c.take.ensures))

pub returns-clause-table : goal.returns-clause-table
returns-clause-table c =
    let more = c.take.new.self in
    let last = c.give_back.new.self in
    c.requires.table.table more last (subst (AddsBlocks c.args.used.now more) c.deref.ensures.value c.take.ensures)
    (subst (AddsBlocks last more) c.deref-2.ensures.value c.give_back.ensures)
