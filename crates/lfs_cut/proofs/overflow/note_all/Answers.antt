-- One more part is noted.
use Rattle.std.proofs.Common.{◌++◌, ◌+◌, List, drop, ap, ◌∙◌, arith, length-append}
use Rattle.lfs_cut.specs.declared.overflow.Overflow.{Overflow}
use Rattle.lfs_cut.specs.Overflow.{overflow_of, overflows_of}
use Rattle.lfs_cut.proofs.OverflowLemmas.{room_for_one, one_gathered, all_gathered}
use Rattle.lfs_cut.proofs.overflow.note_all.Goals as goal

pub note-requires : goal.note-requires
note-requires c =
    let room = room_for_one (overflow_of c.args.room.bytes c.args.room.superblock) c.args.parts.now c.each.part-index c.part-item.result
    c.each.overflows.items
    (c.args.overflows.now.items ++ overflows_of c.args.room.bytes c.args.room.superblock c.args.parts.now) c.each-test.true
    c.part-item.is c.each.invariant in
    omega (
      arith,
      room,
      c.requires,
      length-append c.args.overflows.now.items
          (overflows_of c.args.room.bytes c.args.room.superblock c.args.parts.now),
    )

pub each-preserved : goal.each-preserved
each-preserved c =
    ap (λ (gs : List Overflow). gs ++ overflows_of c.args.room.bytes c.args.room.superblock (drop (c.each.part-index + 1) c.args.parts.now))
    c.note.ensures
    ∙ one_gathered (overflow_of c.args.room.bytes c.args.room.superblock) c.args.parts.now c.each.part-index c.part-item.result
    c.each.overflows.items
    (c.args.overflows.now.items ++ overflows_of c.args.room.bytes c.args.room.superblock c.args.parts.now) c.each-test.true c.part-item.is
    c.each.invariant

pub returns : goal.returns
returns c =
    all_gathered (overflow_of c.args.room.bytes c.args.room.superblock) c.args.parts.now c.each.part-index c.each.overflows.items
    (c.args.overflows.now.items ++ overflows_of c.args.room.bytes c.args.room.superblock c.args.parts.now) c.each-test.false c.each.invariant
