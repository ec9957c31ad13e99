-- The rows are for the parts that overflow.
use Rattle.std.proofs.Common.{◌≡◌, List, length, take, refl, ap, sym, ◌∙◌, arith}
use Rattle.lfs_fs.specs.Directory.{Directory, thread}
use Rattle.lfs_fs.specs.Volume.{Volume}
use Rattle.lfs_cut.specs.declared.overflow.Overflow.{Overflow}
use Rattle.lfs_cut.specs.Overflow.{overflows_of}
use Rattle.lfs_cut.proofs.ChosenPairs.{AreRowsOf, in_order, in_some_order, overflow_count, overflow_need, chosen_enough, chosen_uses}
use Rattle.lfs_cut.proofs.FrontLemmas.{over_in_front}
use Rattle.lfs_cut.proofs.InOrder.{chosen_in_order}
use Rattle.lfs_cut.proofs.choosing.choose.Goals as goal

pub overflows_of-overflows-requires : goal.overflows_of-overflows-requires
overflows_of-overflows-requires c =
    let bytes = c.block_room-room.result.bytes in
    let superblock = c.block_room-room.result.superblock in
    let front : overflows_of bytes superblock (thread c.in_front.result.now)
    ≡ overflows_of bytes superblock (thread c.args.outline.now.directories) =
    ap (λ (ds : List Directory). overflows_of bytes superblock (thread ds))
    (c.in_front.ensures ∙ ap (take c.args.front) (c.deref.ensures.value ∙ ap (λ (v : Volume). v.directories) c.outline.view_is))
    ∙ over_in_front bytes superblock c.args.front c.args.outline.now.directories c.requires.front in
    let all : length (overflows_of bytes superblock (thread c.in_front.result.now))
    ≡ length (overflows_of bytes superblock (thread c.args.outline.now.directories)) = ap (λ (gs : List Overflow). length gs) front in
    omega (
      arith,
      all,
      c.requires.few,
      overflow_count c.args.outline.now c.block_room-room.result.bytes c.block_room-room.result.superblock c.block_room-room.ensures.bytes
          c.block_room-room.ensures.superblock,
    )

pub rows_of-requires-clause-enough : goal.rows_of-requires-clause-enough
rows_of-requires-clause-enough c =
    let led = in_order c.args.outline.now c.block_room-room.result.bytes c.block_room-room.result.superblock c.args.leading
    c.args.outline.now.directories c.overflows_of-overflows.result.items c.put_first.new.overflows.items c.deref-2.result.now refl
    (c.overflows_of-overflows.ensures
    ∙ ap (λ (ds : List Directory). overflows_of c.block_room-room.result.bytes c.block_room-room.result.superblock (thread ds))
    (c.in_front.ensures ∙ ap (take c.args.front) (c.deref.ensures.value ∙ ap (λ (v : Volume). v.directories) c.outline.view_is))
    ∙ over_in_front c.block_room-room.result.bytes c.block_room-room.result.superblock c.args.front c.args.outline.now.directories
    c.requires.front)
    c.put_first.ensures c.deref-2.ensures.0 in
    overflow_need c.args.outline.now c.block_room-room.result.bytes c.block_room-room.result.superblock c.deref-2.result.now
    c.block_room-room.ensures.bytes c.block_room-room.ensures.superblock
    (in_some_order c.block_room-room.result.bytes c.block_room-room.result.superblock c.args.leading
    (thread c.args.outline.now.directories) c.deref-2.result.now led)
    ∙ sym c.requires.needed

rows_made : (c : goal.In_ok-rows) → AreRowsOf c.args.outline.now c.block_room-room.result.bytes c.block_room-room.result.superblock
    c.args.leading c.args.blocks.now c.in_ok-rows.rows.items
rows_made c =
    let led = in_order c.args.outline.now c.block_room-room.result.bytes c.block_room-room.result.superblock c.args.leading
    c.args.outline.now.directories c.overflows_of-overflows.result.items c.put_first.new.overflows.items c.deref-2.result.now refl
    (c.overflows_of-overflows.ensures
    ∙ ap (λ (ds : List Directory). overflows_of c.block_room-room.result.bytes c.block_room-room.result.superblock (thread ds))
    (c.in_front.ensures ∙ ap (take c.args.front) (c.deref.ensures.value ∙ ap (λ (v : Volume). v.directories) c.outline.view_is))
    ∙ over_in_front c.block_room-room.result.bytes c.block_room-room.result.superblock c.args.front c.args.outline.now.directories
    c.requires.front)
    c.put_first.ensures c.deref-2.ensures.0 in
    record {
      gs = c.deref-2.result.now;
      bytes_is = c.block_room-room.ensures.bytes;
      superblock_is = c.block_room-room.ensures.superblock;
      once = c.requires.once;
      led = led;
      order = in_some_order c.block_room-room.result.bytes c.block_room-room.result.superblock c.args.leading
          (thread c.args.outline.now.directories) c.deref-2.result.now led;
      rows_are = c.in_ok-rows.ensures;
    }

pub returns-clause-enough : goal.returns-clause-enough
returns-clause-enough c =
    chosen_enough c.args.outline.now c.block_room-room.result.bytes c.block_room-room.result.superblock c.args.leading c.args.blocks.now
    c.in_ok-rows.rows.items (rows_made c)

pub returns-clause-ordered : goal.returns-clause-ordered
returns-clause-ordered c =
    chosen_in_order c.args.outline.now c.block_room-room.result.bytes c.block_room-room.result.superblock c.args.leading c.args.blocks.now
    c.in_ok-rows.rows.items (rows_made c)

pub returns-clause-uses : goal.returns-clause-uses
returns-clause-uses c =
    chosen_uses c.args.outline.now c.block_room-room.result.bytes c.block_room-room.result.superblock c.args.leading c.args.blocks.now
    c.in_ok-rows.rows.items (rows_made c)
