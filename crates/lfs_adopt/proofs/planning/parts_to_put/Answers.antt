-- If the thread and the parts pass, those that change are planned, and else none.
use Rattle.std.proofs.Common.{sym, ◌∙◌}
use Rattle.lfs_block.specs.Disk.{Disk}
use Rattle.lfs_adopt.proofs.TidiedBlocks.{ArePlannedOf, changed_planned, first_of_parts, fit_is, none_planned}
use Rattle.lfs_adopt.proofs.TidiedBlocks.{second_of_parts, unfit_thread}
use Rattle.lfs_adopt.proofs.planning.parts_to_put.Goals as goal

pub returns-then-not-can_be_tidied : goal.returns-then-not-can_be_tidied
returns-then-not-can_be_tidied g c =
    let d : Disk = g.B.Blocks.disk c.args.blocks.now in
    let thread = c.in_ok-thread.thread in
    none_planned d c.new.result.items
    (unfit_thread d thread.parts.items thread.is_whole c.in_ok-thread.ensures.parts c.in_ok-thread.ensures.whole
    (sym c.can_be_tidied.ensures ∙ c.if-not-can_be_tidied.true)) c.new.ensures.items

pub changed-requires-clause-first : goal.changed-requires-clause-first
changed-requires-clause-first g c =
    first_of_parts (g.B.Blocks.disk c.args.blocks.now) c.in_ok-thread.thread.parts.items c.in_ok-parts.parts.items
    c.in_ok-thread.ensures.parts c.in_ok-parts.ensures

pub changed-requires-clause-second : goal.changed-requires-clause-second
changed-requires-clause-second g c =
    second_of_parts (g.B.Blocks.disk c.args.blocks.now) c.in_ok-thread.thread.parts.items c.in_ok-parts.parts.items
    c.in_ok-thread.ensures.parts c.in_ok-parts.ensures

pub returns-then-not-all_can : goal.returns-then-not-all_can
returns-then-not-all_can g c =
    let d : Disk = g.B.Blocks.disk c.args.blocks.now in
    let along = c.in_ok-thread.thread.parts.items in
    let whole = c.in_ok-thread.thread.is_whole in
    let parts = c.in_ok-parts.parts.items in
    let changed = c.in_ok-changed.changed.items in
    let of : ArePlannedOf d along parts changed whole = record {
      along_are = c.in_ok-thread.ensures.parts;
      whole_is = c.in_ok-thread.ensures.whole;
      complete = c.in_ok-thread.ensures.complete;
      parts_are = c.in_ok-parts.ensures;
      changed_are = c.in_ok-changed.ensures;
    } in
    let fit = fit_is d along parts changed whole of c.size.result c.count.result c.deref.result.now c.all_can.result
    (sym c.can_be_tidied.ensures ∙ c.if-not-can_be_tidied.false) c.deref.ensures.value c.size.ensures.value c.count.ensures
    c.all_can.ensures in
    none_planned d c.new-then-not-all_can.result.items (sym fit ∙ c.if-not-all_can.true) c.new-then-not-all_can.ensures.items

pub returns : goal.returns
returns g c =
    let d : Disk = g.B.Blocks.disk c.args.blocks.now in
    let along = c.in_ok-thread.thread.parts.items in
    let whole = c.in_ok-thread.thread.is_whole in
    let parts = c.in_ok-parts.parts.items in
    let changed = c.in_ok-changed.changed.items in
    let of : ArePlannedOf d along parts changed whole = record {
      along_are = c.in_ok-thread.ensures.parts;
      whole_is = c.in_ok-thread.ensures.whole;
      complete = c.in_ok-thread.ensures.complete;
      parts_are = c.in_ok-parts.ensures;
      changed_are = c.in_ok-changed.ensures;
    } in
    let fit = fit_is d along parts changed whole of c.size.result c.count.result c.deref.result.now c.all_can.result
    (sym c.can_be_tidied.ensures ∙ c.if-not-can_be_tidied.false) c.deref.ensures.value c.size.ensures.value c.count.ensures
    c.all_can.ensures in
    changed_planned d along parts changed whole of (sym fit ∙ c.if-not-all_can.false)
