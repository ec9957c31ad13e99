-- One pair more is filled.
use Rattle.std.proofs.Common.{◌≡◌, ◌+◌, List, [], ◌∷◌, ◌++◌, drop, subst, sym}
use Rattle.std.proofs.lemmas.List.{drop_all}
use Rattle.lfs_fs.specs.Thread.{Link}
use Rattle.lfs_law.specs.PairWritten.{link_to}
use Rattle.lfs_law.specs.SuperblockBytes.{volume_bytes}
use Rattle.lfs_write.proofs.LinksOfOutlines.{one_left}
use Rattle.lfs_pack.specs.Filled.{FillPairs}
use Rattle.lfs_pack.proofs.PairsFilled.{but_begun, but_complete, but_itself, can_first, can_later, filled_complete, none_filled, one_can}
use Rattle.lfs_pack.proofs.outline_writing.write_outline.Goals as goal

pub returns-in_err-all-clause-others : goal.returns-in_err-all-clause-others
returns-in_err-all-clause-others c = but_itself c.args.image.now.disk _ c.size-size.ensures.disk

pub fill_pair-requires-clause-can : goal.fill_pair-requires-clause-can
fill_pair-requires-clause-can c =
    let bytes = volume_bytes c.args.outline.now in
    let attributes = c.args.outline.now.attributes in
    one_can bytes attributes c.loop-link.image.disk (link_to c.link.inside.part.now c.link.inside.tail)
    (can_first bytes attributes c.loop-link.image.disk (drop c.loop-link.link-index c.deref-link-items.result.now)
    (link_to c.link.inside.part.now c.link.inside.tail ∷ [])
    (drop (c.loop-link.link-index + 1) c.deref-link-items.result.now)
    (one_left c.deref-link-items.result.now c.loop-link.link-index c.link-item.result
    (link_to c.link.inside.part.now c.link.inside.tail) c.link.view_is c.loop-link-test.true c.link-item.is)
    c.loop-link.invariant.can)

pub returns-in_err-fill_pair-clause-others : goal.returns-in_err-fill_pair-clause-others
returns-in_err-fill_pair-clause-others c =
    c.loop-link.invariant.but c.fill_pair.new.image.disk
    (but_begun c.loop-link.image.disk c.fill_pair.new.image.disk (drop c.loop-link.link-index c.deref-link-items.result.now)
    (link_to c.link.inside.part.now c.link.inside.tail ∷ [])
    (drop (c.loop-link.link-index + 1) c.deref-link-items.result.now)
    (one_left c.deref-link-items.result.now c.loop-link.link-index c.link-item.result
    (link_to c.link.inside.part.now c.link.inside.tail) c.link.view_is c.loop-link-test.true c.link-item.is)
    c.fill_pair.ensures.others)

pub loop-link-preserved : goal.loop-link-preserved
loop-link-preserved c =
    let d = c.loop-link.image.disk in
    let m = c.fill_pair.new.image.disk in
    let bytes = volume_bytes c.args.outline.now in
    let attributes = c.args.outline.now.attributes in
    let all = drop c.loop-link.link-index c.deref-link-items.result.now in
    let front : List Link = link_to c.link.inside.part.now c.link.inside.tail ∷ [] in
    let later = drop (c.loop-link.link-index + 1) c.deref-link-items.result.now in
    let split : all ≡ front ++ later =
    one_left c.deref-link-items.result.now c.loop-link.link-index c.link-item.result
    (link_to c.link.inside.part.now c.link.inside.tail) c.link.view_is c.loop-link-test.true c.link-item.is in
    record {
      disk = c.fill_pair.ensures.others.disk.disk;
      can = can_later bytes attributes d m all front later split c.loop-link.invariant.can c.fill_pair.ensures.others;
      complete = λ e filled. c.loop-link.invariant.complete e
          (filled_complete bytes attributes d m e all front later split c.loop-link.invariant.can c.in_ok-fill_pair.ensures.filled filled);
      but = λ e others. c.loop-link.invariant.but e (but_complete d m e all front later split c.fill_pair.ensures.others others);
    }

pub returns-clause-taken : goal.returns-clause-taken
returns-clause-taken c =
    let bytes = volume_bytes c.args.outline.now in
    let attributes = c.args.outline.now.attributes in
    let d = c.loop-link.image.disk in
    let none : drop c.loop-link.link-index c.deref-link-items.result.now ≡ [] =
    drop_all c.loop-link.link-index c.deref-link-items.result.now c.loop-link-test.false in
    c.loop-link.invariant.complete d
    (subst (FillPairs d d bytes attributes) (sym none) (none_filled bytes attributes d c.loop-link.invariant.disk))

pub returns-clause-others : goal.returns-clause-others
returns-clause-others c = c.loop-link.invariant.but c.loop-link.image.disk (but_itself c.loop-link.image.disk _ c.loop-link.invariant.disk)
