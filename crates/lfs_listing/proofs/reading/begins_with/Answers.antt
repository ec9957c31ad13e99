-- One slice more is taken off, or isn't there.
use Rattle.lfs_file.specs.Content.{content}
use Rattle.lfs_listing.proofs.ReadingLemmas.{slice_differs, slice_taken}
use Rattle.lfs_listing.proofs.reading.begins_with.Goals as goal

pub returns-then-not-takes : goal.returns-then-not-takes
returns-then-not-takes g c =
    let way = c.loop-slice.invariant in
    slice_differs c.args.unread.now c.loop-slice.unread (content (g.A.Blocks.disk c.args.disk.now) c.args.size c.args.blocks.now) way.0
    c.in-Some.slice.now c.loop-slice.slice-iterator c.next.new.self c.in-Some.ensures.steps way.1 way.2 c.if-not-takes.ensures

pub loop-slice-preserved : goal.loop-slice-preserved
loop-slice-preserved g c =
    let way = c.loop-slice.invariant in
    slice_taken c.args.unread.now c.loop-slice.unread (content (g.A.Blocks.disk c.args.disk.now) c.args.size c.args.blocks.now) way.0
    c.in-Some.slice.now c.loop-slice.slice-iterator c.next.new.self c.in-Some.ensures.steps way.1 way.2 c.takes.new.self c.if-not-takes.ensures
