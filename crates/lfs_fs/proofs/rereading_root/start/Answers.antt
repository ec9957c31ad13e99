-- The root's first part is taken over, or read.
use Rattle.std.proofs.Common.{ap, ◌∙◌}
use Rattle.lfs_fs.specs.Pair.{root}
use Rattle.lfs_fs.specs.Reading.{reading_of}
use Rattle.lfs_fs.specs.Thread.{Link, next}
use Rattle.lfs_fs.proofs.KnownLemmas.{known_left, known_link}
use Rattle.lfs_fs.proofs.RereadLemmas.{known_rise, starts_known}
use Rattle.lfs_fs.proofs.ThreadReadLemmas.{pair_within}
use Rattle.lfs_fs.proofs.rereading_root.start.Goals as goal

pub take_over-requires-clause-entries : goal.take_over-requires-clause-entries
take_over-requires-clause-entries g c =
    let r = reading_of (g.B.Blocks.disk c.args.blocks.now) in
    let h = c.requires.known in
    known_rise r c.args.limits h.bytes c.args.attributes.items c.in-Some.part (known_link r c.args.limits c.args.attributes.items
    c.args.known.now.changed.items c.args.known.now.parts.items c.in-Some.part h c.in-Some.ensures.there c.in-Some.ensures.left)

pub returns-clause-started : goal.returns-clause-started
returns-clause-started g c =
    let d = g.B.Blocks.disk c.args.blocks.now in
    let h = c.requires.known in
    let link = known_link (reading_of d) c.args.limits c.args.attributes.items c.args.known.now.changed.items c.args.known.now.parts.items
    c.in-Some.part h c.in-Some.ensures.there c.in-Some.ensures.left in
    let within = pair_within (reading_of d) root c.args.used.now c.mark_all.new.used c.requires.len c.in_ok-mark_all.ensures.marked in
    starts_known c.held_parts_are_complete.ensures d c.args.limits c.args.attributes.items c.in-Some.part h.bytes h.judged link c.requires.disk
    c.in-Some.ensures.pair c.args.used.now c.mark_all.new.used c.take_over.new.used c.next_pair-next.result c.new-joined.result
    c.take_over.new.self c.requires.len c.requires.fresh c.in_ok-mark_all.ensures.marked (record {
      directories = c.new-joined.ensures.directories;
      parts = c.new-joined.ensures.parts;
      state = c.new-joined.ensures.state;
    }) c.in_ok-take_over.ensures (c.next_pair-next.ensures ∙ ap (λ (k : Link). next k.tail) c.part.view_is) within.0 within.1

pub returns-in_default-clause-known : goal.returns-in_default-clause-known
returns-in_default-clause-known g c = known_left (reading_of (g.B.Blocks.disk c.args.blocks.now)) c.args.limits c.args.attributes.items
    c.args.known.now.changed.items c.take.new.self.changed.items c.args.known.now.parts.items c.take.new.self.parts.items c.requires.known
    c.take.ensures.rest c.take.ensures.changed

pub returns-in_err-mark_all-clause-known : goal.returns-in_err-mark_all-clause-known
returns-in_err-mark_all-clause-known g c = known_left (reading_of (g.B.Blocks.disk c.args.blocks.now)) c.args.limits c.args.attributes.items
    c.args.known.now.changed.items c.take.new.self.changed.items c.args.known.now.parts.items c.take.new.self.parts.items c.requires.known
    c.take.ensures.rest c.take.ensures.changed

pub returns-in_err-take_over-clause-known : goal.returns-in_err-take_over-clause-known
returns-in_err-take_over-clause-known g c = known_left (reading_of (g.B.Blocks.disk c.args.blocks.now)) c.args.limits c.args.attributes.items
    c.args.known.now.changed.items c.take.new.self.changed.items c.args.known.now.parts.items c.take.new.self.parts.items c.requires.known
    c.take.ensures.rest c.take.ensures.changed

pub returns-clause-known : goal.returns-clause-known
returns-clause-known g c = known_left (reading_of (g.B.Blocks.disk c.args.blocks.now)) c.args.limits c.args.attributes.items
    c.args.known.now.changed.items c.take.new.self.changed.items c.args.known.now.parts.items c.take.new.self.parts.items c.requires.known
    c.take.ensures.rest c.take.ensures.changed
