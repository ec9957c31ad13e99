-- The part of a pair is taken over, or read.
use Rattle.std.proofs.Common.{ap, ◌∙◌}
use Rattle.lfs_fs.specs.Reading.{reading_of}
use Rattle.lfs_fs.specs.Thread.{Link, next}
use Rattle.lfs_fs.proofs.KnownLemmas.{known_left, known_link}
use Rattle.lfs_fs.proofs.RereadLemmas.{keeps_known, known_rise}
use Rattle.lfs_fs.proofs.rereading.keep_pair.Goals as goal

pub take_over-requires-clause-entries : goal.take_over-requires-clause-entries
take_over-requires-clause-entries g c =
    let r = reading_of (g.B.Blocks.disk c.args.blocks.now) in
    let h = c.requires.known in
    known_rise r c.args.limits h.1.bytes h.0 c.in-Some.part (known_link r c.args.limits h.0 c.args.known.now.changed.items
    c.args.known.now.parts.items c.in-Some.part h.1 c.in-Some.ensures.there c.in-Some.ensures.left)

pub returns-in-Some-clause-kept : goal.returns-in-Some-clause-kept
returns-in-Some-clause-kept g c =
    let d = g.B.Blocks.disk c.args.blocks.now in
    let h = c.requires.known in
    let link = known_link (reading_of d) c.args.limits h.0 c.args.known.now.changed.items c.args.known.now.parts.items c.in-Some.part h.1
    c.in-Some.ensures.there c.in-Some.ensures.left in
    keeps_known c.held_parts_are_complete.ensures d c.args.limits h.1.bytes h.0 c.in-Some.part c.args.pair link c.requires.disk c.requires.first
    c.requires.second c.requires.other c.in-Some.ensures.pair c.args.used.now c.take_over.new.used c.next_pair-next.result c.args.joined.now
    c.take_over.new.self c.in_ok-take_over.ensures (c.next_pair-next.ensures ∙ ap (λ (k : Link). next k.tail) c.part.view_is)

pub returns-in-Some-clause-known : goal.returns-in-Some-clause-known
returns-in-Some-clause-known g c =
    let r = reading_of (g.B.Blocks.disk c.args.blocks.now) in
    let h = c.requires.known in (
      h.0,
      known_left r c.args.limits h.0 c.args.known.now.changed.items c.take.new.self.changed.items c.args.known.now.parts.items
          c.take.new.self.parts.items h.1 c.take.ensures.rest c.take.ensures.changed,
    )

pub returns-clause-known : goal.returns-clause-known
returns-clause-known g c =
    let r = reading_of (g.B.Blocks.disk c.args.blocks.now) in
    let h = c.requires.known in (
      h.0,
      known_left r c.args.limits h.0 c.args.known.now.changed.items c.take.new.self.changed.items c.args.known.now.parts.items
          c.take.new.self.parts.items h.1 c.take.ensures.rest c.take.ensures.changed,
    )
