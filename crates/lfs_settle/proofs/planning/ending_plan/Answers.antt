-- If the parts that change can be put, they are what settles the image.
use Rattle.std.proofs.Common.{◌≡◌, ℕ, ◌<◌, ◌≤◌, Bool, true, List, ap, map, sym, ◌∙◌, subst}
use Rattle.std.specs.Prelude.{All, ◌&&◌, not}
use Rattle.std.specs.List.{filter, list_all}
use Rattle.lfs_block.specs.Disk.{Disk}
use Rattle.lfs_fs.specs.Front.{pairs_name}
use Rattle.lfs_fs.specs.Gathering.{PairPart, delta_from}
use Rattle.lfs_fs.specs.Reading.{Reading}
use Rattle.lfs_lower.specs.LaterReading.{later_reading_of}
use Rattle.lfs_lower.specs.OneSuperblock.{can_be_put}
use Rattle.lfs_settle.specs.Ended.{dropped_of, moved_of}
use Rattle.lfs_settle.specs.InStep.{has_thread, in_step, thread_parts}
use Rattle.lfs_settle.specs.Moved.{can_end}
use Rattle.lfs_settle.specs.Planned.{changed_parts}
use Rattle.lfs_settle.specs.Settled.{can_settle, is_held, settled_parts}
use Rattle.lfs_settle.proofs.WhatIsEnded.{ends_so}
use Rattle.lfs_settle.proofs.PartLists.{all_are}
use Rattle.lfs_settle.proofs.SettledBlocks.{can_put_all, settling_plan, tested}
use Rattle.lfs_settle.proofs.WholeThread.{settled_first_within, settled_second_within, thread_once}
use Rattle.lfs_settle.proofs.planning.ending_plan.Goals as goal

-- the parts that change
changed_by : (d : Disk) (along parts changed : List PairPart) → along ≡ thread_parts (in_step (later_reading_of d)) → parts ≡ settled_parts along
    → changed ≡ filter (λ p. not (is_held (later_reading_of d) p)) parts → changed ≡ changed_parts (later_reading_of d)
changed_by d along parts changed is parts_are changed_are =
    changed_are
    ∙ ap (λ (ps : List PairPart). filter (λ p. not (is_held (later_reading_of d) p)) ps) (parts_are ∙ ap settled_parts is)

pub settled_parts-requires : goal.settled_parts-requires
settled_parts-requires g c =
    let r : Reading = later_reading_of (g.B.Blocks.disk c.args.blocks.now) in
    λ b. subst (λ (ps : List PairPart). pairs_name b (map (λ (p : PairPart). p.0) ps) ≤ 1) (sym c.requires.along) (thread_once (in_step r) b)

pub changed-requires-clause-first : goal.changed-requires-clause-first
changed-requires-clause-first g c =
    let d : Disk = g.B.Blocks.disk c.args.blocks.now in
    let s : Reading = in_step (later_reading_of d) in
    subst (All (λ (p : PairPart). p.0.0 < d.count)) (sym (c.in_ok-parts.ensures.parts ∙ ap settled_parts c.requires.along))
    (all_are (λ (p : PairPart). p.0.0 < d.count) (settled_parts (thread_parts s)) (λ p there. settled_first_within s p there))

pub changed-requires-clause-second : goal.changed-requires-clause-second
changed-requires-clause-second g c =
    let d : Disk = g.B.Blocks.disk c.args.blocks.now in
    let s : Reading = in_step (later_reading_of d) in
    subst (All (λ (p : PairPart). p.0.1 < d.count)) (sym (c.in_ok-parts.ensures.parts ∙ ap settled_parts c.requires.along))
    (all_are (λ (p : PairPart). p.0.1 < d.count) (settled_parts (thread_parts s)) (λ p there. settled_second_within s p there))

-- the test, as it was made
can_is : (d : Disk) (along parts changed tested_on : List PairPart) (size count : ℕ) (result : Bool) → along ≡ thread_parts (in_step (later_reading_of d))
    → (has_thread (in_step (later_reading_of d)) && can_end (delta_from along) along) ≡ true → parts ≡ settled_parts along
    → changed ≡ filter (λ p. not (is_held (later_reading_of d) p)) parts → tested_on ≡ changed → size ≡ d.size → count ≡ d.count
    → result ≡ list_all (λ p. can_be_put size count p.1) tested_on → result ≡ can_settle (later_reading_of d) (in_step (later_reading_of d))
can_is d along parts changed tested_on size count result is ended parts_are changed_are same same_size same_count test =
    let r : Reading = later_reading_of d in
    test
    ∙ ap (λ (ps : List PairPart). list_all (λ p. can_be_put size count p.1) ps) same
    ∙ tested d changed size count (changed_by d along parts changed is parts_are changed_are) same_size same_count
    (ap (λ (ps : List PairPart). has_thread (in_step r) && can_end (delta_from ps) ps) (sym is) ∙ ended)

pub returns-then-all_can-clause-some : goal.returns-then-all_can-clause-some
returns-then-all_can-clause-some g c =
    let d : Disk = g.B.Blocks.disk c.args.blocks.now in
    let can = can_is d c.args.thread.parts.items c.in_ok-parts.parts.items c.in_ok-changed.changed.items c.deref-2.result.now c.size.result
    c.count.result c.all_can.result c.requires.along c.requires.ended c.in_ok-parts.ensures.parts
    c.in_ok-changed.ensures c.deref-2.ensures.value
    c.size.ensures.value c.count.ensures c.all_can.ensures in
    let changed = changed_by d c.args.thread.parts.items c.in_ok-parts.parts.items c.in_ok-changed.changed.items c.requires.along
    c.in_ok-parts.ensures.parts c.in_ok-changed.ensures in
    settling_plan d c.in_ok-pairs.pairs.items c.in_ok-changed.changed.items (sym can ∙ c.if-all_can.true)
    (c.in_ok-pairs.ensures
    ∙ ap (map (λ (p : PairPart). p.0)) (c.deref.ensures.value ∙ c.in_ok-parts.ensures.parts ∙ ap settled_parts c.requires.along)) changed
    (can_put_all d c.in_ok-changed.changed.items c.args.thread.parts.items c.size.result c.count.result changed
    c.size.ensures.value c.count.ensures c.requires.along c.requires.complete
    (ap (λ (ps : List PairPart). list_all (λ p. can_be_put c.size.result c.count.result p.1) ps) (sym c.deref-2.ensures.value)
    ∙ sym c.all_can.ensures ∙ c.if-all_can.true))

pub returns-then-all_can-clause-ended : goal.returns-then-all_can-clause-ended
returns-then-all_can-clause-ended g c =
    let d : Disk = g.B.Blocks.disk c.args.blocks.now in
    let can = can_is d c.args.thread.parts.items c.in_ok-parts.parts.items c.in_ok-changed.changed.items c.deref-2.result.now c.size.result
    c.count.result c.all_can.result c.requires.along c.requires.ended c.in_ok-parts.ensures.parts
    c.in_ok-changed.ensures c.deref-2.ensures.value
    c.size.ensures.value c.count.ensures c.all_can.ensures in
    ends_so (later_reading_of d) c.in_ok-parts.ended (sym can ∙ c.if-all_can.true)
    (c.in_ok-parts.ensures.moved ∙ ap moved_of c.requires.along) (c.in_ok-parts.ensures.dropped ∙ ap dropped_of c.requires.along)
    (c.in_ok-parts.ensures.steps ∙ c.requires.steps)

pub returns-clause-none : goal.returns-clause-none
returns-clause-none g c =
    let d : Disk = g.B.Blocks.disk c.args.blocks.now in
    sym (can_is d c.args.thread.parts.items c.in_ok-parts.parts.items c.in_ok-changed.changed.items c.deref-2.result.now c.size.result
    c.count.result c.all_can.result c.requires.along c.requires.ended c.in_ok-parts.ensures.parts
    c.in_ok-changed.ensures c.deref-2.ensures.value
    c.size.ensures.value c.count.ensures c.all_can.ensures) ∙ c.if-all_can.false
