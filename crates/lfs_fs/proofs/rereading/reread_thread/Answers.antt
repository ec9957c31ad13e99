-- Each pair is marked, and its part kept.
use Rattle.std.proofs.Common.{Option, subst}
use Rattle.lfs_meta.specs.Body.{Pair}
use Rattle.lfs_fs.specs.Reading.{reading_of}
use Rattle.lfs_fs.proofs.RereadLemmas.{GathersFrom, all_reread, fewer_left, first_gathered, gathered_len, gathered_rise, not_the_root, pair_gathered}
use Rattle.lfs_fs.proofs.ThreadReadLemmas.{pair_within}
use Rattle.lfs_fs.proofs.rereading.reread_thread.Goals as goal

pub thread-init : goal.thread-init
thread-init g c =
    let s = c.args.started in
    record {
      known = c.requires.known;
      started = c.requires.started;
      so_far = first_gathered (reading_of (g.B.Blocks.disk c.args.blocks.now)) c.args.limits s.attributes.items c.args.used.now s.joined s.next
          c.requires.started;
    }

pub keep_pair-requires-clause-first : goal.keep_pair-requires-clause-first
keep_pair-requires-clause-first g c =
    let r = reading_of (g.B.Blocks.disk c.args.blocks.now) in
    let s = c.args.started in
    let on = c.thread.invariant.started in
    let h = subst (λ (o : Option Pair). GathersFrom r c.args.limits s.attributes.items c.args.used.now s.joined s.next on o c.thread.used
    c.thread.joined) c.in-Some.is c.thread.invariant.so_far in
    (pair_within r c.in-Some.pair c.thread.used c.mark_all.new.used (gathered_len r c.args.limits s.attributes.items c.args.used.now s.joined
    s.next on c.in-Some.pair c.thread.used c.thread.joined h) c.in_ok-mark_all.ensures.marked).0

pub keep_pair-requires-clause-second : goal.keep_pair-requires-clause-second
keep_pair-requires-clause-second g c =
    let r = reading_of (g.B.Blocks.disk c.args.blocks.now) in
    let s = c.args.started in
    let on = c.thread.invariant.started in
    let h = subst (λ (o : Option Pair). GathersFrom r c.args.limits s.attributes.items c.args.used.now s.joined s.next on o c.thread.used
    c.thread.joined) c.in-Some.is c.thread.invariant.so_far in
    (pair_within r c.in-Some.pair c.thread.used c.mark_all.new.used (gathered_len r c.args.limits s.attributes.items c.args.used.now s.joined
    s.next on c.in-Some.pair c.thread.used c.thread.joined h) c.in_ok-mark_all.ensures.marked).1

pub keep_pair-requires-clause-other : goal.keep_pair-requires-clause-other
keep_pair-requires-clause-other g c =
    let r = reading_of (g.B.Blocks.disk c.args.blocks.now) in
    let s = c.args.started in
    let on = c.thread.invariant.started in
    let h = subst (λ (o : Option Pair). GathersFrom r c.args.limits s.attributes.items c.args.used.now s.joined s.next on o c.thread.used
    c.thread.joined) c.in-Some.is c.thread.invariant.so_far in
    not_the_root r c.args.limits s.attributes.items c.args.used.now s.joined s.next on c.in-Some.pair c.thread.used c.thread.joined h
    c.mark_all.new.used c.in_ok-mark_all.ensures.marked

pub keep_pair-requires-clause-rise : goal.keep_pair-requires-clause-rise
keep_pair-requires-clause-rise g c =
    let r = reading_of (g.B.Blocks.disk c.args.blocks.now) in
    let s = c.args.started in
    let on = c.thread.invariant.started in
    let h = subst (λ (o : Option Pair). GathersFrom r c.args.limits s.attributes.items c.args.used.now s.joined s.next on o c.thread.used
    c.thread.joined) c.in-Some.is c.thread.invariant.so_far in
    gathered_rise r c.args.limits s.attributes.items c.args.used.now s.joined s.next on c.in-Some.pair c.thread.used c.thread.joined h

pub thread-smaller : goal.thread-smaller
thread-smaller g c =
    let r = reading_of (g.B.Blocks.disk c.args.blocks.now) in
    let s = c.args.started in
    let on = c.thread.invariant.started in
    let h = subst (λ (o : Option Pair). GathersFrom r c.args.limits s.attributes.items c.args.used.now s.joined s.next on o c.thread.used
    c.thread.joined) c.in-Some.is c.thread.invariant.so_far in
    fewer_left r c.args.limits s.attributes.items c.args.used.now s.joined s.next on c.in-Some.pair c.thread.used c.thread.joined h
    c.mark_all.new.used c.keep_pair.new.used c.keep_pair.new.joined c.in_ok-next.next c.in_ok-mark_all.ensures.marked c.in_ok-next.ensures.kept

pub thread-preserved : goal.thread-preserved
thread-preserved g c =
    let r = reading_of (g.B.Blocks.disk c.args.blocks.now) in
    let s = c.args.started in
    let on = c.thread.invariant.started in
    let h = subst (λ (o : Option Pair). GathersFrom r c.args.limits s.attributes.items c.args.used.now s.joined s.next on o c.thread.used
    c.thread.joined) c.in-Some.is c.thread.invariant.so_far in
    record {
      known = c.in_ok-next.ensures.known;
      started = on;
      so_far = pair_gathered r c.args.limits s.attributes.items c.args.used.now s.joined s.next on c.in-Some.pair c.thread.used c.thread.joined h
          c.mark_all.new.used c.keep_pair.new.used c.keep_pair.new.joined c.in_ok-next.next c.in_ok-mark_all.ensures.marked
          c.in_ok-next.ensures.kept;
    }

pub returns-clause-reread : goal.returns-clause-reread
returns-clause-reread g c =
    let r = reading_of (g.B.Blocks.disk c.args.blocks.now) in
    let s = c.args.started in
    let on = c.thread.invariant.started in
    all_reread r c.args.limits s.attributes.items c.args.used.now s.joined s.next on c.thread.used c.thread.joined
    (subst (λ (o : Option Pair). GathersFrom r c.args.limits s.attributes.items c.args.used.now s.joined s.next on o c.thread.used
    c.thread.joined) c.in_default.is c.thread.invariant.so_far)
