-- Each pair is marked and read, and its part is kept, or it is refused for its cause.
use Rattle.std.proofs.Common.{◌≡◌, [], ◌∷◌, ◌++◌, Option, ap, ◌∙◌, subst}
use Rattle.std.proofs.lemmas.Result.{err_from_is_err_and}
use Rattle.lfs_meta.specs.Body.{Pair}
use Rattle.lfs_fs.specs.Gathering.{PairPart}
use Rattle.lfs_fs.specs.Reading.{reading_of}
use Rattle.lfs_fs.specs.Thread.{next}
use Rattle.lfs_fs.proofs.JoinedLemmas.{IsKeptTo, all_kept, fewer_kept, first_kept, first_refused, gathers_more, joined_rise, kept_len, mark_refused, part_refused, read_refused}
use Rattle.lfs_fs.proofs.ThreadReadLemmas.{pair_within}
use Rattle.lfs_fs.proofs.thread_reading.read_thread.Goals as goal

pub returns-in_err-keep-clause-refused : goal.returns-in_err-keep-clause-refused
returns-in_err-keep-clause-refused g c =
    let d = g.B.Blocks.disk c.args.blocks.now in
    let p = err_from_is_err_and c.from_residual.result c.from_residual.ensures.1 in
    rw (p.1, p.2) (first_refused d c.args.limits c.in_err-keep.field-0.0 c.args.root c.args.used.now c.requires.root c.new-joined.result
    c.new-joined.ensures.directories c.new-joined.ensures.parts c.in_err-keep.ensures.refused)

pub thread-init : goal.thread-init
thread-init g c =
    let r = reading_of (g.B.Blocks.disk c.args.blocks.now) in
    let next_is : c.next_pair-next.result ≡ next c.args.root.1.tail = c.next_pair-next.ensures
    ∙ ap (λ (p : PairPart). next p.1.tail) c.root.view_is in
    let one = first_kept r c.args.limits c.args.root c.args.used.now c.keep.new.used c.requires.root c.new-joined.result c.keep.new.self
    c.new-joined.ensures.directories c.new-joined.ensures.parts c.new-joined.ensures.state c.in_ok-keep.ensures.kept in
    let kept : IsKeptTo r c.args.limits c.args.root (next c.args.root.1.tail) c.keep.new.used c.keep.new.self = record {
      superblock = c.requires.root.superblock;
      judged = c.requires.root.judged;
      rest = [];
      gathers = one;
    } in
    rw next_is kept

pub returns-in_err-mark_all-clause-refused : goal.returns-in_err-mark_all-clause-refused
returns-in_err-mark_all-clause-refused g c =
    let d = g.B.Blocks.disk c.args.blocks.now in
    let p = err_from_is_err_and c.from_residual-in_err-mark_all.result c.from_residual-in_err-mark_all.ensures.1 in
    let h = subst (λ (o : Option Pair). IsKeptTo (reading_of d) c.args.limits c.args.root o c.thread.used c.thread.joined) c.in-Some.is
    c.thread.invariant in
    rw (p.1, p.2) (mark_refused d c.args.limits c.in_err-mark_all.field-0.0 h.superblock h.judged c.args.root h.rest c.thread.used
    c.thread.joined c.in-Some.pair h.gathers c.in_err-mark_all.ensures.refused)

pub read_pair-requires-clause-first : goal.read_pair-requires-clause-first
read_pair-requires-clause-first g c =
    let r = reading_of (g.B.Blocks.disk c.args.blocks.now) in
    (pair_within r c.in-Some.pair c.thread.used c.mark_all.new.used (kept_len r c.args.limits c.args.root c.thread.next c.thread.used
    c.thread.joined c.thread.invariant) c.in_ok-mark_all.ensures.marked).0

pub read_pair-requires-clause-second : goal.read_pair-requires-clause-second
read_pair-requires-clause-second g c =
    let r = reading_of (g.B.Blocks.disk c.args.blocks.now) in
    (pair_within r c.in-Some.pair c.thread.used c.mark_all.new.used (kept_len r c.args.limits c.args.root c.thread.next c.thread.used
    c.thread.joined c.thread.invariant) c.in_ok-mark_all.ensures.marked).1

pub returns-in_err-part-clause-refused : goal.returns-in_err-part-clause-refused
returns-in_err-part-clause-refused g c =
    let d = g.B.Blocks.disk c.args.blocks.now in
    let p = err_from_is_err_and c.from_residual-in_err-part.result c.from_residual-in_err-part.ensures.1 in
    let h = subst (λ (o : Option Pair). IsKeptTo (reading_of d) c.args.limits c.args.root o c.thread.used c.thread.joined) c.in-Some.is
    c.thread.invariant in
    rw (p.1, p.2) (read_refused d c.args.limits c.in_err-part.field-0.0 h.superblock h.judged c.args.root h.rest c.thread.used
    c.thread.joined c.in-Some.pair h.gathers c.mark_all.new.used c.in_ok-mark_all.ensures.marked c.in_err-part.ensures.refused)

pub keep-requires-in-Some-clause-rise : goal.keep-requires-in-Some-clause-rise
keep-requires-in-Some-clause-rise g c =
    joined_rise (reading_of (g.B.Blocks.disk c.args.blocks.now)) c.args.limits c.args.root c.thread.next c.thread.used c.thread.joined
    c.thread.invariant

pub thread-smaller : goal.thread-smaller
thread-smaller g c = fewer_kept (reading_of (g.B.Blocks.disk c.args.blocks.now)) c.args.limits c.thread.used c.mark_all.new.used
    c.keep-in-Some.new.used c.in-Some.pair c.in_ok-part.part c.thread.joined c.keep-in-Some.new.self c.in_ok-mark_all.ensures.marked
    c.in_ok-keep-2.ensures.kept

pub thread-preserved : goal.thread-preserved
thread-preserved g c =
    let r = reading_of (g.B.Blocks.disk c.args.blocks.now) in
    let part = c.in_ok-part.part in
    let h = subst (λ (o : Option Pair). IsKeptTo r c.args.limits c.args.root o c.thread.used c.thread.joined) c.in-Some.is
    c.thread.invariant in
    let next_is : c.next_pair-next-in-Some.result ≡ next part.1.tail = c.next_pair-next-in-Some.ensures
    ∙ ap (λ (p : PairPart). next p.1.tail) c.part.view_is in
    let more : IsKeptTo r c.args.limits c.args.root (next part.1.tail) c.keep-in-Some.new.used c.keep-in-Some.new.self = record {
      superblock = h.superblock;
      judged = h.judged;
      rest = h.rest ++ part ∷ [];
      gathers = gathers_more r c.args.limits h.superblock c.args.root h.rest c.thread.used c.thread.joined c.in-Some.pair part
          c.mark_all.new.used c.keep-in-Some.new.used c.keep-in-Some.new.self h.gathers c.in_ok-mark_all.ensures.marked
          c.in_ok-part.ensures.pair c.in_ok-part.ensures.found c.in_ok-part.ensures.complete c.in_ok-keep-2.ensures.kept;
    } in
    rw next_is more

pub returns-in_err-keep-2-clause-refused : goal.returns-in_err-keep-2-clause-refused
returns-in_err-keep-2-clause-refused g c =
    let d = g.B.Blocks.disk c.args.blocks.now in
    let p = err_from_is_err_and c.from_residual-in_err-keep-2.result c.from_residual-in_err-keep-2.ensures.1 in
    let h = subst (λ (o : Option Pair). IsKeptTo (reading_of d) c.args.limits c.args.root o c.thread.used c.thread.joined) c.in-Some.is
    c.thread.invariant in
    rw (p.1, p.2) (part_refused d c.args.limits c.in_err-keep-2.field-0.0 h.superblock h.judged c.args.root h.rest c.thread.used
    c.thread.joined c.in-Some.pair h.gathers c.in_ok-part.part c.mark_all.new.used c.in_ok-mark_all.ensures.marked
    c.in_ok-part.ensures.pair c.in_ok-part.ensures.found c.in_ok-part.ensures.complete c.in_err-keep-2.ensures.refused)

pub returns-clause-kept : goal.returns-clause-kept
returns-clause-kept g c =
    let r = reading_of (g.B.Blocks.disk c.args.blocks.now) in
    let h = subst (λ (o : Option Pair). IsKeptTo r c.args.limits c.args.root o c.thread.used c.thread.joined) c.in_default.is
    c.thread.invariant in
    all_kept r c.args.limits h.superblock c.args.root h.rest c.thread.used c.thread.joined h.gathers

pub returns-in_err-keep-clause-kept : goal.returns-in_err-keep-clause-kept
returns-in_err-keep-clause-kept g c = rw (err_from_is_err_and c.from_residual.result c.from_residual.ensures.1).1 tt

pub returns-in_err-mark_all-clause-kept : goal.returns-in_err-mark_all-clause-kept
returns-in_err-mark_all-clause-kept g c = rw (err_from_is_err_and c.from_residual-in_err-mark_all.result c.from_residual-in_err-mark_all.ensures.1).1 tt

pub returns-in_err-part-clause-kept : goal.returns-in_err-part-clause-kept
returns-in_err-part-clause-kept g c = rw (err_from_is_err_and c.from_residual-in_err-part.result c.from_residual-in_err-part.ensures.1).1 tt

pub returns-in_err-keep-2-clause-kept : goal.returns-in_err-keep-2-clause-kept
returns-in_err-keep-2-clause-kept g c = rw (err_from_is_err_and c.from_residual-in_err-keep-2.result c.from_residual-in_err-keep-2.ensures.1).1 tt
