-- One slice more goes out, or a beginning of it.
use Rattle.std.proofs.Common.{◌∙◌, ◌++◌, List, ℕ, sym, ap}
use Rattle.std.specs.List.{concat}
use Rattle.lfs_file.specs.Content.{content}
use Rattle.lfs_file.proofs.SentLemmas.{slice_cut, slice_sent}
use Rattle.lfs_file.proofs.sending.send_blocks.Goals as goal

pub returns-then-not-send-clause-sent : goal.returns-then-not-send-clause-sent
returns-then-not-send-clause-sent g c =
    let way = c.loop-slice.invariant.0 in
    slice_cut (g.S.Sink.sent c.args.out.now) (g.S.Sink.sent c.loop-slice.out) (g.S.Sink.sent c.send.new.out)
    (content (g.B.Blocks.disk c.args.disk.now) c.args.size c.args.blocks.now) way.0 c.in-Some.slice.now c.next.new.self
    (ap (λ (l : List (List ℕ)). way.0 ++ concat l) (sym c.in-Some.ensures.steps) ∙ way.1) way.2 c.if-not-send.ensures.sent

pub loop-slice-preserved : goal.loop-slice-preserved
loop-slice-preserved g c =
    let way = c.loop-slice.invariant.0 in (
      slice_sent (g.S.Sink.sent c.args.out.now) (g.S.Sink.sent c.loop-slice.out) (g.S.Sink.sent c.send.new.out)
          (content (g.B.Blocks.disk c.args.disk.now) c.args.size c.args.blocks.now) way.0 c.in-Some.slice.now c.next.new.self
          (ap (λ (l : List (List ℕ)). way.0 ++ concat l) (sym c.in-Some.ensures.steps) ∙ way.1) way.2 c.if-not-send.ensures.sent,
      c.if-not-send.ensures.failed,
      c.if-not-send.ensures.kept ∙ c.loop-slice.invariant.2,
    )
