-- The root's first part is read and kept, less its superblock.
use Rattle.std.proofs.Common.{ℕ, ap, ◌∙◌, subst}
use Rattle.lfs_fs.specs.declared.limits.Limits.{Limits}
use Rattle.lfs_fs.specs.Gathering.{PairPart}
use Rattle.lfs_fs.specs.Judged.{SaysLimits}
use Rattle.lfs_fs.specs.Reading.{reading_of}
use Rattle.lfs_fs.specs.Thread.{next}
use Rattle.lfs_fs.proofs.RereadLemmas.{same_limits, starts_read}
use Rattle.lfs_fs.proofs.rereading_root.read_start.Goals as goal

pub returns-clause-started : goal.returns-clause-started
returns-clause-started g c =
    let d = g.B.Blocks.disk c.args.blocks.now in
    let e = c.in-Some.superblock in
    let part = c.take_first.new.part in
    let by_size = subst (λ (n : ℕ). SaysLimits n c.count.result c.in_ok-said.said e) c.size.ensures.value c.in_ok-said.ensures.judged in
    let by_count = subst (λ (n : ℕ). SaysLimits d.size n c.in_ok-said.said e) c.count.ensures by_size in
    let judged = subst (λ (l : Limits). SaysLimits d.size d.count l e) (same_limits c.in_ok-said.said c.args.limits c.if-ne.ensures) by_count in
    starts_read (reading_of d) c.args.limits c.attributes_of.result.items c.in_ok-root.root part e c.read_root.new.used c.keep.new.used
    c.next_pair-next.result c.new-joined.result c.keep.new.self c.in_ok-root.ensures.read c.in-Some.ensures.taken judged
    c.attributes_of.ensures.value (record {
      directories = c.new-joined.ensures.directories;
      parts = c.new-joined.ensures.parts;
      state = c.new-joined.ensures.state;
    }) c.in_ok-keep.ensures.kept (c.next_pair-next.ensures ∙ ap (λ (p : PairPart). next p.1.tail) c.root.view_is)
