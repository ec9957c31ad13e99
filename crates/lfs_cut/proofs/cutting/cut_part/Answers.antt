-- The part keeps its pair, and so its row.
use Rattle.std.proofs.Common.{◌≡◌, true, ap, sym, ◌∙◌, map}
use Rattle.lfs_fs.specs.Directory.{Part}
use Rattle.lfs_cut.proofs.CutPartLemmas.{tail_made}
use Rattle.lfs_cut.proofs.cutting.cut_part.Goals as goal

pub returns-clause-tail : goal.returns-clause-tail
returns-clause-tail c =
    let set : c.args.part.now.dirty ≡ true = sym (ap (λ (p : Part). p.dirty) c.part.view_is) ∙ c.if-not-part.false in
    tail_made c.args.room.bytes c.args.room.superblock c.args.rows.now c.args.part.now c.split_part.new.part c.pairs_for.result.now
    (map (λ run. run.items) c.in_ok-runs.runs.items)
    c.in_ok-parts.parts.items set c.in_ok-runs.ensures.first c.in_ok-runs.ensures.others c.pairs_for.ensures c.in_ok-parts.ensures
