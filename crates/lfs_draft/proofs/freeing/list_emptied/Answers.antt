-- One more part is looked at.
use Rattle.std.proofs.Common.{List, ap, arith}
use Rattle.std.specs.Prelude.{if◌then◌else◌, sum_by}
use Rattle.std.proofs.lemmas.List.{take_all}
use Rattle.std.proofs.lemmas.List.Sums.{sum_by_more}
use Rattle.lfs_fs.specs.Directory.{Part}
use Rattle.lfs_fs.specs.Uses.{pair_uses}
use Rattle.lfs_command.specs.DirectoryEdit.{has_only}
use Rattle.lfs_draft.proofs.FreeingLemmas.{emptied_sum}
use Rattle.lfs_draft.proofs.freeing.list_emptied.Goals as goal

pub each-preserved : goal.each-preserved
each-preserved c = λ b.
    omega (
      arith,
      c.in_ok-list_if_emptied.ensures b,
      c.each.invariant b,
      ap (λ (p : Part). if has_only c.args.name.now p then pair_uses b p else 0) c.part-item.is,
      sum_by_more (λ (p : Part). if has_only c.args.name.now p then pair_uses b p else 0) c.args.parts.now c.each.part-index
          c.part-item.result (omega (arith, c.each-test.true)),
    )

pub returns : goal.returns
returns c = λ b.
    omega (
      arith,
      c.each.invariant b,
      ap (λ (ps : List Part). sum_by (λ (p : Part). if has_only c.args.name.now p then pair_uses b p else 0) ps)
          (take_all c.each.part-index c.args.parts.now c.each-test.false),
      emptied_sum c.args.name.now b c.args.parts.now,
    )
