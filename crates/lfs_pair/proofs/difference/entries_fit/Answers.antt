-- One more entry is read, and so it fits.
use Rattle.std.proofs.Common.{subst, ◌∙◌, arith}
use Rattle.std.specs.Prelude.{All}
use Rattle.std.proofs.lemmas.List.{take_all}
use Rattle.std.proofs.lemmas.List.Elements.{All-more}
use Rattle.lfs_meta.specs.Fits.{EntryFits}
use Rattle.lfs_pair.proofs.difference.entries_fit.Goals as goal

pub loop-entry-preserved : goal.loop-entry-preserved
loop-entry-preserved c =
    All-more EntryFits c.args.entries.now c.loop-entry.entry-index c.entry-item.result c.loop-entry-test.true c.loop-entry.invariant
    (subst EntryFits (c.entry.view_is ∙ c.entry-item.is) c.entry.invariant)

pub returns : goal.returns
returns c =
    subst (All EntryFits) (take_all c.loop-entry.entry-index c.args.entries.now (omega (arith, c.loop-entry-test.false)))
    c.loop-entry.invariant
