use Rattle.std.proofs.Common.{arith, subst}
use Rattle.std.specs.Prelude.{MatchBool}
use Rattle.lfs_meta.specs.Entry.{StoredEntry}
use Rattle.lfs_fs.specs.FrontCause.{IsOversized}
use Rattle.lfs_fs.specs.Gathering.{IsWithin}
use Rattle.lfs_fs.proofs.KeepingLemmas.{attributes_decide}
use Rattle.lfs_fs.proofs.keeping.is_within.Goals as goal

pub returns : goal.returns
returns c =
    subst (λ (e : StoredEntry). MatchBool c.are_within.result (IsWithin c.args.limits e) (IsOversized c.args.limits e)) c.entry.view_is
    (attributes_decide c.are_within.result c.args.limits _ c.deref.result.now c.deref.ensures.value (omega arith)
    (omega (arith, c.length_of.ensures)) c.entry.invariant.attributes c.are_within.ensures)
