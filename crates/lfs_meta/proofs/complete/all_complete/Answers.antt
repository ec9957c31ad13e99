-- Each entry is made complete, up to the first that isn't.
use Rattle.std.proofs.Common.{◌≡◌, ap, sym, ◌∙◌, Some, List, arith, subst}
use Rattle.std.specs.Prelude.{All}
use Rattle.std.proofs.lemmas.List.{take_all}
use Rattle.std.proofs.lemmas.List.Elements.{All-push}
use Rattle.std.proofs.lemmas.Result.{err_from_is_err_and}
use Rattle.lfs_meta.specs.Entry.{StoredEntry}
use Rattle.lfs_meta.specs.Fits.{EntryFits}
use Rattle.lfs_meta.specs.Complete.{complete, all_complete}
use Rattle.lfs_meta.proofs.CompleteLemmas.{all_complete-are, all_complete-more}
use Rattle.lfs_meta.proofs.complete.all_complete.Goals as goal

pub loop-draft-preserved : goal.loop-draft-preserved
loop-draft-preserved c = record {
  found =
      all_complete-more c.args.drafts.now c.loop-draft.entries.items c.loop-draft.draft-index c.draft-item.result c.in_ok-entry.entry
      c.loop-draft-test.true
      c.loop-draft.invariant.found (ap complete (sym c.draft-item.is) ∙ c.in_ok-entry.ensures.found)
      ∙ ap (λ (es : List StoredEntry). Some es) (sym c.in_ok-keep.ensures.kept);
  fit =
      subst (All EntryFits) (sym c.in_ok-keep.ensures.kept)
      (All-push EntryFits c.loop-draft.entries.items c.in_ok-entry.entry c.loop-draft.invariant.fit c.in_ok-entry.ensures.fits);
}

found : (c : goal.After-loop-draft) → all_complete c.args.drafts.now ≡ Some c.loop-draft.entries.items
found c = ap all_complete (sym (take_all c.loop-draft.draft-index c.args.drafts.now (omega arith))) ∙ c.loop-draft.invariant.found

pub returns-clause-found : goal.returns-clause-found
returns-clause-found c = found c

pub returns-clause-complete : goal.returns-clause-complete
returns-clause-complete c = all_complete-are c.args.drafts.now c.loop-draft.entries.items (found c)

pub returns-in_err-entries-clause-found : goal.returns-in_err-entries-clause-found
returns-in_err-entries-clause-found c = rw (err_from_is_err_and c.from_residual.result c.from_residual.ensures.1).1 tt

pub returns-in_err-entries-clause-complete : goal.returns-in_err-entries-clause-complete
returns-in_err-entries-clause-complete c = rw (err_from_is_err_and c.from_residual.result c.from_residual.ensures.1).1 tt

pub returns-in_err-entries-clause-fit : goal.returns-in_err-entries-clause-fit
returns-in_err-entries-clause-fit c = rw (err_from_is_err_and c.from_residual.result c.from_residual.ensures.1).1 tt

pub returns-in_err-entry-clause-found : goal.returns-in_err-entry-clause-found
returns-in_err-entry-clause-found c = rw (err_from_is_err_and c.from_residual-in_err-entry.result c.from_residual-in_err-entry.ensures.1).1 tt

pub returns-in_err-entry-clause-complete : goal.returns-in_err-entry-clause-complete
returns-in_err-entry-clause-complete c = rw (err_from_is_err_and c.from_residual-in_err-entry.result c.from_residual-in_err-entry.ensures.1).1 tt

pub returns-in_err-entry-clause-fit : goal.returns-in_err-entry-clause-fit
returns-in_err-entry-clause-fit c = rw (err_from_is_err_and c.from_residual-in_err-entry.result c.from_residual-in_err-entry.ensures.1).1 tt

pub returns-in_err-keep-clause-found : goal.returns-in_err-keep-clause-found
returns-in_err-keep-clause-found c = rw (err_from_is_err_and c.from_residual-in_err-keep.result c.from_residual-in_err-keep.ensures.1).1 tt

pub returns-in_err-keep-clause-complete : goal.returns-in_err-keep-clause-complete
returns-in_err-keep-clause-complete c = rw (err_from_is_err_and c.from_residual-in_err-keep.result c.from_residual-in_err-keep.ensures.1).1 tt

pub returns-in_err-keep-clause-fit : goal.returns-in_err-keep-clause-fit
returns-in_err-keep-clause-fit c = rw (err_from_is_err_and c.from_residual-in_err-keep.result c.from_residual-in_err-keep.ensures.1).1 tt
