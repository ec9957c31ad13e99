-- Each turn adds the next entry's tags.
use Rattle.std.proofs.Common.{◌++◌, List, append-nil, sym, ap, ◌∙◌, subst, take}
use Rattle.std.proofs.lemmas.List.Elements.{All-nil, All-more}
use Rattle.std.proofs.lemmas.Result.{err_from_is_err_and}
use Rattle.lfs_tag.specs.Commit.{Item}
use Rattle.lfs_tag.specs.Writing.{items}
use Rattle.lfs_meta.specs.Entry.{StoredEntry}
use Rattle.lfs_meta.specs.Fits.{EntryFits}
use Rattle.lfs_pair.specs.Spelling.{entries_tags, entry_tags}
use Rattle.lfs_pair.proofs.EditLemmas.{entries_tags-more}
use Rattle.lfs_pair.proofs.edits.push_entries.Goals as goal

pub loop-id-init : goal.loop-id-init
unfolding entries_tags
loop-id-init c = record { pushed = sym (append-nil (items c.args.edits.now.items)); fits = All-nil EntryFits }

pub loop-id-preserved : goal.loop-id-preserved
loop-id-preserved c = record {
  pushed =
      c.in_ok-push_entry.ensures.pushed
      ∙ ap (λ (ts : List Item). ts ++ entry_tags c.loop-id.id c.index-entries-id.result) c.loop-id.invariant.pushed
      ∙ ap (λ (e : StoredEntry). (items c.args.edits.now.items ++ entries_tags 0 (take c.loop-id.id c.args.entries.now))
      ++ entry_tags c.loop-id.id e) c.index-entries-id.is
      ∙ entries_tags-more c.args.entries.now c.loop-id.id c.index-entries-id.result (items c.args.edits.now.items) c.loop-id-test.true;
  fits =
      All-more EntryFits c.args.entries.now c.loop-id.id c.index-entries-id.result c.loop-id-test.true c.loop-id.invariant.fits
      (subst EntryFits c.index-entries-id.is c.push_entry.ensures.fits);
}

pub returns-in_err-push_entry-clause-pushed : goal.returns-in_err-push_entry-clause-pushed
returns-in_err-push_entry-clause-pushed c = rw (err_from_is_err_and c.from_residual.result c.from_residual.ensures.1).1 tt

pub returns-in_err-push_entry-clause-fits : goal.returns-in_err-push_entry-clause-fits
returns-in_err-push_entry-clause-fits c = rw (err_from_is_err_and c.from_residual.result c.from_residual.ensures.1).1 tt
