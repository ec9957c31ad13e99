-- One number more, up to that of the entries.
use Rattle.std.proofs.Common.{ℕ}
use Rattle.lfs_survey.specs.declared.entry_place.EntryPlace.{EntryPlace}
use Rattle.lfs_survey.proofs.AllPlacesLemmas.{pushed_more}
use Rattle.lfs_survey.proofs.all_places.add_entry_places.Goals as goal

pub loop-entry-preserved : goal.loop-entry-preserved
loop-entry-preserved c =
    let at : ℕ → EntryPlace = λ entry. record { at = c.args.at; entry = entry } in
    pushed_more at c.args.places.now.items c.loop-entry.places.items c.push.new.self.items c.loop-entry.entry c.loop-entry.invariant
    c.in_ok-push.ensures.items
