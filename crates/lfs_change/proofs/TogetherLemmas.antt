-- What several commands leave that are one change.
use Rattle.std.proofs.Common.{◌≡◌, ◌≤◌, ◌+◌, ◌*◌, ℕ, List, [], ◌∷◌, length, Option, None, ap, refl, sym, subst, ◌∙◌, arith}
use Rattle.lfs_block.specs.Disk.{Disk, image_of}
use Rattle.lfs_block.specs.Patch.{ChangeSet}
use Rattle.lfs_journal.specs.Book.{journal_bytes, respelling}
use Rattle.lfs_command.specs.Command.{Asked}
use Rattle.lfs_fs.specs.Holds.{Holds}
use Rattle.lfs_fs.specs.Mounts.{Mounts}
use Rattle.lfs_fs.specs.Path.{Path}
use Rattle.lfs_fs.specs.Reading.{reading_of}
use Rattle.lfs_fs.specs.Tree.{Node}
use Rattle.lfs_fs.specs.Volume.{Volume}
use Rattle.lfs_history.specs.Batch.{TakesAll}
use Rattle.lfs_history.specs.History.{History}
use Rattle.lfs_history.specs.Opening.{journal_of}
use Rattle.lfs_history.specs.OpeningLaws.{JournalsDenoteOneHistory}
use Rattle.lfs_history.specs.Taking.{Run, Together, Undo}
use Rattle.lfs_history.specs.Together.{AreCarriedOut, DoesSome, PlansAll, needs}
use Rattle.lfs_history.specs.TogetherLaws.{JournalsGrowByTheNeeds, TogetherIsUndone, TogetherPushEquations}
use Rattle.lfs_change.specs.Laws.{ChangedBytesAreDenoted, done_of, journal_length, version_of}
use Rattle.lfs_change.specs.TogetherLaws.{BytesAreChangedTogether, JournalsOfBytesGrowByTheNeeds, OneUndoTakesAllBack}
use Rattle.lfs_change.proofs.ChangeLemmas.{denoted_history, denoted_present, one_taken}
use Rattle.lfs_change.proofs.GrowthLemmas.{denoted_length}
use Rattle.lfs_change.proofs.LawLemmas.{one_denoted}

-- of no command nothing is done
none_carried : (d e : Disk) (v : Volume) (t : Path → Option Node) → d ≡ e → Holds (reading_of d) v → Mounts d t → AreCarriedOut [] e v t
none_carried d e v t same holds mounts = record {
  commands = [];
  spell = tt;
  volume = v;
  holds = subst (λ (x : Disk). Holds (reading_of x) v) same holds;
  follow = refl;
  mounts = subst (λ (x : Disk). Mounts x t) same mounts;
}

pub bytes_changed_together : ChangedBytesAreDenoted → TogetherPushEquations → BytesAreChangedTogether
bytes_changed_together denoted push [] keep size image journal o v t changes holds mounts =
    let is = changes in
    let old = denoted_present (image_of size image) journal is.old is.denotes.1 in
    let new = denoted_present (image_of size o.image.items) o.journal.items is.new
    (denoted (Together [] keep ∷ []) size image journal o changes).1 in
    let none : is.new ≡ is.old = one_taken (Together [] keep) is.old is.new is.takes in
    none_carried (image_of size image) (image_of size o.image.items) v t
    (sym old ∙ ap (λ (h : History). h.present) (sym none) ∙ new) holds mounts
bytes_changed_together denoted push (a ∷ asked) keep size image journal o v t changes holds mounts =
    let is = changes in
    let old = denoted_present (image_of size image) journal is.old is.denotes.1 in
    let new = denoted_present (image_of size o.image.items) o.journal.items is.new
    (denoted (Together (a ∷ asked) keep ∷ []) size image journal o changes).1 in
    let does : DoesSome (a ∷ asked) keep is.old is.new = one_taken (Together (a ∷ asked) keep) is.old is.new is.takes in
    let held : Holds (reading_of is.old.present) v = subst (λ (d : Disk). Holds (reading_of d) v) (sym old) holds in
    let mounted : Mounts is.old.present t = subst (λ (d : Disk). Mounts d t) (sym old) mounts in
    let history = denoted_history (image_of size image) journal is.old is.denotes.1 in
    subst (λ (d : Disk). AreCarriedOut (a ∷ asked) d v t) new
    (push (a ∷ asked) keep is.old is.new v t does history held mounted).present

pub one_undo_takes_back : ChangedBytesAreDenoted → JournalsDenoteOneHistory → TogetherIsUndone → OneUndoTakesAllBack
one_undo_takes_back denoted one back asked more keep size image journal done undone first second =
    let all = asked ∷ more in
    let mid = (denoted (Together all keep ∷ []) size image journal done first).1 in
    let same : second.old ≡ first.new = one_denoted one (image_of size done.image.items) done.journal.items second.old first.new
    second.denotes.1 mid in
    let takes : TakesAll (Undo 1 ∷ []) first.new second.new = subst (λ (h : History). TakesAll (Undo 1 ∷ []) h second.new) same second.takes in
    let does = one_taken (Together all keep) first.old first.new first.takes in
    let run : Run (Together all keep ∷ Undo 1 ∷ []) (None ∷ None ∷ []) first.old second.new = (first.new, does, takes) in
    let again = (back asked more keep first.old second.new run).0 in
    second.image_is ∙ ap (λ (d : Disk). d.bytes) (again ∙ denoted_present (image_of size image) journal first.old first.denotes.1)

-- how much longer than some bytes, by what commands need on an image
abbrev GrowsOn : List Asked → ℕ → ℕ → Disk → Type 0
GrowsOn asked new most d =
    (changes : List ChangeSet) × ((plans : PlansAll d asked changes) × (new ≤ most + 12 + needs d asked changes plans * (2 * d.size + 4)))

pub bytes_grow_by_the_needs : JournalsGrowByTheNeeds → JournalsOfBytesGrowByTheNeeds
bytes_grow_by_the_needs grow asked more keep size image journal o changes =
    let is = changes in
    let all = asked ∷ more in
    let does : DoesSome all keep is.old is.new = one_taken (Together all keep) is.old is.new is.takes in
    let plans = does.plans in
    let present = denoted_present (image_of size image) journal is.old is.denotes.1 in
    let history = denoted_history (image_of size image) journal is.old is.denotes.1 in
    let blocks : ℕ = needs is.old.present all (plans.first ∷ plans.later) plans.plans in
    let before = denoted_length (image_of size image) journal is.old is.denotes.1 in
    let longer = grow all keep is.old is.new before.version does history in
    let len = before.len in
    let added = before.more in
    let after : length o.journal.items ≡ length (journal_bytes (journal_of is.new)) = ap length is.journal_is in
    let most : ℕ = journal_length journal + respelling (version_of journal) (done_of journal) in
    let sized : length o.journal.items ≤ most + 12 + blocks * (2 * is.old.present.size + 4) = omega (arith, longer, len, added, after) in
    let there : GrowsOn all (length o.journal.items) most is.old.present = (plans.first ∷ plans.later, (plans.plans, sized)) in
    let here = subst (GrowsOn all (length o.journal.items) most) present there in
    record { changes = here.0; plans = here.1.0; grows = here.1.1 }
