-- How much longer a command makes a journal.
use Rattle.std.proofs.Common.{◌≡◌, ℕ, ◌+◌, ◌*◌, ◌≤◌, List, [], ◌∷◌, ◌++◌, length, take, drop, Option, ap, ◌∙◌, arith, length-append, append-nil}
use Rattle.std.specs.Prelude.{flat_map}
use Rattle.std.proofs.lemmas.Grind.{flat_map-append}
use Rattle.std.proofs.lemmas.List.{length-map, take-append-drop}
use Rattle.std.proofs.lemmas.Nat.{mul-le}
use Rattle.lfs_block.specs.Change.{Change}
use Rattle.lfs_block.specs.Disk.{Disk}
use Rattle.lfs_block.specs.Patch.{ChangeSet}
use Rattle.lfs_fs.specs.Stored.{HeldAreHeldByLinks}
use Rattle.lfs_fs.specs.Reading.{reading_of}
use Rattle.lfs_journal.specs.Book.{bytes_in, journal_bytes, patch_bytes, respelling}
use Rattle.lfs_journal.proofs.Lengths.{bytes_len, patch_len, respelled}
use Rattle.lfs_command.specs.Command.{Asked}
use Rattle.lfs_command.specs.Need.{need}
use Rattle.lfs_command.specs.Planned.{Plans}
use Rattle.lfs_law.specs.Laws.{FewPartsChange}
use Rattle.lfs_law.specs.Written.{HeldAreClean}
use Rattle.lfs_history.specs.History.{History}
use Rattle.lfs_history.specs.Moves.{Pushes, kept_changes, dropped, but_one}
use Rattle.lfs_history.specs.Opening.{journal_of, kept_journal}
use Rattle.lfs_history.specs.OpeningLaws.{JournalsGrowByTheNeed, KeptJournalsGrowByTheNeed}
use Rattle.lfs_history.specs.Place.{HasPlace}
use Rattle.lfs_history.proofs.KeptLemmas.{pushes_kept}

-- the blocks that a command changes are those that it needs, and two more at most
pub changes_few : FewPartsChange → HeldAreClean → HeldAreHeldByLinks → (d : Disk) (asked : Asked) (p : ChangeSet) (plans : Plans d asked p)
    → length p.changes ≤ need plans.volume plans.command + 2
changes_few few clean links d asked p plans =
    let v = plans.volume in
    let parts = few v plans.command plans.carried.supplies plans.carried.accepted (clean (reading_of d) v (links (reading_of d) v plans.holds)) in
    let named = plans.frugal.len in
    let numbers = length-map p.changes (λ (c : Change). c.number) in
    omega arith

pub patch_few : FewPartsChange → HeldAreClean → HeldAreHeldByLinks → (d : Disk) (asked : Asked) (p : ChangeSet) (plans : Plans d asked p)
    → length (patch_bytes p) ≤ 12 + (need plans.volume plans.command + 2) * (2 * d.size + 4)
patch_few few clean links d asked p plans =
    let size = plans.stands.size in
    let len = patch_len p plans.patch.patch in
    let many = changes_few few clean links d asked p plans in
    let bytes : 2 * p.size + 4 ≤ 2 * d.size + 4 = omega arith in
    let times = mul-le (length p.changes) (2 * p.size + 4) (need plans.volume plans.command + 2) (2 * d.size + 4) many bytes in
    omega arith

-- the kept changes take no more bytes than all of them
kept_no_longer : (keep : Option ℕ) (ps : List ChangeSet)
    → length (flat_map patch_bytes (kept_changes keep ps)) ≤ length (flat_map patch_bytes ps)
kept_no_longer keep ps =
    let many = dropped keep (length ps) in
    let all = ap (λ (qs : List ChangeSet). length (flat_map patch_bytes qs)) (take-append-drop many ps) in
    let split = ap length (flat_map-append patch_bytes (take many ps) (drop many ps)) in
    let both = length-append (flat_map patch_bytes (take many ps)) (flat_map patch_bytes (drop many ps)) in
    omega arith

-- the journal once a change is made of so many bytes: what is kept of the old changes, and one more
pub longer : (p : ChangeSet) (bytes : ℕ) (keep : Option ℕ) (old new : History) → HasPlace keep old → Pushes p keep old new
    → length (patch_bytes p) ≤ bytes
    → length (journal_bytes (journal_of new)) ≤ 24 + length (flat_map patch_bytes (kept_changes (but_one keep) old.done)) + bytes
longer p bytes keep old new room pushed most =
    let kept = kept_changes (but_one keep) old.done in
    let pushes = pushes_kept p keep old new room pushed in
    let made : new.done ≡ kept ++ p ∷ [] = pushes.done in
    let after = bytes_len 2 (journal_of new) in
    let done = ap length (ap (flat_map patch_bytes) made ∙ flat_map-append patch_bytes kept (p ∷ [])) in
    let both = length-append (flat_map patch_bytes kept) (flat_map patch_bytes (p ∷ [])) in
    let one = ap length (append-nil (patch_bytes p)) in
    let none = ap (λ (ps : List ChangeSet). length (flat_map patch_bytes ps)) pushed.undone in
    omega arith

-- beside the old changes that are kept
pub longer_than_kept : (p : ChangeSet) (bytes : ℕ) (keep : Option ℕ) (old new : History) (version : ℕ) → HasPlace keep old
    → Pushes p keep old new → length (patch_bytes p) ≤ bytes
    → length (journal_bytes (journal_of new)) ≤ length (bytes_in version (kept_journal keep old))
    + respelling version (length (kept_journal keep old).done) + bytes
longer_than_kept p bytes keep old new version room pushed most =
    let after = longer p bytes keep old new room pushed most in
    let before = bytes_len version (kept_journal keep old) in
    let kept = respelled version (kept_changes (but_one keep) old.done) in
    omega arith

-- beside all of them
pub longer_than_all : (p : ChangeSet) (bytes : ℕ) (keep : Option ℕ) (old new : History) (version : ℕ) → HasPlace keep old
    → Pushes p keep old new → length (patch_bytes p) ≤ bytes
    → length (journal_bytes (journal_of new)) ≤ length (bytes_in version (journal_of old)) + respelling version (length old.done) + bytes
longer_than_all p bytes keep old new version room pushed most =
    let after = longer p bytes keep old new room pushed most in
    let before = bytes_len version (journal_of old) in
    let fewer = kept_no_longer (but_one keep) old.done in
    let kept = respelled version old.done in
    omega arith

-- ---- a command

pub kept_journal_grows : FewPartsChange → HeldAreClean → HeldAreHeldByLinks → KeptJournalsGrowByTheNeed
kept_journal_grows few clean links asked keep old new version does =
    let more = patch_few few clean links old.present asked does.change does.plans in
    let longer = longer_than_kept does.change _ keep old new version does.room does.pushes more in
    omega arith

pub journal_grows : FewPartsChange → HeldAreClean → HeldAreHeldByLinks → JournalsGrowByTheNeed
journal_grows few clean links asked keep old new version does =
    let more = patch_few few clean links old.present asked does.change does.plans in
    let longer = longer_than_all does.change _ keep old new version does.room does.pushes more in
    omega arith
