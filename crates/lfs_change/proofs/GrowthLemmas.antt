-- How much longer a journal of bytes gets.
use Rattle.std.proofs.Common.{◌≡◌, ◌≤◌, ◌<◌, ◌+◌, ◌*◌, ◌^◌, inl, inr, ℕ, List, [], ◌∷◌, length, ap, sym, ◌∙◌, subst, arith}
use Rattle.std.proofs.lemmas.List.{length-append}
use Rattle.std.proofs.lemmas.Nat.{from_le_bytes-to_le_bytes_4}
use Rattle.lfs_block.specs.Disk.{Disk, image_of}
use Rattle.lfs_block.specs.Patch.{ChangeSet}
use Rattle.lfs_journal.specs.Book.{Book, IsVersionOf, bytes_in, journal_bytes, respelling}
use Rattle.lfs_fs.specs.Holds.{Holds}
use Rattle.lfs_fs.specs.Reading.{reading_of}
use Rattle.lfs_command.specs.Need.{need}
use Rattle.lfs_history.specs.History.{History}
use Rattle.lfs_history.specs.Opening.{journal_of, kept_journal}
use Rattle.lfs_history.specs.OpeningLaws.{JournalsGrowByTheNeed, KeptJournalsGrowByTheNeed}
use Rattle.lfs_history.specs.Taking.{Do}
use Rattle.lfs_change.specs.Change.{DenotesOn}
use Rattle.lfs_change.specs.Laws.{JournalsOfBytesGrowByTheNeed, JournalsOfBytesGrowOnTheKept, journal_length, version_of, done_of}
use Rattle.lfs_change.proofs.ChangeLemmas.{denoted_present, one_taken}

-- ---- the numbers that stand in a journal

empty_length : (size count : ℕ) → length (journal_bytes (record { size = size; count = count; done = []; undone = [] })) ≡ 24
unfolding bytes_in
empty_length size count = omega arith

spelled_version : (version : ℕ) (j : Book) → version < 2 ^ 32 → version_of (bytes_in version j) ≡ version
unfolding bytes_in
spelled_version version j small = from_le_bytes-to_le_bytes_4 version small

spelled_done : (version : ℕ) (j : Book) → length j.done < 2 ^ 32 → done_of (bytes_in version j) ≡ length j.done
unfolding bytes_in
spelled_done version j small = from_le_bytes-to_le_bytes_4 (length j.done) small

version_small : (version : ℕ) (j : Book) → IsVersionOf version j → version < 2 ^ 32
version_small version j (inl second) = omega (arith, second)
version_small version j (inr (first, kept)) = omega (arith, first)

-- ---- what bytes denote

book : ℕ → ℕ → List ChangeSet → List ChangeSet → Book
book size count done undone = record { size = size; count = count; done = done; undone = undone }

-- the journal of a history is as long as these bytes, in a version, and is to get no more bytes in version 2
pub record IsAsLong (journal : List ℕ) (h : History) : Type 0 where
  pub version : ℕ
  pub len : length (bytes_in version (journal_of h)) ≡ journal_length journal
  pub more : respelling version (length h.done) ≤ respelling (version_of journal) (done_of journal)

pub denoted_length : (d : Disk) (journal : List ℕ) (h : History) → DenotesOn d journal h → IsAsLong journal h
unfolding book
denoted_length d [] h denotes = record {
  version = 2;
  len = ap (λ (x : History). length (journal_bytes (journal_of x))) denotes.0 ∙ empty_length d.size d.count;
  more = omega arith;
}
denoted_length d (byte ∷ bytes) h denotes =
    let j = denotes.book in
    let version = denotes.spelled.version in
    let journal = byte ∷ bytes in
    let few = denotes.spelled.book.few in
    let both = length-append j.done j.undone in
    let spelled = denotes.spelled.bytes_are in
    let first : version_of journal ≡ version = ap version_of (sym spelled)
    ∙ spelled_version version j (version_small version j denotes.spelled.version_is) in
    let done : done_of journal ≡ length j.done = ap done_of (sym spelled) ∙ spelled_done version j (omega arith) in
    let made : length h.done ≡ length j.done = ap (λ (x : History). length x.done) denotes.is in
    let same : respelling version (length h.done) ≡ respelling (version_of journal) (done_of journal) =
    ap (λ (n : ℕ). respelling n (length h.done)) (sym first) ∙ ap (respelling (version_of journal)) (made ∙ sym done) in
    record {
      version = version;
      len = ap (λ (x : History). length (bytes_in version (journal_of x))) denotes.is
          ∙ ap (λ (n : ℕ). length (bytes_in version (book n d.count j.done j.undone))) (sym denotes.agrees.size)
          ∙ ap (λ (n : ℕ). length (bytes_in version (book j.size n j.done j.undone))) (sym denotes.agrees.count)
          ∙ ap length spelled;
      more = omega (arith, same);
    }

pub bytes_grow : JournalsGrowByTheNeed → JournalsOfBytesGrowByTheNeed
bytes_grow grow asked keep size image journal o changes =
    let is = changes in
    let does = one_taken (Do asked keep) is.old is.new is.takes in
    let plans = does.plans in
    let present = denoted_present (image_of size image) journal is.old is.denotes.1 in
    let blocks = need plans.volume plans.command + 2 in
    let before = denoted_length (image_of size image) journal is.old is.denotes.1 in
    let longer = grow asked keep is.old is.new before.version does in
    let len = before.len in
    let more = before.more in
    let after : length o.journal.items ≡ length (journal_bytes (journal_of is.new)) = ap length is.journal_is in
    let added : ℕ = respelling (version_of journal) (done_of journal) in
    let sized : length o.journal.items ≤ journal_length journal + added + 12 + blocks * (2 * is.old.present.size + 4) =
    omega (arith, longer, len, more, after) in
    record {
      volume = plans.volume;
      holds = subst (λ (d : Disk). Holds (reading_of d) plans.volume) present plans.holds;
      command = plans.command;
      spells = plans.spells;
      grows = subst (λ (n : ℕ). length o.journal.items ≤ journal_length journal + added + 12 + blocks * (2 * n + 4))
          (ap (λ (d : Disk). d.size) present) sized;
    }

pub bytes_grow_on_the_kept : KeptJournalsGrowByTheNeed → JournalsOfBytesGrowOnTheKept
bytes_grow_on_the_kept grow asked keep size image journal o changes =
    let is = changes in
    let does = one_taken (Do asked keep) is.old is.new is.takes in
    let plans = does.plans in
    let present = denoted_present (image_of size image) journal is.old is.denotes.1 in
    let blocks = need plans.volume plans.command + 2 in
    let kept = kept_journal keep is.old in
    let longer = grow asked keep is.old is.new 2 does in
    let after : length o.journal.items ≡ length (journal_bytes (journal_of is.new)) = ap length is.journal_is in
    let sized : length o.journal.items ≤ length (journal_bytes kept) + 12 + blocks * (2 * is.old.present.size + 4) =
    omega (arith, longer, after) in
    record {
      old = is.old;
      denotes = is.denotes.1;
      volume = plans.volume;
      holds = subst (λ (d : Disk). Holds (reading_of d) plans.volume) present plans.holds;
      command = plans.command;
      spells = plans.spells;
      grows = subst (λ (n : ℕ). length o.journal.items ≤ length (journal_bytes kept) + 12 + blocks * (2 * n + 4))
          (ap (λ (d : Disk). d.size) present) sized;
    }
