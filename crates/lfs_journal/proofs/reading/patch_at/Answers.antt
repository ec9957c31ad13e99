-- What was read is a change.
use Rattle.std.proofs.Common.{arith}
use Rattle.std.proofs.lemmas.Bool.{ne_eqb}
use Rattle.lfs_journal.specs.HeadSeen.{head_seen, counts_seen}
use Rattle.lfs_journal.proofs.Fields.{word_takes}
use Rattle.lfs_journal.proofs.Counts.{counts_take}
use Rattle.lfs_journal.proofs.Changes.{changes_take}
use Rattle.lfs_journal.proofs.Patches.{patch_of_changes}
use Rattle.lfs_journal.proofs.reading.patch_at.Goals as goal

pub of-requires : goal.of-requires
of-requires c =
    let head = head_seen c.args.head in
    let many = c.in_ok-many.many in
    let counts = c.in_ok-counts.counts in
    let records = c.in_ok-records.records.items in
    let word = word_takes c.args.bytes.now many c.in_ok-many.rest.now (λ i. omega (arith, c.type_inv.bytes i)) c.in_ok-many.ensures in
    let both = counts_take head c.in_ok-many.rest.now (counts_seen counts, c.in_ok-counts.rest.now) word.0.rest_bytes c.requires
    c.in_ok-counts.ensures in
    let changes = changes_take head.size counts.before counts.after many 0 c.in_ok-counts.rest.now
    (records, c.in_ok-records.rest.now) both.takes.rest_bytes c.in_ok-records.ensures in
    patch_of_changes head (counts_seen counts) many records both.are changes.len (ne_eqb many 0 c.if-many-eq0.false) changes.are
