-- The log that is read is the block's, and what has room for a commit is decided by it.
use Rattle.std.proofs.Common.{◌≡◌, Bool, ◌&&◌, true, nat_le, length, sym, ap, ◌∙◌, rules}
use Rattle.lfs_tag.specs.LogSeen.{LogSeen}
use Rattle.lfs_tag.specs.Writing.{committed_end, items}
use Rattle.lfs_pair.specs.Appending.{has_room}
use Rattle.lfs_pair.proofs.appending.numbered_longer.Goals.{then-not-log-via-then-not-log, then-not-log-via-else-not-log+then-not-commit_fits}
use Rattle.lfs_pair.proofs.appending.numbered_longer.Goals as goal

pub longer-requires-clause-last : goal.longer-requires-clause-last
longer-requires-clause-last c = ap (λ (log : LogSeen). log.last) (c.log.view_is ∙ c.requires.log)

pub longer-requires-clause-room : goal.longer-requires-clause-room
longer-requires-clause-room c =
    let erased : c.log.inside.erased ≡ true = search rules in
    ap (λ (log : LogSeen). has_room (length c.args.block.now) log (items c.args.edits.now)) (sym (c.log.view_is ∙ c.requires.log))
    ∙ ap (λ (b : Bool). b && nat_le (committed_end c.log.inside.end (items c.args.edits.now)) (length c.args.block.now)) erased
    ∙ sym c.if-not-commit_fits.ensures

pub returns-then-not-log-clause-full : goal.returns-then-not-log-clause-full
returns-then-not-log-clause-full c =
    ap (λ (log : LogSeen). has_room (length c.args.block.now) log (items c.args.edits.now)) (sym (c.log.view_is ∙ c.requires.log))
    ∙ elim c.then-not-log.branch [
      | then-not-log-via-then-not-log w ↦
          ap (λ (b : Bool). b && nat_le (committed_end c.log.inside.end (items c.args.edits.now)) (length c.args.block.now)) w.if-not-log.true
      | then-not-log-via-else-not-log+then-not-commit_fits w ↦
          ap (λ (b : Bool). b && nat_le (committed_end c.log.inside.end (items c.args.edits.now)) (length c.args.block.now)) w.if-not-log.false
          ∙ sym w.commit_fits.ensures ∙ w.if-not-commit_fits.true
    ]
