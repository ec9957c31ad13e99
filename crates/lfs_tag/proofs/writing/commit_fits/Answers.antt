-- A commit ends within a block where its last multiple of 16 leaves room for the checksum.
use Rattle.std.proofs.Common.{◌-◌, ℕ, nat_le, ap, ◌∙◌}
use Rattle.lfs_tag.specs.Writing.{items, tags_len}
use Rattle.lfs_tag.proofs.Puts.{fits-told}
use Rattle.lfs_tag.proofs.writing.commit_fits.Goals as goal

pub returns : goal.returns
returns c =
    ap (nat_le 8) (c.room_behind.ensures ∙ ap (λ (n : ℕ). n - tags_len (items c.args.edits.now)) c.saturating_sub-room.ensures)
    ∙ fits-told c.args.at (tags_len (items c.args.edits.now)) c.args.size
