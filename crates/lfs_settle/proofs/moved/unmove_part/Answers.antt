-- The moved entry of a part, if the move means it.
use Rattle.std.proofs.Common.{◌≡◌, ◌∙◌, ℕ, Bool, Some, true, ap, sym}
use Rattle.std.specs.Prelude.{◌&&◌, slice_get}
use Rattle.lfs_fs.specs.Gathering.{PairPart}
use Rattle.lfs_settle.specs.Moved.{means, moved_entry}
use Rattle.lfs_settle.proofs.MovedEntry.{moved_in_is, none_moved_in}
use Rattle.lfs_settle.proofs.moved.unmove_part.Goals as goal
use Rattle.lfs_settle.proofs.moved.unmove_part.Goals.{else-is_move-via-then-is_move+else-means, else-is_move-via-else-is_move}

pub returns-clause-moved : goal.returns-clause-moved
returns-clause-moved c =
    let p : PairPart = c.args.part.now in
    elim c.else-is_move.branch [
      | else-is_move-via-then-is_move+else-means w ↦ sym (none_moved_in c.args.state.now p
          (ap (λ (b : Bool). b && means c.args.state.now p.0) (sym c.is_move.ensures ∙ w.if-is_move.true)
          ∙ sym (w.means.ensures ∙ ap (λ (x : PairPart). means c.args.state.now x.0) c.part.view_is) ∙ w.if-means.false))
      | else-is_move-via-else-is_move w ↦ sym (none_moved_in c.args.state.now p
          (ap (λ (b : Bool). b && means c.args.state.now p.0) (sym c.is_move.ensures ∙ w.if-is_move.false)))
    ]

pub returns-then-means-clause-moved : goal.returns-then-means-clause-moved
returns-then-means-clause-moved c =
    let state : ℕ = c.args.state.now in
    let p : PairPart = c.args.part.now in
    let meant : means state p.0 ≡ true = sym (c.means.ensures ∙ ap (λ (x : PairPart). means state x.0) c.part.view_is) ∙ c.if-means.true in
    ap (λ (x : PairPart). Some (x.0, c.in_ok-entry.entry)) c.part.view_is
    ∙ moved_in_is state p c.in_ok-entry.entry
    (ap (λ (b : Bool). b && means state p.0) (sym c.is_move.ensures ∙ c.if-is_move.true) ∙ meant)
    (sym (c.in_ok-entry.ensures.taken
    ∙ ap (λ (n : ℕ). slice_get c.part.inside.entries.items n) c.moved_entry.ensures
    ∙ ap (λ (x : PairPart). slice_get x.1.entries (moved_entry state)) c.part.view_is))
