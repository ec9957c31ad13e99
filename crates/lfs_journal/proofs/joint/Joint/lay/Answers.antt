-- The copied changes are laid, and the count after is that of what was laid.
use Rattle.std.proofs.Common.{◌≡◌, ℕ, List, ap, sym, subst, ◌∙◌}
use Rattle.lfs_block.specs.Change.{Change}
use Rattle.lfs_block.specs.Patch.{ChangeSet, IsGrowth}
use Rattle.lfs_journal.specs.Joined.{composed, laid_over}
use Rattle.lfs_journal.proofs.joint.Joint.lay.Goals as goal

pub returns-clause-done : goal.returns-clause-done
returns-clause-done c =
    let s = c.self.inside in
    let laid : c.lay_over.new.records.items ≡ laid_over s.records.items c.args.change.now.changes =
    c.lay_over.ensures
    ∙ ap (λ (cs : List Change). laid_over cs c.in_ok-changes.changes.items) c.in_ok-reserve.ensures.items
    ∙ ap (laid_over s.records.items) (c.in_ok-changes.ensures ∙ c.records.ensures.changes) in
    ap (λ (cs : List Change). record { size = s.size; before = s.before; after = c.after-self-inside.result; changes = cs }) laid
    ∙ ap (λ (n : ℕ). record {
      size = s.size;
      before = s.before;
      after = n;
      changes = laid_over s.records.items c.args.change.now.changes;
    }) c.after-self-inside.ensures.value
    ∙ ap (λ (p : ChangeSet). composed p c.args.change.now) c.self.view_is

pub invariant_of-self-2 : goal.invariant_of-self-2
invariant_of-self-2 c = subst IsGrowth (sym (returns-clause-done c)) c.requires
