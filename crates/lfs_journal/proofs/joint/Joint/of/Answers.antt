-- All is copied.
use Rattle.std.proofs.Common.{◌≡◌, ℕ, List, ap, sym, subst, ◌∙◌}
use Rattle.lfs_block.specs.Change.{Change}
use Rattle.lfs_block.specs.Patch.{ChangeSet, IsGrowth}
use Rattle.lfs_journal.proofs.joint.Joint.of.Goals as goal

pub returns-clause-same : goal.returns-clause-same
returns-clause-same c =
    let p : ChangeSet = c.args.patch.now in
    ap (λ (n : ℕ). record { size = n; before = c.before-2.result; after = c.after.result; changes = c.in_ok-records.records.items })
    c.size.ensures.value
    ∙ ap (λ (n : ℕ). record { size = p.size; before = n; after = c.after.result; changes = c.in_ok-records.records.items })
    c.before-2.ensures.value
    ∙ ap (λ (n : ℕ). record { size = p.size; before = p.before; after = n; changes = c.in_ok-records.records.items }) c.after.ensures.value
    ∙ ap (λ (cs : List Change). record { size = p.size; before = p.before; after = p.after; changes = cs })
    (c.in_ok-records.ensures ∙ c.records.ensures.changes)

pub returns-clause-growth : goal.returns-clause-growth
returns-clause-growth c = subst IsGrowth (sym (returns-clause-same c)) c.records.ensures.growth
