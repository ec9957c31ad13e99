-- What stands at the path stands under its last name in the parent.
use Rattle.std.proofs.Common.{map, Bor}
use Rattle.lfs_meta.specs.Name.{Name}
use Rattle.lfs_draft.proofs.EditableLemmas.{last_parent}
use Rattle.lfs_law.proofs.EntriesThere.{stands_at_parent}
use Rattle.lfs_draft.proofs.editing.parent.Goals as goal

pub returns-clause-entry : goal.returns-clause-entry
returns-clause-entry c =
    stands_at_parent c.args.outline.now (map (λ (x : Bor Name). x.now) c.args.path.now) c.in-Ok.parent.pair c.in-Ok.parent.name.now
    c.in-Ok.ensures.parent

pub returns-clause-len : goal.returns-clause-len
returns-clause-len c =
    last_parent c.args.outline.now (map (λ (x : Bor Name). x.now) c.args.path.now)
    (c.in-Ok.parent.pair, c.in-Ok.parent.name.now) c.in-Ok.ensures.parent
