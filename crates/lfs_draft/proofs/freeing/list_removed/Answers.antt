-- What the entry at the path uses is listed.
use Rattle.std.proofs.Common.{map, Bor}
use Rattle.lfs_meta.specs.Name.{Name}
use Rattle.lfs_draft.proofs.FreeingLemmas.{lists_removed}
use Rattle.lfs_draft.proofs.freeing.list_removed.Goals as goal

pub returns : goal.returns
returns c =
    lists_removed c.args.blocks.now.items c.list_entry.new.blocks.items c.list_target.new.blocks.items c.args.outline.now
    (map (λ (n : Bor Name). n.now) c.args.path.now) c.in-Some.entry.now c.in-Some.ensures c.in_ok-list_entry.ensures
    c.in_ok-list_target.ensures
