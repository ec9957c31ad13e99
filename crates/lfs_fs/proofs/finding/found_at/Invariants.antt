use Rattle.std.proofs.Common.{◌≡◌, Some, map, drop}
use Rattle.lfs_fs.specs.Graph.{walk}
use Rattle.lfs_fs.specs.Entry.{target}
use Rattle.lfs_fs.specs.Tree.{entry_in, entry_at}
use Rattle.lfs_fs.specs.Seen.{seen}
use Rattle.lfs_fs.proofs.finding.found_at.Given as goal

-- what is left of the path leads to what stands at it
abbrev pub invariant-loop-name : goal.invariant-loop-name
invariant-loop-name l =
    walk target (entry_in l.outline.directories) (Some (seen l.outline l.here)) (drop l.name-index (map (λ n. n.items) l.names))
    ≡ entry_at l.outline (map (λ n. n.items) l.names)
