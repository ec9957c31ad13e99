use Rattle.std.proofs.Common.{◌++◌, List, ap, ◌∙◌}
use Rattle.lfs_sync.specs.declared.planned.Planned.{Planned}
use Rattle.lfs_sync.proofs.syncing.joined.Goals as goal

pub returns : goal.returns
returns c =
    c.in_ok-append-2.ensures.items
    ∙ ap (λ (l : List Planned). l ++ c.args.merging.files.items) (c.in_ok-append.ensures.items
    ∙ ap (λ (l : List Planned). l ++ c.args.merging.directories.items) c.reverse.ensures.items)
