-- The names are followed as they are read.
use Rattle.std.proofs.Common.{◌≡◌, List, Bor, map, refl, subst}
use Rattle.lfs_meta.specs.Name.{Name}
use Rattle.lfs_fs.specs.Listed.{Listed, path_after}
use Rattle.lfs_fs.proofs.RowPaths.{path_after-read}
use Rattle.lfs_pack.proofs.copying.follow_row.Goals as goal

pub returns : goal.returns
returns c =
    let q : List (Bor Name) = c.args.path.now.items in
    let new : List (Bor Name) = c.follow.new.path.items in
    subst (λ (x : Listed). map (λ (n : Bor Name). n.now) new ≡ path_after (map (λ (n : Bor Name). n.now) q) x.depth x.entry.name) c.next.view_is
    (path_after-read q new c.next.inside.depth c.next.inside.name c.next.inside.name.now c.in_ok-follow.ensures refl)
