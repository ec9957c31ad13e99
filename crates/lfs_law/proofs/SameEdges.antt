-- What stands at each path of a volume with the same edges, whatever the root's attributes.
use Rattle.std.proofs.Common.{◌≡◌, [], ◌∷◌, Option, Some, refl, ap, ◌∙◌}
use Rattle.std.specs.Option.{option_map}
use Rattle.std.proofs.lemmas.Option.{same_Some}
use Rattle.lfs_meta.specs.Name.{Name}
use Rattle.lfs_meta.specs.Body.{Pair}
use Rattle.lfs_fs.specs.Path.{Path}
use Rattle.lfs_fs.specs.Graph.{walk}
use Rattle.lfs_fs.specs.Pair.{root}
use Rattle.lfs_fs.specs.Entry.{Entry, target}
use Rattle.lfs_fs.specs.Volume.{Volume}
use Rattle.lfs_fs.specs.Tree.{entry_in, top, entry_at, Dir, node, tree, Reached}
use Rattle.lfs_command.specs.PathMap.{put_at_path}
use Rattle.lfs_law.proofs.Walks.{walk_same}
use Rattle.lfs_law.proofs.OneEdge.{top_same}

-- w has the edges of v
abbrev pub SameEdges : Volume → Volume → Type 0
SameEdges v w = (k : Pair) (n : Name) → entry_in w.directories k n ≡ entry_in v.directories k n

-- below the root the same entries stand
pub entries_below_root : (v w : Volume) → SameEdges v w → (n : Name) (p : Path) → entry_at w (n ∷ p) ≡ entry_at v (n ∷ p)
entries_below_root v w same n p =
    ap (λ (o : Option Entry). walk target (entry_in w.directories) o p) (same root n)
    ∙ walk_same target (entry_in v.directories) (entry_in w.directories) same (entry_in v.directories root n) p

pub tree_with_root : (v w : Volume) → SameEdges v w → (p : Path) → tree w p ≡ put_at_path [] (Some (Dir w.attributes)) (tree v) p
tree_with_root v w same [] = refl
tree_with_root v w same (n ∷ p) = ap (option_map node) (entries_below_root v w same n p)

pub reached_with_root : (v w : Volume) → SameEdges v w → (j : Pair) → Reached v j → Reached w j
reached_with_root v w same j ([], e, here, leads) = ([], top w, refl, ap target (same_Some (top v) e here) ∙ leads)
reached_with_root v w same j (n ∷ p, e, here, leads) = (n ∷ p, e, entries_below_root v w same n p ∙ here, leads)

-- and at the root, where its attributes stay
pub entries_same : (v w : Volume) → SameEdges v w → w.attributes ≡ v.attributes → (p : Path) → entry_at w p ≡ entry_at v p
entries_same v w same attributes [] = top_same v w attributes
entries_same v w same attributes (n ∷ p) = entries_below_root v w same n p

pub tree_same : (v w : Volume) → SameEdges v w → w.attributes ≡ v.attributes → (p : Path) → tree w p ≡ tree v p
tree_same v w same attributes p = ap (option_map node) (entries_same v w same attributes p)
