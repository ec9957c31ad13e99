-- What stands at a path, by where its last name belongs to.
use Rattle.std.proofs.Common.{◌≡◌, List, [], ◌∷◌, ◌++◌, Option, Some, None, ap, sym, ◌∙◌, inl, inr}
use Rattle.std.specs.Option.{option_and_then}
use Rattle.std.proofs.lemmas.Option.{none-some, some_pair_parts}
use Rattle.lfs_meta.specs.Name.{Name}
use Rattle.lfs_meta.specs.Body.{Pair}
use Rattle.lfs_fs.specs.Directory.{Directory}
use Rattle.lfs_fs.specs.Pair.{root}
use Rattle.lfs_fs.specs.Path.{Path}
use Rattle.lfs_fs.specs.Tree.{entry_at, entry_in}
use Rattle.lfs_fs.specs.Volume.{Volume}
use Rattle.lfs_command.specs.Parent.{parent_of}
use Rattle.lfs_law.specs.PairWalk.{directory_name, pair_at}
use Rattle.lfs_law.proofs.ParentSteps.{split_behind}
use Rattle.lfs_law.proofs.PairWalks.{walks_go_by_pairs, with_name}
use Rattle.lfs_law.proofs.Walks.{last_name}

in_parent : (ds : List Directory) (k : Pair) (n m : Name) (o : Option Pair) → with_name m o ≡ Some (k, n)
    → option_and_then (λ j. entry_in ds j m) o ≡ entry_in ds k n
in_parent ds k n m None parent = absurd (none-some (k, n) parent)
in_parent ds k n m (Some j) parent = let same = some_pair_parts j k m n parent in
    ap (λ (i : Pair). entry_in ds i m) same.0 ∙ ap (entry_in ds k) same.1

-- what stands at a path is what its last name names in the directory where that belongs
pub stands_at_parent : (v : Volume) (path : Path) (k : Pair) (n : Name) → parent_of v path ≡ Some (k, n)
    → entry_at v path ≡ entry_in v.directories k n
stands_at_parent v path k n parent = elim (last_name path) [
  | inl is ↦ absurd (none-some (k, n) (ap (parent_of v) (sym is) ∙ parent))
  | inr s ↦
      ap (entry_at v) s.2 ∙ (walks_go_by_pairs v).last s.0 s.1
      ∙ in_parent v.directories k n s.1 (pair_at v.directories root s.0)
      (sym (ap (option_and_then (directory_name v.directories)) (split_behind s.0 s.1))
      ∙ sym ((walks_go_by_pairs v).parent (s.0 ++ s.1 ∷ [])) ∙ ap (parent_of v) (sym s.2) ∙ parent)
]
