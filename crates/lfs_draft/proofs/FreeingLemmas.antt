-- Blocks that are listed, one use after another.
use Rattle.std.proofs.Common.{◌≡◌, ℕ, ◌+◌, Bool, true, false, List, [], ◌∷◌, Option, Some, refl, ap, sym, arith}
use Rattle.std.specs.Prelude.{if◌then◌else◌, sum_by}
use Rattle.std.specs.List.{filter}
use Rattle.std.proofs.lemmas.List.Sums.{sum_by-cons}
use Rattle.lfs_meta.specs.Name.{Name}
use Rattle.std.specs.Option.{option_and_then, option_map, unwrap_or}
use Rattle.lfs_fs.specs.Directory.{Part, Directory}
use Rattle.lfs_fs.specs.Entry.{Entry, target}
use Rattle.lfs_fs.specs.Path.{Path}
use Rattle.lfs_fs.specs.Tree.{entry_at}
use Rattle.lfs_fs.specs.Uses.{directory_uses, entry_uses, pair_uses, part_uses}
use Rattle.lfs_fs.specs.Volume.{Volume}
use Rattle.lfs_fs.proofs.MarkingLemmas.{directory_split}
use Rattle.lfs_command.specs.DirectoryEdit.{has_only}
use Rattle.lfs_command.specs.Freed.{content_uses, folder_uses, target_uses}
use Rattle.lfs_draft.specs.Freeing.{ListsMore}

-- the blocks of the first part, and then those of the others
pub lists_directory : (old mid new : List ℕ) (d : Directory) → ListsMore old mid (λ b. part_uses b d.first)
    → ListsMore mid new (λ b. sum_by (part_uses b) d.more) → ListsMore old new (λ b. directory_uses b d)
lists_directory old mid new d first later b = omega (arith, first b, later b, directory_split b d)

-- ---- parts that are emptied

-- the blocks of those that have nothing but a name
pub emptied_sum : (n : Name) (b : ℕ) (ps : List Part)
    → sum_by (λ p. if has_only n p then pair_uses b p else 0) ps ≡ sum_by (pair_uses b) (filter (has_only n) ps)
emptied_sum n b [] = refl
emptied_sum n b (p ∷ ps) = by (has_only n p) refl (emptied_sum n b ps)
  where
    by : (t : Bool) → has_only n p ≡ t
        → sum_by (λ q. if has_only n q then pair_uses b q else 0) ps ≡ sum_by (pair_uses b) (filter (has_only n) ps)
        → sum_by (λ q. if has_only n q then pair_uses b q else 0) (p ∷ ps)
        ≡ sum_by (pair_uses b) (if t then p ∷ filter (has_only n) ps else filter (has_only n) ps)
    by true is later = omega (
      arith,
      later,
      sum_by-cons (λ (q : Part). if has_only n q then pair_uses b q else 0) p ps,
      sum_by-cons (pair_uses b) p (filter (has_only n) ps),
      ap (λ (t : Bool). if t then pair_uses b p else 0) is,
    )
    by false is later = omega (
      arith,
      later,
      sum_by-cons (λ (q : Part). if has_only n q then pair_uses b q else 0) p ps,
      ap (λ (t : Bool). if t then pair_uses b p else 0) is,
    )

-- ---- what stands at a path

content_there : (v : Volume) (p : Path) (e : Entry) (b : ℕ) → Some e ≡ entry_at v p → content_uses v p b ≡ entry_uses b e
content_there v p e b is = ap (λ (x : Option Entry). unwrap_or (option_map (entry_uses b) x) 0) (sym is)

target_there : (v : Volume) (p : Path) (e : Entry) (b : ℕ) → Some e ≡ entry_at v p
    → target_uses v p b ≡ unwrap_or (option_map (λ k. folder_uses v k b) (target e)) 0
target_there v p e b is =
    ap (λ (x : Option Entry). unwrap_or (option_map (λ k. folder_uses v k b) (option_and_then target x)) 0) (sym is)

-- the blocks of an entry's chain, and then those of the directory that it leads to
pub lists_removed : (old mid new : List ℕ) (v : Volume) (p : Path) (e : Entry) → Some e ≡ entry_at v p
    → ListsMore old mid (λ b. entry_uses b e) → ListsMore mid new (λ b. unwrap_or (option_map (λ k. folder_uses v k b) (target e)) 0)
    → ListsMore old new (λ b. content_uses v p b + target_uses v p b)
lists_removed old mid new v p e is first later b =
    omega (arith, first b, later b, content_there v p e b is, target_there v p e b is)
