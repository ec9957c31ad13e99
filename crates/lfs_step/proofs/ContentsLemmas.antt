-- What is read of a file at a path of a mounted image, and why nothing is.
use Rattle.std.proofs.Common.{◌≡◌, ◌⊎◌, List, [], ◌∷◌, ℕ, Option, Some, None, refl, ap, sym, ◌∙◌, subst}
use Rattle.std.proofs.Common.{inl, inr}
use Rattle.std.specs.Prelude.{is_none}
use Rattle.std.specs.List.{AllByRecursion}
use Rattle.lfs_block.specs.Disk.{Disk, IsDisk}
use Rattle.lfs_meta.specs.Attribute.{Attributes}
use Rattle.lfs_fs.specs.Path.{Path, IsPathText}
use Rattle.lfs_fs.specs.Graph.{walk}
use Rattle.lfs_fs.specs.Entry.{Entry}
use Rattle.lfs_fs.specs.Tree.{Node, File, Dir, entry_at, tree}
use Rattle.lfs_fs.specs.RowShown.{HasBlocks, RowsShowTheTree, shown_body, shown_node}
use Rattle.lfs_fs.specs.Mounted.{MountedValue, IsMountOf}
use Rattle.lfs_command.specs.declared.refusal.Refusal.{Refusal}
use Rattle.lfs_command.specs.declared.refusal.Refusal.TheVariants.{NotFound}
use Rattle.lfs_command.specs.declared.refusal.Refusal.TheVariants.{Memory, IsADirectory}
use Rattle.lfs_law.specs.ParentChecks.{entry_checks, there_checks}
use Rattle.lfs_law.specs.JudgedAlike.{OutlinesAreJudgedAlike}
use Rattle.lfs_command.specs.Verdict.{first_refusal, refuse_if, walk_refusal, is_directory}
use Rattle.lfs_law.proofs.VerdictKinds.{IsOfVerdict, MayBeOfVerdict, of_test, of_walk}
use Rattle.lfs_law.proofs.Verdicts.{refused_first}
use Rattle.lfs_law.proofs.PathsRefused.{first_fails, reached, walked}
use Rattle.lfs_step.specs.Contents.{IsContents, RefusesContents, reading_checks}

-- a directory is no file
directory_refused : (t : Path → Option Node) (path : Path) (a : Attributes) → walk_refusal t [] path ≡ None → t path ≡ Some (Dir a)
    → first_refusal (reading_checks t path) ≡ Some IsADirectory
directory_refused t path a walk there = rw (walk, there) refl

-- ---- why nothing is read

of_reading : (t : Path → Option Node) (path : Path) → AllByRecursion MayBeOfVerdict (reading_checks t path)
unfolding IsOfVerdict
of_reading t path = (of_walk t [] path, (of_test (is_none (t path)) NotFound tt, (of_test (is_directory (t path)) IsADirectory tt, tt)))

module _ (shows : RowsShowTheTree) (d : Disk) (disk : IsDisk d) (m : MountedValue) (is : IsMountOf d m) (text : List ℕ) (path : Path)
    (spelled : IsPathText text path) where
  -- a check refuses
  refused_check : (r : Refusal) → first_refusal (reading_checks (tree is.volume) path) ≡ Some r → RefusesContents d text r
  refused_check r refused = first_fails reading_checks d text r of_reading (record {
    volume = is.volume;
    holds = is.holds;
    sound = is.sound;
    path = path;
    spelled = spelled;
    refused = refused;
  })

  -- where the path is the root's
  pub refused_root : path ≡ [] → RefusesContents d text IsADirectory
  refused_root root = refused_check IsADirectory (ap (λ (p : Path). first_refusal (reading_checks (tree is.volume) p)) root)

  -- where nothing is at the path
  pub refused_missing : OutlinesAreJudgedAlike → (r : Refusal) → (path ≡ [] → ⊥) → first_refusal (entry_checks m.outline path) ≡ Some r
      → RefusesContents d text r
  refused_missing alike r below refused =
      refused_check r
      (refused_first (there_checks is.volume path) (refuse_if (is_directory (tree is.volume path)) IsADirectory ∷ []) r
      (walked alike d m is path r below refused))

  module _ (e : Entry) (at : entry_at m.outline path ≡ Some e) where
    here : (tree is.volume path ≡ Some (shown_node d e)) × HasBlocks d e.body
    here = shows d m is (record { path = path; entry = e }) disk (is.rows.complete path e at)

    pub has_blocks : HasBlocks d e.body
    has_blocks = here.1

    pub found_contents : (bytes : List ℕ) → ((a : Attributes) → shown_body d e.body a ≡ File bytes a) → IsContents d text bytes
    found_contents bytes same = record {
      volume = is.volume;
      holds = is.holds;
      sound = is.sound;
      path = path;
      spelled = spelled;
      attributes = e.attributes;
      there = here.0 ∙ ap Some (same e.attributes);
    }

    pub refused_contents : (r : Refusal) → (r ≡ Memory) ⊎ ((r ≡ IsADirectory) × ((a : Attributes) → shown_body d e.body a ≡ Dir a))
        → RefusesContents d text r
    refused_contents r why = elim why [
      | inl memory ↦ subst (RefusesContents d text) (sym memory) tt
      | inr directory ↦
          let there_is : tree is.volume path ≡ Some (Dir e.attributes) = here.0 ∙ ap Some (directory.1 e.attributes) in
          subst (RefusesContents d text) (sym directory.0)
          (refused_check IsADirectory (directory_refused (tree is.volume) path e.attributes
          (reached is.volume path (Dir e.attributes) there_is) there_is))
    ]
