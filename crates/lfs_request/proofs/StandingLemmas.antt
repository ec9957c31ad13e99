-- What stands at a path of the outline stands there in the tree, and what is a directory in one is one in the other.
use Rattle.std.proofs.Common.{◌≡◌, Bor, List, [], ◌∷◌, ℕ, true, false, not, Option, Some, None, map, refl, ap, ◌∙◌}
use Rattle.std.specs.Prelude.{is_none, is_some}
use Rattle.std.specs.List.{AllByRecursion}
use Rattle.std.proofs.lemmas.Option.{none-some}
use Rattle.lfs_block.specs.Disk.{Disk, IsDisk}
use Rattle.lfs_meta.specs.Attribute.{Attributes}
use Rattle.lfs_meta.specs.Body.{Pair}
use Rattle.lfs_meta.specs.Name.{Name}
use Rattle.lfs_fs.specs.Path.{Path, IsPathText}
use Rattle.lfs_fs.specs.Entry.{Entry, Body, Inline, Chain, Directory_at, body_target, target}
use Rattle.lfs_fs.specs.Tree.{Node, entry_at, tree}
use Rattle.lfs_fs.specs.RowShown.{RowsShowTheTree, shown_body, shown_node}
use Rattle.lfs_fs.specs.Mounted.{MountedValue, IsMountOf}
use Rattle.lfs_command.specs.declared.refusal.Refusal.{Refusal}
use Rattle.lfs_command.specs.declared.refusal.Refusal.TheVariants.{NotFound, NotADirectory}
use Rattle.lfs_command.specs.Verdict.{first_refusal, is_directory, refuse_if, walk_refusal}
use Rattle.lfs_law.specs.ParentChecks.{entry_checks, there_checks}
use Rattle.lfs_law.specs.JudgedAlike.{OutlinesAreJudgedAlike}
use Rattle.lfs_law.proofs.PathsRefused.{first_fails, reached, walked}
use Rattle.lfs_law.proofs.VerdictKinds.{IsOfVerdict, MayBeOfVerdict, of_test, of_walk}
use Rattle.lfs_law.proofs.Verdicts.{refused_first}
use Rattle.lfs_request.specs.Standing.{IsDirectoryThere, IsPathThere, RefusesDirectory, RefusesListing, directory_checks, standing_checks}

-- borrowed names
abbrev pub names : List (Bor Name) → Path
names ns = map (λ (n : Bor Name). n.now) ns

of_standing : (t : Path → Option Node) (path : Path) → AllByRecursion MayBeOfVerdict (standing_checks t path)
unfolding IsOfVerdict
of_standing t path = (of_walk t [] path, (of_test (is_none (t path)) NotFound tt, tt))

of_directory : (t : Path → Option Node) (path : Path) → AllByRecursion MayBeOfVerdict (directory_checks t path)
unfolding IsOfVerdict
of_directory t path = (of_walk t [] path, (of_test (is_none (t path)) NotFound tt, (of_test (not (is_directory (t path))) NotADirectory tt, tt)))

-- what leads to no directory is none
shows_none : (d : Disk) (b : Body) (a : Attributes) → body_target b ≡ None → is_directory (Some (shown_body d b a)) ≡ false
shows_none d (Inline bytes) a none = refl
shows_none d (Chain blocks bytes) a none = refl
shows_none d (Directory_at pair) a none = absurd cc

-- and what leads to one is
shows_one : (d : Disk) (b : Body) (a : Attributes) (k : Pair) → body_target b ≡ Some k → is_directory (Some (shown_body d b a)) ≡ true
shows_one d (Inline bytes) a k leads = absurd (none-some k leads)
shows_one d (Chain blocks bytes) a k leads = absurd (none-some k leads)
shows_one d (Directory_at pair) a k leads = refl

some_target : (o : Option Pair) → is_some o ≡ true → (k : Pair) × (o ≡ Some k)
some_target None some' = absurd cc
some_target (Some k) some' = (k, refl)

no_target : (o : Option Pair) → is_some o ≡ false → o ≡ None
no_target None none = refl
no_target (Some k) none = absurd cc

-- a file is no directory
file_refused : (t : Path → Option Node) (path : Path) (x : Node) → walk_refusal t [] path ≡ None → t path ≡ Some x
    → is_directory (Some x) ≡ false → first_refusal (directory_checks t path) ≡ Some NotADirectory
file_refused t path x walk there file = rw (walk, there, file) refl

module _ (shows : RowsShowTheTree) (d : Disk) (disk : IsDisk d) (m : MountedValue) (is : IsMountOf d m) (text : List ℕ) (path : Path)
    (spelled : IsPathText text path) where
  pub refused_listing : OutlinesAreJudgedAlike → (r : Refusal) → (path ≡ [] → ⊥) → first_refusal (entry_checks m.outline path) ≡ Some r
      → RefusesListing d text r
  refused_listing alike r below refused = first_fails standing_checks d text r of_standing (record {
    volume = is.volume;
    holds = is.holds;
    sound = is.sound;
    path = path;
    spelled = spelled;
    refused = walked alike d m is path r below refused;
  })

  -- something is there
  pub there_listed : (e : Entry) → entry_at m.outline path ≡ Some e → IsPathThere d m text path
  there_listed e at = record {
    spelled = spelled;
    there = λ mounts. ap is_some (shows d m mounts (record { path = path; entry = e }) disk (mounts.rows.complete path e at)).0;
  }

  pub root_listed : path ≡ [] → IsPathThere d m text path
  root_listed root = record { spelled = spelled; there = λ mounts. ap (λ (p : Path). is_some (tree mounts.volume p)) root }

  no_directory : (r : Refusal) → first_refusal (directory_checks (tree is.volume) path) ≡ Some r → RefusesDirectory d text r
  no_directory r refused = first_fails directory_checks d text r of_directory (record {
    volume = is.volume;
    holds = is.holds;
    sound = is.sound;
    path = path;
    spelled = spelled;
    refused = refused;
  })

  -- where nothing is at the path
  pub nothing_there : OutlinesAreJudgedAlike → (r : Refusal) → (path ≡ [] → ⊥) → first_refusal (entry_checks m.outline path) ≡ Some r
      → RefusesDirectory d text r
  nothing_there alike r below refused =
      no_directory r
      (refused_first (there_checks is.volume path) (refuse_if (not (is_directory (tree is.volume path))) NotADirectory ∷ []) r
      (walked alike d m is path r below refused))

  -- the root is a directory
  pub root_there : path ≡ [] → IsDirectoryThere d m text path
  root_there root = record { spelled = spelled; there = λ mounts. ap (λ (p : Path). is_directory (tree mounts.volume p)) root }

  module _ (e : Entry) (at : entry_at m.outline path ≡ Some e) where
    here : (mounts : IsMountOf d m) → tree mounts.volume path ≡ Some (shown_node d e)
    here mounts = (shows d m mounts (record { path = path; entry = e }) disk (mounts.rows.complete path e at)).0

    pub file_there : is_some (target e) ≡ false → RefusesDirectory d text NotADirectory
    file_there none =
        no_directory NotADirectory
        (file_refused (tree is.volume) path (shown_node d e) (reached is.volume path (shown_node d e) (here is)) (here is)
        (shows_none d e.body e.attributes (no_target (target e) none)))

    pub directory_there : is_some (target e) ≡ true → IsDirectoryThere d m text path
    directory_there some' =
        let leads = some_target (target e) some' in
        record {
          spelled = spelled;
          there = λ mounts. ap is_directory (here mounts) ∙ shows_one d e.body e.attributes leads.0 leads.1;
        }
