-- An edit of one edge, whose counts come out even, gives a sound volume with its equation's tree.
use Rattle.std.proofs.Common.{◌≡◌, ℕ, ◌+◌, ◌<◌, ◌≤◌, List, [], ◌∷◌, ◌++◌, refl, Option, Some}
use Rattle.std.specs.Option.{option_and_then}
use Rattle.lfs_meta.specs.Name.{Name}
use Rattle.lfs_meta.specs.Body.{Pair}
use Rattle.lfs_fs.specs.Path.{Path}
use Rattle.lfs_fs.specs.Entry.{Entry, target}
use Rattle.lfs_fs.specs.Directory.{Directory}
use Rattle.lfs_fs.specs.Volume.{Volume}
use Rattle.lfs_fs.specs.Tree.{Node, entry_at, tree}
use Rattle.lfs_fs.specs.Uses.{uses}
use Rattle.lfs_fs.specs.Sound.{IsSound}
use Rattle.lfs_command.specs.PathMap.{put_at_path}
use Rattle.lfs_command.specs.Edited.{with_directories}
use Rattle.lfs_law.proofs.Effect.{Counts, Effect, AreGood}
use Rattle.lfs_law.proofs.SoundAfter.{sound_after}
use Rattle.lfs_law.proofs.OneEdge.{OneEdge, Alike, reached_by_edge, reached_after}

-- the directories of a sound volume are good
pub sound_is_good : (v : Volume) → IsSound v → AreGood v.limits v.directories
sound_is_good v sound = record { order = sound.order; proper = sound.proper }

-- the same size, count and limits
pub record SameFrame (v w : Volume) : Type 0 where
  pub size : w.size ≡ v.size
  pub count : w.count ≡ v.count
  pub limits : w.limits ≡ v.limits

-- a sound volume in the same frame whose tree has x at a path; of blocks' uses `gone` go and `came` come
pub record Puts (v w : Volume) (p : Path) (x : Option Node) (gone came : ℕ → ℕ) : Type 0 where
  pub sound : IsSound w
  pub frame : SameFrame v w
  pub uses : (b : ℕ) → uses b w + gone b ≡ uses b v + came b
  pub at : (q : Path) → tree w q ≡ put_at_path p x (tree v) q

-- What comes was free or goes, and the edge names the directories that come; one that it doesn't name any more goes.
pub record IsBalanced (v : Volume) (old x : Option Entry) (gone came : Counts) : Type 0 where
  pub once : (b : ℕ) → uses b v + came.uses b ≤ 1 + gone.uses b
  pub within : (b : ℕ) → gone.uses b < came.uses b → b < v.count
  pub names : (k : Pair) → came.names k + gone.directories k ≡ gone.names k + came.directories k
  pub keeps : (k : Pair) → gone.directories k ≡ 0 → option_and_then target old ≡ Some k → option_and_then target x ≡ Some k
  pub comes : (k : Pair) → 0 < came.directories k → option_and_then target x ≡ Some k

pub edge_sound : (v : Volume) (ds : List Directory) (front : Path) (k : Pair) (n : Name) (x : Option Entry) (gone came : Counts)
    → OneEdge v (with_directories v ds) front k n x
    → Alike v (with_directories v ds) (entry_at v (front ++ n ∷ [])) x → Effect gone came v.directories ds → AreGood v.limits ds
    → IsBalanced v (entry_at v (front ++ n ∷ [])) x gone came → IsSound (with_directories v ds)
edge_sound v ds front k n x gone came edge alike effect good even =
    sound_after v (with_directories v ds) gone came edge.sound effect good edge.sound.root_attributes refl
    (record {
      once = even.once;
      within = even.within;
      names = even.names;
      stay = λ j none reached. reached_after edge alike j reached (even.keeps j none);
      come = λ j some. reached_by_edge edge j (even.comes j some);
    })
