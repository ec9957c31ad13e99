-- A volume with its marks taken off is the same volume otherwise.
use Rattle.std.proofs.Common.{◌≡◌, ℕ, Bool, true, false, cond, List, [], ◌∷◌, ◌++◌, refl, ap, sym, ◌∙◌, subst, arith, get_or, map}
use Rattle.std.specs.Prelude.{All, sum_by, find, bit_xor}
use Rattle.std.proofs.lemmas.List.{map-append}
use Rattle.std.proofs.lemmas.List.Elements.{All-map}
use Rattle.std.proofs.lemmas.List.Folds.{flat_map-map}
use Rattle.std.proofs.lemmas.List.Concat.{flat_map-cons}
use Rattle.lfs_meta.specs.Name.{Name}
use Rattle.lfs_meta.specs.Body.{Pair}
use Rattle.lfs_fs.specs.Path.{Path}
use Rattle.lfs_fs.specs.Entry.{Entry, target, is_named}
use Rattle.lfs_fs.specs.Directory.{Part, Directory, parts, entries, begins_at, thread}
use Rattle.lfs_fs.specs.Volume.{Volume}
use Rattle.lfs_fs.specs.Tree.{entry_in, tree}
use Rattle.lfs_fs.specs.Uses.{pair_uses, entry_uses, directory_uses, uses}
use Rattle.lfs_fs.specs.Named.{leads_to, names_of}
use Rattle.lfs_fs.specs.State.{delta_of}
use Rattle.lfs_fs.specs.Sound.{IsSound, StartsAtRoot, Rise, IsProper}
use Rattle.lfs_fs.proofs.OutlinedLemmas.{sum_same}
use Rattle.lfs_command.specs.DirectoryEdit.{each_part}
use Rattle.lfs_command.specs.Clean.{cleaned, clean}
use Rattle.lfs_law.specs.Laws.{CleansFollow}
use Rattle.lfs_law.proofs.Effect.{Effect, none, AreGood}
use Rattle.lfs_law.proofs.SameEdges.{tree_same, reached_with_root}
use Rattle.lfs_law.proofs.SoundAfter.{sound_after}

-- ---- one directory

clean_entries : (d : Directory) → entries (each_part cleaned d) ≡ entries d
clean_entries d = flat_map-map (λ (p : Part). p.entries) cleaned (parts d)

clean_uses : (b : ℕ) (d : Directory) → directory_uses b (each_part cleaned d) ≡ directory_uses b d
clean_uses b d = omega (arith, sum_same (pair_uses b) cleaned (λ p. refl) (parts d), ap (sum_by (entry_uses b)) (clean_entries d))

clean_names : (k : Pair) (d : Directory) → names_of k (each_part cleaned d) ≡ names_of k d
clean_names k d = ap (sum_by (λ (e : Entry). leads_to k (target e))) (clean_entries d)

-- ---- all directories

clean_thread : (ds : List Directory) → thread (map (each_part cleaned) ds) ≡ map cleaned (thread ds)
clean_thread [] = refl
clean_thread (d ∷ ds) =
    flat_map-cons parts (each_part cleaned d) (map (each_part cleaned) ds)
    ∙ ap (λ ps. map cleaned (parts d) ++ ps) (clean_thread ds)
    ∙ sym (map-append cleaned (parts d) (thread ds))
    ∙ ap (map cleaned) (sym (flat_map-cons parts d ds))

clean_delta : (ps : List Part) → delta_of (map cleaned ps) ≡ delta_of ps
clean_delta [] = refl
clean_delta (p ∷ ps) = ap (λ x. bit_xor p.delta x) (clean_delta ps)

clean_starts : (ds : List Directory) → StartsAtRoot ds → StartsAtRoot (map (each_part cleaned) ds)
clean_starts [] h = h
clean_starts (d ∷ ds) h = h

clean_effect : (ds : List Directory) → Effect none none ds (map (each_part cleaned) ds)
clean_effect ds = record {
  uses = λ b. omega (arith, sum_same (directory_uses b) (each_part cleaned) (clean_uses b) ds);
  names = λ k. omega (arith, sum_same (names_of k) (each_part cleaned) (clean_names k) ds);
  directories = λ k. omega (arith, sum_same (λ (d : Directory). cond {A = ℕ} (begins_at k d) 1 0) (each_part cleaned) (λ d. refl) ds);
  starts = clean_starts ds;
  delta = ap delta_of (clean_thread ds) ∙ clean_delta (thread ds);
}

clean_good : (v : Volume) → IsSound v → AreGood v.limits (map (each_part cleaned) v.directories)
clean_good v sound = record {
  order = All-map (λ (d : Directory). Rise (entries d)) (each_part cleaned) v.directories
      (λ i d within. subst Rise (sym (clean_entries (get_or v.directories i d))) (sound.order i d within));
  proper = All-map (λ (d : Directory). All (IsProper v.limits) (entries d)) (each_part cleaned) v.directories
      (λ i d within. subst (All (IsProper v.limits)) (sym (clean_entries (get_or v.directories i d))) (sound.proper i d within));
}

clean_edge_by : (k : Pair) (n : Name) (d : Directory) (ds : List Directory) (t : Bool) → begins_at k d ≡ t
    → entry_in (map (each_part cleaned) ds) k n ≡ entry_in ds k n
    → entry_in (map (each_part cleaned) (d ∷ ds)) k n ≡ entry_in (d ∷ ds) k n
clean_edge_by k n d ds true is rest = rw is (ap (find (is_named n)) (clean_entries d))
clean_edge_by k n d ds false is rest = rw is rest

clean_edges : (ds : List Directory) (k : Pair) (n : Name) → entry_in (map (each_part cleaned) ds) k n ≡ entry_in ds k n
clean_edges [] k n = refl
clean_edges (d ∷ ds) k n = clean_edge_by k n d ds (begins_at k d) refl (clean_edges ds k n)

-- ---- the volume

pub clean_sound : (v : Volume) → IsSound v → IsSound (clean v)
clean_sound v sound =
    sound_after v (clean v) none none sound (clean_effect v.directories) (clean_good v sound) sound.root_attributes refl
    (record {
      once = λ b. omega (arith, sound.once b);
      within = λ b less. let no : ⊥ = omega arith in absurd no;
      names = λ k. refl;
      stay = λ k gone reached. reached_with_root v (clean v) (clean_edges v.directories) k reached;
      come = λ k some. let no : ⊥ = omega arith in absurd no;
    })

pub clean_tree : (v : Volume) (p : Path) → tree (clean v) p ≡ tree v p
clean_tree v p = tree_same v (clean v) (clean_edges v.directories) refl p

pub clean_uses_all : (b : ℕ) (v : Volume) → uses b (clean v) ≡ uses b v
clean_uses_all b v = sum_same (directory_uses b) (each_part cleaned) (clean_uses b) v.directories

pub cleans_follow : CleansFollow
cleans_follow v w c h = record {
  sound = clean_sound w h.sound;
  at = λ path. clean_tree w path ∙ h.at path;
  size = h.size;
  count = h.count;
  limits = h.limits;
}
