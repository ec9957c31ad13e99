-- What is removed follows its equation.
use Rattle.std.proofs.Common.{◌≡◌, ℕ, ◌+◌, true, cond, List, [], ◌∷◌, ◌++◌, refl, ap, sym, ◌∙◌, subst, arith, length, Option}
use Rattle.std.proofs.Common.{Some, None}
use Rattle.std.specs.Prelude.{sum_by, count_by, find, ◌==◌}
use Rattle.std.specs.Option.{option_map, option_and_then, unwrap_or}
use Rattle.std.proofs.lemmas.Bool.Decides.{nat_tests}
use Rattle.std.proofs.lemmas.List.{nil_from_length}
use Rattle.std.proofs.lemmas.Option.{none-some, same_Some}
use Rattle.lfs_meta.specs.Name.{Name}
use Rattle.lfs_meta.specs.Body.{Pair}
use Rattle.lfs_fs.specs.NameOrder.{NamesAreOrdered}
use Rattle.lfs_fs.specs.Path.{Path}
use Rattle.lfs_fs.specs.Graph.{entry_within}
use Rattle.lfs_fs.specs.Pair.{root, same_pair}
use Rattle.lfs_fs.specs.Entry.{Entry, target, is_named}
use Rattle.lfs_fs.specs.Directory.{Directory, entries, key, begins_at}
use Rattle.lfs_fs.specs.Volume.{Volume}
use Rattle.lfs_fs.specs.Tree.{entry_at, entry_in, top, tree}
use Rattle.lfs_fs.specs.Uses.{entry_uses, pair_uses, directory_uses}
use Rattle.lfs_fs.specs.Named.{leads_to}
use Rattle.lfs_fs.specs.Sound.{IsSound, StartsAtRoot}
use Rattle.lfs_command.specs.PathMap.{put_at_path}
use Rattle.lfs_command.specs.DirectoryEdit.{unlink_in}
use Rattle.lfs_command.specs.ThreadEdit.{unlink, drop_directory}
use Rattle.lfs_command.specs.Parent.{parent_of}
use Rattle.lfs_command.specs.Edited.{with_directories, drop_target, remove_entry}
use Rattle.lfs_command.specs.Verdict.{is_bare}
use Rattle.lfs_command.specs.Freed.{folder_uses, emptied_among, emptied_parts, emptied_uses}
use Rattle.lfs_law.proofs.Effect.{Counts, Effect, AreGood, none, with_parts, of_directory, of_both, in_a_row}
use Rattle.lfs_law.proofs.OneElement.{found_one}
use Rattle.lfs_law.proofs.OneEdge.{OneEdge, Alike, alike_from_targets, tree_after}
use Rattle.lfs_law.proofs.OnePath.{one_path, found_key}
use Rattle.lfs_law.proofs.PathMapLemmas.{no_names}
use Rattle.lfs_law.proofs.DirectoryEdits.{keeps_unlink}
use Rattle.lfs_law.proofs.InDirectory.{find_elsewhere}
use Rattle.lfs_law.proofs.ThreadEdits.{unlink_edge, unlink_other, unlink_effect, unlink_good}
use Rattle.lfs_law.proofs.DropDirectory.{drop_effect, drop_edges, drop_good}
use Rattle.lfs_law.proofs.Decided.{same_pair_decides}
use Rattle.lfs_law.proofs.EdgeEdits.{sound_is_good, Puts, edge_sound}
use Rattle.lfs_law.proofs.Placed.{IsPlaced, led_directory}

-- how often the directory that a target leads to uses a block
abbrev pub target_uses_of : Volume → Option Pair → ℕ → ℕ
target_uses_of v o b = unwrap_or (option_map (λ k. folder_uses v k b) o) 0

-- how often what goes with an entry uses a block: its contents, the directory that it leads to, and the parts that leave with it
abbrev pub gone_of : Volume → Path → Entry → ℕ → ℕ
gone_of v p e b = entry_uses b e + target_uses_of v (target e) b + emptied_uses v p b

-- what a path's parent is known to be gives the parts that leave it
emptied_there : (v : Volume) (p : Path) (k : Pair) (n : Name) → parent_of v p ≡ Some (k, n) → (b : ℕ)
    → emptied_uses v p b ≡ sum_by (pair_uses b) (emptied_among v.directories k n)
emptied_there v p k n is b = ap (λ (h : Option (Pair × Name)). sum_by (pair_uses b) (emptied_parts v h)) is

-- ---- a file

file_gone : (v : Volume) (p : Path) (e : Entry) → NamesAreOrdered → IsSound v → (at : IsPlaced v p) → entry_at v p ≡ Some e
    → target e ≡ None
    → Puts v (with_directories v (unlink at.parent.pair at.parent.name v.directories)) p None
    (gone_of v p e) (λ b. 0)
file_gone v p e ordered sound at here file =
    let k = at.parent.pair in
    let n = at.parent.name in
    let edge : entry_in v.directories k n ≡ Some e = sym at.edge ∙ here in
    let old : entry_at v (at.parent.front ++ n ∷ []) ≡ Some e = ap (entry_at v) (sym at.parent.complete) ∙ here in
    let good : AreGood v.limits v.directories = sound_is_good v sound in
    let ds : List Directory = unlink k n v.directories in
    let one : OneEdge v (with_directories v ds) at.parent.front k n None = record {
      sound = sound;
      holder = at.parent.above;
      holder_at = at.parent.at;
      holder_leads = at.parent.leads;
      attributes = refl;
      edge = unlink_edge k n v.directories;
      others = unlink_other k n v.directories;
    } in
    let led_nowhere : option_and_then target (entry_at v (at.parent.front ++ n ∷ [])) ≡ None = ap (option_and_then target) old ∙ file in
    let alike = alike_from_targets one (sym led_nowhere) in
    let effect = unlink_effect v.limits k n e v.directories ordered good at.once edge in
    record {
      sound = edge_sound v ds at.parent.front k n None (with_parts e (emptied_among v.directories k n)) none one alike
          effect
          (unlink_good v.limits k n v.directories good)
          (record {
            once = λ b. omega (arith, sound.once b);
            within = λ b less. let no : ⊥ = omega arith in absurd no;
            names = λ j. omega (arith, ap (leads_to j) file);
            keeps = λ j gone leads. sym led_nowhere ∙ leads;
            comes = λ j some. let no : ⊥ = omega arith in absurd no;
          });
      frame = record { size = refl; count = refl; limits = refl };
      uses = λ b. omega (
        arith,
        effect.uses b,
        emptied_there v p k n at.parent.parent b,
        ap (λ (o : Option Pair). target_uses_of v o b) file,
      );
      at = λ q. tree_after one alike q ∙ ap (λ (x : Path). put_at_path x None (tree v) q) (sym at.parent.complete);
    }

-- ---- an empty directory

-- the directory that an entry leads to is another one than the root
other_than_root : (v : Volume) (p : Path) (e : Entry) (j : Pair) → IsSound v → (at : IsPlaced v p) → entry_at v p ≡ Some e
    → target e ≡ Some j → j ≡ root → ⊥
other_than_root v p e j sound at here leads is =
    let same : p ≡ [] = one_path v sound p [] e (top v) root here refl (leads ∙ ap Some is) refl in
    no_names at.parent.front at.parent.name [] (sym at.parent.complete ∙ same)

bare_by : (o : Option Directory) (d : Directory) → o ≡ Some d → unwrap_or (option_map (λ x. length (entries x) == 0) o) true ≡ true
    → entries d ≡ []
bare_by None d is h = absurd (none-some d is)
bare_by (Some x) d is h =
    let len : length (entries x) ≡ 0 = grind (arith, nat_tests) in
    nil_from_length (entries d) (ap (λ (y : Directory). length (entries y)) (sym (same_Some x d is)) ∙ len)

begins_at_key : (k : Pair) (g : Directory) (j : Pair) → j ≡ key g → count_by (begins_at k) (g ∷ []) ≡ leads_to k (Some j)
begins_at_key k g j is = omega (arith, ap (λ (x : Pair). cond {A = ℕ} (same_pair k x) 1 0) (sym is))

no_entry : (ds : List Directory) (j : Pair) (d : Directory) (m : Name) → find (begins_at j) ds ≡ Some d → entries d ≡ []
    → entry_in ds j m ≡ None
no_entry ds j d m found empty = ap (option_and_then (λ (x : Directory). find (is_named m) (entries x))) found ∙ ap (find (is_named m)) empty

directory_gone : (v : Volume) (p : Path) (e : Entry) (j : Pair) → NamesAreOrdered → IsSound v → (at : IsPlaced v p) → entry_at v p ≡ Some e
    → target e ≡ Some j → is_bare v (Some j) ≡ true
    → Puts v (with_directories v (drop_directory j (unlink at.parent.pair at.parent.name v.directories))) p None
    (gone_of v p e) (λ b. 0)
directory_gone v p e j ordered sound at here leads bare =
    let k = at.parent.pair in
    let n = at.parent.name in
    let edge : entry_in v.directories k n ≡ Some e = sym at.edge ∙ here in
    let old : entry_at v (at.parent.front ++ n ∷ []) ≡ Some e = ap (entry_at v) (sym at.parent.complete) ∙ here in
    let good : AreGood v.limits v.directories = sound_is_good v sound in
    let unlinked : List Directory = unlink k n v.directories in
    let gone : Counts = with_parts e (emptied_among v.directories k n) in
    let first : Effect gone none v.directories unlinked = unlink_effect v.limits k n e v.directories ordered good at.once edge in
    let once : count_by (begins_at j) v.directories ≡ 1 = led_directory v sound p e j here leads in
    let was : (d : Directory) × (find (begins_at j) v.directories ≡ Some d) = found_one (begins_at j) v.directories once in
    let was_empty : entries was.0 ≡ [] = bare_by (find (begins_at j) v.directories) was.0 was.1 bare in
    let apart : j ≡ k → ⊥ = λ same. none-some e (sym (no_entry v.directories j was.0 n was.1 was_empty)
    ∙ ap (λ (x : Pair). entry_in v.directories x n) same ∙ edge) in
    let now : find (begins_at j) unlinked ≡ Some was.0 =
    find_elsewhere j k (unlink_in n) v.directories (keeps_unlink n) apart ∙ was.1 in
    let other = other_than_root v p e j sound at here leads in
    let starts : StartsAtRoot unlinked = first.starts sound.starts in
    let once_now : count_by (begins_at j) unlinked ≡ 1 = omega (arith, first.directories j, once) in
    let ds : List Directory = drop_directory j unlinked in
    let second : Effect (of_directory was.0) none unlinked ds = drop_effect j was.0 unlinked other starts now in
    let is_key : j ≡ key was.0 = found_key unlinked j was.0 now in
    let edges : (i : Pair) (m : Name) → entry_in ds i m ≡ entry_in unlinked i m =
    drop_edges j was.0 unlinked other starts now was_empty once_now in
    let one : OneEdge v (with_directories v ds) at.parent.front k n None = record {
      sound = sound;
      holder = at.parent.above;
      holder_at = at.parent.at;
      holder_leads = at.parent.leads;
      attributes = refl;
      edge = edges k n ∙ unlink_edge k n v.directories;
      others = λ i m differ. edges i m ∙ unlink_other k n v.directories i m differ;
    } in
    let led : option_and_then target (entry_at v (at.parent.front ++ n ∷ [])) ≡ Some j = ap (option_and_then target) old ∙ leads in
    let alike : Alike v (with_directories v ds) (entry_at v (at.parent.front ++ n ∷ [])) None = λ m.
    sym (ap (entry_within target (entry_in v.directories) m) old ∙ ap (option_and_then (λ (i : Pair). entry_in v.directories i m)) leads
    ∙ no_entry v.directories j was.0 m was.1 was_empty) in
    record {
      sound = edge_sound v ds at.parent.front k n None (of_both gone (of_directory was.0)) (of_both none none) one alike
          (in_a_row gone none (of_directory was.0) none v.directories unlinked ds first second)
          (drop_good v.limits j unlinked (unlink_good v.limits k n v.directories good))
          (record {
            once = λ b. omega (arith, sound.once b);
            within = λ b less. let no : ⊥ = omega arith in absurd no;
            names = λ i. omega (
              arith,
              begins_at_key i was.0 j is_key,
              ap (leads_to i) leads,
              ap (λ (es : List Entry). sum_by (λ (x : Entry). leads_to i (target x)) es) was_empty,
            );
            keeps = λ i away leads_there.
                let this : leads_to i (Some j) ≡ 1 = ap (λ (x : Pair). leads_to x (Some j)) (same_Some i j (sym leads_there ∙ led))
                ∙ rw ((same_pair_decides j j).1 refl) refl in
                let no : ⊥ = omega (arith, away, begins_at_key i was.0 j is_key, this) in absurd no;
            comes = λ i some. let no : ⊥ = omega arith in absurd no;
          });
      frame = record { size = refl; count = refl; limits = refl };
      uses = λ b. omega (
        arith,
        first.uses b,
        second.uses b,
        emptied_there v p k n at.parent.parent b,
        ap (λ (o : Option Pair). target_uses_of v o b) leads,
        ap (λ (o : Option Directory). unwrap_or (option_map (directory_uses b) o) 0) was.1,
      );
      at = λ q. tree_after one alike q ∙ ap (λ (x : Path). put_at_path x None (tree v) q) (sym at.parent.complete);
    }

-- ---- the command

gone_by : (v : Volume) (p : Path) (e : Entry) → NamesAreOrdered → IsSound v → (at : IsPlaced v p) → entry_at v p ≡ Some e
    → (o : Option Pair) → target e ≡ o → is_bare v o ≡ true
    → Puts v (with_directories v (drop_target o (unlink at.parent.pair at.parent.name v.directories))) p None
    (gone_of v p e) (λ b. 0)
gone_by v p e ordered sound at here None is bare = file_gone v p e ordered sound at here is
gone_by v p e ordered sound at here (Some j) is bare = directory_gone v p e j ordered sound at here is bare

pub rm_follows : (v : Volume) (p : Path) (e : Entry) → NamesAreOrdered → IsSound v → (at : IsPlaced v p) → entry_at v p ≡ Some e
    → is_bare v (target e) ≡ true
    → Puts v (remove_entry v (parent_of v p) (Some e)) p None (gone_of v p e) (λ b. 0)
rm_follows v p e ordered sound at here bare =
    subst (λ (h : Option (Pair × Name)). Puts v (remove_entry v h (Some e)) p None (gone_of v p e) (λ b. 0)) (sym at.parent.parent)
    (gone_by v p e ordered sound at here (target e) refl bare)
