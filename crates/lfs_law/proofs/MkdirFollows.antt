-- A directory made follows its equation.
use Rattle.std.proofs.Common.{◌≡◌, ℕ, ◌+◌, ◌<◌, ◌≤◌, Bool, true, false, List, [], ◌∷◌, ◌++◌, refl, ap, sym, ◌∙◌, subst, arith, length}
use Rattle.std.proofs.Common.{Option, Some, None}
use Rattle.std.specs.Prelude.{count_by, find, nat_le, if◌then◌else◌}
use Rattle.std.specs.Option.{option_and_then}
use Rattle.std.proofs.lemmas.Bool.Decides.{nat_tests}
use Rattle.std.proofs.lemmas.Option.{none-some}
use Rattle.lfs_meta.specs.Name.{Name}
use Rattle.lfs_meta.specs.Body.{Pair}
use Rattle.lfs_fs.specs.NameOrder.{NamesAreOrdered}
use Rattle.lfs_fs.specs.Path.{Path}
use Rattle.lfs_fs.specs.Graph.{entry_within}
use Rattle.lfs_fs.specs.Pair.{unordered, same_pair}
use Rattle.lfs_fs.specs.Entry.{Directory_at, Entry, target, is_named}
use Rattle.lfs_fs.specs.Directory.{Directory, entries, key, begins_at}
use Rattle.lfs_fs.specs.Volume.{Volume}
use Rattle.lfs_fs.specs.Tree.{Dir, entry_at, entry_in, node, tree}
use Rattle.lfs_fs.specs.Uses.{times, directory_uses, uses}
use Rattle.lfs_fs.specs.Named.{leads_to}
use Rattle.lfs_fs.specs.Sound.{IsSound, IsProper}
use Rattle.lfs_command.specs.PathMap.{put_at_path}
use Rattle.lfs_command.specs.ThreadEdit.{link, add_after}
use Rattle.lfs_command.specs.Parent.{parent_of}
use Rattle.lfs_command.specs.Edited.{with_directories, new_entry, empty_directory, make_directory}
use Rattle.lfs_law.proofs.Effect.{Effect, none, of_entry, of_directory, of_both, in_a_row}
use Rattle.lfs_law.proofs.OneElement.{none_counted}
use Rattle.lfs_law.proofs.OneEdge.{OneEdge, Alike, tree_after}
use Rattle.lfs_law.proofs.OnePath.{count_le_uses}
use Rattle.lfs_law.proofs.ThreadEdits.{link_edge, link_other, link_effect, link_good}
use Rattle.lfs_law.proofs.AddAfter.{add_effect, add_edges, add_good}
use Rattle.lfs_law.proofs.Decided.{same_pair_decides}
use Rattle.lfs_law.proofs.EdgeEdits.{sound_is_good, Puts, edge_sound}
use Rattle.lfs_law.proofs.Placed.{IsPlaced}

-- A pair of blocks that are free.
pub record IsNewPair (v : Volume) (pair : Pair) : Type 0 where
  pub once : (b : ℕ) → uses b v + times b (pair.0 ∷ pair.1 ∷ []) ≤ 1
  pub within : (b : ℕ) → 0 < times b (pair.0 ∷ pair.1 ∷ []) → b < v.count

-- ---- the new directory

least_by : (le : Bool) (p : Pair) → 1 ≤ times (if le then p else (p.1, p.0)).0 (p.0 ∷ p.1 ∷ [])
least_by true p = grind (arith, nat_tests)
least_by false p = grind (arith, nat_tests)

-- no directory begins at blocks that are free
pub none_begins : (v : Volume) (pair : Pair) → IsNewPair v pair → count_by (begins_at (unordered pair)) v.directories ≡ 0
none_begins v pair new =
    let b : ℕ = (unordered pair).0 in
    let used : 1 ≤ times b (pair.0 ∷ pair.1 ∷ []) = least_by (nat_le pair.0 pair.1) pair in
    omega (arith, count_le_uses (unordered pair) v, new.once b, used)

-- it uses its two blocks alone
empty_uses : (b : ℕ) (pair : Pair) → directory_uses b (empty_directory pair) ≡ times b (pair.0 ∷ pair.1 ∷ [])
empty_uses b pair = omega arith

-- it is named where it begins
named_where_begun : (k : Pair) (pair : Pair) → leads_to k (Some (unordered pair)) ≡ count_by (begins_at k) (empty_directory pair ∷ [])
named_where_begun k pair = by (same_pair k (unordered pair)) refl
  where
    by : (t : Bool) → same_pair k (unordered pair) ≡ t → leads_to k (Some (unordered pair))
        ≡ count_by (begins_at k) (empty_directory pair ∷ [])
    by true is = rw is refl
    by false is = rw is refl

begins_there : (k pair : Pair) → 0 < count_by (begins_at k) (empty_directory pair ∷ []) → unordered pair ≡ k
begins_there k pair h = by (same_pair k (unordered pair)) refl
  where
    by : (t : Bool) → same_pair k (unordered pair) ≡ t → unordered pair ≡ k
    by true is = sym ((same_pair_decides k (unordered pair)).0 is)
    by false is =
        let zero : count_by (begins_at k) (empty_directory pair ∷ []) ≡ 0 = rw is refl in
        let no : ⊥ = omega (arith, h, zero) in absurd no

nothing_in : (ds : List Directory) (k : Pair) (m : Name) → count_by (begins_at k) ds ≡ 0 → entry_in ds k m ≡ None
nothing_in ds k m h = ap (option_and_then (λ (d : Directory). find (is_named m) (entries d))) (none_counted (begins_at k) ds h)

-- ---- the command

pub mkdir_follows : (v : Volume) (p : Path) (pair : Pair) → NamesAreOrdered → IsSound v → (at : IsPlaced v p) → entry_at v p ≡ None
    → length at.parent.name ≤ v.limits.name → IsNewPair v pair
    → Puts v (make_directory v pair (parent_of v p)) p (Some (Dir [])) (λ b. 0) (λ b. times b (pair.0 ∷ pair.1 ∷ []))
mkdir_follows v p pair ordered sound at fresh fits new =
    let k = at.parent.pair in
    let n = at.parent.name in
    let e : Entry = new_entry n (Directory_at pair) in
    let d : Directory = empty_directory pair in
    let edge : entry_in v.directories k n ≡ None = sym at.edge ∙ fresh in
    let old : entry_at v (at.parent.front ++ n ∷ []) ≡ None = ap (entry_at v) (sym at.parent.complete) ∙ fresh in
    let proper : IsProper v.limits e = record { name = at.parent.named; name_fits = fits; file_fits = omega arith; attributes = tt } in
    let linked : List Directory = link k e v.directories in
    let first : Effect none (of_entry e) v.directories linked = link_effect k e v.directories at.once in
    let once : count_by (begins_at k) linked ≡ 1 = omega (arith, first.directories k, at.once) in
    let none_there : count_by (begins_at (key d)) linked ≡ 0 = omega (arith, first.directories (key d), none_begins v pair new) in
    let second : Effect none (of_directory d) linked (add_after k d linked) = add_effect k d linked once refl in
    let ds : List Directory = add_after k d linked in
    let one : OneEdge v (with_directories v ds) at.parent.front k n (Some e) = record {
      sound = sound;
      holder = at.parent.above;
      holder_at = at.parent.at;
      holder_leads = at.parent.leads;
      attributes = refl;
      edge = add_edges k d linked refl none_there k n ∙ link_edge k e v.directories at.once edge;
      others = λ j m other. add_edges k d linked refl none_there j m ∙ link_other k e v.directories j m other;
    } in
    let alike : Alike v (with_directories v ds) (entry_at v (at.parent.front ++ n ∷ [])) (Some e) = λ m.
    add_edges k d linked refl none_there (key d) m ∙ nothing_in linked (key d) m none_there
    ∙ sym (ap (entry_within target (entry_in v.directories) m) old) in
    let follows : Puts v (with_directories v ds) p (Some (Dir [])) (λ b. 0) (λ b. times b (pair.0 ∷ pair.1 ∷ [])) = record {
      sound = edge_sound v ds at.parent.front k n (Some e) (of_both none none) (of_both (of_entry e) (of_directory d)) one alike
          (in_a_row none (of_entry e) none (of_directory d) v.directories linked ds first second)
          (add_good v.limits k d linked refl (link_good v.limits k e v.directories ordered (sound_is_good v sound) at.once edge proper))
          (record {
            once = λ b. omega (arith, new.once b, empty_uses b pair);
            within = λ b less. new.within b (omega (arith, less, empty_uses b pair));
            names = λ j. omega (arith, named_where_begun j pair);
            keeps = λ j gone leads. absurd (none-some j (sym (ap (option_and_then target) old) ∙ leads));
            comes = λ j some. ap Some (begins_there j pair (omega (arith, some)));
          });
      frame = record { size = refl; count = refl; limits = refl };
      uses = λ b. omega (arith, first.uses b, second.uses b, empty_uses b pair);
      at = λ q.
          tree_after one alike q
          ∙ ap (λ (x : Path). put_at_path x (Some (node e)) (tree v) q) (sym at.parent.complete);
    } in
    subst (λ (h : Option (Pair × Name)). Puts v (make_directory v pair h) p (Some (Dir [])) (λ b. 0) (λ b. times b (pair.0 ∷ pair.1 ∷ [])))
    (sym at.parent.parent) follows
