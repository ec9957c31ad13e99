-- A directory added behind another one: what stands under each name, the effect, order and limits.
use Rattle.std.proofs.Common.{◌≡◌, ℕ, ◌+◌, Bool, true, false, List, [], ◌∷◌, refl, ap, sym, ◌∙◌, subst, arith, Some, None}
use Rattle.std.specs.Prelude.{All, cond, if◌then◌else◌, sum_by, count_by, find, bit_xor}
use Rattle.std.proofs.lemmas.List.Sums.{sum_by-cons}
use Rattle.std.proofs.lemmas.List.Elements.{All-nil, All-cons, All-head, All-tail}
use Rattle.lfs_meta.specs.Name.{Name}
use Rattle.lfs_meta.specs.Body.{Pair}
use Rattle.lfs_fs.specs.declared.limits.Limits.{Limits}
use Rattle.lfs_fs.specs.Entry.{Entry, target}
use Rattle.lfs_fs.specs.Directory.{Directory, parts, entries, key, begins_at, thread}
use Rattle.lfs_fs.specs.Tree.{entry_in}
use Rattle.lfs_fs.specs.Uses.{entry_uses, directory_uses}
use Rattle.lfs_fs.specs.Named.{leads_to, names_of}
use Rattle.lfs_fs.specs.State.{delta_of}
use Rattle.lfs_fs.specs.Sound.{StartsAtRoot, Rise, IsProper}
use Rattle.lfs_command.specs.DirectoryEdit.{touch_last}
use Rattle.lfs_command.specs.ThreadEdit.{add_after}
use Rattle.lfs_law.proofs.Decided.{same_pair_decides}
use Rattle.lfs_law.proofs.Effect.{none, of_directory, Effect, AreGood}
use Rattle.lfs_law.proofs.OneElement.{found_one, none_counted, none_later}
use Rattle.lfs_law.proofs.DirectoryEdits.{begins_same, first_same, pair_uses_same, entries_touch_last, keeps_touch_last, delta_append}
use Rattle.lfs_law.proofs.InDirectory.{same_first_entries, empty_first}

sum_added : (g : Directory → ℕ) (k : Pair) (new : Directory) (ds : List Directory) (d : Directory)
    → ((x : Directory) → g (touch_last x) ≡ g x) → find (begins_at k) ds ≡ Some d
    → sum_by g (add_after k new ds) ≡ sum_by g ds + g new
unfolding add_after
sum_added g k new [] d same found = cc
sum_added g k new (x ∷ ds) d same found = go (begins_at k x) found (sum_added g k new ds d same)
  where
    go : (b : Bool) → (if b then Some x else find (begins_at k) ds) ≡ Some d
        → (find (begins_at k) ds ≡ Some d → sum_by g (add_after k new ds) ≡ sum_by g ds + g new)
        → sum_by g (if b then touch_last x ∷ new ∷ ds else x ∷ add_after k new ds) ≡ sum_by g (x ∷ ds) + g new
    go true is later = omega (arith, same x, sum_by-cons g (touch_last x) (new ∷ ds), sum_by-cons g new ds, sum_by-cons g x ds)
    go false is later = omega (arith, later is, sum_by-cons g x (add_after k new ds), sum_by-cons g x ds)

delta_added : (k : Pair) (new : Directory) (ds : List Directory) → delta_of (parts new) ≡ 0
    → delta_of (thread (add_after k new ds)) ≡ delta_of (thread ds)
unfolding add_after
delta_added k new [] zero = refl
delta_added k new (d ∷ ds) zero = go (begins_at k d) (delta_added k new ds zero)
  where
    go : (b : Bool) → delta_of (thread (add_after k new ds)) ≡ delta_of (thread ds)
        → delta_of (thread (if b then touch_last d ∷ new ∷ ds else d ∷ add_after k new ds)) ≡ delta_of (thread (d ∷ ds))
    go true later =
        let here = delta_append (parts (touch_last d)) (thread (new ∷ ds)) in
        let same = (keeps_touch_last d).delta in
        let middle = delta_append (parts new) (thread ds) in
        let complete = delta_append (parts d) (thread ds) in
        here
        ∙ ap (λ (x : ℕ). bit_xor x (delta_of (thread (new ∷ ds)))) same
        ∙ ap (bit_xor (delta_of (parts d))) (middle ∙ ap (λ (x : ℕ). bit_xor x (delta_of (thread ds))) zero)
        ∙ sym complete
    go false later = delta_append (parts d) (thread (add_after k new ds)) ∙ ap (bit_xor (delta_of (parts d))) later
        ∙ sym (delta_append (parts d) (thread ds))

starts_added : (k : Pair) (new : Directory) (ds : List Directory) → StartsAtRoot ds → StartsAtRoot (add_after k new ds)
unfolding add_after
starts_added k new [] starts = starts
starts_added k new (d ∷ ds) starts = go (begins_at k d)
  where
    go : (b : Bool) → StartsAtRoot (if b then touch_last d ∷ new ∷ ds else d ∷ add_after k new ds)
    go true = first_same d (touch_last d) (keeps_touch_last d).pairs ∙ starts
    go false = starts

pub add_effect : (k : Pair) (new : Directory) (ds : List Directory) → count_by (begins_at k) ds ≡ 1 → delta_of (parts new) ≡ 0
    → Effect none (of_directory new) ds (add_after k new ds)
add_effect k new ds once zero =
    let found = found_one (begins_at k) ds once in
    record {
      uses = λ b.
          let same : (x : Directory) → directory_uses b (touch_last x) ≡ directory_uses b x =
          λ x. omega (
            arith,
            pair_uses_same b x (touch_last x) (keeps_touch_last x).pairs,
            ap (sum_by (entry_uses b)) (entries_touch_last x),
          ) in
          omega (arith, sum_added (directory_uses b) k new ds found.0 same found.1);
      names = λ j. omega (
        arith,
        sum_added (names_of j) k new ds found.0
            (λ x. ap (sum_by (λ (e : Entry). leads_to j (target e))) (entries_touch_last x)) found.1,
      );
      directories = λ j.
          let same : (x : Directory) → cond {A = ℕ} (begins_at j (touch_last x)) 1 0 ≡ cond (begins_at j x) 1 0 =
          λ x. ap (λ (b : Bool). cond {A = ℕ} b 1 0) (begins_same j x (touch_last x) (keeps_touch_last x).pairs) in
          omega (
            arith,
            sum_added (λ (x : Directory). cond {A = ℕ} (begins_at j x) 1 0) k new ds found.0 same found.1,
            sum_by-cons (λ (x : Directory). cond {A = ℕ} (begins_at j x) 1 0) new [],
          );
      starts = starts_added k new ds;
      delta = delta_added k new ds zero;
    }

-- ---- what is found

-- the directory added
new_found : (k : Pair) (new : Directory) (ds : List Directory) (d : Directory) → find (begins_at k) ds ≡ Some d
    → find (begins_at (key new)) ds ≡ None
    → find (begins_at (key new)) (add_after k new ds) ≡ Some new
unfolding add_after
new_found k new [] d found fresh = cc
new_found k new (x ∷ ds) d found fresh = go (begins_at k x) found (begins_at (key new) x) refl fresh (new_found k new ds d)
  where
    go : (b : Bool) → (if b then Some x else find (begins_at k) ds) ≡ Some d → (c : Bool) → begins_at (key new) x ≡ c
        → (if c then Some x else find (begins_at (key new)) ds) ≡ None
        → (find (begins_at k) ds ≡ Some d → find (begins_at (key new)) ds ≡ None
        → find (begins_at (key new)) (add_after k new ds) ≡ Some new)
        → find (begins_at (key new)) (if b then touch_last x ∷ new ∷ ds else x ∷ add_after k new ds) ≡ Some new
    go b is true at nothing later = cc
    go true is false at nothing later = grind (
      arith,
      begins_same (key new) x (touch_last x) (keeps_touch_last x).pairs,
      (same_pair_decides (key new) (key new)).1 refl,
    )
    go false is false at nothing later = grind (arith, later is nothing)

pub add_found : (k : Pair) (new : Directory) (ds : List Directory) → count_by (begins_at k) ds ≡ 1 → count_by (begins_at (key new)) ds ≡ 0
    → find (begins_at (key new)) (add_after k new ds) ≡ Some new
add_found k new ds once fresh = let found = found_one (begins_at k) ds once in
    new_found k new ds found.0 found.1 (none_counted (begins_at (key new)) ds fresh)

edges_added : (k : Pair) (new : Directory) (ds : List Directory) (j : Pair) (m : Name) → entries new ≡ []
    → (begins_at j new ≡ true → find (begins_at j) ds ≡ None)
    → entry_in (add_after k new ds) j m ≡ entry_in ds j m
unfolding add_after
edges_added k new [] j m empty fresh = refl
edges_added k new (d ∷ ds) j m empty fresh =
    let fresh_later : begins_at j new ≡ true → find (begins_at j) ds ≡ None = λ at. none_later (begins_at j) d ds (fresh at) in
    go (begins_at k d) fresh_later (edges_added k new ds j m empty fresh_later)
  where
    go : (b : Bool) → (begins_at j new ≡ true → find (begins_at j) ds ≡ None) → entry_in (add_after k new ds) j m ≡ entry_in ds j m
        → entry_in (if b then touch_last d ∷ new ∷ ds else d ∷ add_after k new ds) j m ≡ entry_in (d ∷ ds) j m
    go true at later = same_first_entries j m d (touch_last d) ds (new ∷ ds) (keeps_touch_last d).pairs (entries_touch_last d)
        (empty_first j m new ds empty at)
    go false at later = same_first_entries j m d d ds (add_after k new ds) refl refl later

pub add_edges : (k : Pair) (new : Directory) (ds : List Directory) → entries new ≡ [] → count_by (begins_at (key new)) ds ≡ 0
    → (j : Pair) (m : Name)
    → entry_in (add_after k new ds) j m ≡ entry_in ds j m
add_edges k new ds empty fresh j m =
    edges_added k new ds j m empty (λ at. ap (λ (p : Pair). find (begins_at p) ds) ((same_pair_decides j (key new)).0 at)
    ∙ none_counted (begins_at (key new)) ds fresh)

-- ---- order and limits

All-added : (P : Directory → Type 0) (k : Pair) (new : Directory) (ds : List Directory) → ((x : Directory) → P x → P (touch_last x)) → P new
    → All P ds → All P (add_after k new ds)
unfolding add_after
All-added P k new [] keeps this all = all
All-added P k new (d ∷ ds) keeps this all = go (begins_at k d) (All-added P k new ds keeps this (All-tail P d ds all))
  where
    go : (b : Bool) → All P (add_after k new ds) → All P (if b then touch_last d ∷ new ∷ ds else d ∷ add_after k new ds)
    go true later = All-cons P (touch_last d) (new ∷ ds) (keeps d (All-head P d ds all)) (All-cons P new ds this (All-tail P d ds all))
    go false later = All-cons P d (add_after k new ds) (All-head P d ds all) later

pub add_good : (limits : Limits) (k : Pair) (new : Directory) (ds : List Directory) → entries new ≡ [] → AreGood limits ds
    → AreGood limits (add_after k new ds)
add_good limits k new ds empty good = record {
  order = All-added (λ (d : Directory). Rise (entries d)) k new ds (λ d rise. subst Rise (sym (entries_touch_last d)) rise)
      (subst Rise (sym empty) tt) good.order;
  proper = All-added (λ (d : Directory). All (IsProper limits) (entries d)) k new ds
      (λ d all. subst (All (IsProper limits)) (sym (entries_touch_last d)) all)
      (subst (All (IsProper limits)) (sym empty) (All-nil (IsProper limits))) good.proper;
}
