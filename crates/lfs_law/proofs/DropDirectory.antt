-- A directory taken out: what stands under each name, the effect, order and limits.
use Rattle.std.proofs.Common.{◌≡◌, ℕ, ◌+◌, Bool, true, false, List, [], ◌∷◌, refl, ap, sym, ◌∙◌, subst, arith, Some, None}
use Rattle.std.specs.Prelude.{All, cond, if◌then◌else◌, sum_by, count_by, find, bit_xor}
use Rattle.std.specs.Int.Bits.{xor_assoc}
use Rattle.std.proofs.lemmas.List.Sums.{sum_by-cons}
use Rattle.std.proofs.lemmas.List.Elements.{All-cons, All-head, All-tail}
use Rattle.lfs_meta.specs.Name.{Name}
use Rattle.lfs_meta.specs.Body.{Pair}
use Rattle.lfs_fs.specs.declared.limits.Limits.{Limits}
use Rattle.lfs_fs.specs.Pair.{root, unordered}
use Rattle.lfs_fs.specs.Entry.{Entry, target}
use Rattle.lfs_fs.specs.Directory.{Directory, parts, entries, key, begins_at, thread}
use Rattle.lfs_fs.specs.Tree.{entry_in}
use Rattle.lfs_fs.specs.Uses.{entry_uses, directory_uses}
use Rattle.lfs_fs.specs.Named.{leads_to, names_of}
use Rattle.lfs_fs.specs.State.{delta_of}
use Rattle.lfs_fs.specs.Sound.{StartsAtRoot, Rise, IsProper}
use Rattle.lfs_command.specs.DirectoryEdit.{absorb}
use Rattle.lfs_command.specs.ThreadEdit.{take_out, drop_directory}
use Rattle.lfs_law.proofs.Decided.{same_pair_decides}
use Rattle.lfs_law.proofs.Effect.{none, of_directory, Effect, AreGood}
use Rattle.lfs_law.proofs.OneElement.{none_counted, count_cases}
use Rattle.lfs_law.proofs.DirectoryEdits.{begins_same, first_same, pair_uses_same, entries_absorb, pairs_absorb, delta_absorb, delta_append}
use Rattle.lfs_law.proofs.InDirectory.{same_first_entries, empty_first}

-- ---- behind a directory d

sum_taken : (g : Directory → ℕ) (k : Pair) (d : Directory) (ds : List Directory) (gone : Directory)
    → ((x y : Directory) → g (absorb x y) ≡ g x) → find (begins_at k) ds ≡ Some gone
    → sum_by g (take_out k d ds) + g gone ≡ sum_by g (d ∷ ds)
unfolding take_out
sum_taken g k d [] gone same found = cc
sum_taken g k d (e ∷ ds) gone same found = go (begins_at k e) found (sum_taken g k e ds gone same)
  where
    go : (b : Bool) → (if b then Some e else find (begins_at k) ds) ≡ Some gone
        → (find (begins_at k) ds ≡ Some gone → sum_by g (take_out k e ds) + g gone ≡ sum_by g (e ∷ ds))
        → sum_by g (if b then absorb d e ∷ ds else d ∷ take_out k e ds) + g gone ≡ sum_by g (d ∷ e ∷ ds)
    go true is later =
        let this : g e ≡ g gone = cc in
        omega (arith, same d e, this, sum_by-cons g (absorb d e) ds, sum_by-cons g d (e ∷ ds), sum_by-cons g e ds)
    go false is later = omega (arith, later is, sum_by-cons g d (take_out k e ds), sum_by-cons g d (e ∷ ds))

delta_taken : (k : Pair) (d : Directory) (ds : List Directory) → delta_of (thread (take_out k d ds)) ≡ delta_of (thread (d ∷ ds))
unfolding take_out
delta_taken k d [] = refl
delta_taken k d (e ∷ ds) = go (begins_at k e) (delta_taken k e ds)
  where
    go : (b : Bool) → delta_of (thread (take_out k e ds)) ≡ delta_of (thread (e ∷ ds))
        → delta_of (thread (if b then absorb d e ∷ ds else d ∷ take_out k e ds)) ≡ delta_of (thread (d ∷ e ∷ ds))
    go true later =
        delta_append (parts (absorb d e)) (thread ds)
        ∙ ap (λ (x : ℕ). bit_xor x (delta_of (thread ds))) (delta_absorb d e)
        ∙ xor_assoc (delta_of (parts d)) (delta_of (parts e)) (delta_of (thread ds))
        ∙ ap (bit_xor (delta_of (parts d))) (sym (delta_append (parts e) (thread ds)))
        ∙ sym (delta_append (parts d) (thread (e ∷ ds)))
    go false later = delta_append (parts d) (thread (take_out k e ds)) ∙ ap (bit_xor (delta_of (parts d))) later
        ∙ sym (delta_append (parts d) (thread (e ∷ ds)))

starts_taken : (k : Pair) (d : Directory) (ds : List Directory) → d.first.pair ≡ root → StartsAtRoot (take_out k d ds)
unfolding take_out
starts_taken k d [] starts = starts
starts_taken k d (e ∷ ds) starts = go (begins_at k e)
  where
    go : (b : Bool) → StartsAtRoot (if b then absorb d e ∷ ds else d ∷ take_out k e ds)
    go true = first_same d (absorb d e) (pairs_absorb d e) ∙ starts
    go false = starts

All-taken : (P : Directory → Type 0) (k : Pair) (d : Directory) (ds : List Directory) → ((x y : Directory) → P x → P (absorb x y)) → P d
    → All P ds → All P (take_out k d ds)
unfolding take_out
All-taken P k d [] keeps this all = All-cons P d [] this all
All-taken P k d (e ∷ ds) keeps this all = go (begins_at k e) (All-taken P k e ds keeps (All-head P e ds all) (All-tail P e ds all))
  where
    go : (b : Bool) → All P (take_out k e ds) → All P (if b then absorb d e ∷ ds else d ∷ take_out k e ds)
    go true later = All-cons P (absorb d e) ds (keeps d e this) (All-tail P e ds all)
    go false later = All-cons P d (take_out k e ds) this later

edges_taken : (k : Pair) (d : Directory) (ds : List Directory) (gone : Directory) (j : Pair) (m : Name) → find (begins_at k) ds ≡ Some gone
    → entries gone ≡ [] → count_by (begins_at k) ds ≡ 1
    → entry_in (take_out k d ds) j m ≡ entry_in (d ∷ ds) j m
unfolding take_out
edges_taken k d [] gone j m found empty once = refl
edges_taken k d (e ∷ ds) gone j m found empty once = go (begins_at k e) refl found (edges_taken k e ds gone j m)
  where
    go : (b : Bool) → begins_at k e ≡ b → (if b then Some e else find (begins_at k) ds) ≡ Some gone
        → (find (begins_at k) ds ≡ Some gone → entries gone ≡ [] → count_by (begins_at k) ds ≡ 1
        → entry_in (take_out k e ds) j m ≡ entry_in (e ∷ ds) j m)
        → entry_in (if b then absorb d e ∷ ds else d ∷ take_out k e ds) j m ≡ entry_in (d ∷ e ∷ ds) j m
    go true at is later =
        let this : e ≡ gone = cc in
        let alone : find (begins_at k) ds ≡ None = none_counted (begins_at k) ds (grind (arith, count_cases (begins_at k) e ds)) in
        let fresh : begins_at j e ≡ true → find (begins_at j) ds ≡ None =
        λ here. ap (λ (p : Pair). find (begins_at p) ds) ((same_pair_decides j (key e)).0 here ∙ sym ((same_pair_decides k (key e)).0 at))
        ∙ alone in
        same_first_entries j m d (absorb d e) (e ∷ ds) ds (pairs_absorb d e) (entries_absorb d e)
        (sym (empty_first j m e ds (ap entries this ∙ empty) fresh))
    go false at is later = same_first_entries j m d d (e ∷ ds) (take_out k e ds) refl refl
        (later is empty (grind (arith, count_cases (begins_at k) e ds)))

-- ---- in a volume

-- another directory than the first
behind_first : (k : Pair) (d : Directory) → (k ≡ root → ⊥) → d.first.pair ≡ root → begins_at k d ≡ false
behind_first k d other starts = go (begins_at k d) refl
  where
    go : (b : Bool) → begins_at k d ≡ b → b ≡ false
    go true is = absurd (other ((same_pair_decides k (unordered d.first.pair)).0 is ∙ ap unordered starts))
    go false is = refl

-- its directory is found behind the first one
found_behind : (k : Pair) (d : Directory) (ds : List Directory) (gone : Directory) → (k ≡ root → ⊥) → d.first.pair ≡ root
    → find (begins_at k) (d ∷ ds) ≡ Some gone → find (begins_at k) ds ≡ Some gone
found_behind k d ds gone other starts found = grind (arith, behind_first k d other starts)

counted_behind : (k : Pair) (d : Directory) (ds : List Directory) → (k ≡ root → ⊥) → d.first.pair ≡ root
    → count_by (begins_at k) (d ∷ ds) ≡ 1 → count_by (begins_at k) ds ≡ 1
counted_behind k d ds other starts once = grind (arith, behind_first k d other starts, count_cases (begins_at k) d ds)

pub drop_effect : (k : Pair) (gone : Directory) (ds : List Directory) → (k ≡ root → ⊥) → StartsAtRoot ds → find (begins_at k) ds ≡ Some gone
    → Effect (of_directory gone) none ds (drop_directory k ds)
drop_effect k gone [] other starts found = absurd starts
drop_effect k gone (d ∷ ds) other starts found =
    let there = found_behind k d ds gone other starts found in
    record {
      uses = λ b.
          let same : (x y : Directory) → directory_uses b (absorb x y) ≡ directory_uses b x =
          λ x y. omega (arith, pair_uses_same b x (absorb x y) (pairs_absorb x y), ap (sum_by (entry_uses b)) (entries_absorb x y)) in
          omega (arith, sum_taken (directory_uses b) k d ds gone same there);
      names = λ j. omega (
        arith,
        sum_taken (names_of j) k d ds gone (λ x y.
            ap (sum_by (λ (e : Entry). leads_to j (target e))) (entries_absorb x y)) there,
      );
      directories = λ j.
          let same : (x y : Directory) → cond {A = ℕ} (begins_at j (absorb x y)) 1 0 ≡ cond (begins_at j x) 1 0 =
          λ x y. ap (λ (b : Bool). cond {A = ℕ} b 1 0) (begins_same j x (absorb x y) (pairs_absorb x y)) in
          omega (
            arith,
            sum_taken (λ (x : Directory). cond {A = ℕ} (begins_at j x) 1 0) k d ds gone same there,
            sum_by-cons (λ (x : Directory). cond {A = ℕ} (begins_at j x) 1 0) gone [],
          );
      starts = starts_taken k d ds;
      delta = delta_taken k d ds;
    }

pub drop_edges : (k : Pair) (gone : Directory) (ds : List Directory) → (k ≡ root → ⊥) → StartsAtRoot ds → find (begins_at k) ds ≡ Some gone
    → entries gone ≡ [] → count_by (begins_at k) ds ≡ 1
    → (j : Pair) (m : Name) → entry_in (drop_directory k ds) j m ≡ entry_in ds j m
drop_edges k gone [] other starts found empty once j m = refl
drop_edges k gone (d ∷ ds) other starts found empty once j m =
    edges_taken k d ds gone j m (found_behind k d ds gone other starts found) empty (counted_behind k d ds other starts once)

pub drop_good : (limits : Limits) (k : Pair) (ds : List Directory) → AreGood limits ds → AreGood limits (drop_directory k ds)
drop_good limits k [] good = good
drop_good limits k (d ∷ ds) good =
    let rises : Directory → Type 0 = λ (x : Directory). Rise (entries x) in
    let fits : Directory → Type 0 = λ (x : Directory). All (IsProper limits) (entries x) in
    record {
      order = All-taken rises k d ds (λ x y rise. subst Rise (sym (entries_absorb x y)) rise) (All-head rises d ds good.order)
          (All-tail rises d ds good.order);
      proper = All-taken fits k d ds (λ x y all. subst (All (IsProper limits)) (sym (entries_absorb x y)) all)
          (All-head fits d ds good.proper) (All-tail fits d ds good.proper);
    }
