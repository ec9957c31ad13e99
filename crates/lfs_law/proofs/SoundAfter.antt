-- An edit whose counts come out even leaves a sound volume.
use Rattle.std.proofs.Common.{◌≡◌, ◌⊎◌, ℕ, ◌+◌, ◌<◌, ◌≤◌, Bool, true, false, cond, List, [], ◌∷◌, refl, sym, ◌∙◌, subst, arith, get_or}
use Rattle.std.proofs.Common.{zero, suc}
use Rattle.std.specs.Prelude.{All, Contains, sum_by, count_by}
use Rattle.std.proofs.lemmas.Bool.Decides.{nat_tests}
use Rattle.std.proofs.lemmas.List.{get_or_default}
use Rattle.std.proofs.lemmas.List.Elements.{All-head, All-tail}
use Rattle.std.proofs.lemmas.List.Sums.{sum_by-cons, get_or-le-sum_by}
use mathlib.Core.Logic.{inl, inr}
use Rattle.lfs_meta.specs.Body.{Pair}
use Rattle.lfs_fs.specs.Directory.{Directory, key, begins_at}
use Rattle.lfs_fs.specs.Volume.{Volume}
use Rattle.lfs_fs.specs.Tree.{Reached}
use Rattle.lfs_fs.specs.Uses.{directory_uses, uses}
use Rattle.lfs_fs.specs.Sound.{IsSound, AreAttributes}
use Rattle.lfs_law.proofs.Decided.{same_pair_decides}
use Rattle.lfs_law.proofs.OnePath.{one_directory}
use Rattle.lfs_law.proofs.Effect.{Counts, Effect, AreGood}

-- ---- directories that are counted

-- a directory of the list is counted at its key
pub counted : (ds : List Directory) (d : Directory) → Contains ds d → 0 < count_by (begins_at (key d)) ds
counted ds d (i, within, is) =
    let one = get_or-le-sum_by (λ (e : Directory). cond (begins_at (key d) e) 1 0) ds i d within in
    let this : begins_at (key d) (get_or ds i d) ≡ true = subst (λ (e : Directory). begins_at (key d) e ≡ true) (sym is)
    ((same_pair_decides (key d) (key d)).1 refl) in
    let is_one : cond {A = ℕ} (begins_at (key d) (get_or ds i d)) 1 0 ≡ 1 = rw this refl in
    omega arith

counted_by : (t : Bool) (k : Pair) (e : Directory) (ds : List Directory) → begins_at k e ≡ t → 0 < count_by (begins_at k) (e ∷ ds)
    → (t ≡ true) ⊎ (0 < count_by (begins_at k) ds)
counted_by true k e ds is h = inl refl
counted_by false k e ds is h =
    let zero : cond {A = ℕ} (begins_at k e) 1 0 ≡ 0 = rw is refl in
    inr (omega (arith, sum_by-cons (λ (x : Directory). cond (begins_at k x) 1 0) e ds))

-- what holds of the keys of directories holds of a pair at which one is counted
pub at_counted : (P : Pair → Type 0) (k : Pair) (ds : List Directory) → All (λ d. P (key d)) ds → 0 < count_by (begins_at k) ds → P k
at_counted P k [] all h = let no : ⊥ = omega arith in absurd no
at_counted P k (d ∷ ds) all h =
    elim (counted_by (begins_at k d) k d ds refl h) [
      | inl here ↦ subst P (sym ((same_pair_decides k (key d)).0 here)) (All-head (λ d. P (key d)) d ds all)
      | inr later ↦ at_counted P k ds (All-tail (λ d. P (key d)) d ds all) later
    ]

-- ---- the volume after an edit

-- The counts come out even: a block that comes was free or goes, a directory that comes is named, one that goes was.
pub record IsEven (v w : Volume) (gone came : Counts) : Type 0 where
  pub once : (b : ℕ) → uses b v + came.uses b ≤ 1 + gone.uses b
  pub within : (b : ℕ) → gone.uses b < came.uses b → b < v.count
  pub names : (k : Pair) → came.names k + gone.directories k ≡ gone.names k + came.directories k
  pub stay : (k : Pair) → gone.directories k ≡ 0 → Reached v k → Reached w k
  pub come : (k : Pair) → 0 < came.directories k → Reached w k

reached_at : (v w : Volume) (gone came : Counts) → IsSound v → Effect gone came v.directories w.directories → IsEven v w gone came
    → (k : Pair) → 0 < count_by (begins_at k) w.directories → (n : ℕ) → came.directories k ≡ n → Reached w k
reached_at v w gone came sound effect even k there zero none =
    let one = one_directory v sound k in
    let balance = effect.directories k in
    let stays : gone.directories k ≡ 0 = omega arith in
    even.stay k stays (at_counted (Reached v) k v.directories sound.reached (omega arith))
reached_at v w gone came sound effect even k there (suc n) some = even.come k (omega arith)

pub sound_after : (v w : Volume) (gone came : Counts) → IsSound v → Effect gone came v.directories w.directories
    → AreGood w.limits w.directories
    → AreAttributes w.limits.attribute w.attributes → w.count ≡ v.count → IsEven v w gone came → IsSound w
sound_after v w gone came sound effect good attributes count even = record {
  starts = effect.starts sound.starts;
  order = good.order;
  proper = good.proper;
  root_attributes = attributes;
  once = λ b. let after = effect.uses b in let even' = even.once b in let before : uses b v ≡ sum_by (directory_uses b) v.directories =
      refl in omega arith;
  within = λ b used. within_by b used;
  names = λ k.
      let after = effect.names k in let dirs = effect.directories k in let before = sound.names k in let even' = even.names k in
      omega arith;
  reached = λ i d within. reached_at v w gone came sound effect even (key (get_or w.directories i d))
      (counted w.directories (get_or w.directories i d) (i, within, get_or_default w.directories i (get_or w.directories i d) d within))
      (came.directories (key (get_or w.directories i d))) refl;
  settled = effect.delta ∙ sound.settled;
}
  where
    within_cases : (b : ℕ) → 0 < uses b w → (0 < uses b v) ⊎ (gone.uses b < came.uses b)
    within_cases b used = let after = effect.uses b in grind (arith, nat_tests, after)

    within_by : (b : ℕ) → 0 < uses b w → b < w.count
    within_by b used = subst (λ n. b < n) (sym count) (elim (within_cases b used)
        [ inl before ↦ sound.within b before | inr comes ↦ even.within b comes ])
