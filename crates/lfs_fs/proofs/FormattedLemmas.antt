-- A volume with the root alone is sound, and all blocks but the root's two are free.
use Rattle.std.proofs.Common.{◌≡◌, ℕ, ◌+◌, ◌-◌, ◌<◌, ◌≤◌, ◌==◌, true, [], ◌∷◌, refl, ap, arith, zero, suc}
use Rattle.std.specs.List.{filter, range_with_len, All}
use Rattle.std.proofs.lemmas.List.Elements.{All-cons, All-nil}
use Rattle.std.proofs.lemmas.Bool.Decides.{nat_tests}
use Rattle.lfs_meta.specs.Attribute.{Attributes}
use Rattle.lfs_fs.specs.declared.limits.Limits.{Limits}
use Rattle.lfs_fs.specs.Pair.{root}
use Rattle.lfs_fs.specs.Directory.{Directory, entries, key}
use Rattle.lfs_fs.specs.Tree.{top, Reached}
use Rattle.lfs_fs.specs.Uses.{uses}
use Rattle.lfs_fs.specs.Free.{free_blocks}
use Rattle.lfs_fs.specs.Sound.{IsSound, IsProper, AreAttributes, Rise}
use Rattle.lfs_fs.specs.Formatted.{empty_volume}

uses_once : (size count b : ℕ) (l : Limits) (a : Attributes) → uses b (empty_volume size count l a) ≤ 1
uses_once size count b l a = grind (arith, nat_tests)

uses_within : (size count b : ℕ) (l : Limits) (a : Attributes) → 2 ≤ count → 0 < uses b (empty_volume size count l a) → b < count
uses_within size count b l a h used = grind (arith, nat_tests)

-- the root is reached by the empty path
root_is_reached : (size count : ℕ) (l : Limits) (a : Attributes) → Reached (empty_volume size count l a) root
root_is_reached size count l a = ([], top (empty_volume size count l a), refl, refl)

all_of_one : {X : Type 0} (P : X → Type 0) (x : X) → P x → All P (x ∷ [])
all_of_one P x h = All-cons P x [] h (All-nil P)

pub empty_is_sound : (size count : ℕ) (l : Limits) (a : Attributes) → 2 ≤ count → AreAttributes l.attribute a
    → IsSound (empty_volume size count l a)
empty_is_sound size count l a h attributes = record {
  starts = refl;
  order = all_of_one (λ (d : Directory). Rise (entries d)) _ tt;
  proper = all_of_one (λ (d : Directory). All (IsProper l) (entries d)) _ (All-nil (IsProper l));
  root_attributes = attributes;
  once = λ b. uses_once size count b l a;
  within = λ b used. uses_within size count b l a h used;
  names = λ k. omega arith;
  reached = all_of_one (λ (d : Directory). Reached (empty_volume size count l a) (key d)) _ (root_is_reached size count l a);
  settled = refl;
}

uses_past : (size count b : ℕ) (l : Limits) (a : Attributes) → 2 ≤ b → (uses b (empty_volume size count l a) == 0) ≡ true
uses_past size count b l a h = grind (arith, nat_tests)

-- from block 2 on, all are free
rest_is_free : (size count from n : ℕ) (l : Limits) (a : Attributes) → 2 ≤ from
    → filter (λ b. uses b (empty_volume size count l a) == 0) (range_with_len from n) ≡ range_with_len from n
rest_is_free size count from zero l a h = refl
rest_is_free size count from (suc n) l a h =
    let h' : 2 ≤ from + 1 = omega arith in
    rw (uses_past size count from l a h) (ap (λ x. from ∷ x) (rest_is_free size count (from + 1) n l a h'))

pub empty_leaves_the_rest : (size count : ℕ) (l : Limits) (a : Attributes) → 2 ≤ count
    → free_blocks (empty_volume size count l a) ≡ range_with_len 2 (count - 2)
empty_leaves_the_rest size zero l a h = absurd (omega arith)
empty_leaves_the_rest size (suc zero) l a h = absurd (omega arith)
empty_leaves_the_rest size (suc (suc n)) l a h =
    let rest : suc (suc n) - 2 ≡ n = omega arith in
    rw rest (rest_is_free size (suc (suc n)) 2 n l a (omega arith))
