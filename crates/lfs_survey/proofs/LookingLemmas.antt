-- Pairs that are looked at, one after another.
use Rattle.std.proofs.Common.{◌≡◌, ◌≢◌, ℕ, ◌+◌, ◌<◌, ◌≤◌, ◌&&◌, ◌==◌, Bool, true, false, List, [], ◌∷◌, zero, suc, length, refl, ap, ◌∙◌, arith, cond, get_or}
use Rattle.std.specs.Prelude.{not, slice_index_or, slice_set, if◌then◌else◌}
use Rattle.std.proofs.lemmas.Bool.Decides.{nat_tests}
use Rattle.std.proofs.lemmas.List.{get_or_past, get_or-set_other, length-set}
use Rattle.std.proofs.lemmas.List.Sums.{sum_by-set}
use Rattle.lfs_block.specs.Disk.{Disk}
use Rattle.lfs_block.specs.declared.mount_fault.MountFault.{MountFault}
use Rattle.lfs_block.specs.declared.mount_fault.MountFault.TheVariants.{BlockRange, BlockTwice}
use Rattle.lfs_meta.specs.Body.{Pair}
use Rattle.lfs_fs.specs.Used.{unmarked}
use Rattle.lfs_survey.specs.Looking.{Grows, IsRefused, IsTurned, is_open, looked_at, looked_behind}

-- why a pair is turned away is why it isn't read
pub turned_refused : (d : Disk) (looked : List Bool) (pair : Pair) (fault : MountFault) → is_open looked pair ≡ false
    → IsTurned d.count pair fault → IsRefused d looked pair fault
turned_refused d looked pair BlockRange shut turned = turned
turned_refused d looked pair BlockTwice shut turned = (turned.0, turned.1, shut)
turned_refused d looked pair _ shut turned = absurd turned

-- ---- one block

pub closed_within : (looked : List Bool) (b : ℕ) → slice_index_or looked b true ≡ false → b < length looked
closed_within looked b is = grind (arith, nat_tests, get_or_past looked b true)

pub mark_fewer : (looked : List Bool) (b : ℕ) → slice_index_or looked b true ≡ false → unmarked (slice_set looked b true) + 1 ≡ unmarked looked
mark_fewer looked b is =
    let within = closed_within looked b is in
    let all = sum_by-set (λ (u : Bool). cond (not u) 1 0) looked b true true within in
    let old : cond {A = ℕ} (not (get_or looked b true)) 1 0 ≡ 1 = rw is refl in
    omega arith

pub mark_grows : (looked : List Bool) (b : ℕ) → Grows looked (slice_set looked b true)
mark_grows [] b n is = is
mark_grows (x ∷ xs) zero zero is = refl
mark_grows (x ∷ xs) zero (suc n) is = is
mark_grows (x ∷ xs) (suc b) zero is = is
mark_grows (x ∷ xs) (suc b) (suc n) is = mark_grows xs b n is

mark_closes : (looked : List Bool) (b : ℕ) → slice_index_or (slice_set looked b true) b true ≡ true
mark_closes [] b = refl
mark_closes (x ∷ xs) zero = refl
mark_closes (x ∷ xs) (suc b) = mark_closes xs b

-- ---- a pair

open_first : (x y : Bool) → (not x && not y) ≡ true → x ≡ false
open_first true y is = absurd (cc)
open_first false y is = refl

open_second : (x y : Bool) → (not x && not y) ≡ true → y ≡ false
open_second true y is = absurd (cc)
open_second false true is = absurd (cc)
open_second false false is = refl

shut_by : (x y : Bool) → x ≡ true → (not x && not y) ≡ false
shut_by true y is = refl
shut_by false y is = absurd (cc)

shut_more : (x y v w : Bool) → (x ≡ true → v ≡ true) → (y ≡ true → w ≡ true) → (not x && not y) ≡ false → (not v && not w) ≡ false
shut_more true y false false first second is = absurd (let no = first refl in cc)
shut_more false true false false first second is = absurd (let no = second refl in cc)
shut_more false false false false first second is = absurd (cc)
shut_more x y false true first second is = refl
shut_more x y true w first second is = refl

-- a pair that isn't open stays so
pub grows_shut : (a b : List Bool) (pair : Pair) → Grows a b → is_open a pair ≡ false → is_open b pair ≡ false
grows_shut a b pair grows is = shut_more _ _ _ _ (grows pair.0) (grows pair.1) is

-- what was looked at behind two steps
pub grows_then : (a b e : List Bool) → Grows a b → Grows b e → Grows a e
grows_then a b e first later n is = later n (first n is)

module _ (looked : List Bool) (pair : Pair) where
  abbrev at_by : Bool → List Bool
  at_by t = if t then slice_set looked pair.0 true else slice_set (slice_set looked pair.0 true) pair.1 true

  fewer_by : (t : Bool) → (pair.0 == pair.1) ≡ t → is_open looked pair ≡ true → unmarked (at_by t) + 1 ≤ unmarked looked
  fewer_by true same is = let one = mark_fewer looked pair.0 (open_first _ _ is) in omega arith
  fewer_by false same is =
      let apart : pair.1 ≢ pair.0 = grind (arith, nat_tests) in
      let one = mark_fewer looked pair.0 (open_first _ _ is) in
      let still : slice_index_or (slice_set looked pair.0 true) pair.1 true ≡ false =
      get_or-set_other looked pair.0 pair.1 true true apart ∙ open_second (slice_index_or looked pair.0 true) _ is in
      let two = mark_fewer (slice_set looked pair.0 true) pair.1 still in
      omega arith

  grows_by : (t : Bool) → Grows looked (at_by t)
  grows_by true = mark_grows looked pair.0
  grows_by false = grows_then looked (slice_set looked pair.0 true) (at_by false) (mark_grows looked pair.0)
      (mark_grows (slice_set looked pair.0 true) pair.1)

  first_by : (t : Bool) → slice_index_or (at_by t) pair.0 true ≡ true
  first_by true = mark_closes looked pair.0
  first_by false = mark_grows (slice_set looked pair.0 true) pair.1 pair.0 (mark_closes looked pair.0)

  len_by : (t : Bool) → length (at_by t) ≡ length looked
  len_by true = length-set looked pair.0 true
  len_by false = length-set (slice_set looked pair.0 true) pair.1 true ∙ length-set looked pair.0 true

  abbrev behind_by : Bool → List Bool
  behind_by t = if t then looked_at looked pair else looked

  -- a pair's blocks that are looked at leave fewer
  behind_fewer_by : (t : Bool) → is_open looked pair ≡ t → unmarked (behind_by t) + cond t 1 0 ≤ unmarked looked
  behind_fewer_by true is = fewer_by (pair.0 == pair.1) refl is
  behind_fewer_by false is = omega arith

  behind_grows_by : (t : Bool) → Grows looked (behind_by t)
  behind_grows_by true = grows_by (pair.0 == pair.1)
  behind_grows_by false = λ n is. is

  behind_len_by : (t : Bool) → length (behind_by t) ≡ length looked
  behind_len_by true = len_by (pair.0 == pair.1)
  behind_len_by false = refl

  behind_shut_by : (t : Bool) → is_open looked pair ≡ t → is_open (behind_by t) pair ≡ false
  behind_shut_by true is = shut_by _ _ (first_by (pair.0 == pair.1))
  behind_shut_by false is = is

-- ---- behind a pair

pub look_fewer : (looked new : List Bool) (pair : Pair) → is_open looked pair ≡ true → new ≡ looked_at looked pair
    → unmarked new + cond (is_open looked pair) 1 0 ≤ unmarked looked
look_fewer looked new pair is marks =
    let one : unmarked (looked_at looked pair) + 1 ≤ unmarked looked = fewer_by looked pair (pair.0 == pair.1) refl is in
    let same : cond {A = ℕ} (is_open looked pair) 1 0 ≡ 1 = ap (λ (t : Bool). cond {A = ℕ} t 1 0) is in
    let table = ap unmarked marks in
    omega arith

pub behind_fewer : (looked : List Bool) (pair : Pair) → unmarked (looked_behind looked pair) + cond (is_open looked pair) 1 0 ≤ unmarked looked
behind_fewer looked pair = behind_fewer_by looked pair (is_open looked pair) refl

pub behind_grows : (looked : List Bool) (pair : Pair) → Grows looked (looked_behind looked pair)
behind_grows looked pair = behind_grows_by looked pair (is_open looked pair)

pub behind_len : (looked : List Bool) (pair : Pair) → length (looked_behind looked pair) ≡ length looked
behind_len looked pair = behind_len_by looked pair (is_open looked pair)

pub behind_shut : (looked : List Bool) (pair : Pair) → is_open (looked_behind looked pair) pair ≡ false
behind_shut looked pair = behind_shut_by looked pair (is_open looked pair) refl
