-- The sizes that logs state, from byte to byte.
use Rattle.std.proofs.Common.{◌≡◌, ℕ, suc, ◌+◌, ◌-◌, ◌<◌, ◌≤◌, Bool, true, false, List, [], ◌∷◌, ◌++◌, length, drop, Option, Some, None, refl, ap, sym, ◌∙◌, arith, length-append}
use Rattle.std.specs.Prelude.{◌==◌, ◌&&◌, not, nat_lt, if◌then◌else◌}
use Rattle.std.specs.List.{list_any}
use Rattle.std.proofs.lemmas.Bool.Decides.{nat_tests}
use Rattle.lfs_find.specs.Place.{log_begins}
use Rattle.lfs_find.specs.Sizes.{log_size, may_look, sizes_from, with_size}

module _ (bytes : List ℕ) (at spent : ℕ) (sizes : List ℕ) (within : at < length bytes) where
  byte_more : sizes_from bytes (length bytes - at) spent sizes
      ≡ (if log_begins (drop at bytes) && may_look at spent
      then sizes_from bytes (length bytes - (at + 1)) (spent + 1) (with_size sizes (log_size (drop at bytes)))
      else sizes_from bytes (length bytes - (at + 1)) spent sizes)
  byte_more =
      let next : length bytes - at ≡ suc (length bytes - (at + 1)) = omega arith in
      let here_is : length bytes - suc (length bytes - (at + 1)) ≡ at = omega arith in
      ap (λ (n : ℕ). sizes_from bytes n spent sizes) next
      ∙ ap (λ (x : ℕ). if log_begins (drop x bytes) && may_look x spent
      then sizes_from bytes (length bytes - (at + 1)) (spent + 1) (with_size sizes (log_size (drop x bytes)))
      else sizes_from bytes (length bytes - (at + 1)) spent sizes) here_is

  pub looked_more : (log_begins (drop at bytes) && may_look at spent) ≡ true
      → sizes_from bytes (length bytes - (at + 1)) (spent + 1) (with_size sizes (log_size (drop at bytes)))
      ≡ sizes_from bytes (length bytes - at) spent sizes
  looked_more looks = sym (byte_more
      ∙ ap (λ (b : Bool). if b then sizes_from bytes (length bytes - (at + 1)) (spent + 1) (with_size sizes (log_size (drop at bytes)))
      else sizes_from bytes (length bytes - (at + 1)) spent sizes) looks)

  pub passed_more : (log_begins (drop at bytes) && may_look at spent) ≡ false
      → sizes_from bytes (length bytes - (at + 1)) spent sizes ≡ sizes_from bytes (length bytes - at) spent sizes
  passed_more looks = sym (byte_more
      ∙ ap (λ (b : Bool). if b then sizes_from bytes (length bytes - (at + 1)) (spent + 1) (with_size sizes (log_size (drop at bytes)))
      else sizes_from bytes (length bytes - (at + 1)) spent sizes) looks)

by_room : (b c : Bool) (sizes : List ℕ) (size : ℕ) → length sizes ≤ 16 → (b ≡ true → length sizes < 16)
    → length (if b && c then sizes ++ size ∷ [] else sizes) ≤ 16
by_room true true sizes size few room = omega (arith, length-append sizes (size ∷ []), room refl)
by_room true false sizes size few room = few
by_room false c sizes size few room = few

-- they are few
pub few_more : (sizes : List ℕ) (size : Option ℕ) → length sizes ≤ 16 → length (with_size sizes size) ≤ 16
few_more sizes None few = few
few_more sizes (Some size) few =
    by_room (nat_lt (length sizes) 16) (not (list_any (λ s. s == size) sizes)) sizes size few (λ less. grind (arith, nat_tests))
