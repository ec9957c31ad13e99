-- The last superblock along hard tails, and the sizes that are looked at.
use Rattle.std.proofs.Common.{◌≡◌, ◌⊎◌, inl, inr, ℕ, suc, ◌+◌, ◌<◌, ◌%◌, Bool, true, false, List, Option, Some, None, refl, ap, sym, subst, arith}
use Rattle.std.specs.Prelude.{if◌then◌else◌}
use Rattle.std.specs.Option.{option_or}
use Rattle.std.proofs.lemmas.Bool.{cases_order}
use Rattle.lfs_block.specs.Disk.{Disk}
use Rattle.lfs_block.specs.Geometry.{IsGeometry, is_geometry}
use Rattle.lfs_block.proofs.GeometryTests.{geometry_true}
use Rattle.lfs_meta.specs.Body.{Pair}
use Rattle.lfs_lower.specs.Beginning.{begins_with, last_along, lead, stating, superblock_in, superblock_of, told_at}
use Rattle.lfs_lower.specs.declared.told.Superblock.{Superblock}

-- one pair more is looked at
pub along_more : (d : Disk) (n m : ℕ) (before : Option Superblock) (from : Option Pair) → n ≡ m + 1
    → last_along d n before from ≡ last_along d m (option_or (superblock_in (told_at d from)) before) (lead (told_at d from))
along_more d n m before from more =
    let next : n ≡ suc m = omega arith in
    ap (λ (k : ℕ). last_along d k before from) next

-- ---- sizes

begun_geometry : (size : ℕ) (bytes : List ℕ) (s : Superblock) → begins_with size bytes ≡ Some s → IsGeometry size 2
begun_geometry size bytes s begins =
    geometry_true size 2 (by_test (is_geometry size 2) (stating size (superblock_of size bytes)) begins)
  where
    by_test : (t : Bool) (o : Option Superblock) → (if t then o else None) ≡ Some s → t ≡ true
    by_test true o e = refl
    by_test false o e = absurd cc

-- where blocks don't have a size, nothing begins in it
none_from : (o : Option Superblock) → ((s : Superblock) → o ≡ Some s → ⊥) → o ≡ None
none_from None never = refl
none_from (Some s) never = absurd (never s refl)

-- sizes below the next one to be looked at aren't stated, where those below this one and this one aren't
pub none_below : (bytes : List ℕ) (size next : ℕ) → ((less : ℕ) → less < size → begins_with less bytes ≡ None)
    → begins_with size bytes ≡ None → size % 16 ≡ 0 → next ≡ size + 16 → (less : ℕ) → less < next → begins_with less bytes ≡ None
none_below bytes size next below here even next_is less lower =
    by_order (cases_order less size)
  where
    by_order : (less ≡ size) ⊎ ((less < size) ⊎ (size < less)) → begins_with less bytes ≡ None
    by_order (inl same) = subst (λ (s : ℕ). begins_with s bytes ≡ None) (sym same) here
    by_order (inr (inl less_is)) = below less less_is
    by_order (inr (inr more)) = none_from _ (λ s begins.
        let g = begun_geometry less bytes s begins in omega (arith, g.size_fits.2, even, next_is, lower, more))

pub none_first : (bytes : List ℕ) (less : ℕ) → less < 256 → begins_with less bytes ≡ None
none_first bytes less lower = none_from _ (λ s begins. let g = begun_geometry less bytes s begins in omega (arith, g.size_fits.0, lower))

pub none_behind : (bytes : List ℕ) (size : ℕ) → 65536 < size → ((less : ℕ) → less < size → begins_with less bytes ≡ None)
    → (other : ℕ) → begins_with other bytes ≡ None
none_behind bytes size behind below other = none_from _ (λ s begins.
    let g = begun_geometry other bytes s begins in
    let none = below other (omega (arith, g.size_fits.1, behind)) in
    cc)
