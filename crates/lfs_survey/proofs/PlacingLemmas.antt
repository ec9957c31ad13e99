-- The first place for a fault, area by area.
use Rattle.std.proofs.Common.{◌≡◌, ℕ, ◌+◌, ◌<◌, ◌≤◌, List, length, take, get_or, Some, None, refl, ap, ◌∙◌, subst}
use Rattle.std.specs.Prelude.{All, slice_get}
use Rattle.std.proofs.lemmas.List.Elements.{All-more}
use Rattle.std.proofs.lemmas.List.{take_all}
use Rattle.std.proofs.lemmas.Option.{slice_get_read}
use Rattle.lfs_block.specs.declared.mount_fault.MountFault.{MountFault}
use Rattle.lfs_survey.specs.Place.{HasNone, IsFirstIn, IsPlaceOfFault}
use Rattle.lfs_survey.specs.declared.area.Area.{Area}
use Rattle.lfs_survey.specs.declared.found.Found.{Found}

module _ (fault : MountFault) (items areas : List Area) (i : ℕ) (a : Area) (fs : List Found) where
  -- an area that has one
  pub place_found : (n : ℕ) → items ≡ areas → i < length items → a ≡ get_or items i a → fs ≡ a.found.items → IsFirstIn fault fs (Some n)
      → All (λ b. HasNone fault b.found.items) (take i areas) → IsPlaceOfFault fault areas (Some (record { area = i; call = n }))
  place_found n same within is found first none = (
    a,
    subst (λ (xs : List Area). slice_get xs i ≡ Some a) same (slice_get_read items (length items) i a refl within is),
    subst (λ (xs : List Found). IsFirstIn fault xs (Some n)) found first,
    none,
  )

  -- one that has none
  pub none_more : items ≡ areas → i < length items → a ≡ get_or items i a → fs ≡ a.found.items → IsFirstIn fault fs None
      → All (λ b. HasNone fault b.found.items) (take i areas) → All (λ b. HasNone fault b.found.items) (take (i + 1) areas)
  none_more same within is found first none =
      All-more (λ (b : Area). HasNone fault b.found.items) areas i a (rw (← same) within) none
      (subst (λ (b : Area). HasNone fault b.found.items) (is ∙ ap (λ (xs : List Area). get_or xs i a) same)
      (subst (HasNone fault) found first))

-- all areas have none
pub none_all : (fault : MountFault) (items areas : List Area) (i : ℕ) → items ≡ areas → length items ≤ i
    → All (λ b. HasNone fault b.found.items) (take i areas) → All (λ b. HasNone fault b.found.items) areas
none_all fault items areas i same past none =
    subst (All (λ (b : Area). HasNone fault b.found.items)) (take_all i areas (rw (← same) past)) none
