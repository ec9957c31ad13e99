-- Chains that are marked one after another.
use Rattle.std.proofs.Common.{◌≡◌, ◌⊎◌, ℕ, ◌+◌, ◌<◌, ◌≤◌, ◌==◌, Bool, List, [], ◌∷◌, ◌++◌, length, take, get_or, Some, None, refl, ap, sym, ◌∙◌, arith, cond, subst, true, false}
use Rattle.std.specs.Prelude.{if◌then◌else◌, slice_index_or}
use Rattle.std.specs.List.{Any}
use Rattle.std.proofs.lemmas.List.{append-nil, take_all, take_more}
use Rattle.std.proofs.lemmas.List.Concat.{flat_map-append}
use Rattle.std.proofs.lemmas.List.Sums.{sum_by-append}
use Rattle.std.proofs.lemmas.Option.{slice_get-get_or}
use mathlib.Core.Logic.{inl, inr}
use Rattle.lfs_block.specs.Disk.{Disk}
use Rattle.lfs_block.specs.declared.mount_fault.MountFault.{MountFault}
use Rattle.lfs_block.specs.declared.mount_fault.MountFault.TheVariants.{BlockRange, BlockTwice}
use Rattle.lfs_fs.specs.Used.{AddsBlocks, AreTaken, Marks, marked}
use Rattle.lfs_fs.specs.Uses.{times}
use Rattle.lfs_survey.specs.Shared.{IsFirstShared, chain_at, chains, uses_of}
use Rattle.lfs_survey.specs.declared.area.Area.{Area}
use Rattle.lfs_survey.specs.declared.entry_place.EntryPlace.{EntryPlace}

once_by : (t : Bool) (n : ℕ) → n ≡ (if t then 1 else 0) → n ≤ 1
once_by true n is = omega arith
once_by false n is = omega arith

marked_once : (table : List Bool) (b : ℕ) → marked table b ≤ 1
marked_once table b = once_by (slice_index_or table b false) (marked table b) refl

module _ (d : Disk) (looked : List Bool) (areas : List Area) (ps : List EntryPlace) (i : ℕ) (e : EntryPlace) (within : i < length ps) where
  abbrev here : EntryPlace
  here = get_or ps i e

  more : (b : ℕ) → uses_of d looked areas (take (i + 1) ps) b ≡ uses_of d looked areas (take i ps) b + times b (chain_at d areas here)
  more b =
      let one : chains d areas (take (i + 1) ps) ≡ chains d areas (take i ps) ++ chain_at d areas here =
      ap (chains d areas) (take_more ps i e within) ∙ flat_map-append (chain_at d areas) (take i ps) (here ∷ [])
      ∙ ap (λ (bs : List ℕ). chains d areas (take i ps) ++ bs) (append-nil (chain_at d areas here)) in
      let all = ap (times b) one in
      let sum = sum_by-append (λ (x : ℕ). cond {A = ℕ} (x == b) 1 0) (chains d areas (take i ps)) (chain_at d areas here) in
      omega arith

  -- one chain more
  pub shared_more : (now new : List Bool) (chain : List ℕ) → chain ≡ chain_at d areas here
      → Marks now (λ b. uses_of d looked areas (take i ps) b) → AddsBlocks now new chain
      → Marks new (λ b. uses_of d looked areas (take (i + 1) ps) b)
  shared_more now new chain is marks adds b =
      adds.marks b ∙ ap (λ (n : ℕ). n + times b chain) (marks b)
      ∙ ap (λ (bs : List ℕ). uses_of d looked areas (take i ps) b + times b bs) is ∙ sym (more b)

  taken_by : (now : List Bool) (chain : List ℕ) → chain ≡ chain_at d areas here
      → Marks now (λ b. uses_of d looked areas (take i ps) b) → length now ≡ length looked → (fault : MountFault) → AreTaken fault now chain
      → ((b : ℕ) × (2 ≤ uses_of d looked areas (take (i + 1) ps) b)) ⊎ Any (λ b. length looked ≤ b) (chain_at d areas here)
  taken_by now chain is marks len BlockRange taken =
      inr (subst (Any (λ (b : ℕ). length looked ≤ b)) is (subst (λ (n : ℕ). Any (λ (b : ℕ). n ≤ b) chain) len taken))
  taken_by now chain is marks len BlockTwice (b, twice) =
      inl (b, let one = marks b in let sum = more b in let same = ap (times b) is in omega arith)
  taken_by now chain is marks len _ taken = absurd taken

  -- one that isn't marked
  pub shared_found : (now : List Bool) (chain : List ℕ) (fault : MountFault) → chain ≡ chain_at d areas here
      → Marks now (λ b. uses_of d looked areas (take i ps) b) → length now ≡ length looked → AreTaken fault now chain
      → IsFirstShared d looked areas ps (Some here)
  shared_found now chain fault is marks len taken = (
    i,
    slice_get-get_or ps i e within,
    λ b. subst (λ (n : ℕ). n ≤ 1) (marks b) (marked_once now b),
    taken_by now chain is marks len fault taken,
  )

-- none has it
pub shared_none : (d : Disk) (looked now : List Bool) (areas : List Area) (ps : List EntryPlace) (i : ℕ) → length ps ≤ i
    → Marks now (λ b. uses_of d looked areas (take i ps) b) → IsFirstShared d looked areas ps None
shared_none d looked now areas ps i past marks b =
    subst (λ (qs : List EntryPlace). uses_of d looked areas qs b ≤ 1) (take_all i ps past)
    (subst (λ (n : ℕ). n ≤ 1) (marks b) (marked_once now b))
