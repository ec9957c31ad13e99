-- Rows at hand that are left behind.
use Rattle.std.proofs.Common.{◌≡◌, ℕ, suc, ◌+◌, ◌<◌, true, List, ◌∷◌, length, drop, get_or, ap, sym, ◌∙◌, subst, arith, add-one, drop-cons}
use Rattle.std.proofs.Common.{length-drop}
use Rattle.std.specs.declared.cmp.Ordering.TheVariants.{Equal, Greater, Less}
use Rattle.lfs_block.specs.Disk.{Disk}
use Rattle.lfs_fs.specs.Path.{Path}
use Rattle.lfs_fs.specs.Row.{PathsAreOrdered}
use Rattle.lfs_sync.specs.Merging.{IsUnderWay, KeepsPlaces, MergesTo, PlansBoth, PlansHeld, PlansWanted, left}
use Rattle.lfs_sync.specs.Shown.{Shown}
use Rattle.lfs_sync.specs.Sides.{first_order, held_all, held_shown, wanted_all, wanted_shown}
use Rattle.lfs_sync.specs.declared.held_row.HeldRow.{HeldRow}
use Rattle.lfs_sync.specs.declared.merging.Merging.{Merging}
use Rattle.lfs_sync.specs.declared.sync_row.SyncRow.{SyncRow}
use Rattle.lfs_sync.specs.declared.wanted_row.WantedRow.{WantedRow}
use Rattle.lfs_sync.proofs.MergeLemmas.{both_further, equal_same, greater_behind, held_further, less_behind, wanted_further}

-- the row at a place, and those behind it
pub first_left : {X : Type 0} (xs : List X) (i : ℕ) (x : X) → i < length xs → x ≡ get_or xs i x → drop i xs ≡ x ∷ drop (i + 1) xs
first_left xs i x within is =
    drop-cons xs i x within ∙ ap (λ y. y ∷ drop (suc i) xs) (sym is) ∙ ap (λ k. x ∷ drop k xs) (sym (add-one i))

-- the same lists with other places
abbrev pub at_places : Merging → ℕ → ℕ → Merging
at_places m i j = record { held = i; wanted = j; removed = m.removed; directories = m.directories; files = m.files }

placed : (at : Path) (rows : List SyncRow) (m : Merging) (i j : ℕ) (rs ws held wanted : List Shown) → IsUnderWay at rows m rs ws held wanted
    → IsUnderWay at rows (at_places m i j) rs ws held wanted
placed at rows m i j rs ws held wanted way =
    record { gone = way.gone; made = way.made; put = way.put; rise = way.rise; rises = way.rises }

module _ (order : PathsAreOrdered) (d : Disk) (at : Path) (rows : List SyncRow) (old mid : Merging) (held : List HeldRow)
    (wanted : List WantedRow) (kept : KeepsPlaces old mid) (way : MergesTo d at rows old held wanted) where
  abbrev Ends : ℕ → ℕ → Type 0
  Ends i j = IsUnderWay at rows (at_places mid i j) (held_all d (drop i held)) (wanted_all rows (drop j wanted)) (held_all d held)
      (wanted_all rows wanted)

  pub held_taken : (h : HeldRow) → drop old.held held ≡ h ∷ drop (old.held + 1) held → PlansHeld at rows old mid (held_shown d h) true
      → first_order (drop old.held held) (drop old.wanted wanted) ≡ Less → Ends (mid.held + 1) mid.wanted
  held_taken h first plans less =
      let hs : List HeldRow = drop (old.held + 1) held in
      let ws : List WantedRow = drop old.wanted wanted in
      let here = subst (λ (l : List HeldRow). IsUnderWay at rows old (held_all d l) (wanted_all rows ws) (held_all d held) (wanted_all rows wanted)) first way in
      let behind = less_behind order rows h hs ws (ap (λ (l : List HeldRow). first_order l ws) (sym first) ∙ less) here.rises in
      subst (λ (i : ℕ). Ends (i + 1) mid.wanted) (sym kept.held)
      (subst (λ (j : ℕ). Ends (old.held + 1) j) (sym kept.wanted)
      (placed at rows mid (old.held + 1) old.wanted (held_all d hs) (wanted_all rows ws) (held_all d held) (wanted_all rows wanted)
      (held_further order at rows old mid (held_shown d h) (held_all d hs) (wanted_all rows ws) (held_all d held) (wanted_all rows wanted)
      here plans behind)))

  pub wanted_taken : (w : WantedRow) → drop old.wanted wanted ≡ w ∷ drop (old.wanted + 1) wanted
      → PlansWanted at rows old mid (wanted_shown rows w) true → first_order (drop old.held held) (drop old.wanted wanted) ≡ Greater
      → Ends mid.held (mid.wanted + 1)
  wanted_taken w first plans greater =
      let hs : List HeldRow = drop old.held held in
      let ws : List WantedRow = drop (old.wanted + 1) wanted in
      let here = subst (λ (l : List WantedRow). IsUnderWay at rows old (held_all d hs) (wanted_all rows l) (held_all d held) (wanted_all rows wanted)) first way in
      let behind = greater_behind order d hs w ws (ap (λ (l : List WantedRow). first_order hs l) (sym first) ∙ greater) here.rise in
      subst (λ (i : ℕ). Ends i (mid.wanted + 1)) (sym kept.held)
      (subst (λ (j : ℕ). Ends old.held (j + 1)) (sym kept.wanted)
      (placed at rows mid old.held (old.wanted + 1) (held_all d hs) (wanted_all rows ws) (held_all d held) (wanted_all rows wanted)
      (wanted_further order at rows old mid (wanted_shown rows w) (held_all d hs) (wanted_all rows ws) (held_all d held)
      (wanted_all rows wanted) here plans behind)))

  pub both_taken : (h : HeldRow) (w : WantedRow) → drop old.held held ≡ h ∷ drop (old.held + 1) held
      → drop old.wanted wanted ≡ w ∷ drop (old.wanted + 1) wanted → PlansBoth at rows old mid (held_shown d h) (wanted_shown rows w)
      → first_order (drop old.held held) (drop old.wanted wanted) ≡ Equal → Ends (mid.held + 1) (mid.wanted + 1)
  both_taken h w first second plans equal =
      let hs : List HeldRow = drop (old.held + 1) held in
      let ws : List WantedRow = drop (old.wanted + 1) wanted in
      let half = subst (λ (l : List HeldRow). IsUnderWay at rows old (held_all d l) (wanted_all rows (drop old.wanted wanted)) (held_all d held) (wanted_all rows wanted)) first way in
      let here = subst (λ (l : List WantedRow). IsUnderWay at rows old (held_all d (h ∷ hs)) (wanted_all rows l) (held_all d held) (wanted_all rows wanted)) second half in
      let same = equal_same order h hs w ws
      (ap (λ (l : List WantedRow). first_order (h ∷ hs) l) (sym second)
      ∙ ap (λ (l : List HeldRow). first_order l (drop old.wanted wanted)) (sym first) ∙ equal) in
      subst (λ (i : ℕ). Ends (i + 1) (mid.wanted + 1)) (sym kept.held)
      (subst (λ (j : ℕ). Ends (old.held + 1) (j + 1)) (sym kept.wanted)
      (placed at rows mid (old.held + 1) (old.wanted + 1) (held_all d hs) (wanted_all rows ws) (held_all d held) (wanted_all rows wanted)
      (both_further order at rows old mid (held_shown d h) (wanted_shown rows w) (held_all d hs) (wanted_all rows ws) (held_all d held)
      (wanted_all rows wanted) here plans same)))

pub held_fewer : (old mid : Merging) (held : List HeldRow) (wanted : List WantedRow) → KeepsPlaces old mid → old.held < length held
    → left (at_places mid (mid.held + 1) mid.wanted) held wanted < left old held wanted
held_fewer old mid held wanted kept within =
    let same : length (drop mid.wanted wanted) ≡ length (drop old.wanted wanted) = ap (λ (j : ℕ). length (drop j wanted)) kept.wanted in
    omega (arith, kept.held, same, length-drop (mid.held + 1) held, length-drop old.held held)

pub wanted_fewer : (old mid : Merging) (held : List HeldRow) (wanted : List WantedRow) → KeepsPlaces old mid → old.wanted < length wanted
    → left (at_places mid mid.held (mid.wanted + 1)) held wanted < left old held wanted
wanted_fewer old mid held wanted kept within =
    let same : length (drop mid.held held) ≡ length (drop old.held held) = ap (λ (i : ℕ). length (drop i held)) kept.held in
    omega (arith, kept.wanted, same, length-drop (mid.wanted + 1) wanted, length-drop old.wanted wanted)

pub both_fewer : (old mid : Merging) (held : List HeldRow) (wanted : List WantedRow) → KeepsPlaces old mid → old.held < length held
    → old.wanted < length wanted → left (at_places mid (mid.held + 1) (mid.wanted + 1)) held wanted < left old held wanted
both_fewer old mid held wanted kept within inside =
    omega (
      arith,
      kept.held,
      kept.wanted,
      length-drop (mid.held + 1) held,
      length-drop old.held held,
      length-drop (mid.wanted + 1) wanted,
      length-drop old.wanted wanted,
    )
