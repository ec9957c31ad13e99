-- Directories are dropped one after another.
use Rattle.std.proofs.Common.{◌≡◌, ℕ, suc, ◌<◌, Bool, true, false, List, [], ◌∷◌, ◌++◌, length, drop, drop-cons, map, refl, ap, sym, ◌∙◌, append-nil, append_assoc, arith}
use Rattle.std.specs.Prelude.{cond, flat_map, not, slice_index_or}
use Rattle.lfs_meta.specs.Body.{Pair}
use Rattle.lfs_meta.specs.Entry.{StoredEntry}
use Rattle.lfs_fs.specs.Gathering.{PairPart}
use Rattle.lfs_settle.specs.Ended.{as_dropped}
use Rattle.lfs_settle.specs.Reaching.{flagged}

-- what is told of directories that are dropped
abbrev Told : Type 0
Told = List (Pair × List StoredEntry)

-- of those that have no flag
abbrev pub told : List Bool → List (List PairPart) → Told
told flags gs = flat_map as_dropped (flagged (map not flags) gs)

drop_by : (f : Bool) (fs : List Bool) (dropped : Told) (g : List PairPart) (gs : List (List PairPart))
    → (dropped ++ cond f [] (as_dropped g)) ++ told fs gs ≡ dropped ++ told (f ∷ fs) (g ∷ gs)
drop_by true fs dropped g gs = ap (λ (xs : Told). xs ++ told fs gs) (append-nil dropped)
drop_by false fs dropped g gs = append_assoc dropped (as_dropped g) (told fs gs)

-- one directory more
pub drop_next : (flags : List Bool) (number : ℕ) (all dropped new : Told) (g : List PairPart) (gs : List (List PairPart))
    → number < length flags → new ≡ dropped ++ cond (slice_index_or flags number false) [] (as_dropped g)
    → dropped ++ told (drop number flags) (g ∷ gs) ≡ all → new ++ told (drop (suc number) flags) gs ≡ all
drop_next flags number all dropped new g gs within is before =
    ap (λ (xs : Told). xs ++ told (drop (suc number) flags) gs) is
    ∙ drop_by (slice_index_or flags number false) (drop (suc number) flags) dropped g gs
    ∙ ap (λ (fs : List Bool). dropped ++ told fs (g ∷ gs)) (sym (drop-cons flags number false within)) ∙ before

none_told : (flags : List Bool) → told flags [] ≡ []
none_told [] = refl
none_told (f ∷ flags) = refl

-- none is left
pub drop_all : {X : Type 0} (f : X → List PairPart) (flags : List Bool) (all dropped : Told) (rest : List X) → length rest ≡ 0
    → dropped ++ told flags (map f rest) ≡ all → dropped ≡ all
drop_all f flags all dropped [] none is = sym (append-nil dropped) ∙ ap (λ (xs : Told). dropped ++ xs) (sym (none_told flags)) ∙ is
drop_all f flags all dropped (x ∷ rest) none is = absurd (omega (arith, none))
