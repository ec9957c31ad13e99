-- What a row has is made at its path.
use Rattle.std.proofs.Common.{◌≡◌, ◌⊎◌, ◌==◌, ℕ, Bool, true, false, List, [], ◌∷◌, Option, Some, None, All, length, map, refl, sym, subst, arith, inl, inr}
use Rattle.std.proofs.lemmas.Bool.Decides.{nat_tests}
use Rattle.std.proofs.lemmas.List.Elements.{All-cons, All-nil}
use Rattle.lfs_meta.specs.Name.{IsName, Name}
use Rattle.lfs_fs.specs.Path.{Path, IsNoPath, IsPathText, TextsSpellOnePath}
use Rattle.lfs_command.specs.declared.refusal.Refusal.{Refusal}
use Rattle.lfs_command.specs.declared.refusal.Refusal.TheVariants.{BadPath, Memory}
use Rattle.lfs_command.specs.Command.{Command, HasNames, SetAttr}
use Rattle.lfs_pack.specs.Lead.{Lead}
use Rattle.lfs_pack.specs.declared.new_image.NewImage.{NewImage}
use Rattle.lfs_pack.specs.Packed.{made_by, making}
use Rattle.lfs_pack.specs.RowsCarried.{CarriesOn, Places, RefusesOn, RefusesPlace}
use Rattle.lfs_pack.specs.Stopped.{AreStopped}
use Rattle.lfs_pack.specs.Unwritten.{IsOfRow}
use Rattle.lfs_pack.proofs.LedOn.{one_stopped}

-- below the root there is one command
making_one : (p : Path) (bytes : Option (List ℕ)) (most : ℕ) → (p ≡ [] → ⊥) → making p bytes most ≡ made_by p bytes most ∷ []
making_one [] bytes most below = absurd (below refl)
making_one (n ∷ p) None most below = refl
making_one (n ∷ p) (Some bytes) most below = refl

-- nothing is made at the root
pub root_placed : (text : List ℕ) (p : Path) (bytes : Option (List ℕ)) (most : ℕ) (t : NewImage) → IsPathText text p → p ≡ [] → Places text bytes most t t
root_placed text p bytes most t spelled root v at =
    (p, spelled, v, subst (λ (x : Path). Lead (making x bytes most) v v) (sym root) refl, at)

pub placed : (text : List ℕ) (p : Path) (bytes : Option (List ℕ)) (most : ℕ) (t u : NewImage) → IsPathText text p → (p ≡ [] → ⊥)
    → CarriesOn (made_by p bytes most) t u → Places text bytes most t u
placed text p bytes most t u spelled below carries v at =
    let one = carries v at in
    (p, spelled, one.0, subst (λ (cs : List Command). Lead cs v one.0) (sym (making_one p bytes most below)) (one.0, one.1, refl), one.2)

pub not_placed : TextsSpellOnePath → (text : List ℕ) (p : Path) (bytes : Option (List ℕ)) (most : ℕ) (t : NewImage) (r : Refusal) → IsPathText text p
    → (p ≡ [] → ⊥) → RefusesOn (made_by p bytes most) t r → RefusesPlace text bytes most t r
not_placed texts text p bytes most t r spelled below (inl memory) = inl memory
not_placed texts text p bytes most t r spelled below (inr refuses) = inr (λ v o at other.
    subst (λ (x : Path). AreStopped (making x bytes most) v r) (sym (texts text o p other spelled))
    (subst (λ (cs : List Command). AreStopped cs v r) (sym (making_one p bytes most below)) (one_stopped (made_by p bytes most) [] v r (refuses v at))))

-- a text that spells no path isn't that of a row
pub not_spelled : (text : List ℕ) (bytes : Option (List ℕ)) (most : ℕ) (t : NewImage) (r : Refusal) → (r ≡ Memory) ⊎ ((r ≡ BadPath) × IsNoPath text)
    → RefusesPlace text bytes most t r
not_spelled text bytes most t r (inl memory) = inl memory
not_spelled text bytes most t r (inr refused) = inr (λ v p at spelled. absurd (refused.1 p spelled))

-- ---- the command

pub made_of_row : (p : Path) (bytes : Option (List ℕ)) (most : ℕ) → IsOfRow (made_by p bytes most)
made_of_row p None most = tt
made_of_row p (Some bytes) most = tt

pub made_has_names : (p : Path) (bytes : Option (List ℕ)) (most : ℕ) → All IsName p → HasNames (made_by p bytes most)
made_has_names p None most names = All-cons (All IsName) p [] names (All-nil (All IsName))
made_has_names p (Some bytes) most names = All-cons (All IsName) p [] names (All-nil (All IsName))

pub set_has_names : (p : Path) (kind : ℕ) (value : List ℕ) → All IsName p → HasNames (SetAttr p kind value)
set_has_names p kind value names = All-cons (All IsName) p [] names (All-nil (All IsName))

-- ---- whether there are names

pub no_names : {X : Type 0} (f : X → Name) (xs : List X) (len : ℕ) (empty : Bool) → len ≡ length xs → empty ≡ (len == 0) → empty ≡ true
    → map f xs ≡ []
no_names f [] len empty is tests holds = refl
no_names f (x ∷ xs) len empty is tests holds = absurd (grind (arith, nat_tests, is, tests, holds))

pub some_names : {X : Type 0} (f : X → Name) (xs : List X) (len : ℕ) (empty : Bool) → len ≡ length xs → empty ≡ (len == 0) → empty ≡ false
    → map f xs ≡ [] → ⊥
some_names f [] len empty is tests fails none = grind (arith, nat_tests, is, tests, fails)
some_names f (x ∷ xs) len empty is tests fails none = cc
