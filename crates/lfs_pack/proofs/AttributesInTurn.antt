-- Attributes that are set one after another.
use Rattle.std.proofs.Common.{◌≡◌, ◌⊎◌, ℕ, List, [], ◌∷◌, Some, refl, sym, subst, inl, inr}
use Rattle.lfs_meta.specs.Attribute.{Attributes}
use Rattle.lfs_fs.specs.Path.{IsNoPath, IsPathText, Path, TextsSpellOnePath}
use Rattle.lfs_fs.specs.Volume.{Volume}
use Rattle.lfs_command.specs.declared.refusal.Refusal.{Refusal}
use Rattle.lfs_command.specs.declared.refusal.Refusal.TheVariants.{BadPath, Memory}
use Rattle.lfs_command.specs.Command.{SetAttr}
use Rattle.lfs_command.specs.Verdict.{verdict}
use Rattle.lfs_pack.specs.declared.new_image.NewImage.{NewImage}
use Rattle.lfs_pack.specs.Packed.{setting}
use Rattle.lfs_pack.specs.RowsCarried.{CarriesOn, IsAtWork, RefusesAll, RefusesOn, RefusesOne, SetsAll, SetsOne}
use Rattle.lfs_pack.proofs.LedOn.{one_stopped, stopped_then}

-- What sets the rest from here sets all from the beginning, and so it is with refusals.
pub record AreBeingSet (text : List ℕ) (all rest : Attributes) (t u : NewImage) : Type 0 where
  pub is : (v : Volume) × IsAtWork u v
  pub set : (e : NewImage) → SetsAll text rest u e → SetsAll text all t e
  pub refused : (r : Refusal) → RefusesAll text rest u r → RefusesAll text all t r

module _ (text : List ℕ) where
  -- ---- one of them

  pub none_spelled : (a : ℕ × List ℕ) (t : NewImage) (r : Refusal) → (r ≡ Memory) ⊎ ((r ≡ BadPath) × IsNoPath text) → RefusesOne text a t r
  none_spelled a t r (inl memory) = inl memory
  none_spelled a t r (inr refused) = inr (λ p v spelled is. absurd (refused.1 p spelled))

  pub one_set : TextsSpellOnePath → (p : Path) (kind : ℕ) (value : List ℕ) (t u : NewImage) → IsPathText text p
      → CarriesOn (SetAttr p kind value) t u → SetsOne text (kind, value) t u
  one_set texts p kind value t u spelled carries o other =
      subst (λ (x : Path). CarriesOn (SetAttr x kind value) t u) (texts text p o spelled other) carries

  pub one_not_set : TextsSpellOnePath → (p : Path) (kind : ℕ) (value : List ℕ) (t : NewImage) (r : Refusal) → IsPathText text p
      → RefusesOn (SetAttr p kind value) t r → RefusesOne text (kind, value) t r
  one_not_set texts p kind value t r spelled (inl memory) = inl memory
  one_not_set texts p kind value t r spelled (inr refuses) = inr (λ o v other is.
      subst (λ (x : Path). verdict v (SetAttr x kind value) ≡ Some r) (texts text p o spelled other) (refuses v is))

  -- ---- all of them

  set_more : (a : ℕ × List ℕ) (more : Attributes) (t u e : NewImage) → SetsOne text a t u → SetsAll text more u e → SetsAll text (a ∷ more) t e
  set_more a more t u e one all p v spelled is =
      let first = one p spelled v is in
      let rest = all p first.0 spelled first.2 in
      (rest.0, (first.0, first.1, rest.1), rest.2)

  refused_first : (a : ℕ × List ℕ) (more : Attributes) (t : NewImage) (r : Refusal) → RefusesOne text a t r → RefusesAll text (a ∷ more) t r
  refused_first a more t r (inl memory) = inl memory
  refused_first a more t r (inr refuses) =
      inr (λ p v spelled is. one_stopped (SetAttr p a.0 a.1) (setting p more) v r (refuses p v spelled is))

  refused_then : (a : ℕ × List ℕ) (more : Attributes) (t u : NewImage) (r : Refusal) → SetsOne text a t u → RefusesAll text more u r
      → RefusesAll text (a ∷ more) t r
  refused_then a more t u r one (inl memory) = inl memory
  refused_then a more t u r one (inr refuses) = inr (λ p v spelled is.
      let first = one p spelled v is in
      stopped_then (SetAttr p a.0 a.1 ∷ []) (setting p more) v first.0 r (first.0, first.1, refl) (refuses p first.0 spelled first.2))

  -- ---- in a loop

  -- the image is at work on some volume still, where a text spells a path
  pub one_more : (all rest more : Attributes) (a : ℕ × List ℕ) (t u e : NewImage) → AreBeingSet text all rest t u → rest ≡ a ∷ more
      → SetsOne text a u e → ((v : Volume) × IsAtWork e v) → AreBeingSet text all more t e
  one_more all rest more a t u e so are one is = record {
    is = is;
    set = λ f sets. so.set f (subst (λ (l : Attributes). SetsAll text l u f) (sym are) (set_more a more u e f one sets));
    refused = λ r refuses. so.refused r (subst (λ (l : Attributes). RefusesAll text l u r) (sym are) (refused_then a more u e r one refuses));
  }

  pub one_refused : (all rest more : Attributes) (a : ℕ × List ℕ) (t u : NewImage) (r : Refusal) → AreBeingSet text all rest t u
      → rest ≡ a ∷ more → RefusesOne text a u r → RefusesAll text all t r
  one_refused all rest more a t u r so are one =
      so.refused r (subst (λ (l : Attributes). RefusesAll text l u r) (sym are) (refused_first a more u r one))

  pub at_end : (all rest : Attributes) (t u : NewImage) → AreBeingSet text all rest t u → rest ≡ [] → SetsAll text all t u
  at_end all rest t u so none =
      so.set u (subst (λ (l : Attributes). SetsAll text l u u) (sym none) (λ p v spelled is. (v, refl, is)))
