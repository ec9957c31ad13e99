-- A file of the host has a text for its name.
use Rattle.std.proofs.Common.{◌≡◌, ◌∷◌, [], List, ℕ, codes, sym, subst, inl, inr, refl}
use Rattle.std.specs.Str.{IsUtf8}
use Rattle.lfs_texts.specs.Steps.{SaysNone}
use Rattle.lfs_texts.proofs.StepLemmas.{put_says_none}
use Rattle.lfs_texts.proofs.steps.with_two.Goals as goal

pub returns-in-Err-clause-refused : goal.returns-in-Err-clause-refused
returns-in-Err-clause-refused c =
    let path : List ℕ = c.args.first.now in
    let file : List ℕ = c.args.second.now in
    let put : c.args.verb.now ≡ codes "put" = c.if-is_word.ensures.0 refl in
    let none : IsUtf8 file → ⊥ = c.in-Err.ensures.cases.0 in
    let says_none = subst (λ (verb : List ℕ). SaysNone (verb ∷ path ∷ file ∷ [])) (sym put) (put_says_none path file none) in
    (says_none, λ bad. elim bad.0 [ inl set ↦ absurd (cc) | inr remove ↦ absurd (cc) ])
