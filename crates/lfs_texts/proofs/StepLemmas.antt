-- Words that say no step, and words that are all there are.
use Rattle.std.proofs.Common.{◌≡◌, ◌∙◌, Bor, ℕ, List, [], ◌∷◌, length, sym, ap, subst, codes, inl, inr, arith}
use Rattle.std.specs.Prelude.{slice_index_or}
use Rattle.std.specs.Str.{IsUtf8}
use Rattle.lfs_command.specs.declared.command.Command.{Command}
use Rattle.lfs_command.specs.declared.command.Command.TheVariants.{Mkdir, Put, Rm, Mv, SetAttr, RmAttr, Grow}
use Rattle.lfs_history.specs.declared.moves.Move.TheVariants.{Do, Together, Undo, Redo, Forget}
use Rattle.lfs_history.specs.declared.source.Source.{Source}
use Rattle.lfs_history.specs.declared.source.Source.TheVariants.{Input, File, Said}
use Rattle.lfs_texts.specs.Steps.{SaysCommand, SaysNone}

-- `put` with two words says no command where the second is no text
put_says_no_command : (path file : List ℕ) → (IsUtf8 file → ⊥) → (command : Command (Bor (List ℕ)) Source)
    → SaysCommand (codes "put" ∷ path ∷ file ∷ []) command → ⊥
put_says_no_command path file none (Mkdir p) says = absurd (cc)
put_says_no_command path file none (Put p (File f) most) says =
    let same : f.now ≡ file = ap (λ (words : List (List ℕ)). slice_index_or words 2 []) (sym says.1) in
    none (subst IsUtf8 same says.0)
put_says_no_command path file none (Put p Input most) says = absurd says
put_says_no_command path file none (Put p (Said v) most) says = absurd says
put_says_no_command path file none (Rm p) says = absurd (cc)
put_says_no_command path file none (Mv p q) says = absurd (cc)
put_says_no_command path file none (SetAttr p k (Said v)) says = elim says.2 [ inl one ↦ absurd (cc) | inr two ↦ absurd (cc) ]
put_says_no_command path file none (SetAttr p k Input) says = absurd says
put_says_no_command path file none (SetAttr p k (File f)) says = absurd says
put_says_no_command path file none (RmAttr p k) says = absurd (cc)
put_says_no_command path file none (Grow n) says = absurd (cc)

-- so it says no step
pub put_says_none : (path file : List ℕ) → (IsUtf8 file → ⊥) → SaysNone (codes "put" ∷ path ∷ file ∷ [])
put_says_none path file none (Do command keep) says = put_says_no_command path file none command says
put_says_none path file none (Together commands keep) says = absurd says
put_says_none path file none (Undo steps) says = absurd (cc)
put_says_none path file none (Redo steps) says = absurd (cc)
put_says_none path file none Forget says = absurd (cc)

-- four items of a list are all that it has
pub four_items : {X : Type 0} (xs : List X) (a b c d : X) → length xs ≡ 4 → a ≡ slice_index_or xs 0 a → b ≡ slice_index_or xs 1 b
    → c ≡ slice_index_or xs 2 c → d ≡ slice_index_or xs 3 d → xs ≡ a ∷ b ∷ c ∷ d ∷ []
four_items [] a b c d long first second third last = absurd (omega (arith, long))
four_items (x ∷ []) a b c d long first second third last = absurd (omega (arith, long))
four_items (x ∷ y ∷ []) a b c d long first second third last = absurd (omega (arith, long))
four_items (x ∷ y ∷ z ∷ []) a b c d long first second third last = absurd (omega (arith, long))
four_items (x ∷ y ∷ z ∷ w ∷ []) a b c d long first second third last =
    ap (λ e. e ∷ y ∷ z ∷ w ∷ []) (sym first) ∙ ap (λ e. a ∷ e ∷ z ∷ w ∷ []) (sym second) ∙ ap (λ e. a ∷ b ∷ e ∷ w ∷ []) (sym third)
    ∙ ap (λ e. a ∷ b ∷ c ∷ e ∷ []) (sym last)
four_items (x ∷ y ∷ z ∷ w ∷ v ∷ xs) a b c d long first second third last = absurd (omega (arith, long))
