-- The steps of the tails along a thread.
use Rattle.std.proofs.Common.{◌≡◌, List, [], ◌∷◌, ◌++◌, Some, None, ap, sym, ◌∙◌, append-nil}
use Rattle.std.specs.Prelude.{option_to_list}
use Rattle.std.proofs.lemmas.Grind.{flat_map-append}
use Rattle.lfs_meta.specs.Body.{Pair}
use Rattle.lfs_meta.specs.Part.{StoredPart}
use Rattle.lfs_fs.specs.Gathering.{PairPart}
use Rattle.lfs_fs.specs.Reading.{Reading}
use Rattle.lfs_lower.specs.Joining.{parts_held}
use Rattle.lfs_settle.specs.Ended.{step_of, steps_along, steps_in}
use Rattle.lfs_settle.specs.InStep.{stepping, thread_pairs}
use Rattle.lfs_settle.proofs.Walk.{held_as_before, held_more}

module _ (named : List Pair) (r : Reading) where
  -- no pair so far
  pub steps_none : (steps : List (Pair × Pair)) (ps : List Pair) → steps ≡ [] → ps ≡ [] → steps ≡ steps_in named (parts_held r ps)
  steps_none steps ps none no_pair = none ∙ ap (λ (qs : List Pair). steps_in named (parts_held r qs)) (sym no_pair)

  -- no pair follows
  pub steps_all : (steps : List (Pair × Pair)) (ps : List Pair) → steps ≡ steps_in named (parts_held r ps)
      → ps ≡ thread_pairs (stepping named r) → steps ≡ steps_along named r
  steps_all steps ps is all = is ∙ ap (λ (qs : List Pair). steps_in named (parts_held r qs)) all

  -- a pair that isn't read has no step
  pub steps_unread : (steps : List (Pair × Pair)) (ps : List Pair) (p : Pair) → steps ≡ steps_in named (parts_held r ps) → r.part p ≡ None
      → ps ++ p ∷ [] ≡ thread_pairs (stepping named r) → steps ≡ steps_along named r
  steps_unread steps ps p is read all =
      steps_all steps (ps ++ p ∷ []) (is ∙ ap (steps_in named) (sym (held_as_before r ps p read))) all

  -- one part more
  pub steps_more : (steps new : List (Pair × Pair)) (ps : List Pair) (p : Pair) (s : StoredPart) → steps ≡ steps_in named (parts_held r ps)
      → r.part p ≡ Some s → new ≡ steps ++ option_to_list (step_of named s.tail) → new ≡ steps_in named (parts_held r (ps ++ p ∷ []))
  steps_more steps new ps p s is read more =
      more
      ∙ ap (λ (xs : List (Pair × Pair)). xs ++ option_to_list (step_of named s.tail)) is
      ∙ ap (λ (xs : List (Pair × Pair)). steps_in named (parts_held r ps) ++ xs) (sym (append-nil (option_to_list (step_of named s.tail))))
      ∙ sym (flat_map-append (λ (q : PairPart). option_to_list (step_of named q.1.tail)) (parts_held r ps) ((p, s) ∷ []))
      ∙ ap (steps_in named) (sym (held_more r ps p s read))
