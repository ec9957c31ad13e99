-- One block more.
use Rattle.std.proofs.Common.{◌≡◌, ℕ, ◌+◌, Bool, List, [], ◌∷◌, ◌++◌, map, refl, ap, sym, ◌∙◌, cond, arith}
use Rattle.std.specs.List.{filter, range_with_len}
use Rattle.std.proofs.lemmas.List.FromFn.{filter_of_map_range_with_len_more}
use Rattle.lfs_adopt.specs.Changed.{is_changed}
use Rattle.lfs_adopt.specs.Draft.{drafted}
use Rattle.lfs_adopt.proofs.draft.Draft.changed.Goals as goal

as_they_are : (ns : List ℕ) → map (λ n. n) ns ≡ ns
as_they_are [] = refl
as_they_are (n ∷ ns) = ap (λ (ms : List ℕ). n ∷ ms) (as_they_are ns)

filtered_more : (test : ℕ → Bool) (n : ℕ)
    → filter test (range_with_len 0 (n + 1)) ≡ filter test (range_with_len 0 n) ++ cond (test n) (n ∷ []) []
filtered_more test n =
    ap (filter test) (sym (as_they_are (range_with_len 0 (n + 1))))
    ∙ filter_of_map_range_with_len_more test (λ (m : ℕ). m) 0 n n (omega arith)
    ∙ ap (λ (ms : List ℕ). filter test ms ++ cond (test n) (n ∷ []) []) (as_they_are (range_with_len 0 n))

pub loop-number-preserved : goal.loop-number-preserved
loop-number-preserved c =
    let test : ℕ → Bool = is_changed c.args.self.now.base (drafted c.args.self.now) in
    let n : ℕ = c.loop-number.number in
    c.in_ok-push_if.ensures
    ∙ ap (λ (ms : List ℕ). ms ++ cond c.differs.result (n ∷ []) []) c.loop-number.invariant
    ∙ ap (λ (t : Bool). filter test (range_with_len 0 n) ++ cond t (n ∷ []) []) c.differs.ensures
    ∙ sym (filtered_more test n)
