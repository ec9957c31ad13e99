-- Spaces before a word.
use Rattle.std.proofs.Common.{◌≡◌, ℕ, ◌-◌, min, drop, replicate, ap, ◌∙◌, arith}
use Rattle.std.proofs.lemmas.List.{drop-replicate}

left : (n : ℕ) → 10 - min n 10 ≡ 10 - n
left n = omega arith

pub spaces_left : (n : ℕ) → drop {A = ℕ} (min n 10) (replicate 10 32) ≡ replicate (10 - n) 32
spaces_left n = drop-replicate (min n 10) 10 32 ∙ ap (λ (k : ℕ). replicate {A = ℕ} k 32) (left n)
