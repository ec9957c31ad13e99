-- An image lowered block by block.
use Rattle.std.proofs.Common.{◌≡◌, ℕ, ◌+◌, refl, sym, ap, subst, ◌∙◌, arith, inl, inr}
use Rattle.std.proofs.lemmas.Bool.{cases_lt}
use Rattle.lfs_block.specs.Disk.{Disk, IsDisk, block_of}
use Rattle.lfs_lower.specs.Lowered.{IsBlockLowered}
use Rattle.lfs_lower.specs.Spelled.{is_root_block, lowered_block}
use Rattle.lfs_lower.specs.Through.{IsLoweredBelow}

pub lowered_none : (d : Disk) → IsDisk d → IsLoweredBelow d d 0
lowered_none d disk = record {
  disk = disk;
  size = refl;
  count = refl;
  lowered = λ b below. absurd (omega (arith, below));
  others = λ b above. refl;
}

pub lowered_next : (d e f : Disk) (n : ℕ) → IsLoweredBelow d e n → IsBlockLowered e f n → IsLoweredBelow d f (n + 1)
lowered_next d e f n below here = record {
  disk = here.disk;
  size = here.size ∙ below.size;
  count = here.count ∙ below.count;
  lowered = λ b lt. elim (cases_lt b n) [
    | inl less ↦ here.others b (omega (arith, less)) ∙ below.lowered b less
    | inr le ↦
        let is : b ≡ n = omega (arith, lt, le) in
        subst (λ (k : ℕ). block_of f k ≡ lowered_block (is_root_block k) (block_of d k)) (sym is)
        (here.here ∙ ap (lowered_block (is_root_block n)) (below.others n (omega arith)))
  ];
  others = λ b above. here.others b (omega (arith, above)) ∙ below.others b (omega (arith, above));
}
