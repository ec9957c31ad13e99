-- Blocks with a flag, taken one after another.
use Rattle.std.proofs.Common.{◌≡◌, ◌≢◌, ℕ, ◌+◌, ◌<◌, Bool, true, false, List, length, refl, ap, sym, ◌∙◌, subst, arith, inl, inr}
use Rattle.std.specs.Prelude.{slice_index_or}
use Rattle.std.proofs.lemmas.Bool.{both_ways, cases_lt}
use Rattle.lfs_block.specs.Disk.{Disk, IsDisk, block_of, put}
use Rattle.lfs_block.specs.PatchLaws.{BlockPut, BlockPutOther}
use Rattle.lfs_adopt.specs.Rewritten.{AreTaken, HasTaken}

-- none so far
pub taken_none_yet : (d other e : Disk) (flags : List Bool) → IsDisk d → e ≡ d → AreTaken d other e flags 0
taken_none_yet d other e flags disk is = record {
  disk = subst IsDisk (sym is) disk;
  size = ap (λ (x : Disk). x.size) is;
  count = ap (λ (x : Disk). x.count) is;
  flagged = λ b below set. absurd (omega (arith, below));
  unflagged = λ b unset. ap (λ (x : Disk). block_of x b) is;
  above = λ b at. ap (λ (x : Disk). block_of x b) is;
}

module _ (d other e : Disk) (flags : List Bool) (n : ℕ) (old : AreTaken d other e flags n) where
  -- a block without a flag stays
  pub taken_none : slice_index_or flags n false ≡ false → AreTaken d other e flags (n + 1)
  taken_none unset = record {
    disk = old.disk;
    size = old.size;
    count = old.count;
    flagged = λ b below set. elim (cases_lt b n) [
      | inl less ↦ old.flagged b less set
      | inr le ↦
          let is : b ≡ n = omega (arith, below, le) in
          absurd (both_ways (slice_index_or flags n false) unset (ap (λ (k : ℕ). slice_index_or flags k false) (sym is) ∙ set))
    ];
    unflagged = old.unflagged;
    above = λ b at. old.above b (omega (arith, at));
  }

  -- one with a flag is taken
  pub taken_one : (new : Disk) → slice_index_or flags n false ≡ true → HasTaken n (block_of other n) e new
      → AreTaken d other new flags (n + 1)
  taken_one new set taken = record {
    disk = taken.disk;
    size = taken.size ∙ old.size;
    count = taken.count ∙ old.count;
    flagged = λ b below is_set. elim (cases_lt b n) [
      | inl less ↦
          let apart : b ≢ n = omega (arith, less) in
          taken.others b apart ∙ old.flagged b less is_set
      | inr le ↦
          let is : b ≡ n = omega (arith, below, le) in
          subst (λ (k : ℕ). block_of new k ≡ block_of other k) (sym is) taken.here
    ];
    unflagged = λ b unset.
        let apart : b ≢ n = λ is.
        both_ways (slice_index_or flags n false) (ap (λ (k : ℕ). slice_index_or flags k false) (sym is) ∙ unset) set in
        taken.others b apart ∙ old.unflagged b unset;
    above = λ b at.
        let apart : b ≢ n = omega (arith, at) in
        taken.others b apart ∙ old.above b (omega (arith, at));
  }

-- ---- one block

pub has_same : (d : Disk) (n : ℕ) (block : List ℕ) → IsDisk d → block_of d n ≡ block → HasTaken n block d d
has_same d n block disk is = record {
  disk = disk;
  size = refl;
  count = refl;
  here = is;
  others = λ b other. refl;
}

pub has_put : BlockPut → BlockPutOther → (d e : Disk) (n : ℕ) (block : List ℕ) → IsDisk d → IsDisk e → n < d.count
    → length block ≡ d.size → e ≡ put n block d → HasTaken n block d e
has_put put_here put_other d e n block disk new below complete is = record {
  disk = new;
  size = ap (λ (x : Disk). x.size) is;
  count = ap (λ (x : Disk). x.count) is;
  here = ap (λ (x : Disk). block_of x n) is ∙ put_here d n block disk below complete;
  others = λ b other. ap (λ (x : Disk). block_of x b) is ∙ put_other d n b block disk below other complete;
}
