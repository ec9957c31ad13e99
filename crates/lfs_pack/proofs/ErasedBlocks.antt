-- Blocks of an image that are erased one after another.
use Rattle.std.proofs.Common.{◌≡◌, ◌≢◌, ◌<◌, ◌==◌, ℕ, Bool, true, false, List, [], ◌∷◌, ◌++◌, ◌⊎◌, length, refl, ap, sym, ◌∙◌, subst, arith, inl, inr}
use Rattle.std.specs.Prelude.{replicate}
use Rattle.std.proofs.lemmas.Bool.Decides.{nat_tests}
use Rattle.std.proofs.lemmas.List.{length-replicate}
use Rattle.lfs_block.specs.Disk.{Disk, IsDisk, block_of, put}
use Rattle.lfs_block.specs.PatchLaws.{BlockPut, BlockPutOther, IsDiskAs}
use Rattle.lfs_fs.specs.DiskBut.{IsDiskBut}
use Rattle.lfs_fs.specs.Uses.{times}
use Rattle.lfs_law.proofs.LinksAdded.{times_append}

-- the blocks so far are, and others are as they were
pub record AreErasedSoFar (d e : Disk) (blocks : List ℕ) : Type 0 where
  pub others : IsDiskBut blocks d e
  pub erased : (b : ℕ) → 0 < times b blocks → block_of e b ≡ replicate e.size 0xff

pub none_erased : (d : Disk) → IsDisk d → AreErasedSoFar d d []
none_erased d disk = record {
  others = record { disk = record { disk = disk; size = refl; count = refl }; others = λ n out. refl };
  erased = λ b there. absurd (omega (arith, there));
}

same_or_not : (b n : ℕ) → (b ≡ n) ⊎ (b ≢ n)
same_or_not b n = by (b == n) refl
  where
    by : (t : Bool) → (b == n) ≡ t → (b ≡ n) ⊎ (b ≢ n)
    by true is = inl (grind (arith, nat_tests))
    by false is = inr (λ same. grind (arith, nat_tests))

one_there : (b n : ℕ) → b ≡ n → 0 < times b (n ∷ [])
one_there b n same = grind (arith, nat_tests)

one_apart : (b n : ℕ) → b ≢ n → times b (n ∷ []) ≡ 0
one_apart b n other = grind (arith, nat_tests)

pub one_erased : BlockPut → BlockPutOther → (d e f : Disk) (blocks : List ℕ) (n : ℕ) → IsDisk e → AreErasedSoFar d e blocks → n < e.count
    → f ≡ put n (replicate e.size 0xff) e → IsDiskAs e f → AreErasedSoFar d f (blocks ++ n ∷ [])
one_erased here other d e f blocks n disk so within is like = record {
  others = record {
    disk = record { disk = like.disk; size = like.size ∙ so.others.disk.size; count = like.count ∙ so.others.disk.count };
    others = λ b out. elim (same_or_not b n) [
      | inl same ↦ absurd (omega (arith, out, times_append b blocks (n ∷ []), one_there b n same))
      | inr apart ↦ elsewhere b apart ∙ so.others.others b (omega (arith, out, times_append b blocks (n ∷ [])))
    ];
  };
  erased = λ b there. elim (same_or_not b n) [
    | inl same ↦ ap (λ (g : Disk). block_of g b) is ∙ subst (λ (k : ℕ). block_of (put n (replicate e.size 0xff) e) k ≡ replicate e.size 0xff)
        (sym same) (here e n (replicate e.size 0xff) disk within len)
        ∙ ap (λ (k : ℕ). replicate k 0xff) (sym like.size)
    | inr apart ↦ elsewhere b apart ∙ so.erased b (omega (arith, there, times_append b blocks (n ∷ []), one_apart b n apart))
        ∙ ap (λ (k : ℕ). replicate k 0xff) (sym like.size)
  ];
}
  where
    len : length {A = ℕ} (replicate e.size 0xff) ≡ e.size
    len = length-replicate e.size 255

    elsewhere : (b : ℕ) → b ≢ n → block_of f b ≡ block_of e b
    elsewhere b apart = ap (λ (g : Disk). block_of g b) is ∙ other e n b (replicate e.size 0xff) disk within apart len
