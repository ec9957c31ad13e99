-- What a patch leaves.
use Rattle.std.proofs.Common.{◌≡◌, ℕ, ◌<◌, ◌≤◌, true, List, All, get_or, nat_lt, ap, sym, ◌∙◌, arith}
use Rattle.std.specs.Prelude.{None}
use Rattle.std.proofs.lemmas.Bool.{cond-true}
use Rattle.std.proofs.lemmas.Bool.Decides.{nat_tests}
use Rattle.lfs_block.specs.Change.{change_of}
use Rattle.lfs_block.specs.Disk.{Disk, IsDisk, block_at, block_of, erased_block}
use Rattle.lfs_block.specs.Patch.{ChangeSet, IsGrowth}
use Rattle.lfs_block.specs.PatchLaws.{AppliedBlocks, AppliedIsDisk}
use Rattle.lfs_block.proofs.ChangeLemmas.{overlaid-by}
use Rattle.lfs_file.specs.Content.{content}
use Rattle.lfs_file.specs.Laws.{AgreeOn, ContentStays}
use Rattle.lfs_listing.specs.Comparing.{Leads}

within_test : (n k : ℕ) → n < k → nat_lt n k ≡ true
within_test n k less = grind (arith, nat_tests)

block_within : (d : Disk) (n : ℕ) → n < d.count → block_at d n ≡ block_of d n
block_within d n less = cond-true (nat_lt n d.count) (block_of d n) (erased_block d.size) (within_test n d.count less)

-- a block that the patch doesn't name stays
block_left : AppliedBlocks → (p : ChangeSet) (d e : Disk) (n : ℕ) → IsDisk d → IsGrowth p → Leads p d e → d.count ≤ e.count
    → n < d.count → change_of n p.changes ≡ None → block_of d n ≡ block_of e n
block_left blocks p d e n disk growth leads few less unnamed =
    let there : n < e.count = omega (arith, few, less) in
    sym (block_within d n less) ∙ sym (overlaid-by p.changes n (block_at d n) None unnamed)
    ∙ sym (blocks p d n disk growth.patch leads.agrees) ∙ ap (λ (x : Disk). block_at x n) (sym leads.is) ∙ block_within e n there

agree : AppliedIsDisk → AppliedBlocks → (p : ChangeSet) (d e : Disk) (blocks : List ℕ) → IsDisk d → IsGrowth p → Leads p d e
    → All (λ b. b < d.count) blocks → All (λ b. change_of b p.changes ≡ None) blocks → AgreeOn blocks d e
agree is_disk held p d e blocks disk growth leads below unnamed =
    let after = is_disk p d disk growth.patch leads.agrees in
    let size : e.size ≡ d.size = ap (λ (x : Disk). x.size) leads.is ∙ after.size in
    let count : e.count ≡ p.after = ap (λ (x : Disk). x.count) leads.is ∙ after.count in
    let few : d.count ≤ e.count = omega (arith, count, leads.agrees.count, growth.rise) in
    record {
      size = sym size;
      count = few;
      same = λ i x within.
          block_left held p d e (get_or blocks i x) disk growth leads few (below i x within) (unnamed i x within);
    }

-- so the contents of a file stay whose blocks it doesn't name
pub contents_left : ContentStays → AppliedIsDisk → AppliedBlocks → (p : ChangeSet) (d e : Disk) (blocks others : List ℕ) → IsDisk d
    → IsGrowth p → Leads p d e → All (λ b. b < d.count) blocks → blocks ≡ others → All (λ b. change_of b p.changes ≡ None) blocks
    → (size : ℕ) → content d size blocks ≡ content e size others
contents_left stays is_disk held p d e blocks others disk growth leads below same unnamed size =
    stays d e size blocks (agree is_disk held p d e blocks disk growth leads below unnamed) ∙ ap (λ (l : List ℕ). content e size l) same
