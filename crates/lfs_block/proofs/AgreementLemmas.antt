-- What a look at the blocks of an image finds, and whether the image is what a patch was made of or what it makes.
use Rattle.std.proofs.Common.{◌≡◌, ◌↔◌, ℕ, ◌<◌, ◌≤◌, Bool, false, IsTrue, None, ap, sym, subst, ◌∙◌, arith, inl, inr}
use Rattle.std.specs.List.{AllByRecursion}
use Rattle.std.proofs.lemmas.Bool.{cases_lt, false≢true}
use Rattle.lfs_block.specs.Change.{Change, change_of, flip}
use Rattle.lfs_block.specs.Disk.{Disk, block_at, erased_block}
use Rattle.lfs_block.specs.Patch.{ChangeSet, IsChangeIn, IsGrowth, AgreesAt, AgreesOld, AgreesNew, FindsOld, FindsNew, LeavesErased}
use Rattle.lfs_block.proofs.PatchLemmas.{each-both, each-flipped, each-one, each-unflipped, none-flipped, none-unflipped}
use Rattle.lfs_block.proofs.ResizeLemmas.{block_at-behind, block_at-within}

-- ---- what the patch was made of

found-old : (p : ChangeSet) (d : Disk) → p.size ≡ d.size → p.before ≡ d.count → (c : Change) → IsChangeIn p.size p.before p.after c
    → FindsOld d c → AgreesAt d c
found-old p d size count c one finds =
    elim (cases_lt c.number d.count) [
      | inl has ↦ block_at-within d c.number has ∙ finds has
      | inr behind ↦
          block_at-behind d c.number behind
          ∙ ap erased_block (sym size)
          ∙ sym (one.old (omega (arith, count, behind)))
    ]

agrees_old-by : (p : ChangeSet) (d : Disk) → IsGrowth p → p.size ≡ d.size → p.before ≡ d.count → AllByRecursion (FindsOld d) p.changes
    → AgreesOld p d
agrees_old-by p d grows size count each =
    record {
      size = size;
      count = count;
      stand = each-both (IsChangeIn p.size p.before p.after) (FindsOld d) (AgreesAt d) (found-old p d size count) p.changes
          grows.patch.each each;
      rest = λ n behind none. block_at-behind d n (omega (arith, behind, count, grows.rise));
    }

agrees_old-each : (p : ChangeSet) (d : Disk) → AgreesOld p d → AllByRecursion (FindsOld d) p.changes
agrees_old-each p d agrees =
    each-one (AgreesAt d) (FindsOld d) (λ c at has. sym (block_at-within d c.number has) ∙ at) p.changes agrees.stand

-- ---- what the patch makes

found-new : (p : ChangeSet) (d : Disk) → p.size ≡ d.size → p.after ≡ d.count → (c : Change) → IsChangeIn p.size p.before p.after c
    → FindsNew d c → AgreesAt d (flip c)
found-new p d size count c one finds =
    elim (cases_lt c.number d.count) [
      | inl has ↦ block_at-within d c.number has ∙ finds has
      | inr behind ↦
          block_at-behind d c.number behind
          ∙ ap erased_block (sym size)
          ∙ sym (one.new (omega (arith, count, behind)))
    ]

agrees_new-by : (p : ChangeSet) (d : Disk) → IsGrowth p → p.size ≡ d.size → p.after ≡ d.count → AllByRecursion (FindsNew d) p.changes
    → LeavesErased p d → AgreesNew p d
agrees_new-by p d grows size count each leaves =
    record {
      size = size;
      count = count;
      stand = each-flipped (λ c. AgreesAt d (flip c)) (AgreesAt d) (λ c at. at) p.changes
          (each-both (IsChangeIn p.size p.before p.after) (FindsNew d) (λ c. AgreesAt d (flip c)) (found-new p d size count)
          p.changes grows.patch.each each);
      rest = λ n past none. added p d n count leaves past (none-unflipped p.changes n none);
    }
  where
    added : (p : ChangeSet) (d : Disk) (n : ℕ) → p.after ≡ d.count → LeavesErased p d → p.before ≤ n → change_of n p.changes ≡ None
        → block_at d n ≡ erased_block d.size
    added p d n count leaves past none =
        elim (cases_lt n d.count) [
          | inl has ↦ block_at-within d n has ∙ leaves n past (omega (arith, has, count)) none
          | inr behind ↦ block_at-behind d n behind
        ]

agrees_new-each : (p : ChangeSet) (d : Disk) → AgreesNew p d → AllByRecursion (FindsNew d) p.changes
agrees_new-each p d agrees =
    each-unflipped (FindsNew d) (AgreesAt d) (λ c at has. sym (block_at-within d c.number has) ∙ at) p.changes agrees.stand

agrees_new-leaves : (p : ChangeSet) (d : Disk) → AgreesNew p d → LeavesErased p d
agrees_new-leaves p d agrees n past within none =
    sym (block_at-within d n (subst (λ (k : ℕ). n < k) agrees.count within)) ∙ agrees.rest n past (none-flipped p.changes n none)

-- ---- answers by parts

-- the size and a count are the image's
abbrev HasGeometry : ChangeSet → ℕ → Disk → Type 0
HasGeometry p count d = (p.size ≡ d.size) × (count ≡ d.count)

refuted : {P : Type 0} (result : Bool) → result ≡ false → (P → ⊥) → IsTrue result ↔ P
refuted result failed other = (λ truth. absurd (false≢true (sym failed ∙ truth)), λ is. absurd (other is))

denied : {P : Type 0} (part : Bool) → part ≡ false → IsTrue part ↔ P → P → ⊥
denied part failed iff is = false≢true (sym failed ∙ iff.1 is)

pub agrees_old-decided : (p : ChangeSet) (d : Disk) (finds : Bool) → IsGrowth p → HasGeometry p p.before d
    → IsTrue finds ↔ AllByRecursion (FindsOld d) p.changes → IsTrue finds ↔ AgreesOld p d
agrees_old-decided p d finds grows geometry iff = (
  λ truth. agrees_old-by p d grows geometry.0 geometry.1 (iff.0 truth),
  λ agrees. iff.1 (agrees_old-each p d agrees),
)

pub agrees_new-decided : (p : ChangeSet) (d : Disk) (leaves : Bool) → IsGrowth p → HasGeometry p p.after d
    → AllByRecursion (FindsNew d) p.changes → IsTrue leaves ↔ LeavesErased p d → IsTrue leaves ↔ AgreesNew p d
agrees_new-decided p d leaves grows geometry each iff = (
  λ truth. agrees_new-by p d grows geometry.0 geometry.1 each (iff.0 truth),
  λ agrees. iff.1 (agrees_new-leaves p d agrees),
)

pub agrees_new-unfound : (p : ChangeSet) (d : Disk) (finds result : Bool) → finds ≡ false
    → IsTrue finds ↔ AllByRecursion (FindsNew d) p.changes → result ≡ false → IsTrue result ↔ AgreesNew p d
agrees_new-unfound p d finds result failed iff is = refuted result is (λ agrees. denied finds failed iff (agrees_new-each p d agrees))

pub agrees_new-refuted : (p : ChangeSet) (d : Disk) (geometry result : Bool) → geometry ≡ false
    → IsTrue geometry ↔ HasGeometry p p.after d → result ≡ false → IsTrue result ↔ AgreesNew p d
agrees_new-refuted p d geometry result failed iff is =
    refuted result is (λ agrees. denied geometry failed iff (agrees.size, agrees.count))
