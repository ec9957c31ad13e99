-- What a change of some blocks leaves, and that its reverse undoes it.
use Rattle.std.proofs.Common.{◌≡◌, ◌≢◌, ℕ, ◌<◌, ◌≤◌, ◌==◌, max, List, [], ◌∷◌, map, None, option_map, refl, ap, sym, subst, ◌∙◌, arith}
use Rattle.std.proofs.Common.{inl, inr}
use Rattle.std.specs.List.{AllByRecursion}
use Rattle.std.proofs.lemmas.Bool.{cases_eq, cases_lt, cond-true, cond-false, eq-eqb, ne_eqb}
use Rattle.lfs_block.specs.Change.{Change, IsRising, IsBlockChange, change_of, flip, overlaid}
use Rattle.lfs_block.specs.Disk.{Disk, IsDisk, block_at, block_of, erased_block, put, resized}
use Rattle.lfs_block.specs.Geometry.{IsGeometry}
use Rattle.lfs_block.specs.Patch.{ChangeSet, IsChangeIn, IsGrowth, IsPatch, AgreesAt, AgreesOld, AgreesNew, flipped, put_all, applied}
use Rattle.lfs_block.specs.Patch.{reverted}
use Rattle.lfs_block.specs.PatchLaws.{IsDiskAs, IsDiskOf, FitsDisk, kept}
use Rattle.lfs_block.specs.PatchLaws.{AppliedIsDisk, AppliedBlocks, AppliedChanges, AppliedAgrees, AppliedRevertsBack, ChangedIsDisk}
use Rattle.lfs_block.specs.PatchLaws.{ChangedBlocks, FlippedIsPatch, FlippedTwice, GrownIsKept, KeptIsDisk, KeptBlocks, RevertedIsDisk}
use Rattle.lfs_block.specs.PatchLaws.{RevertedAgrees, RevertedAppliesAgain}
use Rattle.lfs_block.proofs.ChangeLemmas.{change-here, change-past, overlaid-by}
use Rattle.lfs_block.proofs.DiskLemmas.{equal-by_blocks}
use Rattle.lfs_block.proofs.PutLemmas.{block_of-put, block_of-put_other, put-is_disk}
use Rattle.lfs_block.proofs.ResizeLemmas.{block_at-behind, block_at-within, resized-block, resized-is_disk, resized-stays}
use Rattle.lfs_block.proofs.ResizeLemmas.{stays-at}

-- ---- each of some changes

pub each-both : (P Q R : Change → Type 0) → ((c : Change) → P c → Q c → R c) → (cs : List Change) → AllByRecursion P cs
    → AllByRecursion Q cs → AllByRecursion R cs
each-both P Q R join [] these those = tt
each-both P Q R join (c ∷ cs) these those = (join c these.0 those.0, each-both P Q R join cs these.1 those.1)

pub each-one : (P Q : Change → Type 0) → ((c : Change) → P c → Q c) → (cs : List Change) → AllByRecursion P cs → AllByRecursion Q cs
each-one P Q turn [] each = tt
each-one P Q turn (c ∷ cs) each = (turn c each.0, each-one P Q turn cs each.1)

pub each-flipped : (P Q : Change → Type 0) → ((c : Change) → P c → Q (flip c)) → (cs : List Change) → AllByRecursion P cs
    → AllByRecursion Q (map flip cs)
each-flipped P Q turn [] each = tt
each-flipped P Q turn (c ∷ cs) each = (turn c each.0, each-flipped P Q turn cs each.1)

pub each-unflipped : (P Q : Change → Type 0) → ((c : Change) → Q (flip c) → P c) → (cs : List Change) → AllByRecursion Q (map flip cs)
    → AllByRecursion P cs
each-unflipped P Q turn [] each = tt
each-unflipped P Q turn (c ∷ cs) each = (turn c each.0, each-unflipped P Q turn cs each.1)

-- ---- before and after change places

flip-twice : (cs : List Change) → map flip (map flip cs) ≡ cs
flip-twice [] = refl
flip-twice (c ∷ cs) = ap (λ (es : List Change). c ∷ es) (flip-twice cs)

pub flip-rising : (cs : List Change) → IsRising cs → IsRising (map flip cs)
flip-rising [] rising = tt
flip-rising (c ∷ cs) rising = (
  each-flipped (λ e. c.number < e.number) (λ e. c.number < e.number) (λ e lt. lt) cs rising.0,
  flip-rising cs rising.1,
)

pub flip-complete : (size : ℕ) (c : Change) → IsBlockChange size c → IsBlockChange size (flip c)
flip-complete size c complete = record { old = complete.new; new = complete.old; old_bytes = complete.new_bytes; new_bytes = complete.old_bytes }

flip-change : (size before after : ℕ) (c : Change) → IsChangeIn size before after c → IsChangeIn size after before (flip c)
flip-change size before after c is =
    record { complete = flip-complete size c is.complete; within = omega (arith, is.within); old = is.new; new = is.old }

pub flipped-twice : FlippedTwice
flipped-twice p =
    ap (λ (cs : List Change). record { size = p.size; before = p.before; after = p.after; changes = cs }) (flip-twice p.changes)

pub flipped-is_patch : FlippedIsPatch
flipped-is_patch p is =
    record {
      some = λ none. is.some (sym (flip-twice p.changes) ∙ ap (map flip) none);
      rising = flip-rising p.changes is.rising;
      before = is.after;
      after = is.before;
      each = each-flipped (IsChangeIn p.size p.before p.after) (IsChangeIn p.size p.after p.before)
          (flip-change p.size p.before p.after) p.changes is.each;
    }

-- the change of a block, backwards
pub change-flipped : (cs : List Change) (n : ℕ) → change_of n (map flip cs) ≡ option_map flip (change_of n cs)
change-flipped [] n = refl
change-flipped (c ∷ cs) n =
    elim (cases_eq c.number n) [
      | inl same ↦ change-here (flip c) (map flip cs) n same ∙ sym (ap (option_map flip) (change-here c cs n same))
      | inr other ↦
          change-past (flip c) (map flip cs) n other
          ∙ change-flipped cs n
          ∙ sym (ap (option_map flip) (change-past c cs n other))
    ]

pub none-flipped : (cs : List Change) (n : ℕ) → change_of n cs ≡ None → change_of n (map flip cs) ≡ None
none-flipped cs n none = change-flipped cs n ∙ ap (option_map flip) none

pub none-unflipped : (cs : List Change) (n : ℕ) → change_of n (map flip cs) ≡ None → change_of n cs ≡ None
none-unflipped cs n none =
    ap (change_of n) (sym (flip-twice cs)) ∙ change-flipped (map flip cs) n ∙ ap (option_map flip) none

-- ---- what one block holds

overlaid-here : (c : Change) (cs : List Change) (n : ℕ) (below : List ℕ) → c.number ≡ n → overlaid (c ∷ cs) n below ≡ c.new
overlaid-here c cs n below same = cond-true (c.number == n) c.new (overlaid cs n below) (eq-eqb c.number n same)

overlaid-past : (c : Change) (cs : List Change) (n : ℕ) (below : List ℕ) → c.number ≢ n → overlaid (c ∷ cs) n below ≡ overlaid cs n below
overlaid-past c cs n below other = cond-false (c.number == n) c.new (overlaid cs n below) (ne_eqb c.number n other)

-- a block below all that are named
overlaid-none : (cs : List Change) (n : ℕ) (below : List ℕ) → AllByRecursion (λ e. n < e.number) cs → overlaid cs n below ≡ below
overlaid-none [] n below less = refl
overlaid-none (c ∷ cs) n below less =
    let first : n < c.number = less.0 in
    overlaid-past c cs n below (λ same. absurd (omega arith)) ∙ overlaid-none cs n below less.1

-- each block that is named holds its change's new bytes
overlaid-each : (held : ℕ → List ℕ) (cs : List Change) → IsRising cs → AllByRecursion (λ c. overlaid cs c.number (held c.number) ≡ c.new) cs
overlaid-each held [] rising = tt
overlaid-each held (c ∷ cs) rising = (
  overlaid-here c cs c.number (held c.number) refl,
  each-both (λ e. c.number < e.number) (λ e. overlaid cs e.number (held e.number) ≡ e.new)
      (λ e. overlaid (c ∷ cs) e.number (held e.number) ≡ e.new)
      (λ e less is. overlaid-past c cs e.number (held e.number) (λ same. absurd (omega (arith, less, same))) ∙ is) cs rising.0
      (overlaid-each held cs rising.1),
)

-- changes and their reverse leave a block as it was
overlaid-back : (d : Disk) (cs : List Change) (n : ℕ) → AllByRecursion (AgreesAt d) cs
    → overlaid (map flip cs) n (overlaid cs n (block_at d n)) ≡ block_at d n
overlaid-back d [] n stand = refl
overlaid-back d (c ∷ cs) n stand =
    let now : List ℕ = overlaid (c ∷ cs) n (block_at d n) in
    elim (cases_eq c.number n) [
      | inl same ↦ overlaid-here (flip c) (map flip cs) n now same ∙ sym stand.0 ∙ ap (block_at d) same
      | inr other ↦
          overlaid-past (flip c) (map flip cs) n now other
          ∙ ap (overlaid (map flip cs) n) (overlaid-past c cs n (block_at d n) other)
          ∙ overlaid-back d cs n stand.1
    ]

-- a block that isn't there after is erased then, if it is where it isn't named
overlaid-erased : (size before after : ℕ) (cs : List Change) (n : ℕ) (below : List ℕ) → AllByRecursion (IsChangeIn size before after) cs
    → after ≤ n → (change_of n cs ≡ None → below ≡ erased_block size) → overlaid cs n below ≡ erased_block size
overlaid-erased size before after [] n below each behind rest = rest refl
overlaid-erased size before after (c ∷ cs) n below each behind rest =
    elim (cases_eq c.number n) [
      | inl same ↦ overlaid-here c cs n below same ∙ each.0.new (omega (arith, same, behind))
      | inr other ↦
          overlaid-past c cs n below other
          ∙ overlaid-erased size before after cs n below each.1 behind (λ none. rest (change-past c cs n other ∙ none))
    ]

-- ---- changes of a disk

pub changed-is_disk : ChangedIsDisk
changed-is_disk d [] disk fits = record { disk = disk; size = refl; count = refl }
changed-is_disk d (c ∷ cs) disk fits =
    let next = changed-is_disk (put c.number c.new d) cs (put-is_disk d c.number c.new disk fits.0.0 fits.0.1.new
    fits.0.1.new_bytes) fits.1 in
    record { disk = next.disk; size = next.size; count = next.count }

pub changed-blocks : ChangedBlocks
changed-blocks d [] n disk rising fits = refl
changed-blocks d (c ∷ cs) n disk rising fits =
    let next : Disk = put c.number c.new d in
    let rest : block_of (put_all cs next) n ≡ overlaid cs n (block_of next n) =
    changed-blocks next cs n (put-is_disk d c.number c.new disk fits.0.0 fits.0.1.new fits.0.1.new_bytes) rising.1 fits.1 in
    elim (cases_eq c.number n) [
      | inl same ↦
          let here : block_of next n ≡ c.new = ap (block_of next) (sym same) ∙ block_of-put d c.number c.new disk fits.0.0 fits.0.1.new in
          rest
          ∙ ap (overlaid cs n) here
          ∙ overlaid-none cs n c.new (subst (λ (k : ℕ). AllByRecursion (λ e. k < e.number) cs) same rising.0)
          ∙ sym (overlaid-here c cs n (block_of d n) same)
      | inr other ↦
          rest
          ∙ ap (overlaid cs n) (block_of-put_other d c.number n c.new disk fits.0.0 (λ same. other (sym same)) fits.0.1.new)
          ∙ sym (overlaid-past c cs n (block_of d n) other)
    ]

-- ---- a patch on a disk of its block size

-- the greater of its counts
abbrev wide : ChangeSet → ℕ
wide p = max p.before p.after

wide-geometry : (p : ChangeSet) → IsPatch p → IsGeometry p.size (wide p)
wide-geometry p is =
    elim (cases_lt p.before p.after) [
      | inl less ↦ let top : p.after ≡ max p.before p.after = omega (arith, less) in subst (IsGeometry p.size) top is.after
      | inr most ↦ let top : p.before ≡ max p.before p.after = omega (arith, most) in subst (IsGeometry p.size) top is.before
    ]

wide-is_disk : (p : ChangeSet) (d : Disk) → IsDisk d → IsPatch p → p.size ≡ d.size → IsDisk (resized (wide p) d)
wide-is_disk p d disk is size =
    resized-is_disk d (wide p) disk (subst (λ (k : ℕ). IsGeometry k (wide p)) size (wide-geometry p is))

wide-fits : (p : ChangeSet) (d : Disk) → IsPatch p → p.size ≡ d.size → AllByRecursion (FitsDisk (resized (wide p) d)) p.changes
wide-fits p d is size =
    each-one (IsChangeIn p.size p.before p.after) (FitsDisk (resized (wide p) d))
    (λ c one. (one.within, subst (λ (k : ℕ). IsBlockChange k c) size one.complete)) p.changes is.each

-- the disk with that many blocks and the changes made
abbrev widened : ChangeSet → Disk → Disk
widened p d = put_all p.changes (resized (wide p) d)

widened-is_disk : (p : ChangeSet) (d : Disk) → IsDisk d → IsPatch p → p.size ≡ d.size → IsDiskAs (resized (wide p) d) (widened p d)
widened-is_disk p d disk is size =
    changed-is_disk (resized (wide p) d) p.changes (wide-is_disk p d disk is size) (wide-fits p d is size)

pub made-is_disk : (p : ChangeSet) (d : Disk) → IsDisk d → IsPatch p → p.size ≡ d.size → IsDiskOf d.size p.after (applied p d)
made-is_disk p d disk is size =
    let wider = widened-is_disk p d disk is size in
    record {
      disk = resized-is_disk (widened p d) p.after wider.disk
          (subst (λ (k : ℕ). IsGeometry k p.after) (size ∙ sym wider.size) is.after);
      size = wider.size;
      count = refl;
    }

-- a block that is there after
pub made-block : (p : ChangeSet) (d : Disk) (n : ℕ) → IsDisk d → IsPatch p → p.size ≡ d.size → n < p.after
    → block_of (applied p d) n ≡ overlaid p.changes n (block_at d n)
made-block p d n disk is size within =
    let wider = widened-is_disk p d disk is size in
    let below : n < max p.before p.after = omega (arith, within) in
    resized-block (widened p d) p.after n wider.disk within
    ∙ block_at-within (widened p d) n (subst (λ (k : ℕ). n < k) (sym wider.count) below)
    ∙ changed-blocks (resized (wide p) d) p.changes n (wide-is_disk p d disk is size) is.rising (wide-fits p d is size)
    ∙ ap (overlaid p.changes n) (resized-block d (wide p) n disk below)

-- ---- a patch on a disk that it agrees with

pub applied-is_disk : AppliedIsDisk
applied-is_disk p d disk is agrees = made-is_disk p d disk is agrees.size

pub applied-blocks : AppliedBlocks
applied-blocks p d n disk is agrees =
    let after = applied-is_disk p d disk is agrees in
    elim (cases_lt n p.after) [
      | inl within ↦ block_at-within (applied p d) n within ∙ made-block p d n disk is agrees.size within
      | inr behind ↦
          block_at-behind (applied p d) n behind
          ∙ ap erased_block (after.size ∙ sym agrees.size)
          ∙ sym (overlaid-erased p.size p.before p.after p.changes n (block_at d n) is.each behind
          (λ none. agrees.rest n behind none ∙ ap erased_block (sym agrees.size)))
    ]

pub applied-agrees : AppliedAgrees
applied-agrees p d disk is agrees =
    let after = applied-is_disk p d disk is agrees in
    record {
      size = agrees.size ∙ sym after.size;
      count = refl;
      stand = each-flipped (λ c. overlaid p.changes c.number (block_at d c.number) ≡ c.new) (AgreesAt (applied p d))
          (λ c new. applied-blocks p d c.number disk is agrees ∙ new) p.changes
          (overlaid-each (block_at d) p.changes is.rising);
      rest = λ n behind none.
          applied-blocks p d n disk is agrees
          ∙ overlaid-by p.changes n (block_at d n) None (none-unflipped p.changes n none)
          ∙ block_at-behind d n (subst (λ (k : ℕ). k ≤ n) agrees.count behind)
          ∙ ap erased_block (sym after.size);
    }

pub applied-back : AppliedRevertsBack
applied-back p d disk is agrees =
    let after = applied-is_disk p d disk is agrees in
    let turned : IsPatch (flipped p) = flipped-is_patch p is in
    let stands : AgreesNew p (applied p d) = applied-agrees p d disk is agrees in
    let back = applied-is_disk (flipped p) (applied p d) after.disk turned stands in
    equal-by_blocks (reverted p (applied p d)) d back.disk disk (back.size ∙ after.size) (back.count ∙ agrees.count) (λ n lt.
    sym (block_at-within (reverted p (applied p d)) n lt)
    ∙ applied-blocks (flipped p) (applied p d) n after.disk turned stands
    ∙ ap (overlaid (map flip p.changes) n) (applied-blocks p d n disk is agrees)
    ∙ overlaid-back d p.changes n agrees.stand
    ∙ block_at-within d n (subst (λ (k : ℕ). n < k) agrees.count lt))

-- ---- a patch that keeps the count

kept-disk : (p : ChangeSet) (d : Disk) → IsDisk d → AgreesOld p d → p.after ≡ p.before → resized (wide p) d ≡ d
kept-disk p d disk agrees keeps =
    let same : max p.before p.after ≡ d.count = omega (arith, keeps, agrees.count) in
    stays-at d (wide p) disk same

pub kept-changes : AppliedChanges
kept-changes p d disk is agrees keeps =
    let stays = kept-disk p d disk agrees keeps in
    let fits : AllByRecursion (FitsDisk d) p.changes =
    subst (λ (e : Disk). AllByRecursion (FitsDisk e) p.changes) stays (wide-fits p d is agrees.size) in
    let made = changed-is_disk d p.changes disk fits in (
      fits,
      ap (λ (e : Disk). resized p.after (put_all p.changes e)) stays
          ∙ stays-at (put_all p.changes d) p.after made.disk (keeps ∙ agrees.count ∙ sym made.count),
    )

pub kept-is_disk : KeptIsDisk
kept-is_disk p d disk is agrees keeps =
    let made = kept-changes p d disk is agrees keeps in
    subst (IsDiskAs d) (sym made.1) (changed-is_disk d p.changes disk made.0)

pub kept-blocks : KeptBlocks
kept-blocks p d n disk is agrees keeps =
    let made = kept-changes p d disk is agrees keeps in
    ap (λ (e : Disk). block_of e n) made.1 ∙ changed-blocks d p.changes n disk is.rising made.0

-- ---- a patch that lengthens

kept-change : (size before after : ℕ) → before ≤ after → (c : Change) → IsChangeIn size before after c → IsChangeIn size after after c
kept-change size before after rise c one =
    record {
      complete = one.complete;
      within = omega (arith, rise, one.within);
      old = λ behind. one.old (omega (arith, rise, behind));
      new = one.new;
    }

kept-is_patch : (p : ChangeSet) → IsGrowth p → IsPatch (kept p)
kept-is_patch p grows =
    record {
      some = grows.patch.some;
      rising = grows.patch.rising;
      before = grows.patch.after;
      after = grows.patch.after;
      each = each-one (IsChangeIn p.size p.before p.after) (IsChangeIn p.size p.after p.after)
          (kept-change p.size p.before p.after grows.rise) p.changes grows.patch.each;
    }

-- it agrees with the image that is lengthened already
kept-agrees : (p : ChangeSet) (d : Disk) → IsDisk d → IsGrowth p → AgreesOld p d → AgreesOld (kept p) (resized p.after d)
kept-agrees p d disk grows agrees =
    record {
      size = agrees.size;
      count = refl;
      stand = each-both (IsChangeIn p.size p.before p.after) (AgreesAt d) (AgreesAt (resized p.after d))
          (λ c one at.
          let within : c.number < p.after = omega (arith, one.within, grows.rise) in
          block_at-within (resized p.after d) c.number within ∙ resized-block d p.after c.number disk within ∙ at)
          p.changes grows.patch.each agrees.stand;
      rest = λ n behind none. block_at-behind (resized p.after d) n behind;
    }

pub grown-is_kept : GrownIsKept
grown-is_kept p d disk grows agrees =
    let top : max p.before p.after ≡ p.after = omega (arith, grows.rise) in
    let same : max p.after p.after ≡ p.after = omega arith in
    let longer : IsDisk (resized p.after d) =
    resized-is_disk d p.after disk (subst (λ (k : ℕ). IsGeometry k p.after) agrees.size grows.patch.after) in
    record {
      patch = kept-is_patch p grows;
      disk = longer;
      stands = kept-agrees p d disk grows agrees;
      same = ap (λ (e : Disk). resized p.after (put_all p.changes e))
          (ap (λ (k : ℕ). resized k (resized p.after d)) same
          ∙ resized-stays (resized p.after d) longer
          ∙ ap (λ (k : ℕ). resized k d) (sym top));
    }

-- ---- and backwards

pub reverted-is_disk : RevertedIsDisk
reverted-is_disk p d disk is agrees = applied-is_disk (flipped p) d disk (flipped-is_patch p is) agrees

pub reverted-agrees : RevertedAgrees
reverted-agrees p d disk is agrees =
    subst (λ (q : ChangeSet). AgreesOld q (reverted p d)) (flipped-twice p)
    (applied-agrees (flipped p) d disk (flipped-is_patch p is) agrees)

pub reverted-again : RevertedAppliesAgain
reverted-again p d disk is agrees =
    subst (λ (q : ChangeSet). applied q (reverted p d) ≡ d) (flipped-twice p)
    (applied-back (flipped p) d disk (flipped-is_patch p is) agrees)

-- ---- how the changes are made one after another

-- the lengthened image has each block that is changed
pub grown-fits : (p : ChangeSet) (d : Disk) → IsGrowth p → p.size ≡ d.size → AllByRecursion (FitsDisk (resized p.after d)) p.changes
grown-fits p d grows size =
    let top : max p.before p.after ≡ p.after = omega (arith, grows.rise) in
    subst (λ (k : ℕ). AllByRecursion (FitsDisk (resized k d)) p.changes) top (wide-fits p d grows.patch size)

pub grown-is_disk : (p : ChangeSet) (d : Disk) → IsDisk d → IsGrowth p → p.size ≡ d.size → IsDisk (resized p.after d)
grown-is_disk p d disk grows size =
    resized-is_disk d p.after disk (subst (λ (k : ℕ). IsGeometry k p.after) size grows.patch.after)

-- which they leave as the patch does
pub grown-made : (p : ChangeSet) (d : Disk) → IsDisk d → IsGrowth p → p.size ≡ d.size
    → put_all p.changes (resized p.after d) ≡ applied p d
grown-made p d disk grows size =
    let top : max p.before p.after ≡ p.after = omega (arith, grows.rise) in
    let made = changed-is_disk (resized p.after d) p.changes (grown-is_disk p d disk grows size) (grown-fits p d grows size) in
    sym (stays-at (put_all p.changes (resized p.after d)) p.after made.disk (sym made.count))
    ∙ ap (λ (k : ℕ). resized p.after (put_all p.changes (resized k d))) (sym top)

uncut-disk : (p : ChangeSet) (d : Disk) → IsDisk d → IsGrowth p → AgreesNew p d → resized (max p.after p.before) d ≡ d
uncut-disk p d disk grows agrees =
    let same : max p.after p.before ≡ d.count = omega (arith, grows.rise, agrees.count) in
    stays-at d (max p.after p.before) disk same

-- the image from after has each block that is changed
pub uncut-fits : (p : ChangeSet) (d : Disk) → IsDisk d → IsGrowth p → AgreesNew p d → AllByRecursion (FitsDisk d) (map flip p.changes)
uncut-fits p d disk grows agrees =
    subst (λ (e : Disk). AllByRecursion (FitsDisk e) (map flip p.changes)) (uncut-disk p d disk grows agrees)
    (wide-fits (flipped p) d (flipped-is_patch p grows.patch) agrees.size)

-- and is what the patch makes of it backwards once it is cut
pub cut-made : (p : ChangeSet) (d : Disk) → IsDisk d → IsGrowth p → AgreesNew p d
    → resized p.before (put_all (map flip p.changes) d) ≡ reverted p d
cut-made p d disk grows agrees =
    ap (λ (e : Disk). resized p.before (put_all (map flip p.changes) e)) (sym (uncut-disk p d disk grows agrees))
