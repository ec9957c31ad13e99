-- Patches that are made one after another, as one patch.
use Rattle.std.proofs.Common.{◌≡◌, ◌≢◌, ℕ, ◌<◌, List, [], ◌∷◌, None, refl, ap, sym, ◌∙◌, subst, arith}
use Rattle.std.specs.List.{AllByRecursion}
use Rattle.lfs_block.specs.Change.{Change, IsBlockChange, change_of, overlaid}
use Rattle.lfs_block.specs.Disk.{Disk, IsDisk, block_at, erased_block}
use Rattle.lfs_block.specs.Geometry.{IsGeometry}
use Rattle.lfs_block.specs.Patch.{ChangeSet, IsChangeIn, IsGrowth, AgreesAt, AgreesOld, AgreesNew, applied, reverted}
use Rattle.lfs_block.specs.PatchLaws.{AppliedAgrees, AppliedBlocks, AppliedIsDisk, AppliedRevertsBack, DisksAreTheirBlocks}
use Rattle.lfs_block.specs.PatchLaws.{RevertedAgrees, RevertedAppliesAgain, RevertedIsDisk}
use Rattle.lfs_block.proofs.ChangeLemmas.{overlaid-by}
use Rattle.lfs_block.proofs.PatchLemmas.{each-one}
use Rattle.lfs_block.proofs.ResizeLemmas.{block_at-behind, block_at-within}
use Rattle.lfs_journal.specs.Joined.{FollowOn, LeadBack, applied_all, composed, joined, laid_over, reverted_all}
use Rattle.lfs_journal.specs.JointLaws.{ComposedApplies, ComposedIsShort, ComposedReverts, OneMoreTogether}
use Rattle.lfs_journal.specs.JointLaws.{TogetherApplies, TogetherIsShort, TogetherReverts}
use Rattle.lfs_journal.proofs.LaidLemmas.{each-laid_over, length-laid_over, overlaid-laid_over, rising-laid_over, some-laid_over}

-- ---- what is owed by the layer below

-- of patches that are made
pub record Make : Type 0 where
  pub disk : AppliedIsDisk
  pub blocks : AppliedBlocks
  pub same : DisksAreTheirBlocks

-- of patches that are taken back
pub record TakeBack : Type 0 where
  pub agrees : AppliedAgrees
  pub back : AppliedRevertsBack
  pub disk : RevertedIsDisk
  pub stands : RevertedAgrees
  pub again : RevertedAppliesAgain

-- ---- the changes of two patches as one

-- the second patch can be made in the image that the first one makes
record Follows (p q : ChangeSet) (d : Disk) : Type 0 where
  disk : IsDisk d
  first : IsGrowth p
  second : IsGrowth q
  stands : AgreesOld p d
  next : AgreesOld q (applied p d)

same_size : Make → (p q : ChangeSet) (d : Disk) → Follows p q d → q.size ≡ p.size
same_size law p q d f = f.next.size ∙ (law.disk p d f.disk f.first.patch f.stands).size ∙ sym f.stands.size

same_count : Make → (p q : ChangeSet) (d : Disk) → Follows p q d → q.before ≡ p.after
same_count law p q d f = f.next.count ∙ (law.disk p d f.disk f.first.patch f.stands).count

-- a block that the first patch doesn't name is as it was
found-below : Make → (p q : ChangeSet) (d : Disk) → Follows p q d → (c : Change) → AgreesAt (applied p d) c
    → change_of c.number p.changes ≡ None → block_at d c.number ≡ c.old
found-below law p q d f c at none =
    sym (overlaid-by p.changes c.number (block_at d c.number) None none)
    ∙ sym (law.blocks p d c.number f.disk f.first.patch f.stands)
    ∙ at

-- a change of the first patch is one of both
first-change : Make → (p q : ChangeSet) (d : Disk) → Follows p q d → (c : Change) → IsChangeIn p.size p.before p.after c
    → IsChangeIn p.size p.before q.after c
first-change law p q d f c is =
    let count = same_count law p q d f in
    let rise = f.second.rise in
    let within = is.within in
    record {
      complete = is.complete;
      within = omega arith;
      old = is.old;
      new = λ past. is.new (omega (arith, past, count, rise));
    }

-- one of the second too, where the first doesn't name its block
second-change : Make → (p q : ChangeSet) (d : Disk) → Follows p q d → (c : Change) → IsChangeIn q.size q.before q.after c
    → AgreesAt (applied p d) c → change_of c.number p.changes ≡ None → IsChangeIn p.size p.before q.after c
second-change law p q d f c is at none =
    let size = same_size law p q d f in
    let rise = f.second.rise in
    let within = is.within in
    let count = f.stands.count in
    record {
      complete = subst (λ (k : ℕ). IsBlockChange k c) size is.complete;
      within = omega arith;
      old = λ past.
          sym (found-below law p q d f c at none)
          ∙ block_at-behind d c.number (omega (arith, past, count))
          ∙ ap erased_block (sym f.stands.size);
      new = λ past. is.new past ∙ ap erased_block size;
    }

-- and one of the second that goes into one of the first makes one of both
join-change : (size mid before after : ℕ) (of_size : ℕ) → of_size ≡ size → (c d : Change) → IsChangeIn size before after c
    → IsChangeIn of_size mid after d → c.number ≡ d.number → IsChangeIn size before after (joined c d)
join-change size mid before after of_size is c d first second same = record {
  complete = record {
    old = first.complete.old;
    new = second.complete.new ∙ is;
    old_bytes = first.complete.old_bytes;
    new_bytes = second.complete.new_bytes;
  };
  within = first.within;
  old = first.old;
  new = λ past. second.new (omega (arith, past, same)) ∙ ap erased_block is;
}

each-two : (P Q R : Change → Type 0) → ((c : Change) → P c → Q c → R c) → (cs : List Change) → AllByRecursion P cs
    → AllByRecursion Q cs → AllByRecursion R cs
each-two P Q R turn [] these those = tt
each-two P Q R turn (c ∷ cs) these those = (turn c these.0 those.0, each-two P Q R turn cs these.1 those.1)

each-change : Make → (p q : ChangeSet) (d : Disk) → Follows p q d
    → AllByRecursion (IsChangeIn p.size p.before q.after) (laid_over p.changes q.changes)
each-change law p q d f =
    each-laid_over (IsChangeIn p.size p.before q.after) (IsChangeIn q.size q.before q.after)
    (λ c e first second same. join-change p.size q.before p.before q.after q.size (same_size law p q d f) c e first second same)
    p.changes q.changes f.first.patch.rising f.second.patch.each
    (each-two (IsChangeIn q.size q.before q.after) (AgreesAt (applied p d))
    (λ c. change_of c.number p.changes ≡ None → IsChangeIn p.size p.before q.after c) (second-change law p q d f) q.changes
    f.second.patch.each f.next.stand)
    (each-one (IsChangeIn p.size p.before p.after) (IsChangeIn p.size p.before q.after) (first-change law p q d f) p.changes
    f.first.patch.each)

some-change : (p q : ChangeSet) → p.changes ≢ [] → (cs : List Change) → cs ≡ p.changes → laid_over p.changes q.changes ≢ []
some-change p q some [] is none = some (sym is)
some-change p q some (c ∷ cs) is none = some-laid_over c cs q.changes (ap (λ es. laid_over es q.changes) is ∙ none)

composed-growth : Make → (p q : ChangeSet) (d : Disk) → Follows p q d → IsGrowth (composed p q)
composed-growth law p q d f =
    let count = same_count law p q d f in
    let first = f.first.rise in
    let second = f.second.rise in
    record {
      patch = record {
        some = some-change p q f.first.patch.some p.changes refl;
        rising = rising-laid_over p.changes q.changes f.first.patch.rising;
        before = f.first.patch.before;
        after = subst (λ (k : ℕ). IsGeometry k q.after) (same_size law p q d f) f.second.patch.after;
        each = each-change law p q d f;
      };
      rise = omega arith;
    }

composed-stands : Make → (p q : ChangeSet) (d : Disk) → Follows p q d → AgreesOld (composed p q) d
composed-stands law p q d f =
    let count = same_count law p q d f in
    let first = f.first.rise in
    let second = f.second.rise in
    let before = f.stands.count in
    record {
      size = f.stands.size;
      count = f.stands.count;
      stand = each-laid_over (AgreesAt d) (λ _. Unit {0}) (λ c e at _ same. at) p.changes q.changes f.first.patch.rising
          (each-one (AgreesAt (applied p d)) (λ _. Unit {0}) (λ c at. tt) q.changes f.next.stand)
          (each-one (AgreesAt (applied p d)) (λ c. change_of c.number p.changes ≡ None → AgreesAt d c) (found-below law p q d f)
          q.changes f.next.stand)
          f.stands.stand;
      rest = λ n past none. block_at-behind d n (omega (arith, past, count, first, second, before));
    }

-- each block holds what the second patch makes of what the first one makes of it
composed-block : Make → (p q : ChangeSet) (d : Disk) → Follows p q d → (n : ℕ)
    → block_at (applied (composed p q) d) n ≡ block_at (applied q (applied p d)) n
composed-block law p q d f n =
    law.blocks (composed p q) d n f.disk (composed-growth law p q d f).patch (composed-stands law p q d f)
    ∙ overlaid-laid_over p.changes q.changes n (block_at d n) f.second.patch.rising
    ∙ ap (overlaid q.changes n) (sym (law.blocks p d n f.disk f.first.patch f.stands))
    ∙ sym (law.blocks q (applied p d) n (law.disk p d f.disk f.first.patch f.stands).disk f.second.patch f.next)

pub composed-applies : Make → ComposedApplies
composed-applies law p q d disk first second stands next =
    let f : Follows p q d = record { disk = disk; first = first; second = second; stands = stands; next = next } in
    let mid = law.disk p d disk first.patch stands in
    let both = law.disk (composed p q) d disk (composed-growth law p q d f).patch (composed-stands law p q d f) in
    let last = law.disk q (applied p d) mid.disk second.patch next in
    record {
      growth = composed-growth law p q d f;
      stands = composed-stands law p q d f;
      same = law.same (applied (composed p q) d) (applied q (applied p d)) both.disk last.disk (both.size ∙ sym (last.size ∙ mid.size))
          (both.count ∙ sym last.count) (λ n within.
          sym (block_at-within (applied (composed p q) d) n within)
          ∙ composed-block law p q d f n
          ∙ block_at-within (applied q (applied p d)) n (subst (λ (k : ℕ). n < k) (both.count ∙ sym last.count) within));
    }

-- ---- backwards

pub composed-reverts : ComposedApplies → TakeBack → ComposedReverts
composed-reverts applies law p q d disk first second last mid =
    let e : Disk = reverted q d in
    let b : Disk = reverted p e in
    let e_disk = law.disk q d disk second.patch last in
    let b_disk = law.disk p e e_disk.disk first.patch mid in
    let e_is : applied p b ≡ e = law.again p e e_disk.disk first.patch mid in
    let d_is : applied q e ≡ d = law.again q d disk second.patch last in
    let joint = applies p q b b_disk.disk first second (law.stands p e e_disk.disk first.patch mid)
    (subst (AgreesOld q) (sym e_is) (law.stands q d disk second.patch last)) in
    let is : applied (composed p q) b ≡ d = joint.same ∙ ap (applied q) e_is ∙ d_is in
    record {
      growth = joint.growth;
      stands = subst (AgreesNew (composed p q)) is (law.agrees (composed p q) b b_disk.disk joint.growth.patch joint.stands);
      same = ap (reverted (composed p q)) (sym is) ∙ law.back (composed p q) b b_disk.disk joint.growth.patch joint.stands;
    }

-- ---- any of them

pub together-applies : ComposedApplies → TogetherApplies
together-applies applies p [] d disk follow = record { growth = follow.0; stands = follow.1; same = refl }
together-applies applies p (q ∷ qs) d disk follow =
    let joint = applies p q d disk follow.0 follow.2.0 follow.1 follow.2.1 in
    let rest = together-applies applies (composed p q) qs d disk
    (joint.growth, joint.stands, subst (FollowOn qs) (sym joint.same) follow.2.2) in
    record { growth = rest.growth; stands = rest.stands; same = rest.same ∙ ap (applied_all qs) joint.same }

-- what patches that are taken back leave is an image
back-is_disk : TakeBack → (ps : List ChangeSet) (d : Disk) → IsDisk d → LeadBack ps d → IsDisk (reverted_all ps d)
back-is_disk law [] d disk lead = disk
back-is_disk law (p ∷ ps) d disk lead =
    (law.disk p (reverted_all ps d) (back-is_disk law ps d disk lead.0) lead.1.patch lead.2).disk

pub together-reverts : TakeBack → ComposedReverts → TogetherReverts
together-reverts law reverts p [] d disk lead = record { growth = lead.1; stands = lead.2; same = refl }
together-reverts law reverts p (q ∷ qs) d disk lead =
    let e : Disk = reverted_all qs d in
    let joint = reverts p q e (back-is_disk law qs d disk lead.0.0) lead.1 lead.0.1 lead.0.2 lead.2 in
    let rest = together-reverts law reverts (composed p q) qs d disk (lead.0.0, joint.growth, joint.stands) in
    record { growth = rest.growth; stands = rest.stands; same = rest.same ∙ joint.same }

-- ---- how many blocks they name

pub composed-short : ComposedIsShort
composed-short p q = length-laid_over p.changes q.changes

pub together-short : TogetherIsShort
together-short p [] = omega arith
together-short p (q ∷ qs) =
    let first = composed-short p q in
    let rest = together-short (composed p q) qs in
    omega arith

pub together-more : OneMoreTogether
together-more p [] q = refl
together-more p (r ∷ qs) q = together-more (composed p r) qs q
