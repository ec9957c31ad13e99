-- Reading one thing after the other, as a loop does.
use Rattle.std.proofs.Common.{◌≡◌, ℕ, suc, ◌-◌, ◌+◌, ◌≤◌, ◌<◌, List, [], ◌∷◌, ◌++◌, Option, Some, None, refl, sym, ap, ◌∙◌, append_assoc}
use Rattle.std.proofs.Common.{arith}
use Rattle.std.proofs.lemmas.List.{append-nil}
use Rattle.lfs_block.specs.Change.{Change}
use Rattle.lfs_block.specs.Patch.{ChangeSet}
use Rattle.lfs_journal.specs.declared.journal_fault.JournalFault.{JournalFault}
use Rattle.lfs_journal.specs.declared.journal_fault.JournalFault.TheVariants.{JournalFormat, Memory}
use Rattle.lfs_journal.specs.Faults.{RefusesReading}
use Rattle.lfs_journal.specs.Reading.{◌>>=◌, change_at, changes_at, Head, patch_at, patches_at}

-- what was read before, and what is still read
abbrev pub with_front : {A : Type 0} → List A → Option (List A × List ℕ) → Option (List A × List ℕ)
with_front front read = read >>= λ x. Some (front ++ x.0, x.1)

regroup : {A : Type 0} (front : List A) (a : A) (read : Option (List A × List ℕ))
    → with_front front (read >>= λ x. Some (a ∷ x.0, x.1)) ≡ with_front (front ++ a ∷ []) read
regroup front a None = refl
regroup {A} front a (Some x) = ap (λ (as_read : List A). Some (as_read, x.1)) (simp append_assoc)

-- ---- changes of one block each

pub changes_go_on : (size before after : ℕ) (front : List Change) (many i least : ℕ) (bytes : List ℕ) (c : Change) (behind : List ℕ)
    (total : Option (List Change × List ℕ))
    → i < many → change_at size before after least bytes ≡ Some (c, behind)
    → with_front front (changes_at size before after (many - i) least bytes) ≡ total
    → with_front (front ++ c ∷ []) (changes_at size before after (many - (i + 1)) (c.number + 1) behind) ≡ total
unfolding changes_at
changes_go_on size before after front many i least bytes c behind total lt h so_far =
    let k : many - i ≡ suc (many - (i + 1)) = omega arith in
    let one : with_front front (changes_at size before after (many - i) least bytes)
    ≡ with_front (front ++ c ∷ []) (changes_at size before after (many - (i + 1)) (c.number + 1) behind) =
    rw (k, h) (regroup front c (changes_at size before after (many - (i + 1)) (c.number + 1) behind)) in
    sym one ∙ so_far

pub changes_refuse : (fault : JournalFault) (size before after : ℕ) (front : List Change) (many i least : ℕ) (bytes : List ℕ)
    (total : Option (List Change × List ℕ))
    → i < many → RefusesReading fault (change_at size before after least bytes)
    → with_front front (changes_at size before after (many - i) least bytes) ≡ total → RefusesReading fault total
unfolding changes_at
changes_refuse JournalFormat size before after front many i least bytes total lt h so_far =
    let k : many - i ≡ suc (many - (i + 1)) = omega arith in
    let one : with_front front (changes_at size before after (many - i) least bytes) ≡ None = rw (k, h) refl in
    sym so_far ∙ one
changes_refuse Memory size before after front many i least bytes total lt h so_far = tt

pub changes_done : (size before after : ℕ) (front : List Change) (many i least : ℕ) (bytes : List ℕ) (total : Option (List Change × List ℕ))
    → many ≤ i → with_front front (changes_at size before after (many - i) least bytes) ≡ total → total ≡ Some (front, bytes)
unfolding changes_at
changes_done size before after front many i least bytes total le so_far =
    let k : many - i ≡ 0 = omega arith in
    let one : with_front front (changes_at size before after (many - i) least bytes) ≡ Some (front, bytes) =
    rw k (ap (λ (cs : List Change). Some (cs, bytes)) (append-nil front)) in
    sym so_far ∙ one

-- ---- changes of several blocks

pub patches_go_on : (h : Head) (front : List ChangeSet) (many i : ℕ) (bytes : List ℕ) (p : ChangeSet) (behind : List ℕ)
    (total : Option (List ChangeSet × List ℕ))
    → i < many → patch_at h bytes ≡ Some (p, behind)
    → with_front front (patches_at h (many - i) bytes) ≡ total
    → with_front (front ++ p ∷ []) (patches_at h (many - (i + 1)) behind) ≡ total
unfolding patches_at
patches_go_on h front many i bytes p behind total lt read so_far =
    let k : many - i ≡ suc (many - (i + 1)) = omega arith in
    let one : with_front front (patches_at h (many - i) bytes)
    ≡ with_front (front ++ p ∷ []) (patches_at h (many - (i + 1)) behind) =
    rw (k, read) (regroup front p (patches_at h (many - (i + 1)) behind)) in
    sym one ∙ so_far

pub patches_refuse : (fault : JournalFault) (h : Head) (front : List ChangeSet) (many i : ℕ) (bytes : List ℕ)
    (total : Option (List ChangeSet × List ℕ))
    → i < many → RefusesReading fault (patch_at h bytes)
    → with_front front (patches_at h (many - i) bytes) ≡ total → RefusesReading fault total
unfolding patches_at
patches_refuse JournalFormat h front many i bytes total lt read so_far =
    let k : many - i ≡ suc (many - (i + 1)) = omega arith in
    let one : with_front front (patches_at h (many - i) bytes) ≡ None = rw (k, read) refl in
    sym so_far ∙ one
patches_refuse Memory h front many i bytes total lt read so_far = tt

pub patches_done : (h : Head) (front : List ChangeSet) (many i : ℕ) (bytes : List ℕ) (total : Option (List ChangeSet × List ℕ))
    → many ≤ i → with_front front (patches_at h (many - i) bytes) ≡ total → total ≡ Some (front, bytes)
unfolding patches_at
patches_done h front many i bytes total le so_far =
    let k : many - i ≡ 0 = omega arith in
    let one : with_front front (patches_at h (many - i) bytes) ≡ Some (front, bytes) =
    rw k (ap (λ (ps : List ChangeSet). Some (ps, bytes)) (append-nil front)) in
    sym so_far ∙ one
