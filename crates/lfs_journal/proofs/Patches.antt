-- Changes that are read are spelled so, and those that are spelled so are read.
use Rattle.std.proofs.Common.{◌≡◌, ◌≢◌, ℕ, zero, suc, ◌^◌, ◌<◌, ◌≤◌, false, cond, eqb, max, List, [], ◌∷◌, ◌++◌, length, All, Option, Some, None, refl}
use Rattle.std.proofs.Common.{sym, ap, subst, ◌∙◌, append_assoc, arith}
use Rattle.std.specs.Int.{w32, to_le_bytes}
use Rattle.std.specs.List.{flat_map, AllByRecursion}
use Rattle.std.proofs.lemmas.Bool.{eqb-false, ne_eqb}
use Rattle.std.proofs.lemmas.List.Elements.{All-from_recursion}
use Rattle.std.proofs.lemmas.List.Concat.{flat_map-cons}
use Rattle.std.proofs.lemmas.Option.{same_Some}
use Rattle.lfs_block.specs.Bytes.{IsBytes}
use Rattle.lfs_block.specs.Change.{Change, IsBlockChange}
use Rattle.lfs_block.specs.Geometry.{IsGeometry}
use Rattle.lfs_block.specs.Patch.{ChangeSet, IsChangeIn, IsGrowth}
use Rattle.lfs_journal.specs.Book.{change_bytes, patch_bytes_in, IsPatchOf, KeepsAt}
use Rattle.lfs_journal.specs.Reading.{◌>>=◌, word_at, changes_at, Head, counts_at, patch_at, patches_at}
use Rattle.lfs_journal.proofs.Fields.{bind_some, guard_none, Takes, Takes-then, word_takes, word_again}
use Rattle.lfs_journal.proofs.Changes.{AreChanges, IsErasedBefore, each_one, changes_take, changes_again, changes_few}
use Rattle.lfs_journal.proofs.Counts.{AreCounts, counts_text, counts_take, counts_again}

-- ---- the changes of a patch

each_from_zero : (cs : List Change) → AllByRecursion (λ e. 0 ≤ e.number) cs
each_from_zero [] = tt
each_from_zero (c ∷ cs) = (omega arith, each_from_zero cs)

each_in : (size before after : ℕ) (cs : List Change) → AllByRecursion (IsBlockChange size) cs → AllByRecursion (λ c. c.number < after) cs
    → AllByRecursion (IsErasedBefore size before) cs → AllByRecursion (IsChangeIn size before after) cs
each_in size before after [] complete below erased = tt
each_in size before after (c ∷ cs) complete below erased =
    let first : c.number < after = below.0 in (
      record { complete = complete.0; within = omega (arith, first); old = erased.0; new = λ le. absurd (omega (arith, first, le)) },
      each_in size before after cs complete.1 below.1 erased.1,
    )

each_below : (size before after : ℕ) → before ≤ after → (c : Change) → IsChangeIn size before after c → c.number < after
each_below size before after rise c is = let within : c.number < max before after = is.within in omega (arith, within, rise)

-- as many changes as a number that isn't 0 are some
some_changes : (cs : List Change) (n : ℕ) → length cs ≡ n → eqb n 0 ≡ false → cs ≢ []
some_changes cs n len test none = eqb-false n 0 test (sym len ∙ ap length none)

pub patch_of_changes : (h : Head) (counts : ℕ × ℕ) (n : ℕ) (cs : List Change) → AreCounts h counts → length cs ≡ n → eqb n 0 ≡ false
    → AreChanges h.size counts.0 counts.1 0 cs
    → IsGrowth (record { size = h.size; before = counts.0; after = counts.1; changes = cs })
patch_of_changes h counts n cs within len test are = record {
  patch = record {
    some = some_changes cs n len test;
    rising = are.rising;
    before = within.before;
    after = within.after;
    each = each_in h.size counts.0 counts.1 cs are.complete are.below are.erased;
  };
  rise = within.rise;
}

pub changes_of : (size : ℕ) (p : ChangeSet) → IsPatchOf size p → AreChanges size p.before p.after 0 p.changes
changes_of size p is =
    let patch = is.0.patch in
    let each : AllByRecursion (IsChangeIn size p.before p.after) p.changes =
    subst (λ (k : ℕ). AllByRecursion (IsChangeIn k p.before p.after) p.changes) is.1 patch.each in
    record {
      from = each_from_zero p.changes;
      rising = patch.rising;
      complete = each_one (IsChangeIn size p.before p.after) (IsBlockChange size) (λ c in_patch. in_patch.complete) p.changes each;
      below = each_one (IsChangeIn size p.before p.after) (λ c. c.number < p.after) (each_below size p.before p.after is.0.rise) p.changes
          each;
      erased = each_one (IsChangeIn size p.before p.after) (IsErasedBefore size p.before) (λ c in_patch. in_patch.old) p.changes each;
    }

-- a change has no more blocks than there are then
pub patch_within : (size : ℕ) (p : ChangeSet) → IsPatchOf size p → length p.changes ≤ p.after
patch_within size p is =
    omega (arith, changes_few size p.before p.after 0 p.changes (omega arith) (changes_of size p is))

pub patch_few : (size : ℕ) (p : ChangeSet) → IsPatchOf size p → length p.changes < 2 ^ 32
patch_few size p is =
    let limit : p.after ≤ 65536 = is.0.patch.after.count_fits.1 in
    omega (arith, patch_within size p is, limit)

each_few : (size : ℕ) (ps : List ChangeSet) → AllByRecursion (IsPatchOf size) ps → AllByRecursion (λ p. length p.changes < 2 ^ 32) ps
each_few size [] each = tt
each_few size (p ∷ ps) each = (patch_few size p each.0, each_few size ps each.1)

-- the numbers of blocks of several changes have four bytes
pub patches_few : (size : ℕ) (ps : List ChangeSet) → AllByRecursion (IsPatchOf size) ps → All (λ p. length p.changes < 2 ^ 32) ps
patches_few size ps each = All-from_recursion (λ p. length p.changes < 2 ^ 32) ps (each_few size ps each)

-- ---- one change

-- a change as version 2 spells it, or one that keeps the count
pub record IsPatchIn (h : Head) (p : ChangeSet) : Type 0 where
  pub of : IsPatchOf h.size p
  pub kept : h.version ≡ 1 → KeepsAt h.count p

pub record TakesPatch (h : Head) (bytes : List ℕ) (x : ChangeSet × List ℕ) : Type 0 where
  pub takes : Takes bytes (patch_bytes_in h.version x.0) x.1
  pub is : IsPatchIn h x.0

-- a change, each of whose parts is read
patch_read : (h : Head) (bytes : List ℕ) (n : ℕ × List ℕ) (k : (ℕ × ℕ) × List ℕ) (c : List Change × List ℕ) (x : ChangeSet × List ℕ)
    → IsBytes bytes → IsGeometry h.size h.count → word_at bytes ≡ Some n → eqb n.0 0 ≡ false → counts_at h n.1 ≡ Some k
    → changes_at h.size k.0.0 k.0.1 n.0 0 k.1 ≡ Some c
    → (record { size = h.size; before = k.0.0; after = k.0.1; changes = c.0 }, c.1) ≡ x → TakesPatch h bytes x
patch_read h bytes n k c x are geometry number_is some counts_are changes_are same =
    let t = word_takes bytes n.0 n.1 are number_is in
    let counts = counts_take h n.1 k t.0.rest_bytes geometry counts_are in
    let changes = changes_take h.size k.0.0 k.0.1 n.0 0 k.1 c counts.takes.rest_bytes changes_are in
    let text : List ℕ = counts_text h.version k.0 in
    let blocks : List ℕ = flat_map change_bytes c.0 in
    let later : Takes n.1 (text ++ blocks) c.1 = Takes-then n.1 text k.1 blocks c.1 counts.takes changes.takes in
    let both : Takes bytes (to_le_bytes w32 n.0 ++ (text ++ blocks)) c.1 =
    Takes-then bytes (to_le_bytes w32 n.0) n.1 (text ++ blocks) c.1 t.0 later in
    let all : TakesPatch h bytes (record { size = h.size; before = k.0.0; after = k.0.1; changes = c.0 }, c.1) = record {
      takes = subst (λ (many : ℕ). Takes bytes (to_le_bytes w32 many ++ (text ++ blocks)) c.1) (sym changes.len) both;
      is = record {
        of = (patch_of_changes h k.0 n.0 c.0 counts.are changes.len some changes.are, refl);
        kept = counts.are.kept;
      };
    } in
    subst (TakesPatch h bytes) same all

-- what is read of a change behind the number of its blocks, and behind its counts
abbrev changes_in : Head → ℕ → (ℕ × ℕ) × List ℕ → Option (ChangeSet × List ℕ)
changes_in h many counts = changes_at h.size counts.0.0 counts.0.1 many 0 counts.1 >>= λ changes.
    Some (record { size = h.size; before = counts.0.0; after = counts.0.1; changes = changes.0 }, changes.1)

abbrev counted_in : Head → ℕ × List ℕ → Option (ChangeSet × List ℕ)
counted_in h n = counts_at h n.1 >>= λ counts. changes_in h n.0 counts

pub patch_takes : (h : Head) (bytes : List ℕ) (x : ChangeSet × List ℕ) → IsBytes bytes → IsGeometry h.size h.count
    → patch_at h bytes ≡ Some x → TakesPatch h bytes x
unfolding patch_at
patch_takes h bytes x are geometry e =
    let n = bind_some (word_at bytes) (λ n. cond (eqb n.0 0) None (counted_in h n)) x e in
    let g = guard_none (eqb n.0.0 0) (counted_in h n.0) x n.2 in
    let k = bind_some (counts_at h n.0.1) (changes_in h n.0.0) x g.1 in
    let c = bind_some (changes_at h.size k.0.0.0 k.0.0.1 n.0.0 0 k.0.1) (λ changes.
    Some (record { size = h.size; before = k.0.0.0; after = k.0.0.1; changes = changes.0 }, changes.1)) x k.2 in
    patch_read h bytes n.0 k.0 c.0 x are geometry n.1 g.0 k.1 c.1
    (same_Some (record { size = h.size; before = k.0.0.0; after = k.0.0.1; changes = c.0.0 }, c.0.1) x c.2)

none_from_length : (cs : List Change) → length cs ≡ 0 → cs ≡ []
none_from_length [] e = refl
none_from_length (c ∷ cs) e = absurd (omega (arith, e))

counts_of : (h : Head) (p : ChangeSet) → IsPatchIn h p → AreCounts h (p.before, p.after)
counts_of h p is = record {
  before = subst (λ (k : ℕ). IsGeometry k p.before) is.of.1 is.of.0.patch.before;
  after = subst (λ (k : ℕ). IsGeometry k p.after) is.of.1 is.of.0.patch.after;
  rise = is.of.0.rise;
  kept = is.kept;
}

pub patch_again : (h : Head) (p : ChangeSet) (rest : List ℕ) → IsPatchIn h p
    → patch_at h (patch_bytes_in h.version p ++ rest) ≡ Some (p, rest)
unfolding patch_at
patch_again h p rest is =
    let many : List ℕ = to_le_bytes w32 (length p.changes) in
    let text : List ℕ = counts_text h.version (p.before, p.after) in
    let blocks : List ℕ = flat_map change_bytes p.changes in
    let regrouped : patch_bytes_in h.version p ++ rest ≡ many ++ (text ++ (blocks ++ rest)) =
    append_assoc many (text ++ blocks) rest ∙ ap (λ (x : List ℕ). many ++ x) (append_assoc text blocks rest) in
    let test : eqb (length p.changes) 0 ≡ false =
    ne_eqb (length p.changes) 0 (λ e. is.of.0.patch.some (none_from_length p.changes e)) in
    let word = word_again (length p.changes) (text ++ (blocks ++ rest)) (patch_few h.size p is.of) in
    let counts = counts_again h (p.before, p.after) (blocks ++ rest) (counts_of h p is) in
    let changes = changes_again h.size p.before p.after 0 p.changes rest is.of.0.patch.after.count_fits.1 (changes_of h.size p is.of) in
    ap (patch_at h) regrouped
    ∙ rw (word, test, counts, changes) (ap (λ (k : ℕ). Some
    (record { size = k; before = p.before; after = p.after; changes = p.changes }, rest)) (sym is.of.1))

-- ---- several changes

pub record TakesPatches (h : Head) (n : ℕ) (bytes : List ℕ) (x : List ChangeSet × List ℕ) : Type 0 where
  pub takes : Takes bytes (flat_map (patch_bytes_in h.version) x.0) x.1
  pub len : length x.0 ≡ n
  pub each : AllByRecursion (IsPatchIn h) x.0

-- one more in front
patches_more : (h : Head) (n : ℕ) (bytes : List ℕ) (a : ChangeSet × List ℕ) (b x : List ChangeSet × List ℕ) → TakesPatch h bytes a
    → TakesPatches h n a.1 b → (a.0 ∷ b.0, b.1) ≡ x → TakesPatches h (suc n) bytes x
patches_more h n bytes a b x first others same =
    let spell : ChangeSet → List ℕ = patch_bytes_in h.version in
    let both : Takes bytes (spell a.0 ++ flat_map spell b.0) b.1 =
    Takes-then bytes (spell a.0) a.1 (flat_map spell b.0) b.1 first.takes others.takes in
    let all : TakesPatches h (suc n) bytes (a.0 ∷ b.0, b.1) = record {
      takes = subst (λ (text : List ℕ). Takes bytes text b.1) (sym (flat_map-cons spell a.0 b.0)) both;
      len = ap suc others.len;
      each = (first.is, others.each);
    } in
    subst (TakesPatches h (suc n) bytes) same all

pub patches_take : (h : Head) (n : ℕ) (bytes : List ℕ) (x : List ChangeSet × List ℕ) → IsBytes bytes → IsGeometry h.size h.count
    → patches_at h n bytes ≡ Some x → TakesPatches h n bytes x
unfolding patches_at
patches_take h zero bytes x are geometry e =
    let made : List ChangeSet × List ℕ = ([], bytes) in
    let all : TakesPatches h zero bytes made = record { takes = record { parts = refl; rest_bytes = are }; len = refl; each = tt } in
    subst (TakesPatches h zero bytes) (same_Some made x e) all
patches_take h (suc n) bytes x are geometry e =
    let a = bind_some (patch_at h bytes) (λ first. patches_at h n first.1 >>= λ others. Some (first.0 ∷ others.0, others.1)) x e in
    let b = bind_some (patches_at h n a.0.1) (λ others. Some (a.0.0 ∷ others.0, others.1)) x a.2 in
    let first = patch_takes h bytes a.0 are geometry a.1 in
    let others = patches_take h n a.0.1 b.0 first.takes.rest_bytes geometry b.1 in
    patches_more h n bytes a.0 b.0 x first others (same_Some (a.0.0 ∷ b.0.0, b.0.1) x b.2)

pub patches_again : (h : Head) (ps : List ChangeSet) (rest : List ℕ) → AllByRecursion (IsPatchIn h) ps
    → patches_at h (length ps) (flat_map (patch_bytes_in h.version) ps ++ rest) ≡ Some (ps, rest)
unfolding patches_at
patches_again h [] rest each = refl
patches_again h (p ∷ ps) rest each =
    let spell : ChangeSet → List ℕ = patch_bytes_in h.version in
    let regrouped : flat_map spell (p ∷ ps) ++ rest ≡ spell p ++ (flat_map spell ps ++ rest) =
    ap (λ (x : List ℕ). x ++ rest) (flat_map-cons spell p ps) ∙ append_assoc (spell p) (flat_map spell ps) rest in
    let one = patch_again h p (flat_map spell ps ++ rest) each.0 in
    let more = patches_again h ps rest each.1 in
    ap (patches_at h (suc (length ps))) regrouped ∙ rw (one, more) refl

-- ---- as a book has them

pub each_of : (h : Head) (ps : List ChangeSet) → AllByRecursion (IsPatchIn h) ps → AllByRecursion (IsPatchOf h.size) ps
each_of h [] each = tt
each_of h (p ∷ ps) each = (each.0.of, each_of h ps each.1)

pub each_kept : (h : Head) (ps : List ChangeSet) → h.version ≡ 1 → AllByRecursion (IsPatchIn h) ps → AllByRecursion (KeepsAt h.count) ps
each_kept h [] first each = tt
each_kept h (p ∷ ps) first each = (each.0.kept first, each_kept h ps first each.1)

pub each_as : (h : Head) (ps : List ChangeSet) → AllByRecursion (IsPatchOf h.size) ps
    → (h.version ≡ 1 → AllByRecursion (KeepsAt h.count) ps) → AllByRecursion (IsPatchIn h) ps
each_as h [] each kept = tt
each_as h (p ∷ ps) each kept =
    (record { of = each.0; kept = λ first. (kept first).0 }, each_as h ps each.1 (λ first. (kept first).1))
