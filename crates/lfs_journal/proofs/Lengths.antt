-- How many bytes a journal has.
use Rattle.std.proofs.Common.{◌≡◌, ℕ, suc, ◌+◌, ◌*◌, ◌≤◌, Bool, true, false, cond, eqb, List, [], ◌∷◌, ◌++◌, length, refl, ap, sym, ◌∙◌}
use Rattle.std.proofs.Common.{arith, length-append}
use Rattle.std.specs.Prelude.{flat_map}
use Rattle.std.specs.Int.{w32, to_le_bytes}
use Rattle.std.specs.List.{AllByRecursion}
use Rattle.std.proofs.lemmas.Grind.{flat_map-append}
use Rattle.std.proofs.lemmas.List.Concat.{flat_map-cons}
use Rattle.std.proofs.lemmas.Nat.{mul-le}
use Rattle.std.proofs.Math.Nat.{mul-add, suc-mul, zero-mul}
use Rattle.lfs_block.specs.Change.{Change, IsBlockChange}
use Rattle.lfs_block.specs.Geometry.{IsGeometry}
use Rattle.lfs_block.specs.Patch.{ChangeSet, IsChangeIn, IsPatch}
use Rattle.lfs_journal.specs.Book.{Book, IsPatchOf, change_bytes, counts_bytes, patch_bytes, patch_bytes_in, bytes_in, journal_bytes, respelling}
use Rattle.lfs_journal.specs.Laws.{JournalsAreShort}
use Rattle.lfs_journal.proofs.Changes.{each_one}
use Rattle.lfs_journal.proofs.Patches.{patch_within}

change_len : (size : ℕ) (c : Change) → IsBlockChange size c → length (change_bytes c) ≡ 2 * size + 4
change_len size c complete =
    let a = length-append (to_le_bytes w32 c.number) (c.old ++ c.new) in
    let b = length-append c.old c.new in
    let old = complete.old in
    let new = complete.new in
    omega arith

changes_len : (size : ℕ) (cs : List Change) → AllByRecursion (IsBlockChange size) cs
    → length (flat_map change_bytes cs) ≡ length cs * (2 * size + 4)
changes_len size [] complete = sym (zero-mul (2 * size + 4))
changes_len size (c ∷ cs) (first, complete) =
    let more = suc-mul (length cs) (2 * size + 4) in
    let both = length-append (change_bytes c) (flat_map change_bytes cs) in
    let one = change_len size c first in
    let others = changes_len size cs complete in
    omega arith

-- a change, in version 2
pub patch_len : (p : ChangeSet) → IsPatch p → length (patch_bytes p) ≡ 12 + length p.changes * (2 * p.size + 4)
patch_len p is =
    let counts = counts_bytes 2 p in
    let blocks = flat_map change_bytes p.changes in
    let a = length-append (to_le_bytes w32 (length p.changes)) (counts ++ blocks) in
    let b = length-append counts blocks in
    let c = length-append (to_le_bytes w32 p.before) (to_le_bytes w32 p.after) in
    let d = changes_len p.size p.changes
    (each_one (IsChangeIn p.size p.before p.after) (IsBlockChange p.size) (λ c in_patch. in_patch.complete) p.changes is.each) in
    omega arith

-- ---- what version 2 adds

-- a change, by what stands for its counts
respelled_by : (none : Bool) (many counts blocks : List ℕ) → length counts ≡ 8
    → length (many ++ (counts ++ blocks)) ≡ length (many ++ (cond none [] counts ++ blocks)) + cond none 8 0
respelled_by true many counts blocks len =
    let a = length-append many (counts ++ blocks) in
    let b = length-append counts blocks in
    let c = length-append many blocks in
    let longer : length (many ++ (counts ++ blocks)) ≡ length (many ++ blocks) + 8 = omega arith in
    longer
respelled_by false many counts blocks len =
    let same : length (many ++ (counts ++ blocks)) ≡ length (many ++ (counts ++ blocks)) + 0 = omega arith in
    same

respelled_one : (version : ℕ) (p : ChangeSet) → length (patch_bytes p) ≡ length (patch_bytes_in version p) + cond (eqb version 1) 8 0
respelled_one version p =
    let counts = to_le_bytes w32 p.before ++ to_le_bytes w32 p.after in
    respelled_by (eqb version 1) (to_le_bytes w32 (length p.changes)) counts (flat_map change_bytes p.changes)
    (length-append (to_le_bytes w32 p.before) (to_le_bytes w32 p.after))

one_more : (first : Bool) (n : ℕ) → cond first (8 * suc n) 0 ≡ cond first 8 0 + cond first (8 * n) 0
one_more true n = omega arith
one_more false n = refl

none_more : (first : Bool) → cond first (8 * 0) 0 ≡ 0
none_more true = refl
none_more false = refl

pub respelled : (version : ℕ) (ps : List ChangeSet)
    → length (flat_map patch_bytes ps) ≡ length (flat_map (patch_bytes_in version) ps) + respelling version (length ps)
respelled version [] =
    let none = none_more (eqb version 1) in
    let same : 0 ≡ 0 + cond (eqb version 1) (8 * 0) 0 = omega (arith, none) in
    same
respelled version (p ∷ ps) =
    let a = ap length (flat_map-cons patch_bytes p ps) in
    let b = ap length (flat_map-cons (patch_bytes_in version) p ps) in
    let c = length-append (patch_bytes p) (flat_map patch_bytes ps) in
    let d = length-append (patch_bytes_in version p) (flat_map (patch_bytes_in version) ps) in
    let one = respelled_one version p in
    let others = respelled version ps in
    let more = one_more (eqb version 1) (length ps) in
    omega arith

-- ---- a journal

pub bytes_len : (version : ℕ) (j : Book) → length (bytes_in version j)
    ≡ 24 + (length (flat_map (patch_bytes_in version) j.done) + length (flat_map (patch_bytes_in version) j.undone))
unfolding bytes_in
bytes_len version j =
    let spell : ChangeSet → List ℕ = patch_bytes_in version in
    let all = ap length (flat_map-append spell j.done j.undone) in
    let both = length-append (flat_map spell j.done) (flat_map spell j.undone) in
    omega arith

-- version 2 is no shorter than another
bytes_no_longer : (version : ℕ) (j : Book) → length (bytes_in version j) ≤ length (journal_bytes j)
bytes_no_longer version j =
    let a = bytes_len version j in
    let b = bytes_len 2 j in
    let c = respelled version j.done in
    let d = respelled version j.undone in
    omega arith

-- ---- at most

-- all blocks of a largest image
blocks_short : (size count : ℕ) → IsGeometry size count → count * (2 * size + 4) ≤ 134479872
blocks_short size count is =
    let split = mul-add count (2 * size) 4 in
    let twice : count * (2 * size) ≡ count * size + count * size = ap (λ (n : ℕ). count * n) double ∙ mul-add count size size in
    let fits = is.length_fits in
    let few = is.count_fits.1 in
    omega arith
  where
    double : 2 * size ≡ size + size
    double = omega arith

-- a change
patch_short : (size : ℕ) (p : ChangeSet) → IsPatchOf size p → length (patch_bytes p) ≤ 134479884
patch_short size p is =
    let len = patch_len p is.0.patch in
    let few = patch_within size p is in
    let times = mul-le (length p.changes) (2 * p.size + 4) p.after (2 * p.size + 4) few (omega arith) in
    let blocks = blocks_short p.size p.after is.0.patch.after in
    omega arith

-- several
patches_short : (size : ℕ) (ps : List ChangeSet) → AllByRecursion (IsPatchOf size) ps
    → length (flat_map patch_bytes ps) ≤ length ps * 134479884
patches_short size [] each = omega arith
patches_short size (p ∷ ps) (first, each) =
    let all = ap length (flat_map-cons patch_bytes p ps) in
    let both = length-append (patch_bytes p) (flat_map patch_bytes ps) in
    let one = patch_short size p first in
    let others = patches_short size ps each in
    omega arith

pub journals_are_short : JournalsAreShort
journals_are_short bytes j spells =
    let ps = j.done ++ j.undone in
    let same = ap length spells.bytes_are in
    let no_longer = bytes_no_longer spells.version j in
    let len = bytes_len 2 j in
    let all = ap length (flat_map-append patch_bytes j.done j.undone) in
    let both = length-append (flat_map patch_bytes j.done) (flat_map patch_bytes j.undone) in
    let short = patches_short j.size ps spells.book.each in
    let few = spells.book.few in
    omega arith
