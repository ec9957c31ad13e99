-- Blocks that are marked, one after another.
use Rattle.std.proofs.Common.{◌≡◌, ℕ, ◌+◌, ◌<◌, ◌≤◌, ◌||◌, Bool, true, false, List, [], ◌∷◌, zero, suc, refl, ap, sym, ◌∙◌, arith, length}
use Rattle.std.specs.Prelude.{cond, nat_lt, replicate, slice_index_or, sum_by, flat_map}
use Rattle.std.proofs.lemmas.Bool.Decides.{nat_tests}
use Rattle.std.proofs.lemmas.List.Sums.{sum_by-append, sum_by-cons}
use Rattle.std.proofs.lemmas.List.{get_or-replicate, get_or_past, length-replicate}
use Rattle.std.proofs.lemmas.List.Concat.{flat_map-cons}
use Rattle.lfs_fs.specs.Directory.{Directory, Part, parts}
use Rattle.lfs_fs.specs.Entry.{Entry}
use Rattle.lfs_fs.specs.Sound.{IsSound}
use Rattle.lfs_fs.specs.Used.{Marks, marked}
use Rattle.lfs_fs.specs.Uses.{directory_uses, entry_uses, pair_uses, part_uses, uses}
use Rattle.lfs_fs.specs.Volume.{Volume}
use Rattle.lfs_fs.specs.MarksMore.{MarksMore}

marks_by : (x y z : Bool) (u w v : ℕ) → v ≡ u + w → (x ≡ (y || nat_lt 0 u)) → z ≡ (x || nat_lt 0 w) → z ≡ (y || nat_lt 0 v)
marks_by x y z u w v is h k = grind (arith, nat_tests)

-- what is marked first, and what then
pub marks_then : (a b c : List Bool) (u w v : ℕ → ℕ) → ((n : ℕ) → v n ≡ u n + w n) → MarksMore a b u → MarksMore b c w → MarksMore a c v
marks_then a b c u w v is first later = record {
  len = later.len ∙ first.len;
  marks = λ n within.
      marks_by (slice_index_or b n false) (slice_index_or a n false) (slice_index_or c n false) (u n) (w n) (v n) (is n)
      (first.marks n within) (later.marks n (omega (arith, first.len)));
}

pub parts_split : (b : ℕ) (ps : List Part) → sum_by (part_uses b) ps ≡ sum_by (pair_uses b) ps
    + sum_by (entry_uses b) (flat_map (λ p. p.entries) ps)
parts_split b [] = refl
parts_split b (p ∷ ps) =
    let later : List Entry = flat_map (λ (q : Part). q.entries) ps in
    omega (
      arith,
      sum_by-cons (part_uses b) p ps,
      sum_by-cons (pair_uses b) p ps,
      ap (sum_by (entry_uses b)) (flat_map-cons (λ (q : Part). q.entries) p ps),
      sum_by-append (entry_uses b) p.entries later,
      parts_split b ps,
    )

-- a directory's uses are those of its parts
pub directory_split : (b : ℕ) (d : Directory) → directory_uses b d ≡ part_uses b d.first + sum_by (part_uses b) d.more
directory_split b d = sym (parts_split b (parts d)) ∙ sum_by-cons (part_uses b) d.first d.more

-- ---- the blocks of a sound volume

flag_of : (x : Bool) (u : ℕ) → x ≡ (false || nat_lt 0 u) → u ≤ 1 → cond {A = ℕ} x 1 0 ≡ u
flag_of x u is few = grind (arith, nat_tests)

unused_past : (n b count : ℕ) → (0 < n → b < count) → count ≤ b → n ≡ 0
unused_past zero b count within behind = refl
unused_past (suc n) b count within behind = absurd (omega (arith, within (omega arith), behind))

-- where no block was marked, a sound volume's are then
pub marks_sound : (v : Volume) (new : List Bool) → IsSound v → MarksMore (replicate v.count false) new (λ b. uses b v)
    → Marks new (λ b. uses b v)
marks_sound v new sound more b = by (nat_lt b v.count) refl
  where
    long : length (replicate v.count false) ≡ v.count
    long = length-replicate v.count false

    by : (t : Bool) → nat_lt b v.count ≡ t → marked new b ≡ uses b v
    by true below =
        let within : b < v.count = grind (arith, nat_tests) in
        let old : slice_index_or (replicate v.count false) b false ≡ false = get_or-replicate v.count b false false within in
        flag_of (slice_index_or new b false) (uses b v)
        (more.marks b (omega (arith, long)) ∙ ap (λ (t : Bool). t || nat_lt 0 (uses b v)) old)
        (sound.once b)
    by false past =
        let behind : v.count ≤ b = grind (arith, nat_tests) in
        let none : slice_index_or new b false ≡ false = get_or_past new b false (omega (arith, more.len, long)) in
        ap (λ (t : Bool). cond {A = ℕ} t 1 0) none ∙ sym (unused_past (uses b v) b v.count (sound.within b) behind)

-- where no block was marked, each is used no times
pub none_marked : (n b : ℕ) → marked (replicate n false) b ≡ 0
none_marked zero b = refl
none_marked (suc n) zero = refl
none_marked (suc n) (suc b) = none_marked n b
