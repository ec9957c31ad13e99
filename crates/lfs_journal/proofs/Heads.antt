-- What stands before the changes is spelled so where it is read, and is read where it is spelled so.
use Rattle.std.proofs.Common.{◌≡◌, ◌⊎◌, inl, inr, ℕ, ◌+◌, ◌^◌, ◌<◌, ◌≤◌, Bool, true, false, cond, eqb, leb, ◌&&◌, ◌||◌, List, ◌++◌}
use Rattle.std.proofs.Common.{Option, Some, None, refl, ap, subst, arith, eq-eqb}
use Rattle.std.specs.Int.{w32, to_le_bytes}
use Rattle.std.proofs.lemmas.Bool.{eqb-true, leb-true, le-leb, and_parts}
use Rattle.std.proofs.lemmas.Option.{cond_some}
use Rattle.lfs_block.specs.Bytes.{IsBytes}
use Rattle.lfs_block.specs.Geometry.{IsGeometry, is_geometry}
use Rattle.lfs_block.proofs.GeometryTests.{true_and, geometry_true, geometry_is}
use Rattle.lfs_journal.specs.Reading.{◌>>=◌, word_at, Head, is_version, is_head, checked_head, head_at}
use Rattle.lfs_journal.proofs.Fields.{bind_some, bind_is, Takes, Takes-then, word_takes, word_again}

-- ---- the version

abbrev pub IsVersion : ℕ → Type 0
IsVersion version = (version ≡ 1) ⊎ (version ≡ 2)

one_of : (a b : Bool) → (a || b) ≡ true → (a ≡ true) ⊎ (b ≡ true)
one_of true b e = inl refl
one_of false b e = inr e

either : (a b : Bool) → b ≡ true → (a || b) ≡ true
either true b e = refl
either false b e = e

version_true : (version : ℕ) → is_version version ≡ true → IsVersion version
version_true version e = by_test (one_of (eqb version 1) (eqb version 2) e)
  where
    by_test : (eqb version 1 ≡ true) ⊎ (eqb version 2 ≡ true) → IsVersion version
    by_test (inl first) = inl (eqb-true _ _ first)
    by_test (inr second) = inr (eqb-true _ _ second)

version_is : (version : ℕ) → IsVersion version → is_version version ≡ true
version_is version (inl first) = ap (λ (b : Bool). b || eqb version 2) (eq-eqb version 1 first)
version_is version (inr second) = either (eqb version 1) (eqb version 2) (eq-eqb version 2 second)

version_small : (version : ℕ) → IsVersion version → version < 2 ^ 32
version_small version (inl first) = omega (arith, first)
version_small version (inr second) = omega (arith, second)

-- ---- what stands before the changes

abbrev pub head_with : ℕ → ℕ → ℕ → ℕ → ℕ → Head
head_with version size count done undone =
    record { version = version; size = size; count = count; done = done; undone = undone }

-- the words that are left to read, behind those that were read
abbrev with_undone : ℕ → ℕ → ℕ → ℕ → ℕ → List ℕ → Option (Head × List ℕ)
with_undone letters version size count done bytes =
    word_at bytes >>= λ undone. checked_head letters (head_with version size count done undone.0) undone.1

abbrev with_done : ℕ → ℕ → ℕ → ℕ → List ℕ → Option (Head × List ℕ)
with_done letters version size count bytes = word_at bytes >>= λ done. with_undone letters version size count done.0 done.1

abbrev with_count : ℕ → ℕ → ℕ → List ℕ → Option (Head × List ℕ)
with_count letters version size bytes = word_at bytes >>= λ count. with_done letters version size count.0 count.1

abbrev with_size : ℕ → ℕ → List ℕ → Option (Head × List ℕ)
with_size letters version bytes = word_at bytes >>= λ size. with_count letters version size.0 size.1

abbrev with_version : ℕ → List ℕ → Option (Head × List ℕ)
with_version letters bytes = word_at bytes >>= λ version. with_size letters version.0 version.1

abbrev pub head_bytes : Head → List ℕ
head_bytes h =
    to_le_bytes w32 0x6a73666c ++ to_le_bytes w32 h.version ++ to_le_bytes w32 h.size ++ to_le_bytes w32 h.count
    ++ to_le_bytes w32 h.done ++ to_le_bytes w32 h.undone

pub record IsHead (h : Head) : Type 0 where
  pub version : IsVersion h.version
  pub geometry : IsGeometry h.size h.count
  pub few : h.done + h.undone ≤ 1000

pub record TakesHead (bytes : List ℕ) (x : Head × List ℕ) : Type 0 where
  pub takes : Takes bytes (head_bytes x.0) x.1
  pub is : IsHead x.0

-- the words of a head from one on
abbrev done_bytes : Head → List ℕ
done_bytes h = to_le_bytes w32 h.done ++ to_le_bytes w32 h.undone

abbrev count_bytes : Head → List ℕ
count_bytes h = to_le_bytes w32 h.count ++ done_bytes h

abbrev size_bytes : Head → List ℕ
size_bytes h = to_le_bytes w32 h.size ++ count_bytes h

abbrev version_bytes : Head → List ℕ
version_bytes h = to_le_bytes w32 h.version ++ size_bytes h

-- the bytes of a head and of what follows it, behind those that are read
record Ends (letters : ℕ) (bytes text : List ℕ) (x : Head × List ℕ) : Type 0 where
  letters_are : letters ≡ 0x6a73666c
  is : IsHead x.0
  takes : Takes bytes text x.1

word_rest : (bytes : List ℕ) (n : ℕ × List ℕ) → IsBytes bytes → word_at bytes ≡ Some n → IsBytes n.1
word_rest bytes n h e = (word_takes bytes n.0 n.1 h e).0.rest_bytes

-- a word in front
Ends-then : (letters : ℕ) (bytes : List ℕ) (n : ℕ × List ℕ) (k : ℕ) (text : List ℕ) (x : Head × List ℕ) → IsBytes bytes
    → word_at bytes ≡ Some n → n.0 ≡ k → Ends letters n.1 text x → Ends letters bytes (to_le_bytes w32 k ++ text) x
Ends-then letters bytes n k text x h e same ends = record {
  letters_are = ends.letters_are;
  is = ends.is;
  takes = subst (λ (m : ℕ). Takes bytes (to_le_bytes w32 m ++ text) x.1) same
      (Takes-then bytes (to_le_bytes w32 n.0) n.1 text x.1 (word_takes bytes n.0 n.1 h e).0 ends.takes);
}

head_true : (letters : ℕ) (h : Head) → ((eqb letters 0x6a73666c && is_version h.version) && is_head h) ≡ true
    → (letters ≡ 0x6a73666c) × IsHead h
head_true letters h e =
    let a = and_parts (eqb letters 0x6a73666c && is_version h.version) (is_head h) e in
    let b = and_parts (eqb letters 0x6a73666c) (is_version h.version) a.0 in
    let c = and_parts (is_geometry h.size h.count) (leb (h.done + h.undone) 1000) a.1 in
    (eqb-true _ _ b.0, record { version = version_true h.version b.1; geometry = geometry_true h.size h.count c.0; few = leb-true _ _ c.1 })

-- the last number is read, and the tests hold
checked_takes : (letters version size count done : ℕ) (bytes : List ℕ) (n : ℕ × List ℕ) (x : Head × List ℕ) → IsBytes bytes
    → word_at bytes ≡ Some n → checked_head letters (head_with version size count done n.0) n.1 ≡ Some x
    → (version ≡ x.0.version) × (size ≡ x.0.size) × (count ≡ x.0.count) × (done ≡ x.0.done)
    × Ends letters bytes (to_le_bytes w32 x.0.undone) x
checked_takes letters version size count done bytes n x h e checked =
    let head : Head = head_with version size count done n.0 in
    let t = cond_some ((eqb letters 0x6a73666c && is_version version) && is_head head) (head, n.1) x checked in
    let is = head_true letters head t.0 in
    let ends : Ends letters bytes (to_le_bytes w32 n.0) (head, n.1) =
    record { letters_are = is.0; is = is.1; takes = (word_takes bytes n.0 n.1 h e).0 } in
    subst (λ (y : Head × List ℕ). (version ≡ y.0.version) × (size ≡ y.0.size) × (count ≡ y.0.count) × (done ≡ y.0.done)
    × Ends letters bytes (to_le_bytes w32 y.0.undone) y) {x = (head, n.1)} {y = x} t.1 (refl, refl, refl, refl, ends)

done_takes : (letters version size count : ℕ) (bytes : List ℕ) (x : Head × List ℕ) → IsBytes bytes
    → with_done letters version size count bytes ≡ Some x
    → (version ≡ x.0.version) × (size ≡ x.0.size) × (count ≡ x.0.count) × Ends letters bytes (done_bytes x.0) x
done_takes letters version size count bytes x h e =
    let done = bind_some (word_at bytes) (λ n. with_undone letters version size count n.0 n.1) x e in
    let undone = bind_some (word_at done.0.1)
    (λ n. checked_head letters (head_with version size count done.0.0 n.0) n.1) x done.2 in
    let more = checked_takes letters version size count done.0.0 done.0.1 undone.0 x (word_rest bytes done.0 h done.1) undone.1 undone.2 in (
      more.0,
      more.1,
      more.2,
      Ends-then letters bytes done.0 x.0.done (to_le_bytes w32 x.0.undone) x h done.1 more.3 more.4,
    )

count_takes : (letters version size : ℕ) (bytes : List ℕ) (x : Head × List ℕ) → IsBytes bytes
    → with_count letters version size bytes ≡ Some x
    → (version ≡ x.0.version) × (size ≡ x.0.size) × Ends letters bytes (count_bytes x.0) x
count_takes letters version size bytes x h e =
    let count = bind_some (word_at bytes) (λ n. with_done letters version size n.0 n.1) x e in
    let more = done_takes letters version size count.0.0 count.0.1 x (word_rest bytes count.0 h count.1) count.2 in
    (more.0, more.1, Ends-then letters bytes count.0 x.0.count (done_bytes x.0) x h count.1 more.2 more.3)

size_takes : (letters version : ℕ) (bytes : List ℕ) (x : Head × List ℕ) → IsBytes bytes → with_size letters version bytes ≡ Some x
    → (version ≡ x.0.version) × Ends letters bytes (size_bytes x.0) x
size_takes letters version bytes x h e =
    let size = bind_some (word_at bytes) (λ n. with_count letters version n.0 n.1) x e in
    let more = count_takes letters version size.0.0 size.0.1 x (word_rest bytes size.0 h size.1) size.2 in
    (more.0, Ends-then letters bytes size.0 x.0.size (count_bytes x.0) x h size.1 more.1 more.2)

version_takes : (letters : ℕ) (bytes : List ℕ) (x : Head × List ℕ) → IsBytes bytes → with_version letters bytes ≡ Some x
    → Ends letters bytes (version_bytes x.0) x
version_takes letters bytes x h e =
    let version = bind_some (word_at bytes) (λ n. with_size letters n.0 n.1) x e in
    let more = size_takes letters version.0.0 version.0.1 x (word_rest bytes version.0 h version.1) version.2 in
    Ends-then letters bytes version.0 x.0.version (size_bytes x.0) x h version.1 more.0 more.1

letters_take : (letters : ℕ × List ℕ) (bytes : List ℕ) (x : Head × List ℕ) → IsBytes bytes → word_at bytes ≡ Some letters
    → with_version letters.0 letters.1 ≡ Some x → TakesHead bytes x
letters_take letters bytes x h e more =
    let ends = version_takes letters.0 letters.1 x (word_rest bytes letters h e) more in
    let complete = Ends-then letters.0 bytes letters 0x6a73666c (version_bytes x.0) x h e ends.letters_are ends in
    record { takes = complete.takes; is = complete.is }

pub head_takes : (bytes : List ℕ) (x : Head × List ℕ) → IsBytes bytes → head_at bytes ≡ Some x → TakesHead bytes x
unfolding head_at
head_takes bytes x h e =
    let letters = bind_some (word_at bytes) (λ n. with_version n.0 n.1) x e in
    letters_take letters.0 bytes x h letters.1 letters.2

-- the numbers that stand before the changes have four bytes
head_small : (h : Head) → IsHead h → (h.size < 2 ^ 32) × (h.count < 2 ^ 32) × (h.done < 2 ^ 32) × (h.undone < 2 ^ 32)
head_small h is =
    let few : h.done + h.undone ≤ 1000 = is.few in
    let size : h.size ≤ 65536 = is.geometry.size_fits.1 in
    let count : h.count ≤ 65536 = is.geometry.count_fits.1 in
    (omega arith, omega arith, omega arith, omega arith)

checked_again : (h : Head) (rest : List ℕ) → IsHead h → checked_head 0x6a73666c h rest ≡ Some (h, rest)
checked_again h rest is =
    let test : (is_version h.version && is_head h) ≡ true = true_and _ _ (version_is h.version is.version)
    (true_and _ _ (geometry_is h.size h.count is.geometry) (le-leb _ _ is.few)) in
    ap (λ (b : Bool). cond b (Some (h, rest)) None) test

pub head_again : (h : Head) (rest : List ℕ) → IsHead h → head_at (head_bytes h ++ rest) ≡ Some (h, rest)
unfolding head_at
head_again h rest is =
    let small = head_small h is in
    let version = version_small h.version is.version in
    let e5 : List ℕ = to_le_bytes w32 h.undone ++ rest in
    let e4 : List ℕ = to_le_bytes w32 h.done ++ e5 in
    let e3 : List ℕ = to_le_bytes w32 h.count ++ e4 in
    let e2 : List ℕ = to_le_bytes w32 h.size ++ e3 in
    let e1 : List ℕ = to_le_bytes w32 h.version ++ e2 in
    let letters : ℕ = 0x6a73666c in
    let v : ℕ = h.version in
    bind_is (word_at (to_le_bytes w32 letters ++ e1)) (λ x. with_version x.0 x.1) (letters, e1) (Some (h, rest))
    (word_again letters e1 (omega arith))
    (bind_is (word_at e1) (λ x. with_size letters x.0 x.1) (v, e2) (Some (h, rest)) (word_again v e2 version)
    (bind_is (word_at e2) (λ x. with_count letters v x.0 x.1) (h.size, e3) (Some (h, rest)) (word_again h.size e3 small.0)
    (bind_is (word_at e3) (λ x. with_done letters v h.size x.0 x.1) (h.count, e4) (Some (h, rest)) (word_again h.count e4 small.1)
    (bind_is (word_at e4) (λ x. with_undone letters v h.size h.count x.0 x.1) (h.done, e5) (Some (h, rest)) (word_again h.done e5 small.2)
    (bind_is (word_at e5) (λ x. checked_head letters (head_with v h.size h.count h.done x.0) x.1)
    (h.undone, rest) (Some (h, rest))
    (word_again h.undone rest small.3) (checked_again h rest is))))))
