-- Counts that are read are spelled so, and those that are spelled so are read.
use Rattle.std.proofs.Common.{◌≡◌, ℕ, ◌≤◌, Bool, true, false, cond, eqb, List, [], ◌++◌, Option, Some, None, refl, sym, ap, subst, ◌∙◌}
use Rattle.std.proofs.Common.{append_assoc, arith, eq-eqb}
use Rattle.std.specs.Int.{w32, to_le_bytes}
use Rattle.std.proofs.lemmas.Bool.{eqb-true, false≢true}
use Rattle.std.proofs.lemmas.Option.{cond_some, same_Some}
use Rattle.lfs_block.specs.Bytes.{IsBytes}
use Rattle.lfs_block.specs.Geometry.{IsGeometry}
use Rattle.lfs_journal.specs.Reading.{◌>>=◌, word_at, Head, is_growth, counts_at}
use Rattle.lfs_journal.proofs.Fields.{bind_some, bind_is, Takes, Takes-then, word_takes, word_again}
use Rattle.lfs_journal.proofs.Geometries.{growth_true, growth_is}

-- counts within the limits, of which the second isn't less; those of the image, where they are not spelled
pub record AreCounts (h : Head) (counts : ℕ × ℕ) : Type 0 where
  pub before : IsGeometry h.size counts.0
  pub after : IsGeometry h.size counts.1
  pub rise : counts.0 ≤ counts.1
  pub kept : h.version ≡ 1 → (counts.0 ≡ h.count) × (counts.1 ≡ h.count)

-- the counts as they are spelled, and as they are not
abbrev text_by : Bool → ℕ × ℕ → List ℕ
text_by none counts = cond none [] (to_le_bytes w32 counts.0 ++ to_le_bytes w32 counts.1)

abbrev pub counts_text : ℕ → ℕ × ℕ → List ℕ
counts_text version counts = text_by (eqb version 1) counts

pub record TakesCounts (h : Head) (bytes : List ℕ) (x : (ℕ × ℕ) × List ℕ) : Type 0 where
  pub takes : Takes bytes (counts_text h.version x.0) x.1
  pub are : AreCounts h x.0

-- the two words
abbrev words_at : ℕ → List ℕ → Option ((ℕ × ℕ) × List ℕ)
words_at size bytes =
    word_at bytes >>= λ before. word_at before.1 >>= λ after.
    cond (is_growth size before.0 after.0) (Some ((before.0, after.0), after.1)) None

abbrev read_by : Bool → Head → List ℕ → Option ((ℕ × ℕ) × List ℕ)
read_by none h bytes = cond none (Some ((h.count, h.count), bytes)) (words_at h.size bytes)

record TakesBy (none : Bool) (h : Head) (bytes : List ℕ) (x : (ℕ × ℕ) × List ℕ) : Type 0 where
  pub takes : Takes bytes (text_by none x.0) x.1
  pub before : IsGeometry h.size x.0.0
  pub after : IsGeometry h.size x.0.1
  pub rise : x.0.0 ≤ x.0.1
  pub kept : none ≡ true → (x.0.0 ≡ h.count) × (x.0.1 ≡ h.count)

takes_by : (none : Bool) (h : Head) (bytes : List ℕ) (x : (ℕ × ℕ) × List ℕ) → IsBytes bytes → IsGeometry h.size h.count
    → read_by none h bytes ≡ Some x → TakesBy none h bytes x
takes_by true h bytes x are geometry e =
    let made : (ℕ × ℕ) × List ℕ = ((h.count, h.count), bytes) in
    let all : TakesBy true h bytes made = record {
      takes = record { parts = refl; rest_bytes = are };
      before = geometry;
      after = geometry;
      rise = omega arith;
      kept = λ _. (refl, refl);
    } in
    subst (TakesBy true h bytes) (same_Some made x e) all
takes_by false h bytes x are geometry e =
    let a = bind_some (word_at bytes) (λ before. word_at before.1 >>= λ after.
    cond (is_growth h.size before.0 after.0) (Some ((before.0, after.0), after.1)) None) x e in
    let b = bind_some (word_at a.0.1) (λ after. cond (is_growth h.size a.0.0 after.0) (Some ((a.0.0, after.0), after.1)) None) x a.2 in
    let made : (ℕ × ℕ) × List ℕ = ((a.0.0, b.0.0), b.0.1) in
    let g = cond_some (is_growth h.size a.0.0 b.0.0) made x b.2 in
    let is = growth_true h.size a.0.0 b.0.0 g.0 in
    let first = word_takes bytes a.0.0 a.0.1 are a.1 in
    let second = word_takes a.0.1 b.0.0 b.0.1 first.0.rest_bytes b.1 in
    let all : TakesBy false h bytes made = record {
      takes = Takes-then bytes (to_le_bytes w32 a.0.0) a.0.1 (to_le_bytes w32 b.0.0) b.0.1 first.0 second.0;
      before = is.0;
      after = is.1;
      rise = is.2;
      kept = λ same. absurd (false≢true same);
    } in
    subst (TakesBy false h bytes) g.1 all

pub counts_take : (h : Head) (bytes : List ℕ) (x : (ℕ × ℕ) × List ℕ) → IsBytes bytes → IsGeometry h.size h.count
    → counts_at h bytes ≡ Some x → TakesCounts h bytes x
unfolding counts_at
counts_take h bytes x are geometry e =
    let t = takes_by (eqb h.version 1) h bytes x are geometry e in
    record {
      takes = t.takes;
      are = record { before = t.before; after = t.after; rise = t.rise; kept = λ first. t.kept (eq-eqb h.version 1 first) };
    }

-- ---- back

again_by : (none : Bool) (h : Head) (counts : ℕ × ℕ) (rest : List ℕ) → IsGeometry h.size counts.0 → IsGeometry h.size counts.1
    → counts.0 ≤ counts.1 → (none ≡ true → (counts.0 ≡ h.count) × (counts.1 ≡ h.count))
    → read_by none h (text_by none counts ++ rest) ≡ Some (counts, rest)
again_by true h counts rest before after rise kept =
    let k = kept refl in
    ap (λ (n : ℕ). Some ((n, h.count), rest)) (sym k.0) ∙ ap (λ (n : ℕ). Some ((counts.0, n), rest)) (sym k.1)
again_by false h counts rest before after rise kept =
    let first : List ℕ = to_le_bytes w32 counts.0 in
    let second : List ℕ = to_le_bytes w32 counts.1 in
    let both : Option ((ℕ × ℕ) × List ℕ) = Some (counts, rest) in
    let low : counts.0 ≤ 65536 = before.count_fits.1 in
    let high : counts.1 ≤ 65536 = after.count_fits.1 in
    ap (words_at h.size) (append_assoc first second rest)
    ∙ bind_is (word_at (first ++ (second ++ rest))) (λ before. word_at before.1 >>= λ after.
    cond (is_growth h.size before.0 after.0) (Some ((before.0, after.0), after.1)) None) (counts.0, second ++ rest) both
    (word_again counts.0 (second ++ rest) (omega arith))
    (bind_is (word_at (second ++ rest)) (λ after. cond (is_growth h.size counts.0 after.0) (Some ((counts.0, after.0), after.1)) None)
    (counts.1, rest) both (word_again counts.1 rest (omega arith))
    (ap (λ (b : Bool). cond b both None) (growth_is h.size counts.0 counts.1 before after rise)))

pub counts_again : (h : Head) (counts : ℕ × ℕ) (rest : List ℕ) → AreCounts h counts
    → counts_at h (counts_text h.version counts ++ rest) ≡ Some (counts, rest)
unfolding counts_at
counts_again h counts rest are =
    again_by (eqb h.version 1) h counts rest are.before are.after are.rise (λ test. are.kept (eqb-true h.version 1 test))
