-- How far commits go: what is left decides what the whole gives.
use Rattle.std.proofs.Common.{◌≡◌, ℕ, ◌<◌, Bool, true, false, cond, ◌||◌, List, length, Some, None, option_map, refl, sym, ap, subst, ◌∙◌}
use Rattle.lfs_tag.specs.Found.{commit_seen}
use Rattle.lfs_tag.specs.Reading.{Front, log_by}
use Rattle.lfs_tag.proofs.ReadLoop.{map_none}
use Rattle.lfs_tag.proofs.Steps.{map_some, commit_by-shorter, log_by-none, log_by-more}
use Rattle.lfs_lower.specs.Commits.{closes, later_at}
use Rattle.lfs_damage.specs.Damage.{end_of, end_from, has_any}

-- the end of what is left, where commits stand before it or not
abbrev pub end_behind : Bool → Bool × ℕ × ℕ × List ℕ → Bool × ℕ × ℕ × List ℕ
end_behind is_there e = (is_there || e.0, e.1, e.2, e.3)

-- one commit more is begun with nothing, whatever stands behind it
begun_anew : (f : Front) → end_behind true (end_of 0xffffffff f) ≡ (true, 0xffffffff, f.last, f.rest)
begun_anew f = ap (λ (n : ℕ). (true, n, f.last, f.rest)) (same (has_any f.commits))
  where
    same : (b : Bool) → ◌≡◌ {A = ℕ} (cond b 0xffffffff 0xffffffff) 0xffffffff
    same true = refl
    same false = refl

or_true : (b : Bool) → (b || true) ≡ true
or_true true = refl
or_true false = refl

or_false : (b : Bool) → (b || false) ≡ b
or_false true = refl
or_false false = refl

pub end_more : (is_there : Bool) (sum prev : ℕ) (rest : List ℕ) (seen : ℕ × List ℕ)
    → Some seen ≡ option_map commit_seen (later_at sum prev rest)
    → end_behind true (end_from 0xffffffff seen.0 seen.1) ≡ end_behind is_there (end_from sum prev rest)
end_more is_there sum prev rest seen e =
    let m = map_some commit_seen (later_at sum prev rest) seen (sym e) in
    subst (λ (s : ℕ × List ℕ). end_behind true (end_from 0xffffffff s.0 s.1) ≡ end_behind is_there (end_from sum prev rest)) m.2
    (let r = m.0 in
    let f : Front = log_by closes 0xffffffff (commit_seen r).0 r.rest in
    begun_anew f
    ∙ ap (λ (b : Bool). (b, 0xffffffff, f.last, f.rest)) (sym (or_true is_there))
    ∙ ap (λ (g : Front). end_behind is_there (end_of sum g)) (sym (log_by-more closes sum prev rest r m.1)))

pub end_shorter : (sum prev : ℕ) (rest : List ℕ) (seen : ℕ × List ℕ) → Some seen ≡ option_map commit_seen (later_at sum prev rest)
    → length seen.1 < length rest
end_shorter sum prev rest seen e =
    let m = map_some commit_seen (later_at sum prev rest) seen (sym e) in
    subst (λ (s : ℕ × List ℕ). length s.1 < length rest) m.2 (commit_by-shorter closes sum prev rest m.0 m.1)

pub end_here : (is_there : Bool) (sum prev : ℕ) (rest : List ℕ) → None ≡ option_map commit_seen (later_at sum prev rest)
    → end_behind is_there (end_from sum prev rest) ≡ (is_there, sum, prev, rest)
end_here is_there sum prev rest e =
    ap (λ (g : Front). end_behind is_there (end_of sum g))
    (log_by-none closes sum prev rest (map_none commit_seen (later_at sum prev rest) (sym e)))
    ∙ ap (λ (b : Bool). (b, sum, prev, rest)) (or_false is_there)
