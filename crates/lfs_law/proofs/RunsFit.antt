-- The runs of entries fit a pair, the first one beside what stands before it.
use Rattle.std.proofs.Common.{◌≡◌, ℕ, ◌+◌, ◌<◌, ◌≤◌, nat_lt, Bool, true, false, List, [], ◌∷◌, length, refl, arith}
use Rattle.std.specs.Prelude.{All, if◌then◌else◌, sum_by}
use Rattle.std.specs.List.{list_any}
use Rattle.std.proofs.lemmas.Bool.Decides.{nat_tests}
use Rattle.std.proofs.lemmas.List.Elements.{All-nil, All-cons, All-head, All-tail}
use Rattle.std.proofs.lemmas.List.Sums.{sum_by-cons}
use Rattle.std.proofs.lemmas.Bool.{or_parts}
use Rattle.lfs_meta.specs.RunLaws.{RunFits}
use Rattle.lfs_meta.specs.Runs.{onto, runs_after, run_takes, first_run, later_runs}

-- the first run behind a weight and a number, and the others
pub record FirstFits {E : Type 0} (weigh : E → ℕ) (space taken number : ℕ) (rs : List (List E)) : Type 0 where
  pub weight : taken + sum_by weigh (first_run rs) ≤ space
  pub count : number + length (first_run rs) ≤ 1000
  pub later : All (RunFits weigh space) (later_runs rs)

onto_fits : {E : Type 0} (weigh : E → ℕ) (space taken number : ℕ) (e : E) (rs : List (List E))
    → FirstFits weigh space (taken + weigh e) (number + 1) rs
    → FirstFits weigh space taken number (onto e rs)
unfolding onto
onto_fits weigh space taken number e [] fits = record {
  weight = omega (arith, fits.weight, sum_by-cons weigh e []);
  count = omega (arith, fits.count);
  later = All-nil (RunFits weigh space);
}
onto_fits weigh space taken number e (run ∷ rs) fits = record {
  weight = omega (arith, fits.weight, sum_by-cons weigh e run);
  count = omega (arith, fits.count);
  later = fits.later;
}

all_fit : {E : Type 0} (weigh : E → ℕ) (space : ℕ) (e : E) (rs : List (List E)) → FirstFits weigh space (weigh e) 1 rs
    → All (RunFits weigh space) (onto e rs)
unfolding onto
all_fit weigh space e [] fits =
    All-cons (RunFits weigh space) (e ∷ []) [] (record {
      weight = omega (arith, fits.weight, sum_by-cons weigh e []);
      number = omega (arith, fits.count);
    }) (All-nil (RunFits weigh space))
all_fit weigh space e (run ∷ rs) fits =
    All-cons (RunFits weigh space) (e ∷ run) rs (record {
      weight = omega (arith, fits.weight, sum_by-cons weigh e run);
      number = omega (arith, fits.count);
    }) fits.later

pub takes_says : (space taken number w : ℕ) → run_takes space taken number w ≡ true → (taken + w ≤ space) × (number < 1000)
takes_says space taken number w h = (grind (arith, nat_tests), grind (arith, nat_tests))

pub runs_fit : {E : Type 0} (weigh : E → ℕ) (space taken number : ℕ) (es : List E) → taken ≤ space → number ≤ 1000
    → All (λ e. weigh e ≤ space) es
    → FirstFits weigh space taken number (runs_after weigh space taken number es)
unfolding runs_after
runs_fit weigh space taken number [] light few all = record {
  weight = omega (arith, light);
  count = omega (arith, few);
  later = All-nil (RunFits weigh space);
}
runs_fit {E} weigh space taken number (e ∷ es) light few all =
    let this : weigh e ≤ space = All-head (λ x. weigh x ≤ space) e es all in
    let rest : All (λ x. weigh x ≤ space) es = All-tail (λ x. weigh x ≤ space) e es all in
    by (run_takes space taken number (weigh e)) refl (λ light' few'. runs_fit weigh space (taken + weigh e)
    (number + 1) es light' few' rest)
    (runs_fit weigh space (weigh e) 1 es this (omega arith) rest)
  where
    by : (t : Bool) → run_takes space taken number (weigh e) ≡ t
        → (taken + weigh e ≤ space → number + 1 ≤ 1000 → FirstFits weigh space (taken + weigh e) (number + 1)
        (runs_after weigh space (taken + weigh e) (number + 1) es))
        → FirstFits weigh space (weigh e) 1 (runs_after weigh space (weigh e) 1 es)
        → FirstFits weigh space taken number (if t then onto e (runs_after weigh space (taken + weigh e) (number + 1) es) else []
        ∷ onto e (runs_after weigh space (weigh e) 1 es))
    by true is here next =
        let says = takes_says space taken number (weigh e) is in
        onto_fits weigh space taken number e (runs_after weigh space (taken + weigh e) (number + 1) es)
        (here says.0 (omega (arith, says.1)))
    by false is here next = record {
      weight = omega (arith, light);
      count = omega (arith, few);
      later = all_fit weigh space e (runs_after weigh space (weigh e) 1 es) next;
    }

-- ---- entries that aren't too large

pub light_all : {E : Type 0} (weigh : E → ℕ) (space : ℕ) (es : List E) → list_any (λ e. nat_lt space (weigh e)) es ≡ false
    → All (λ e. weigh e ≤ space) es
light_all weigh space [] none = All-nil (λ e. weigh e ≤ space)
light_all weigh space (e ∷ es) none =
    let both = or_parts (nat_lt space (weigh e)) (list_any (λ x. nat_lt space (weigh x)) es) none in
    All-cons (λ x. weigh x ≤ space) e es (not_less space (weigh e) both.0) (light_all weigh space es both.1)
  where
    not_less : (m n : ℕ) → nat_lt m n ≡ false → n ≤ m
    not_less m n h = grind (arith, nat_tests)
