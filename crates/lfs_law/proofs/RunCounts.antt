-- Runs that are counted, one entry after another.
use Rattle.std.proofs.Common.{◌≡◌, ℕ, ◌+◌, ◌<◌, ◌≤◌, Bool, true, false, List, [], ◌∷◌, length, refl, ap, sym, ◌∙◌, arith}
use Rattle.std.specs.Prelude.{if◌then◌else◌}
use Rattle.std.proofs.lemmas.Bool.Decides.{nat_tests}
use Rattle.lfs_meta.specs.Runs.{onto, runs_after, run_takes}
use Rattle.lfs_meta.proofs.RunLemmas.{some_run}
use Rattle.lfs_fs.specs.Entry.{Entry}
use Rattle.lfs_fs.specs.Weight.{weight}

-- So many runs are begun, the last of which weighs so much and has so many entries; some entries are left.
pub record AreBegun (complete room begun count taken len : ℕ) (left : List Entry) : Type 0 where
  pub is : count + length (runs_after weight room taken len left) ≡ complete + 1
  pub few_runs : count ≤ begun + 1
  pub light : taken ≤ 330244
  pub few : len ≤ 1000

pub onto_length : (e : Entry) (runs : List (List Entry)) → 1 ≤ length runs → length (onto e runs) ≡ length runs
unfolding onto
onto_length e [] some = absurd (omega (arith, some))
onto_length e (run ∷ runs) some = refl

-- one entry more
pub length_by : (room taken len : ℕ) (e : Entry) (es : List Entry) (t : Bool) → run_takes room taken len (weight e) ≡ t
    → length (runs_after weight room taken len (e ∷ es))
    ≡ (if t then length (runs_after weight room (taken + weight e) (len + 1) es) else length (runs_after weight room (weight e) 1 es) + 1)
unfolding runs_after
length_by room taken len e es true is =
    rw is (onto_length e (runs_after weight room (taken + weight e) (len + 1) es) (some_run weight room (taken + weight e) (len + 1) es))
length_by room taken len e es false is =
    rw is (omega (arith, onto_length e (runs_after weight room (weight e) 1 es) (some_run weight room (weight e) 1 es)))

-- the last run takes the entry
pub takes_one : (complete room begun count taken len next : ℕ) (e : Entry) (left : List Entry) → room ≤ 65536 → next ≡ weight e
    → run_takes room taken len next ≡ true
    → AreBegun complete room begun count taken len (e ∷ left) → AreBegun complete room (begun + 1) count (taken + next) (len + 1) left
takes_one complete room begun count taken len next e left small is takes to =
    let fits : taken + next ≤ room = grind (arith, nat_tests) in
    let few : len < 1000 = grind (arith, nat_tests) in
    rw is (record {
      is = omega (arith, to.is, length_by room taken len e left true (ap (run_takes room taken len) (sym is) ∙ takes));
      few_runs = omega (arith, to.few_runs);
      light = omega (arith, fits, small, is);
      few = omega (arith, few);
    })

-- another one does
pub begins_one : (complete room begun count taken len next : ℕ) (e : Entry) (left : List Entry) → next ≡ weight e → next ≤ 264708
    → run_takes room taken len next ≡ false
    → AreBegun complete room begun count taken len (e ∷ left) → AreBegun complete room (begun + 1) (count + 1) (0 + next) (0 + 1) left
begins_one complete room begun count taken len next e left is small leaves to =
    let weighs : 0 + next ≡ weight e = omega (arith, is) in
    let one : 0 + 1 ≡ 1 = omega arith in
    rw (weighs, one) (record {
      is = omega (arith, to.is, length_by room taken len e left false (ap (run_takes room taken len) (sym is) ∙ leaves));
      few_runs = omega (arith, to.few_runs);
      light = omega (arith, small, is);
      few = omega arith;
    })

pub all_begun : (complete room begun count taken len : ℕ) (left : List Entry) → length left ≡ 0
    → AreBegun complete room begun count taken len left → count ≡ complete
unfolding runs_after
all_begun complete room begun count taken len [] none to = omega (arith, to.is)
all_begun complete room begun count taken len (e ∷ es) none to = absurd (omega (arith, none))
