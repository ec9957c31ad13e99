-- What is found from a pair on, one pair after another.
use Rattle.std.proofs.Common.{◌≡◌, ℕ, ◌+◌, ◌-◌, ◌*◌, ◌^◌, ◌<◌, ◌≤◌, Bool, List, [], ◌∷◌, ◌++◌, length, get_or, refl, ap, sym, ◌∙◌, arith, subst}
use Rattle.std.proofs.lemmas.List.{length-append}
use Rattle.lfs_block.specs.Disk.{Disk}
use Rattle.lfs_meta.specs.Body.{Pair}
use Rattle.lfs_fs.specs.Used.{unmarked}
use Rattle.lfs_survey.specs.Area.{AreFound, looked_after}
use Rattle.lfs_survey.specs.Calls.{AreEarlier, calls_from, found_calls, start_call}
use Rattle.lfs_survey.specs.Looking.{Grows, IsFound, looked_behind}
use Rattle.lfs_survey.specs.declared.call.Call.{Call}
use Rattle.lfs_survey.specs.declared.found.Found.{Found}
use Rattle.lfs_survey.proofs.CallingLemmas.{calls_push, earlier_append, earlier_found}
use Rattle.lfs_survey.proofs.LookingLemmas.{behind_fewer, behind_grows, behind_len}

-- ---- the table behind what is found

pub after_grows : (looked : List Bool) (cs : List Call) (fs : List Found) → Grows looked (looked_after looked cs fs)
after_grows looked cs [] n is = is
after_grows looked [] (f ∷ fs) n is = is
after_grows looked (c ∷ cs) (f ∷ fs) n is =
    after_grows (looked_behind looked c.pair) cs fs n (behind_grows looked c.pair n is)

pub after_len : (looked : List Bool) (cs : List Call) (fs : List Found) → length (looked_after looked cs fs) ≡ length looked
after_len looked cs [] = refl
after_len looked [] (f ∷ fs) = refl
after_len looked (c ∷ cs) (f ∷ fs) = after_len (looked_behind looked c.pair) cs fs ∙ behind_len looked c.pair

pub after_fewer : (looked : List Bool) (cs : List Call) (fs : List Found) → unmarked (looked_after looked cs fs) ≤ unmarked looked
after_fewer looked cs [] = omega arith
after_fewer looked [] (f ∷ fs) = omega arith
after_fewer looked (c ∷ cs) (f ∷ fs) =
    let rest = after_fewer (looked_behind looked c.pair) cs fs in
    let one = behind_fewer looked c.pair in
    omega arith

-- ---- one more

after_push : (looked : List Bool) (cs more : List Call) (fs : List Found) (c : Call) (f : Found) → length fs < length cs
    → c ≡ get_or cs (length fs) c → looked_after looked (cs ++ more) (fs ++ f ∷ []) ≡ looked_behind (looked_after looked cs fs) c.pair
after_push looked [] more fs c f within is = absurd (omega (arith, within))
after_push looked (x ∷ cs) more [] c f within is = ap (λ (y : Call). looked_behind looked y.pair) (sym is)
after_push looked (x ∷ cs) more (y ∷ fs) c f within is =
    after_push (looked_behind looked x.pair) cs more fs c f (omega (arith, within)) is

found_push : (d : Disk) (looked : List Bool) (cs more : List Call) (fs : List Found) (c : Call) (f : Found) → length fs < length cs
    → c ≡ get_or cs (length fs) c → AreFound d looked cs fs → IsFound d (looked_after looked cs fs) c.pair f
    → AreFound d looked (cs ++ more) (fs ++ f ∷ [])
found_push d looked [] more fs c f within is right one = absurd (omega (arith, within))
found_push d looked (x ∷ cs) more [] c f within is right one = (subst (λ (y : Call). IsFound d looked y.pair f) is one, tt)
found_push d looked (x ∷ cs) more (y ∷ fs) c f within is right one =
    (right.0, found_push d (looked_behind looked x.pair) cs more fs c f (omega (arith, within)) is right.1 one)

-- the first pairs were looked at, and the others wait
pub record IsUnderWay (d : Disk) (before now : List Bool) (start : Pair) (cs : List Call) (fs : List Found) : Type 0 where
  pub called : cs ≡ start_call start ∷ calls_from 0 fs
  pub earlier : AreEarlier 0 cs
  pub right : AreFound d before cs fs
  pub within : length fs ≤ length cs
  pub looked : now ≡ looked_after before cs fs
  pub len : length before ≡ d.count

under_way_more : (d : Disk) (before now next : List Bool) (start : Pair) (cs more : List Call) (fs : List Found) (c : Call) (f : Found)
    → IsUnderWay d before now start cs fs → length fs < length cs → c ≡ get_or cs (length fs) c → IsFound d now c.pair f
    → next ≡ looked_behind now c.pair → more ≡ cs ++ found_calls (length fs) f → IsUnderWay d before next start more (fs ++ f ∷ [])
under_way_more d before now next start cs more fs c f h within is one behind added = rw added (record {
  called = ap (λ (xs : List Call). xs ++ found_calls (length fs) f) h.called ∙ ap (λ (xs : List Call). start_call start ∷ xs)
      (ap (λ (n : ℕ). calls_from 0 fs ++ found_calls n f) (omega arith) ∙ sym (calls_push 0 fs f));
  earlier = earlier_append 0 cs (found_calls (length fs) f) h.earlier (earlier_found (length fs) (0 + length cs) f (omega (arith, within)));
  right = found_push d before cs (found_calls (length fs) f) fs c f within is h.right
      (subst (λ (t : List Bool). IsFound d t c.pair f) h.looked one);
  within = omega (arith, length-append cs (found_calls (length fs) f), length-append fs (f ∷ []));
  looked = behind ∙ ap (λ (t : List Bool). looked_behind t c.pair) h.looked
      ∙ sym (after_push before cs (found_calls (length fs) f) fs c f within is);
  len = h.len;
})

-- the same where the number of those that were looked at goes by a name
pub under_way_next : (d : Disk) (before now next : List Bool) (start : Pair) (cs more : List Call) (fs new : List Found) (c : Call)
    (f : Found) (from : ℕ) → from ≡ length fs → new ≡ fs ++ f ∷ [] → IsUnderWay d before now start cs fs → from < length cs
    → c ≡ get_or cs from c → IsFound d now c.pair f → next ≡ looked_behind now c.pair → more ≡ cs ++ found_calls from f
    → IsUnderWay d before next start more new
under_way_next d before now next start cs more fs new c f from len push h within is one behind added = rw push
    (under_way_more d before now next start cs more fs c f h (omega arith) (rw (← len) is) one behind (rw (← len) added))

-- ---- what is left

-- how much is left to be looked at: more than any number of pairs for each block
abbrev pub left_over : List Bool → List Call → List Found → ℕ
left_over looked cs fs = unmarked looked * 2 ^ 64 + (length cs - length fs)
