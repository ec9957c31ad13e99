-- What is reached from a pair is called, unless a pair on the way was turned away.
use Rattle.std.proofs.Common.{◌≡◌, ◌⊎◌, ℕ, Bool, List, [], ◌∷◌, ◌++◌, length, Some, zero, suc, refl, ap, sym, ◌∙◌, arith, subst}
use Rattle.std.specs.Prelude.{Contains}
use Rattle.std.specs.List.{Any}
use Rattle.std.proofs.lemmas.List.Elements.{Contains-append_left, Contains-append_right}
use mathlib.Core.Logic.{inl, inr}
use Rattle.lfs_block.specs.Disk.{Disk}
use Rattle.lfs_block.specs.declared.mount_fault.MountFault.{MountFault}
use Rattle.lfs_block.specs.declared.mount_fault.MountFault.TheVariants.{BlockRange, BlockTwice}
use Rattle.lfs_meta.specs.Body.{Pair, StoredBody, Directory_at}
use Rattle.lfs_meta.specs.Entry.{StoredEntry}
use Rattle.lfs_meta.specs.Laws.{UnreadPairsHoldNoPart}
use Rattle.lfs_meta.specs.LiveBlock.{stored_part_of}
use Rattle.lfs_meta.specs.Part.{StoredPart}
use Rattle.lfs_meta.specs.declared.tail.Tail.{Tail}
use Rattle.lfs_survey.specs.Area.{AreFound, IsArea}
use Rattle.lfs_survey.specs.Calls.{body_calls, calls_from, entries_call, found_calls, start_call, tail_calls}
use Rattle.lfs_survey.specs.Looking.{IsFound, IsRefused, looked_behind}
use Rattle.lfs_survey.specs.Reached.{AreasAreComplete, FoundAs, IsCalled, IsTurnedAway, LeadsToPair, Trail}
use Rattle.lfs_survey.specs.declared.area.Area.{Area}
use Rattle.lfs_survey.specs.declared.call.Call.{Call}
use Rattle.lfs_survey.specs.declared.found.Found.{Found}
use Rattle.lfs_survey.specs.declared.found.Found.TheVariants.{Part, Refused}
use Rattle.lfs_survey.specs.declared.way.Way.TheVariants.{Entry, Next}

-- some call among these has the pair
abbrev Calls : List Call → Pair → Type 0
Calls cs q = (c : Call) × Contains cs c × (c.pair ≡ q)

calls_left : (xs ys : List Call) (q : Pair) → Calls xs q → Calls (xs ++ ys) q
calls_left xs ys q h = (h.0, Contains-append_left xs ys h.0 h.1, h.2)

calls_right : (xs ys : List Call) (q : Pair) → Calls ys q → Calls (xs ++ ys) q
calls_right xs ys q h = (h.0, Contains-append_right xs ys h.0 h.1, h.2)

entries_called : (from index : ℕ) (es : List StoredEntry) (e : StoredEntry) (q : Pair) → Contains es e → e.body ≡ Directory_at q.0 q.1
    → Calls (entries_call from index es) q
entries_called from index [] e q (k, within, is) at = absurd (omega (arith, within))
entries_called from index (x ∷ es) e q (zero, within, is) at =
    calls_left (body_calls (Entry from index) x.body) (entries_call from (suc index) es) q
    (subst (λ (b : StoredBody). Calls (body_calls (Entry from index) b) q) (sym (ap (λ (y : StoredEntry). y.body) is ∙ at))
    (record { way = Entry from index; pair = q }, (0, omega arith, refl), refl))
entries_called from index (x ∷ es) e q (suc k, within, is) at =
    calls_right (body_calls (Entry from index) x.body) (entries_call from (suc index) es) q
    (entries_called from (suc index) es e q (k, omega (arith, within), is) at)

found_called : (from : ℕ) (p : Pair × StoredPart) (q : Pair) → LeadsToPair p.1 q → Calls (found_calls from (Part p)) q
found_called from p q (inl (e, has, at)) =
    calls_left (entries_call from 0 p.1.entries) (tail_calls from p.1.tail) q (entries_called from 0 p.1.entries e q has at)
found_called from p q (inr at) =
    calls_right (entries_call from 0 p.1.entries) (tail_calls from p.1.tail) q
    (subst (λ (t : Tail). Calls (tail_calls from t) q) (sym at) (record { way = Next from; pair = q }, (0, omega arith, refl), refl))

all_called : (from : ℕ) (cs : List Call) (fs : List Found) (c : Call) (p : Pair × StoredPart) (q : Pair) → FoundAs cs fs c (Part p)
    → LeadsToPair p.1 q → Calls (calls_from from fs) q
all_called from [] fs c p q found leads = absurd found
all_called from (x ∷ cs) [] c p q found leads = absurd found
all_called from (x ∷ cs) (y ∷ fs) c p q (inl here) leads =
    calls_left (found_calls from y) (calls_from (suc from) fs) q
    (subst (λ (f : Found). Calls (found_calls from f) q) (sym here.1) (found_called from p q leads))
all_called from (x ∷ cs) (y ∷ fs) c p q (inr later) leads =
    calls_right (found_calls from y) (calls_from (suc from) fs) q (all_called (suc from) cs fs c p q later leads)

-- what is found at a call, with the table of that time
found_at : (d : Disk) (looked : List Bool) (cs : List Call) (fs : List Found) (c : Call) → length fs ≡ length cs → Contains cs c
    → AreFound d looked cs fs → (f : Found) × FoundAs cs fs c f × ((then : List Bool) × IsFound d then c.pair f)
found_at d looked [] fs c same (k, within, is) right = absurd (omega (arith, within))
found_at d looked (x ∷ cs) [] c same has right = absurd (omega (arith, same))
found_at d looked (x ∷ cs) (y ∷ fs) c same (zero, within, is) right =
    (y, inl (is, refl), (looked, subst (λ (z : Call). IsFound d looked z.pair y) is right.0))
found_at d looked (x ∷ cs) (y ∷ fs) c same (suc k, within, is) right =
    let later = found_at d (looked_behind looked x.pair) cs fs c (omega (arith, same)) (k, omega (arith, within), is) right.1 in
    (later.0, inr later.1, later.2)

-- a pair that holds a part isn't read only where it was turned away
turned_by : (d : Disk) (looked : List Bool) (pair : Pair) (fault : MountFault) (s : StoredPart) → UnreadPairsHoldNoPart
    → stored_part_of d pair ≡ Some s → IsRefused d looked pair fault → (fault ≡ BlockRange) ⊎ (fault ≡ BlockTwice)
turned_by d looked pair BlockRange s none holds refused = inl refl
turned_by d looked pair BlockTwice s none holds refused = inr refl
turned_by d looked pair fault s none holds refused = let no = none fault d pair refused.1 in absurd (cc)

-- a trail that goes on is at its end
any_later : {X : Type 0} (P : X → Type 0) (x : X) (xs : List X) → Any P xs → Any P (x ∷ xs)
any_later P x xs (k, y, within, is, p) = (suc k, y, omega (arith, within), is, p)

module _ (d : Disk) (looked : List Bool) (start : Pair) (a : Area) (none : UnreadPairsHoldNoPart) (h : IsArea d looked start a) where
  next_called : (c : Call) (p : Pair × StoredPart) (m : Pair) → FoundAs a.calls.items a.found.items c (Part p) → LeadsToPair p.1 m → IsCalled a m
  next_called c p m found leads =
      subst (λ (cs : List Call). Calls cs m) (sym h.called)
      (calls_right (start_call start ∷ []) (calls_from 0 a.found.items) m
      (all_called 0 a.calls.items a.found.items c p m found leads))

  -- a pair on a trail leads on, or was turned away
  leads_on : (c : Call) (f : Found) (p m : Pair) (s : StoredPart) (now : List Bool) → FoundAs a.calls.items a.found.items c f → c.pair ≡ p
      → IsFound d now c.pair f → stored_part_of d p ≡ Some s → LeadsToPair s m → IsCalled a m ⊎ IsTurnedAway a p
  leads_on c (Part x) p m s now found at is holds leads =
      let held : stored_part_of d p ≡ Some x.1 = subst (λ (r : Pair). stored_part_of d r ≡ Some x.1) at is.2 in
      let same : s ≡ x.1 = cc in
      inl (next_called c x m found (subst (λ (t : StoredPart). LeadsToPair t m) same leads))
  leads_on c (Refused fault) p m s now found at is holds leads =
      inr (
        c,
        Refused fault,
        found,
        at,
        elim (turned_by d now c.pair fault s none (ap (stored_part_of d) at ∙ holds) is) [
          | inl e ↦ inl (ap Refused e)
          | inr e ↦ inr (ap Refused e)
        ],
      )

  complete_from : (ms : List Pair) (p q : Pair) → IsCalled a p → Trail d p ms q → IsCalled a q ⊎ Any (IsTurnedAway a) (p ∷ ms)
  complete_from [] p q called trail = inl (subst (IsCalled a) trail called)
  complete_from (m ∷ ms) p q (c, has, at) (s, holds, leads, rest) =
      let found = found_at d looked a.calls.items a.found.items c h.all has h.right in
      elim (leads_on c found.0 p m s found.2.0 found.1 at found.2.1 holds leads) [
        | inl more ↦ elim (complete_from ms m q more rest) [
          | inl end ↦ inl end
          | inr turned ↦ inr (any_later (IsTurnedAway a) p (m ∷ ms) turned)
        ]
        | inr turned ↦ inr (0, p, omega arith, refl, turned)
      ]

-- the law
pub areas_complete : UnreadPairsHoldNoPart → AreasAreComplete
areas_complete none d looked start q a ms h trail =
    let first : IsCalled a start = subst (λ (cs : List Call). Calls cs start) (sym h.called) (start_call start, (0, omega arith, refl), refl) in
    complete_from d looked start a none h ms start q first trail
