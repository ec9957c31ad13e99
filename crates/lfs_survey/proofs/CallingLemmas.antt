-- Pairs that what is found leads to, one after another.
use Rattle.std.proofs.Common.{◌≡◌, ℕ, ◌+◌, ◌<◌, List, [], ◌∷◌, ◌++◌, length, take, get_or, Result, Ok, Err, suc, ap, sym, ◌∙◌, arith, subst}
use Rattle.std.specs.Result.{OnOk}
use Rattle.std.proofs.lemmas.List.{append-nil, append_assoc, length-take-le, take_more}
use Rattle.lfs_meta.specs.Body.{StoredBody, Inline, Chain, Directory_at}
use Rattle.lfs_meta.specs.Entry.{StoredEntry}
use Rattle.lfs_meta.specs.declared.tail.Tail.{Tail}
use Rattle.lfs_meta.specs.declared.tail.Tail.TheVariants.{End, Soft, Hard}
use Rattle.lfs_survey.specs.Calls.{AreEarlier, body_calls, calls_from, entries_call, found_calls, tail_calls}
use Rattle.lfs_survey.specs.declared.call.Call.{Call}
use Rattle.lfs_survey.specs.declared.found.Found.{Found}
use Rattle.lfs_survey.specs.declared.found.Found.TheVariants.{Part, Refused}
use Rattle.lfs_survey.specs.declared.way.Way.TheVariants.{Entry}

entries_push : (from index : ℕ) (es : List StoredEntry) (e : StoredEntry) → entries_call from index (es ++ e ∷ [])
    ≡ entries_call from index es ++ body_calls (Entry from (index + length es)) e.body
entries_push from index [] e =
    append-nil (body_calls (Entry from index) e.body) ∙ ap (λ (n : ℕ). body_calls (Entry from n) e.body) (omega arith)
entries_push from index (x ∷ es) e =
    let rest = entries_push from (suc index) es e in
    ap (λ (cs : List Call). body_calls (Entry from index) x.body ++ cs) rest
    ∙ ap (λ (n : ℕ). body_calls (Entry from index) x.body ++ (entries_call from (suc index) es ++ body_calls (Entry from n) e.body)) (omega arith)
    ∙ sym (append_assoc (body_calls (Entry from index) x.body) (entries_call from (suc index) es)
    (body_calls (Entry from (index + suc (length es))) e.body))

-- one entry more
entries_more : (from i : ℕ) (es : List StoredEntry) (e : StoredEntry) → i < length es → e ≡ get_or es i e
    → entries_call from 0 (take (i + 1) es) ≡ entries_call from 0 (take i es) ++ body_calls (Entry from i) e.body
entries_more from i es e within is =
    let long : length (take i es) ≡ i = length-take-le i es (omega arith) in
    ap (entries_call from 0) (take_more es i e within ∙ ap (λ (x : StoredEntry). take i es ++ x ∷ []) (sym is))
    ∙ entries_push from 0 (take i es) e
    ∙ ap (λ (n : ℕ). entries_call from 0 (take i es) ++ body_calls (Entry from n) e.body) (omega arith)

-- the pairs with those of one entry more
pub called_more : (from i : ℕ) (old cs new : List Call) (es : List StoredEntry) (e : StoredEntry) → i < length es → e ≡ get_or es i e
    → cs ≡ old ++ entries_call from 0 (take i es) → new ≡ cs ++ body_calls (Entry from i) e.body
    → new ≡ old ++ entries_call from 0 (take (i + 1) es)
called_more from i old cs new es e within is before added =
    added ∙ ap (λ (xs : List Call). xs ++ body_calls (Entry from i) e.body) before
    ∙ append_assoc old (entries_call from 0 (take i es)) (body_calls (Entry from i) e.body)
    ∙ ap (λ (xs : List Call). old ++ xs) (sym (entries_more from i es e within is))

-- the pairs of entries, and then a tail's
pub called_all : {E : Type 0} (result : Result (Unit {0}) E) (from : ℕ) (old mid new : List Call) (f : Found) (es : List StoredEntry)
    (tail : Tail) → found_calls from f ≡ entries_call from 0 es ++ tail_calls from tail → mid ≡ old ++ entries_call from 0 es
    → OnOk result (new ≡ mid ++ tail_calls from tail) → OnOk result (new ≡ old ++ found_calls from f)
called_all (Ok v) from old mid new f es tail all first later =
    later ∙ ap (λ (xs : List Call). xs ++ tail_calls from tail) first
    ∙ append_assoc old (entries_call from 0 es) (tail_calls from tail) ∙ ap (λ (xs : List Call). old ++ xs) (sym all)
called_all (Err e) from old mid new f es tail all first later = later

-- one pair more
pub calls_push : (from : ℕ) (fs : List Found) (f : Found) → calls_from from (fs ++ f ∷ []) ≡ calls_from from fs ++ found_calls (from + length fs) f
calls_push from [] f = append-nil (found_calls from f) ∙ ap (λ (n : ℕ). found_calls n f) (omega arith)
calls_push from (x ∷ fs) f =
    let rest = calls_push (suc from) fs f in
    ap (λ (cs : List Call). found_calls from x ++ cs) rest
    ∙ ap (λ (n : ℕ). found_calls from x ++ (calls_from (suc from) fs ++ found_calls n f)) (omega arith)
    ∙ sym (append_assoc (found_calls from x) (calls_from (suc from) fs) (found_calls (from + suc (length fs)) f))

-- ---- each behind what leads to it

pub earlier_append : (n : ℕ) (xs ys : List Call) → AreEarlier n xs → AreEarlier (n + length xs) ys → AreEarlier n (xs ++ ys)
earlier_append n [] ys first later = subst (λ (m : ℕ). AreEarlier m ys) (omega arith) later
earlier_append n (x ∷ xs) ys (one, first) later =
    (one, earlier_append (n + 1) xs ys first (subst (λ (m : ℕ). AreEarlier m ys) (omega arith) later))

earlier_body : (from n index : ℕ) (b : StoredBody) → from < n → AreEarlier n (body_calls (Entry from index) b)
earlier_body from n index (Inline bytes) before = tt
earlier_body from n index (Chain head size) before = tt
earlier_body from n index (Directory_at first second) before = (before, tt)

earlier_entries : (from n index : ℕ) (es : List StoredEntry) → from < n → AreEarlier n (entries_call from index es)
earlier_entries from n index [] before = tt
earlier_entries from n index (e ∷ es) before =
    let here = body_calls (Entry from index) e.body in
    earlier_append n here (entries_call from (suc index) es) (earlier_body from n index e.body before)
    (earlier_entries from (n + length here) (suc index) es (omega (arith, before)))

earlier_tail : (from n : ℕ) (t : Tail) → from < n → AreEarlier n (tail_calls from t)
earlier_tail from n End before = tt
earlier_tail from n (Soft first second) before = tt
earlier_tail from n (Hard first second) before = (before, tt)

pub earlier_found : (from n : ℕ) (f : Found) → from < n → AreEarlier n (found_calls from f)
earlier_found from n (Part p) before =
    let here = entries_call from 0 p.1.entries in
    earlier_append n here (tail_calls from p.1.tail) (earlier_entries from n 0 p.1.entries before)
    (earlier_tail from (n + length here) p.1.tail (omega (arith, before)))
earlier_found from n (Refused fault) before = tt
