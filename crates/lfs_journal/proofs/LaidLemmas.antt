-- A list of changes over which others are laid.
use Rattle.std.proofs.Common.{◌≡◌, ◌≢◌, ℕ, ◌+◌, ◌<◌, ◌≤◌, ◌==◌, List, [], ◌∷◌, ◌++◌, length, None, Some, nat_lt, if◌then◌else◌, refl, ap, sym, ◌∙◌, subst, arith, inl, inr}
use Rattle.std.specs.List.{AllByRecursion}
use Rattle.std.proofs.lemmas.Bool.{cases_eq, cases_lt, cond-true, cond-false, eq-eqb, ne_eqb, lt-ltb, le-ltb}
use Rattle.lfs_block.specs.Change.{Change, IsRising, change_of, overlaid}
use Rattle.lfs_block.proofs.ChangeLemmas.{change-here, change-past}
use Rattle.lfs_journal.specs.Joined.{joined, laid, laid_over}

-- ---- one change laid

-- into its block's
pub laid-same : (c : Change) (cs : List Change) (d : Change) → c.number ≡ d.number → laid (c ∷ cs) d ≡ joined c d ∷ cs
laid-same c cs d same =
    cond-true (c.number == d.number) (joined c d ∷ cs) (if nat_lt d.number c.number then d ∷ c ∷ cs else c ∷ laid cs d)
    (eq-eqb c.number d.number same)

laid-other : (c : Change) (cs : List Change) (d : Change) → c.number ≢ d.number
    → laid (c ∷ cs) d ≡ (if nat_lt d.number c.number then d ∷ c ∷ cs else c ∷ laid cs d)
laid-other c cs d other =
    cond-false (c.number == d.number) (joined c d ∷ cs) (if nat_lt d.number c.number then d ∷ c ∷ cs else c ∷ laid cs d)
    (ne_eqb c.number d.number other)

-- before a greater one
pub laid-less : (c : Change) (cs : List Change) (d : Change) → d.number < c.number → laid (c ∷ cs) d ≡ d ∷ c ∷ cs
laid-less c cs d less =
    laid-other c cs d (λ same. absurd (omega (arith, less, same)))
    ∙ cond-true (nat_lt d.number c.number) (d ∷ c ∷ cs) (c ∷ laid cs d) (lt-ltb d.number c.number less)

-- behind a lesser one
pub laid-more : (c : Change) (cs : List Change) (d : Change) → c.number < d.number → laid (c ∷ cs) d ≡ c ∷ laid cs d
laid-more c cs d more =
    laid-other c cs d (λ same. absurd (omega (arith, more, same)))
    ∙ cond-false (nat_lt d.number c.number) (d ∷ c ∷ cs) (c ∷ laid cs d) (le-ltb d.number c.number (omega (arith, more)))

-- where a change goes, by the first of those that it is laid over
pub data Goes (c : Change) (cs : List Change) (d : Change) : Type 0 where
  Into : c.number ≡ d.number → laid (c ∷ cs) d ≡ joined c d ∷ cs → Goes c cs d
  Before : d.number < c.number → laid (c ∷ cs) d ≡ d ∷ c ∷ cs → Goes c cs d
  Behind : c.number < d.number → laid (c ∷ cs) d ≡ c ∷ laid cs d → Goes c cs d

pub goes : (c : Change) (cs : List Change) (d : Change) → Goes c cs d
goes c cs d =
    elim (cases_eq c.number d.number) [
      | inl same ↦ Into same (laid-same c cs d same)
      | inr other ↦ elim (cases_lt d.number c.number) [
        | inl less ↦ Before less (laid-less c cs d less)
        | inr most ↦ let more : c.number < d.number = omega (arith, most, other) in Behind more (laid-more c cs d more)
      ]
    ]

-- ---- numbers that rise

-- numbers above all others are above any less
all_above : (n m : ℕ) (cs : List Change) → n < m → AllByRecursion (λ e. m < e.number) cs → AllByRecursion (λ e. n < e.number) cs
all_above n m [] less each = tt
all_above n m (c ∷ cs) less each =
    let first : m < c.number = each.0 in
    (omega (arith, less, first), all_above n m cs less each.1)

above-laid : (n : ℕ) (cs : List Change) (d : Change) → n < d.number → AllByRecursion (λ e. n < e.number) cs
    → AllByRecursion (λ e. n < e.number) (laid cs d)
above-laid n [] d less each = (less, tt)
above-laid n (c ∷ cs) d less each =
    let P : List Change → Type 0 = AllByRecursion (λ e. n < e.number) in
    elim (goes c cs d) [
      | Into same is ↦ subst P (sym is) (each.0, each.1)
      | Before before is ↦ subst P (sym is) (less, (each.0, each.1))
      | Behind more is ↦ subst P (sym is) (each.0, above-laid n cs d less each.1)
    ]

pub rising-laid : (cs : List Change) (d : Change) → IsRising cs → IsRising (laid cs d)
rising-laid [] d rising = (tt, tt)
rising-laid (c ∷ cs) d rising =
    elim (goes c cs d) [
      | Into same is ↦ subst IsRising (sym is) (rising.0, rising.1)
      | Before less is ↦ subst IsRising (sym is) ((less, all_above d.number c.number cs less rising.0), (rising.0, rising.1))
      | Behind more is ↦ subst IsRising (sym is) (above-laid c.number cs d more rising.0, rising-laid cs d rising.1)
    ]

pub rising-laid_over : (cs ds : List Change) → IsRising cs → IsRising (laid_over cs ds)
rising-laid_over cs [] rising = rising
rising-laid_over cs (d ∷ ds) rising = rising-laid_over (laid cs d) ds (rising-laid cs d rising)

-- a number below all others
unnamed-below : (n : ℕ) (cs : List Change) → AllByRecursion (λ e. n < e.number) cs → change_of n cs ≡ None
unnamed-below n [] each = refl
unnamed-below n (c ∷ cs) each =
    let first : n < c.number = each.0 in
    change-past c cs n (λ same. absurd (omega (arith, first, same))) ∙ unnamed-below n cs each.1

-- ---- what holds of each

-- a change that goes into another makes one of which it holds; one that goes nowhere else is one
pub each-laid : (P : Change → Type 0) (cs : List Change) (d : Change) → IsRising cs
    → ((c : Change) → P c → c.number ≡ d.number → P (joined c d)) → (change_of d.number cs ≡ None → P d) → AllByRecursion P cs
    → AllByRecursion P (laid cs d)
each-laid P [] d rising join alone each = (alone refl, tt)
each-laid P (c ∷ cs) d rising join alone each =
    elim (goes c cs d) [
      | Into same is ↦ subst (AllByRecursion P) (sym is) (join c each.0 same, each.1)
      | Before less is ↦
          let none : change_of d.number (c ∷ cs) ≡ None = unnamed-below d.number (c ∷ cs)
          (less, all_above d.number c.number cs less rising.0) in
          subst (AllByRecursion P) (sym is) (alone none, (each.0, each.1))
      | Behind more is ↦
          let past : change_of d.number (c ∷ cs) ≡ change_of d.number cs =
          change-past c cs d.number (λ same. absurd (omega (arith, more, same))) in
          subst (AllByRecursion P) (sym is) (each.0, each-laid P cs d rising.1 join (λ none. alone (past ∙ none)) each.1)
    ]

-- a block that isn't named once a change is laid wasn't before
unnamed-before : (n : ℕ) (cs : List Change) (d : Change) → change_of n (laid cs d) ≡ None → change_of n cs ≡ None
unnamed-before n [] d none = refl
unnamed-before n (c ∷ cs) d none =
    elim (goes c cs d) [
      | Into same is ↦
          let left : change_of n (joined c d ∷ cs) ≡ None = ap (change_of n) (sym is) ∙ none in
          elim (cases_eq c.number n) [
            | inl here ↦ absurd (named (sym (change-here (joined c d) cs n here) ∙ left))
            | inr other ↦ change-past c cs n other ∙ sym (change-past (joined c d) cs n other) ∙ left
          ]
      | Before less is ↦
          let left : change_of n (d ∷ c ∷ cs) ≡ None = ap (change_of n) (sym is) ∙ none in
          elim (cases_eq d.number n) [
            | inl here ↦ absurd (named (sym (change-here d (c ∷ cs) n here) ∙ left))
            | inr other ↦ sym (change-past d (c ∷ cs) n other) ∙ left
          ]
      | Behind more is ↦
          let left : change_of n (c ∷ laid cs d) ≡ None = ap (change_of n) (sym is) ∙ none in
          elim (cases_eq c.number n) [
            | inl here ↦ absurd (named (sym (change-here c (laid cs d) n here) ∙ left))
            | inr other ↦
                change-past c cs n other ∙ unnamed-before n cs d (sym (change-past c (laid cs d) n other) ∙ left)
          ]
    ]
  where
    named : {c : Change} → Some c ≡ None → ⊥
    named is = cc

-- the same of several, each of which may go into one of the first
pub each-laid_over : (P Q : Change → Type 0) → ((c d : Change) → P c → Q d → c.number ≡ d.number → P (joined c d))
    → (cs ds : List Change) → IsRising cs → AllByRecursion Q ds → AllByRecursion (λ d. change_of d.number cs ≡ None → P d) ds
    → AllByRecursion P cs → AllByRecursion P (laid_over cs ds)
each-laid_over P Q join cs [] rising those alone each = each
each-laid_over P Q join cs (d ∷ ds) rising those alone each =
    each-laid_over P Q join (laid cs d) ds (rising-laid cs d rising) those.1 (still ds alone.1)
    (each-laid P cs d rising (λ c is same. join c d is those.0 same) alone.0 each)
  where
    still : (es : List Change) → AllByRecursion (λ e. change_of e.number cs ≡ None → P e) es
        → AllByRecursion (λ e. change_of e.number (laid cs d) ≡ None → P e) es
    still [] all = tt
    still (e ∷ es) all = (λ none. all.0 (unnamed-before e.number cs d none), still es all.1)

-- ---- what a block holds

pub overlaid-here : (c : Change) (cs : List Change) (n : ℕ) (below : List ℕ) → c.number ≡ n → overlaid (c ∷ cs) n below ≡ c.new
overlaid-here c cs n below same = cond-true (c.number == n) c.new (overlaid cs n below) (eq-eqb c.number n same)

pub overlaid-past : (c : Change) (cs : List Change) (n : ℕ) (below : List ℕ) → c.number ≢ n
    → overlaid (c ∷ cs) n below ≡ overlaid cs n below
overlaid-past c cs n below other = cond-false (c.number == n) c.new (overlaid cs n below) (ne_eqb c.number n other)

overlaid-none : (cs : List Change) (n : ℕ) (below : List ℕ) → AllByRecursion (λ e. n < e.number) cs → overlaid cs n below ≡ below
overlaid-none [] n below each = refl
overlaid-none (c ∷ cs) n below each =
    let first : n < c.number = each.0 in
    overlaid-past c cs n below (λ same. absurd (omega (arith, first, same))) ∙ overlaid-none cs n below each.1

-- the block of a change that is laid
laid-here : (cs : List Change) (d : Change) (n : ℕ) (below : List ℕ) → d.number ≡ n → overlaid (laid cs d) n below ≡ d.new
laid-here [] d n below here = overlaid-here d [] n below here
laid-here (c ∷ cs) d n below here =
    elim (goes c cs d) [
      | Into same is ↦ ap (λ es. overlaid es n below) is ∙ overlaid-here (joined c d) cs n below (same ∙ here)
      | Before less is ↦ ap (λ es. overlaid es n below) is ∙ overlaid-here d (c ∷ cs) n below here
      | Behind more is ↦
          ap (λ es. overlaid es n below) is
          ∙ overlaid-past c (laid cs d) n below (λ same. absurd (omega (arith, more, same, here)))
          ∙ laid-here cs d n below here
    ]

-- and the others
laid-past : (cs : List Change) (d : Change) (n : ℕ) (below : List ℕ) → d.number ≢ n → overlaid (laid cs d) n below ≡ overlaid cs n below
laid-past [] d n below other = overlaid-past d [] n below other
laid-past (c ∷ cs) d n below other =
    elim (goes c cs d) [
      | Into same is ↦
          let apart : c.number ≢ n = λ here. other (sym same ∙ here) in
          ap (λ es. overlaid es n below) is ∙ overlaid-past (joined c d) cs n below apart ∙ sym (overlaid-past c cs n below apart)
      | Before less is ↦ ap (λ es. overlaid es n below) is ∙ overlaid-past d (c ∷ cs) n below other
      | Behind more is ↦
          ap (λ es. overlaid es n below) is
          ∙ elim (cases_eq c.number n) [
            | inl here ↦ overlaid-here c (laid cs d) n below here ∙ sym (overlaid-here c cs n below here)
            | inr apart ↦
                overlaid-past c (laid cs d) n below apart ∙ laid-past cs d n below other ∙ sym (overlaid-past c cs n below apart)
          ]
    ]

pub overlaid-laid_over : (cs ds : List Change) (n : ℕ) (below : List ℕ) → IsRising ds
    → overlaid (laid_over cs ds) n below ≡ overlaid ds n (overlaid cs n below)
overlaid-laid_over cs [] n below rising = refl
overlaid-laid_over cs (d ∷ ds) n below rising =
    overlaid-laid_over (laid cs d) ds n below rising.1
    ∙ elim (cases_eq d.number n) [
      | inl here ↦
          ap (overlaid ds n) (laid-here cs d n below here)
          ∙ overlaid-none ds n d.new (subst (λ (k : ℕ). AllByRecursion (λ e. k < e.number) ds) here rising.0)
          ∙ sym (overlaid-here d ds n (overlaid cs n below) here)
      | inr other ↦
          ap (overlaid ds n) (laid-past cs d n below other) ∙ sym (overlaid-past d ds n (overlaid cs n below) other)
    ]

-- ---- one more behind several

pub laid_over-more : (cs ds : List Change) (d : Change) → laid_over cs (ds ++ d ∷ []) ≡ laid (laid_over cs ds) d
laid_over-more cs [] d = refl
laid_over-more cs (e ∷ ds) d = laid_over-more (laid cs e) ds d

-- ---- how many they are

length-laid : (cs : List Change) (d : Change) → length (laid cs d) ≤ length cs + 1
length-laid [] d = omega arith
length-laid (c ∷ cs) d =
    elim (goes c cs d) [
      | Into same is ↦ let len = ap length is in omega arith
      | Before less is ↦ let len = ap length is in omega arith
      | Behind more is ↦ let len = ap length is in let rest = length-laid cs d in omega arith
    ]

pub length-laid_over : (cs ds : List Change) → length (laid_over cs ds) ≤ length cs + length ds
length-laid_over cs [] = omega arith
length-laid_over cs (d ∷ ds) =
    let first = length-laid cs d in
    let rest = length-laid_over (laid cs d) ds in
    omega arith

pub some-laid_over : (c : Change) (cs ds : List Change) → laid_over (c ∷ cs) ds ≢ []
some-laid_over c cs [] none = cc
some-laid_over c cs (d ∷ ds) none =
    elim (goes c cs d) [
      | Into same is ↦ some-laid_over (joined c d) cs ds (ap (λ es. laid_over es ds) (sym is) ∙ none)
      | Before less is ↦ some-laid_over d (c ∷ cs) ds (ap (λ es. laid_over es ds) (sym is) ∙ none)
      | Behind more is ↦ some-laid_over c (laid cs d) ds (ap (λ es. laid_over es ds) (sym is) ∙ none)
    ]
