-- The parts that a command sets fit a pair where none has too large an entry and they are cut.
use Rattle.std.proofs.Common.{◌≡◌, ℕ, ◌+◌, ◌≤◌, nat_lt, Bool, true, false, cond, List, [], ◌∷◌, ◌++◌, length, refl, ap, sym, ◌∙◌, subst}
use Rattle.std.proofs.Common.{arith, inl, inr, Option, Some, None}
use Rattle.std.specs.Prelude.{All, Contains, ◌&&◌, ◌||◌, if◌then◌else◌, sum_by, flat_map}
use Rattle.std.specs.List.{filter, list_any}
use Rattle.std.proofs.lemmas.List.Elements.{All-nil, All-cons, All-head, All-tail, All-append}
use Rattle.std.proofs.lemmas.Bool.{or_parts}
use Rattle.lfs_meta.specs.Attribute.{Attributes}
use Rattle.lfs_meta.specs.Body.{Pair}
use Rattle.lfs_meta.specs.RunLaws.{RunFits}
use Rattle.lfs_meta.specs.Runs.{runs_after, later_runs}
use Rattle.lfs_fs.specs.Directory.{Part, Directory, thread}
use Rattle.lfs_fs.specs.Entry.{Entry}
use Rattle.lfs_fs.specs.Pair.{root, same_pair}
use Rattle.lfs_fs.specs.Sound.{IsSound, StartsAtRoot}
use Rattle.lfs_fs.specs.Uses.{times, pair_uses, uses}
use Rattle.lfs_fs.specs.Volume.{Volume}
use Rattle.lfs_fs.specs.Weight.{weight, superblock_weight}
use Rattle.lfs_fs.proofs.ContainsLemmas.{contains_first, contains_cases, contains_later}
use Rattle.lfs_fs.proofs.CountLemmas.{element_le}
use Rattle.lfs_command.specs.declared.refusal.Refusal.{Refusal}
use Rattle.lfs_command.specs.declared.refusal.Refusal.TheVariants.{EntryTooLarge}
use Rattle.lfs_command.specs.Accepted.{IsAccepted}
use Rattle.lfs_command.specs.Command.{Command, Mkdir, Put, Rm, Mv, SetAttr, RmAttr, Grow}
use Rattle.lfs_command.specs.Cut.{room, is_first, runs, more_parts, cut, new_pairs}
use Rattle.lfs_command.specs.Edited.{edited}
use Rattle.lfs_law.specs.OutlineCarried.{has_too_large}
use Rattle.lfs_command.specs.Supplies.{Supplies, nothing}
use Rattle.lfs_command.specs.Verdict.{is_too_large, checks, room_checks, refuse_if, first_refusal}
use Rattle.lfs_law.proofs.Cuts.{cut_part, cut_thread, head_by, tail_by}
use Rattle.lfs_law.proofs.Decided.{same_pair_decides}
use Rattle.lfs_law.proofs.Parents.{first_passes, test_passes}
use Rattle.lfs_law.proofs.LargeParts.{large_is_the_same}
use Rattle.lfs_law.proofs.LinksAdded.{first_used}
use Rattle.lfs_law.proofs.RunsFit.{FirstFits, runs_fit, light_all}
use Rattle.lfs_law.proofs.WrittenLemmas.{part_uses, sum_thread}

-- ---- a part that is cut

-- what the superblock weighs in front of a part's entries, where it stands there, and how many entries it is
abbrev pub front_weight : Attributes → Part → ℕ
front_weight attributes p = if is_first p then superblock_weight attributes else 0

abbrev pub front_count : Part → ℕ
front_count p = if is_first p then 1 else 0

-- the entries of a part fit a pair
pub record PartFits (v : Volume) (p : Part) : Type 0 where
  pub weight' : front_weight v.attributes p + sum_by weight p.entries ≤ room v
  pub count : front_count p + length p.entries ≤ 1000

-- where it is set
abbrev pub FitsWhenSet : Volume → Part → Type 0
FitsWhenSet v p = p.dirty ≡ true → PartFits v p

fits_by : (v : Volume) (es : List Entry) (t : Bool) → ((t && nat_lt (room v) (superblock_weight v.attributes))
    || list_any (λ e. nat_lt (room v) (weight e)) es) ≡ false
    → FirstFits weight (room v) (if t then superblock_weight v.attributes else 0) (if t then 1 else 0)
    (if t then runs_after weight (room v) (superblock_weight v.attributes) 1 es else runs_after weight (room v) 0 0 es)
fits_by v es true light =
    let both = or_parts (nat_lt (room v) (superblock_weight v.attributes)) (list_any (λ e. nat_lt (room v) (weight e)) es) light in
    let head = light_all (λ (w : ℕ). w) (room v) (superblock_weight v.attributes ∷ []) (ap (λ (t : Bool). t || false) both.0) in
    runs_fit weight (room v) (superblock_weight v.attributes) 1 es (All-head (λ (w : ℕ). w ≤ room v)
    (superblock_weight v.attributes) [] head) (omega arith) (light_all weight (room v) es both.1)
fits_by v es false light = runs_fit weight (room v) 0 0 es (omega arith) (omega arith) (light_all weight (room v) es light)

runs_fit_part : (v : Volume) (p : Part) → is_too_large v p ≡ false → FirstFits weight (room v) (front_weight v.attributes p) (front_count p)
    (runs v p)
runs_fit_part v p light = fits_by v p.entries (is_first p) light

more_fit : (v : Volume) (pairs : List Pair) (rs : List (List Entry)) → ((q : Pair) → Contains pairs q → same_pair q root ≡ false)
    → All (RunFits weight (room v)) rs
    → All (FitsWhenSet v) (more_parts pairs rs)
more_fit v pairs [] other fit = All-nil (FitsWhenSet v)
more_fit v [] (run ∷ rs) other fit = All-nil (FitsWhenSet v)
more_fit v (pair ∷ pairs) (run ∷ rs) other fit =
    let this : RunFits weight (room v) run = All-head (RunFits weight (room v)) run rs fit in
    let unset : same_pair pair root ≡ false = other pair (contains_first pair pairs) in
    All-cons (FitsWhenSet v) (record { pair = pair; entries = run; delta = 0; dirty = true }) (more_parts pairs rs)
    (λ set. record {
      weight' = omega (arith, this.weight, ap (λ (t : Bool). cond {A = ℕ} t (superblock_weight v.attributes) 0) unset);
      count = omega (arith, this.number, ap (λ (t : Bool). cond {A = ℕ} t 1 0) unset);
    })
    (more_fit v pairs rs (λ q there. other q (contains_later pair pairs q there)) (All-tail (RunFits weight (room v)) run rs fit))

true-false : true ≡ false → ⊥
true-false h = cc

cut_by : (chosen : Part → List Pair) (v : Volume) (p : Part) (t : Bool) → p.dirty ≡ t → (t ≡ true → is_too_large v p ≡ false)
    → ((q : Pair) → Contains (if t then chosen p else []) q → same_pair q root ≡ false)
    → All (FitsWhenSet v) (head_by v p t ∷ tail_by chosen v p t)
cut_by chosen v p true is light other =
    let fits = runs_fit_part v p (light refl) in
    All-cons (FitsWhenSet v) (head_by v p true) (tail_by chosen v p true) (λ set. record { weight' = fits.weight; count = fits.count })
    (more_fit v (chosen p) (later_runs (runs v p)) other fits.later)
cut_by chosen v p false is light other = All-cons (FitsWhenSet v) p [] (λ set. absurd (true-false (sym set ∙ is))) (All-nil (FitsWhenSet v))

-- ---- all parts

pub all_flat : {X Y : Type 0} (P : Y → Type 0) (f : X → List Y) (xs : List X) → ((x : X) → Contains xs x → All P (f x))
    → All P (flat_map f xs)
all_flat P f [] each = All-nil P
all_flat P f (x ∷ xs) each = All-append P (f x) (flat_map f xs) (each x (contains_first x xs))
    (all_flat P f xs (λ y there. each y (contains_later x xs y there)))

none_of : (f : Part → Bool) (ps : List Part) → list_any f (filter (λ p. p.dirty) ps) ≡ false → (p : Part) → Contains ps p → p.dirty ≡ true
    → f p ≡ false
none_of f [] none p there set = let no : ⊥ = none_there there in absurd no
  where
    none_there : Contains [] p → ⊥
    none_there h = omega arith
none_of f (q ∷ ps) none p there set = by q.dirty refl none (λ none' later. none_of f ps none' p later set)
  where
    by : (t : Bool) → q.dirty ≡ t → list_any f (if t then q ∷ filter (λ x. x.dirty) ps else filter (λ x. x.dirty) ps) ≡ false
        → (list_any f (filter (λ x. x.dirty) ps) ≡ false → Contains ps p → f p ≡ false) → f p ≡ false
    by true is none' rest =
        let both = or_parts (f q) (list_any f (filter (λ x. x.dirty) ps)) none' in
        elim (contains_cases q ps p there) [ inl same ↦ ap f same ∙ both.0 | inr later ↦ rest both.1 later ]
    by false is none' rest = elim (contains_cases q ps p there) [
      | inl same ↦ absurd (true-false (sym set ∙ ap (λ (x : Part). x.dirty) same ∙ is))
      | inr later ↦ rest none' later
    ]

pub cut_fits : (chosen : Part → List Pair) (w : Volume) → has_too_large w ≡ false
    → ((p : Part) → Contains (thread w.directories) p → (q : Pair) → Contains (new_pairs chosen p) q → same_pair q root ≡ false)
    → All (FitsWhenSet w) (thread (cut chosen w).directories)
cut_fits chosen w light other =
    subst (All (FitsWhenSet w)) (sym (cut_thread chosen w w.directories))
    (all_flat (FitsWhenSet w) (cut_part chosen w) (thread w.directories)
    (λ p there. cut_by chosen w p p.dirty refl (none_of (is_too_large w) (thread w.directories) light p there) (other p there)))

-- ---- an accepted command

pub checks_pass : (xs ys : List (Option Refusal)) → first_refusal (xs ++ ys) ≡ None → first_refusal ys ≡ None
checks_pass [] ys h = h
checks_pass (None ∷ xs) ys h = checks_pass xs ys h
checks_pass (Some r ∷ xs) ys h = cc

nothing_large : (v : Volume) (c : Command) (s : Supplies) → IsAccepted v c s → has_too_large (edited v c nothing) ≡ false
nothing_large v c s ok =
    let passed = first_passes (refuse_if (has_too_large (edited v c nothing)) EntryTooLarge) _
    (checks_pass (checks v c) (room_checks v c) ok.unrefused) in
    test_passes (has_too_large (edited v c nothing)) EntryTooLarge passed.0

pub root_used : (v : Volume) → IsSound v → 1 ≤ uses 0 v
root_used v sound = by v.directories refl sound.starts
  where
    by : (ds : List Directory) → v.directories ≡ ds → StartsAtRoot ds → 1 ≤ uses 0 v
    by [] is begins = absurd begins
    by (d ∷ ds) is begins =
        let there : Contains (thread v.directories) d.first = subst (λ (es : List Directory). Contains (thread es) d.first) (sym is)
        (contains_first d.first (d.more ++ thread ds)) in
        let pair : pair_uses 0 d.first ≡ 1 = ap (λ (q : Pair). times 0 (q.0 ∷ q.1 ∷ [])) begins in
        omega (arith, pair, element_le (part_uses 0) (thread v.directories) d.first there, sum_thread 0 v.directories)

-- a pair that the volume doesn't use isn't the root's
pub not_root : (v : Volume) → IsSound v → (q : Pair) → uses q.0 v ≡ 0 → same_pair q root ≡ false
not_root v sound q none = by (same_pair q root) refl
  where
    by : (t : Bool) → same_pair q root ≡ t → t ≡ false
    by true is =
        let zero : q.0 ≡ 0 = ap (λ (k : Pair). k.0) ((same_pair_decides q root).0 is) in
        let no : ⊥ = omega (arith, none, ap (λ (n : ℕ). uses n v) zero, root_used v sound) in absurd no
    by false is = refl

-- the supplies, with a pair that isn't the root's
abbrev elsewhere : Supplies → Supplies
elsewhere s = record { blocks = s.blocks; pair = nothing.pair }

pub none_large : (v : Volume) (c : Command) (s : Supplies) → IsAccepted v c s → has_too_large (edited v c s) ≡ false
none_large v (Mkdir p) s ok =
    let none : uses s.pair.0 v ≡ 0 = omega (arith, ok.free.once s.pair.0, first_used s.pair) in
    sym (large_is_the_same v (Mkdir p) s (not_root v ok.sound s.pair none)) ∙ nothing_large v (Mkdir p) s ok
none_large v (Put p bytes most) s ok = sym (large_is_the_same v (Put p bytes most) (elsewhere s) refl) ∙ nothing_large v (Put p bytes most) s ok
none_large v (Rm p) s ok = sym (large_is_the_same v (Rm p) (elsewhere s) refl) ∙ nothing_large v (Rm p) s ok
none_large v (Mv p q) s ok = sym (large_is_the_same v (Mv p q) (elsewhere s) refl) ∙ nothing_large v (Mv p q) s ok
none_large v (SetAttr p k value) s ok = sym (large_is_the_same v (SetAttr p k value) (elsewhere s) refl)
    ∙ nothing_large v (SetAttr p k value) s ok
none_large v (RmAttr p k) s ok = sym (large_is_the_same v (RmAttr p k) (elsewhere s) refl) ∙ nothing_large v (RmAttr p k) s ok
none_large v (Grow n) s ok = sym (large_is_the_same v (Grow n) (elsewhere s) refl) ∙ nothing_large v (Grow n) s ok
