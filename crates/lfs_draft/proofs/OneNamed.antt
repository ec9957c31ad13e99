-- The one entry of a name in the parts of a directory.
use Rattle.std.proofs.Common.{◌≡◌, ℕ, ◌+◌, ◌<◌, ◌≤◌, suc, zero, Bool, true, false, List, [], ◌∷◌, length, map, refl, ap, sym, ◌∙◌, arith}
use Rattle.std.proofs.Common.{cond}
use Rattle.std.specs.Prelude.{not, ◌==◌, ◌&&◌, ◌||◌, if◌then◌else◌, count_by, find, slice_index_or, None}
use Rattle.std.specs.List.{list_all, list_any}
use Rattle.std.proofs.lemmas.Bool.Decides.{nat_tests}
use Rattle.std.proofs.lemmas.List.Sums.{sum_by-append}
use Rattle.lfs_meta.specs.Name.{Name}
use Rattle.lfs_fs.specs.Entry.{Entry, is_named}
use Rattle.lfs_fs.specs.Directory.{Part, Directory, entries}
use Rattle.lfs_command.specs.EntryEdit.{changed, without}
use Rattle.lfs_command.specs.DirectoryEdit.{touch, has_name, has_only, change_in}
use Rattle.lfs_law.proofs.OneElement.{where_passes, where_none, none_counted, count_cases}
use Rattle.lfs_law.proofs.DirectoryEdits.{entries_of, only_has}

-- what is there is counted, what isn't is not
pub some_counted : {X : Type 0} (t : X → Bool) (xs : List X) → list_any t xs ≡ true → 1 ≤ count_by t xs
some_counted t [] has = cc
some_counted t (x ∷ xs) has = grind (arith, count_cases t x xs, some_counted t xs)

pub none_found : {X : Type 0} (t : X → Bool) (xs : List X) → list_any t xs ≡ false → find t xs ≡ None
none_found t [] none = refl
none_found t (x ∷ xs) none = grind (arith, none_found t xs)

pub count_parts : (n : Name) (p : Part) (ps : List Part) → count_by (is_named n) (entries_of (p ∷ ps))
    ≡ count_by (is_named n) p.entries + count_by (is_named n) (entries_of ps)
count_parts n p ps = sum_by-append (λ (x : Entry). cond {A = ℕ} (is_named n x) 1 0) p.entries (entries_of ps)

-- the parts that have it are one at most, and each has it once at most
pub few_have : (n : Name) (ps : List Part) → count_by (has_name n) ps ≤ count_by (is_named n) (entries_of ps)
few_have n [] = omega arith
few_have n (p ∷ ps) = grind (arith, count_cases (has_name n) p ps, count_parts n p ps, some_counted (is_named n) p.entries, few_have n ps)

pub only_fewer : (n : Name) (ps : List Part) → count_by (has_only n) ps ≤ count_by (has_name n) ps
only_fewer n [] = omega arith
only_fewer n (p ∷ ps) = by (has_only n p) refl (only_fewer n ps)
  where
    by : (t : Bool) → has_only n p ≡ t → count_by (has_only n) ps ≤ count_by (has_name n) ps
        → count_by (has_only n) (p ∷ ps) ≤ count_by (has_name n) (p ∷ ps)
    by true is later = omega (
      arith,
      later,
      count_cases (has_only n) p ps,
      count_cases (has_name n) p ps,
      ap (λ (t : Bool). cond {A = ℕ} t 1 0) is,
      ap (λ (t : Bool). cond {A = ℕ} t 1 0) (only_has n p is),
    )
    by false is later = omega (
      arith,
      later,
      count_cases (has_only n) p ps,
      count_cases (has_name n) p ps,
      ap (λ (t : Bool). cond {A = ℕ} t 1 0) is,
    )

some_there : {X : Type 0} (x : X) (xs : List X) → (length (x ∷ xs) == 0) ≡ false
some_there x xs = grind (arith, nat_tests)

-- all entries have a name if none is left without them
all_left : (n : Name) (es : List Entry) → list_all (is_named n) es ≡ (length (without n es) == 0)
all_left n [] = refl
all_left n (e ∷ es) = by (is_named n e) (all_left n es)
  where
    by : (t : Bool) → list_all (is_named n) es ≡ (length (without n es) == 0)
        → (t && list_all (is_named n) es) ≡ (length (if not t then e ∷ without n es else without n es) == 0)
    by true later = later
    by false later = sym (some_there e (without n es))

and_false : (t : Bool) → (t && false) ≡ false
and_false true = refl
and_false false = refl

some_all : (n : Name) (es : List Entry) → 0 < length es
    → list_all (is_named n) es ≡ (list_any (is_named n) es && length (without n es) == 0)
some_all n [] some = absurd (omega (arith, some))
some_all n (e ∷ es) some = by (is_named n e) (all_left n es)
  where
    by : (t : Bool) → list_all (is_named n) es ≡ (length (without n es) == 0)
        → (t && list_all (is_named n) es)
        ≡ ((t || list_any (is_named n) es) && length (if not t then e ∷ without n es else without n es) == 0)
    by true later = later
    by false later = sym (ap (λ (t : Bool). list_any (is_named n) es && t) (some_there e (without n es)) ∙ and_false (list_any (is_named n) es))

-- a part that has an entry, and none of another name, has nothing but that name
pub some_only : (n : Name) (p : Part) → 0 < length p.entries → list_all (is_named n) p.entries ≡ has_only n p
some_only n p some = some_all n p.entries some

pub few_in : (n : Name) (ps : List Part) (i : ℕ) (d : Part) → i < length ps
    → count_by (is_named n) (slice_index_or ps i d).entries ≤ count_by (is_named n) (entries_of ps)
few_in n [] i d within = absurd (omega arith)
few_in n (p ∷ ps) zero d within = omega (arith, count_parts n p ps)
few_in n (p ∷ ps) (suc i) d within = omega (arith, count_parts n p ps, few_in n ps i d (omega arith))

-- a part without the name stays
pub untouched : (n : Name) (f : Entry → Entry) (p : Part) → has_name n p ≡ false → touch false (changed n f) p ≡ p
untouched n f p none = by p.dirty refl
  where
    by : (b : Bool) → p.dirty ≡ b → touch false (changed n f) p ≡ p
    by true is = rw (where_none (is_named n) f p.entries (none_found (is_named n) p.entries none), is) refl
    by false is = rw (where_none (is_named n) f p.entries (none_found (is_named n) p.entries none), is) refl

-- a change of the parts that have the name is one of all
pub where_named : (n : Name) (f : Entry → Entry) (ps : List Part) → where_passes (has_name n) (touch true (changed n f)) ps
    ≡ map (λ p. touch (has_name n p) (changed n f) p) ps
where_named n f [] = refl
where_named n f (p ∷ ps) = by (has_name n p) refl (where_named n f ps)
  where
    by : (b : Bool) → has_name n p ≡ b → where_passes (has_name n) (touch true (changed n f)) ps
        ≡ map (λ q. touch (has_name n q) (changed n f) q) ps
        → (if b then touch true (changed n f) p else p) ∷ where_passes (has_name n) (touch true (changed n f)) ps
        ≡ touch b (changed n f) p ∷ map (λ q. touch (has_name n q) (changed n f) q) ps
    by true is rest = ap (λ (qs : List Part). touch true (changed n f) p ∷ qs) rest
    by false is rest = ap (λ (q : Part). q ∷ where_passes (has_name n) (touch true (changed n f)) ps) (sym (untouched n f p is))
        ∙ ap (λ (qs : List Part). touch false (changed n f) p ∷ qs) rest

-- ---- the first part, and the others

pub changed_in_first : (n : Name) (f : Entry → Entry) (p new : Part) (ps : List Part) → has_name n p ≡ true
    → count_by (is_named n) (entries_of (p ∷ ps)) ≤ 1 → new ≡ touch true (changed n f) p
    → record { first = new; more = ps } ≡ change_in n f (record { first = p; more = ps })
changed_in_first n f p new ps has once is =
    let none : count_by (has_name n) ps ≡ 0 = omega (arith, count_parts n p ps, some_counted (is_named n) p.entries has, few_have n ps) in
    rw has (ap (λ (d : Part × List Part). record { first = d.0; more = d.1 })
    (ap (λ (q : Part). (q, ps)) is ∙ ap (λ (qs : List Part). (touch true (changed n f) p, qs))
    (sym (where_none (has_name n) (touch true (changed n f)) ps (none_counted (has_name n) ps none)) ∙ where_named n f ps)))

pub changed_in_more : (n : Name) (f : Entry → Entry) (p : Part) (ps new : List Part) → has_name n p ≡ false
    → new ≡ map (λ q. touch (has_name n q) (changed n f) q) ps
    → record { first = p; more = new } ≡ change_in n f (record { first = p; more = ps })
changed_in_more n f p ps new none are =
    rw none (ap (λ (d : Part × List Part). record { first = d.0; more = d.1 })
    (ap (λ (q : Part). (q, new)) (sym (untouched n f p none)) ∙ ap (λ (qs : List Part). (touch false (changed n f) p, qs)) are))
