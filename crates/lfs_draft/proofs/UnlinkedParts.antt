-- The entry of a name, taken out of the one part that has it.
use Rattle.std.proofs.Common.{◌≡◌, ℕ, ◌+◌, ◌<◌, ◌≤◌, suc, zero, Bool, true, false, cond, List, [], ◌∷◌, Some, None, length, map, refl, ap, sym, ◌∙◌, arith}
use Rattle.std.specs.Prelude.{if◌then◌else◌, count_by, find, slice_set, slice_index_or}
use Rattle.std.specs.List.{position}
use Rattle.std.proofs.lemmas.List.Quantifiers.{position-Some}
use Rattle.lfs_meta.specs.Name.{Name}
use Rattle.lfs_fs.specs.Entry.{Entry, is_named}
use Rattle.lfs_fs.specs.Directory.{Part, Directory, parts}
use Rattle.lfs_command.specs.EntryEdit.{without}
use Rattle.lfs_command.specs.DirectoryEdit.{behind, drop_later, each_part, has_name, has_only, taking_up, touch, unlink_in}
use Rattle.lfs_law.proofs.OneElement.{where_passes, where_none, none_counted, others_none, count_cases}
use Rattle.lfs_law.proofs.DirectoryEdits.{entries_of, only_has}
use Rattle.lfs_draft.proofs.DroppedParts.{none_goes}
use Rattle.lfs_draft.proofs.OneIndex.{at_position, counted_at, nowhere}
use Rattle.lfs_draft.proofs.OneNamed.{count_parts, few_have, none_found, only_fewer, some_counted}

-- what is left of a part
abbrev left : Name → Part → Part
left n p = touch (has_name n p) (without n) p

-- ---- parts without the name

same_part : (f : List Entry → List Entry) (p : Part) → f p.entries ≡ p.entries → touch false f p ≡ p
same_part f p same = by p.dirty refl
  where
    by : (b : Bool) → p.dirty ≡ b → touch false f p ≡ p
    by true is = rw (same, is) refl
    by false is = rw (same, is) refl

stays : (n : Name) (p : Part) → has_name n p ≡ false → left n p ≡ p
stays n p none =
    ap (λ (b : Bool). touch b (without n) p) none
    ∙ same_part (without n) p (others_none (is_named n) p.entries (none_found (is_named n) p.entries none))

where_left : (n : Name) (ps : List Part) → where_passes (has_name n) (touch true (without n)) ps ≡ map (left n) ps
where_left n [] = refl
where_left n (p ∷ ps) = by (has_name n p) refl (where_left n ps)
  where
    by : (b : Bool) → has_name n p ≡ b → where_passes (has_name n) (touch true (without n)) ps ≡ map (left n) ps
        → (if b then touch true (without n) p else p) ∷ where_passes (has_name n) (touch true (without n)) ps
        ≡ touch b (without n) p ∷ map (left n) ps
    by true is rest = ap (λ (qs : List Part). touch true (without n) p ∷ qs) rest
    by false is rest =
        ap (λ (q : Part). q ∷ where_passes (has_name n) (touch true (without n)) ps)
        (sym (ap (λ (b : Bool). touch b (without n) p) (sym is) ∙ stays n p is))
        ∙ ap (λ (qs : List Part). touch false (without n) p ∷ qs) rest

all_stay : (n : Name) (ps : List Part) → find (has_name n) ps ≡ None → map (left n) ps ≡ ps
all_stay n ps none = sym (where_left n ps) ∙ where_none (has_name n) (touch true (without n)) ps none

-- a directory of these parts
abbrev of : Part → List Part → Directory
of p ps = record { first = p; more = ps }

directory_stays : (n : Name) (d : Directory) → has_name n d.first ≡ false → find (has_name n) d.more ≡ None → each_part (left n) d ≡ d
directory_stays n d first more =
    ap (λ (p : Part). of p (map (left n) d.more)) (stays n d.first first) ∙ ap (λ (ps : List Part). of d.first ps) (all_stay n d.more more)

-- ---- no part goes

none_have : (n : Name) (ps : List Part) → find (has_name n) ps ≡ None → count_by (has_name n) ps ≡ 0
none_have n [] none = refl
none_have n (p ∷ ps) none = grind (arith, count_cases (has_name n) p ps, none_have n ps)

only_none : (n : Name) (ps : List Part) → find (has_name n) ps ≡ None → find (has_only n) ps ≡ None
only_none n ps none = none_counted (has_only n) ps (omega (arith, only_fewer n ps, none_have n ps none))

unlinked : (n : Name) (p : Part) (ps : List Part) → find (has_only n) ps ≡ None → unlink_in n (of p ps) ≡ of (left n p) (map (left n) ps)
unlinked n p ps none = ap (each_part (left n)) (sym (none_goes (has_only n) p ps none))

-- the first part has the name
pub first_left : (n : Name) (p new : Part) (ps : List Part) → has_name n p ≡ true → count_by (is_named n) (entries_of (p ∷ ps)) ≤ 1
    → new ≡ left n p → of new ps ≡ unlink_in n (of p ps)
first_left n p new ps has once is =
    let none : find (has_name n) ps ≡ None = none_counted (has_name n) ps
    (omega (arith, once, count_parts n p ps, some_counted (is_named n) p.entries has, few_have n ps)) in
    ap (λ (q : Part). of q ps) is
    ∙ ap (λ (qs : List Part). of (left n p) qs) (sym (all_stay n ps none))
    ∙ sym (unlinked n p ps (only_none n ps none))

-- no part has it
pub nothing_left : (n : Name) (p : Part) (ps : List Part) → has_name n p ≡ false → position (has_name n) ps ≡ None
    → of p ps ≡ unlink_in n (of p ps)
nothing_left n p ps first none =
    let nowhere_there = nowhere (has_name n) ps none in
    sym (unlinked n p ps (only_none n ps nowhere_there) ∙ directory_stays n (of p ps) first nowhere_there)

-- ---- a later part has it, and another entry

none_only : (n : Name) (ps : List Part) (i : ℕ) (d : Part) → i < length ps → has_name n (slice_index_or ps i d) ≡ true
    → has_only n (slice_index_or ps i d) ≡ false → count_by (has_name n) ps ≤ 1 → count_by (has_only n) ps ≡ 0
none_only n [] i d within has others once = absurd (omega (arith, within))
none_only n (q ∷ qs) zero d within has others once = omega (
  arith,
  once,
  only_fewer n qs,
  count_cases (has_only n) q qs,
  count_cases (has_name n) q qs,
  ap (λ (t : Bool). cond {A = ℕ} t 1 0) has,
  ap (λ (t : Bool). cond {A = ℕ} t 1 0) others,
)
none_only n (q ∷ qs) (suc i) d within has others once =
    by (has_only n q) refl (λ few. none_only n qs i d (omega (arith, within)) has others few)
  where
    by : (b : Bool) → has_only n q ≡ b → (count_by (has_name n) qs ≤ 1 → count_by (has_only n) qs ≡ 0) → count_by (has_only n) (q ∷ qs) ≡ 0
    by true is later = absurd (omega (
      arith,
      once,
      count_cases (has_name n) q qs,
      ap (λ (t : Bool). cond {A = ℕ} t 1 0) (only_has n q is),
      counted_at (has_name n) qs i d (omega (arith, within)) has,
    ))
    by false is later = omega (
      arith,
      count_cases (has_only n) q qs,
      ap (λ (t : Bool). cond {A = ℕ} t 1 0) is,
      later (omega (arith, once, count_cases (has_name n) q qs)),
    )

pub later_left : (n : Name) (p : Part) (ps : List Part) (i : ℕ) (old new : Part) → has_name n p ≡ false → position (has_name n) ps ≡ Some i
    → count_by (is_named n) (entries_of ps) ≤ 1 → has_only n (slice_index_or ps i old) ≡ false → new ≡ left n (slice_index_or ps i old)
    → of p (slice_set ps i new) ≡ unlink_in n (of p ps)
later_left n p ps i old new first found once others is =
    let here = position-Some (has_name n) ps i old found in
    let few : count_by (has_name n) ps ≤ 1 = omega (arith, once, few_have n ps) in
    let none : find (has_only n) ps ≡ None = none_counted (has_only n) ps (none_only n ps i old here.0 here.1 others few) in
    ap (λ (qs : List Part). of p qs) (at_position (has_name n) (touch true (without n)) ps i old new found few
    (is ∙ ap (λ (b : Bool). touch b (without n) (slice_index_or ps i old)) here.1) ∙ where_left n ps)
    ∙ ap (λ (q : Part). of q (map (left n) ps)) (sym (stays n p first))
    ∙ sym (unlinked n p ps none)

-- ---- a later part has it, and nothing else

-- the parts that go had the name
gone_had : (n : Name) (p : Part) (ps : List Part)
    → count_by (has_name n) (parts (drop_later (has_only n) p ps)) + count_by (has_only n) ps ≡ count_by (has_name n) (p ∷ ps)
unfolding drop_later
gone_had n p [] = omega arith
gone_had n p (q ∷ qs) = by (has_only n q) refl (gone_had n (taking_up q.delta p) qs) (gone_had n q qs)
  where
    by : (b : Bool) → has_only n q ≡ b
        → count_by (has_name n) (parts (drop_later (has_only n) (taking_up q.delta p) qs)) + count_by (has_only n) qs ≡ count_by (has_name n) (p ∷ qs)
        → count_by (has_name n) (parts (drop_later (has_only n) q qs)) + count_by (has_only n) qs ≡ count_by (has_name n) (q ∷ qs)
        → count_by (has_name n) (parts (if b then drop_later (has_only n) (taking_up q.delta p) qs else behind p (drop_later (has_only n) q qs)))
        + count_by (has_only n) (q ∷ qs) ≡ count_by (has_name n) (p ∷ q ∷ qs)
    by true is later next = omega (
      arith,
      later,
      count_cases (has_only n) q qs,
      count_cases (has_name n) p qs,
      count_cases (has_name n) p (q ∷ qs),
      count_cases (has_name n) q qs,
      ap (λ (t : Bool). cond {A = ℕ} t 1 0) is,
      ap (λ (t : Bool). cond {A = ℕ} t 1 0) (only_has n q is),
    )
    by false is later next = omega (
      arith,
      next,
      count_cases (has_only n) q qs,
      count_cases (has_name n) p (q ∷ qs),
      count_cases (has_name n) p (parts (drop_later (has_only n) q qs)),
      ap (λ (t : Bool). cond {A = ℕ} t 1 0) is,
    )

first_without : (n : Name) (p : Part) (ps : List Part) → count_by (has_name n) (p ∷ ps) ≡ 0 → has_name n p ≡ false
first_without n p ps none = by (has_name n p) refl
  where
    by : (b : Bool) → has_name n p ≡ b → has_name n p ≡ false
    by true is = absurd (omega (arith, none, count_cases (has_name n) p ps, ap (λ (t : Bool). cond {A = ℕ} t 1 0) is))
    by false is = is

pub gone_with_it : (n : Name) (p : Part) (ps : List Part) (i : ℕ) (d : Part) → has_name n p ≡ false → i < length ps
    → has_only n (slice_index_or ps i d) ≡ true → count_by (is_named n) (entries_of ps) ≤ 1
    → drop_later (has_only n) p ps ≡ unlink_in n (of p ps)
gone_with_it n p ps i d first within only once =
    let rest : Directory = drop_later (has_only n) p ps in
    let none : count_by (has_name n) (rest.first ∷ rest.more) ≡ 0 = omega (
      arith,
      once,
      few_have n ps,
      gone_had n p ps,
      counted_at (has_only n) ps i d within only,
      count_cases (has_name n) p ps,
      ap (λ (t : Bool). cond {A = ℕ} t 1 0) first,
    ) in
    sym (directory_stays n rest (first_without n rest.first rest.more none)
    (none_counted (has_name n) rest.more (omega (arith, none, count_cases (has_name n) rest.first rest.more))))
