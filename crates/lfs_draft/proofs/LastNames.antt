-- What the end of rising names says of all of them.
use Rattle.std.proofs.Common.{◌≡◌, ◌-◌, ◌<◌, ◌≤◌, ℕ, Bool, true, false, cond, List, [], ◌∷◌, ◌++◌, Option, Some, None, length, refl, ap, sym, ◌∙◌, subst, arith}
use Rattle.std.proofs.Common.{append_assoc, append-nil, get_or, length-append, suc, take, zero}
use Rattle.std.specs.Prelude.{◌||◌, not, All, count_by, find, if◌then◌else◌, nat_lt, slice_get}
use Rattle.std.specs.List.{list_any, position, position_or_len, prefix_len}
use Rattle.std.specs.Option.{option_and_then, unwrap_or}
use Rattle.std.proofs.lemmas.Bool.Decides.{nat_tests}
use Rattle.std.proofs.lemmas.Grind.{flat_map-append}
use Rattle.std.proofs.lemmas.List.{length-take-le}
use Rattle.std.proofs.lemmas.List.Elements.{All-cons, All-head, All-nil, All-tail}
use Rattle.std.proofs.lemmas.Option.{none-some, same_Some}
use Rattle.std.proofs.lemmas.Slice.Eq.{bytes_eq-Decides}
use Rattle.lfs_meta.specs.Body.{Pair}
use Rattle.lfs_meta.specs.Name.{Name}
use Rattle.lfs_fs.specs.Directory.{Directory, Part, begins_at, entries, parts}
use Rattle.lfs_fs.specs.Entry.{Entry, is_named}
use Rattle.lfs_fs.specs.NameOrder.{NamesAreOrdered, precedes}
use Rattle.lfs_fs.specs.Sound.{Rise}
use Rattle.lfs_fs.specs.Tree.{entry_in}
use Rattle.lfs_command.specs.DirectoryEdit.{has_greater, has_name, unlink_in}
use Rattle.lfs_command.specs.ThreadEdit.{unlink}
use Rattle.lfs_law.proofs.Cuts.{All-left, All-right}
use Rattle.lfs_law.proofs.DirectoryEdits.{entries_of, entries_unlink}
use Rattle.lfs_law.proofs.EntryEdits.{Rise-without}
use Rattle.lfs_law.proofs.Marks.{named_once}
use Rattle.lfs_law.proofs.OneElement.{All-where, count_cases}
use Rattle.lfs_draft.specs.Editable.{NamesRise}
use Rattle.lfs_draft.specs.LastNames.{EndsBefore, IsLastPart}
use Rattle.lfs_draft.proofs.OneNamed.{count_parts}

-- all names come before this one
abbrev pub AllBefore : Name → List Entry → Type 0
AllBefore n es = All (λ e. precedes e.name n ≡ true) es

-- ---- the last of rising names

false_true : false ≡ true → ⊥
false_true h = cc

first_before : (x : Entry) (xs : List Entry) (last : Entry) → All (λ f. precedes x.name f.name ≡ true) (xs ++ last ∷ [])
    → precedes x.name last.name ≡ true
first_before x xs last all =
    All-head (λ (f : Entry). precedes x.name f.name ≡ true) last []
    (All-right (λ (f : Entry). precedes x.name f.name ≡ true) xs (last ∷ []) all)

pub all_before : NamesAreOrdered → (n : Name) (xs : List Entry) (last : Entry) → Rise (xs ++ last ∷ []) → precedes last.name n ≡ true
    → AllBefore n (xs ++ last ∷ [])
all_before order n [] last rise before = All-cons (λ (e : Entry). precedes e.name n ≡ true) last [] before (All-nil (λ (e : Entry). precedes e.name n ≡ true))
all_before order n (x ∷ xs) last rise before =
    All-cons (λ (e : Entry). precedes e.name n ≡ true) x (xs ++ last ∷ [])
    (order.transitive x.name last.name n (first_before x xs last rise.0) before) (all_before order n xs last rise.1 before)

-- a name that comes before another is another
apart : NamesAreOrdered → (e : Entry) (n : Name) → precedes e.name n ≡ true → is_named n e ≡ false
apart order e n before = by (is_named n e) refl
  where
    by : (t : Bool) → is_named n e ≡ t → t ≡ false
    by true is = absurd (false_true (sym (order.irreflexive n)
        ∙ subst (λ (m : Name). precedes m n ≡ true) (sym ((bytes_eq-Decides n e.name).0 is)) before))
    by false is = refl

pub none_named : NamesAreOrdered → (n : Name) (es : List Entry) → AllBefore n es → find (is_named n) es ≡ None
none_named order n [] all = refl
none_named order n (e ∷ es) all =
    rw (apart order e n (All-head (λ (x : Entry). precedes x.name n ≡ true) e es all))
    (none_named order n es (All-tail (λ (x : Entry). precedes x.name n ≡ true) e es all))

none_has : NamesAreOrdered → (n : Name) (es : List Entry) → AllBefore n es → list_any (is_named n) es ≡ false
none_has order n [] all = refl
none_has order n (e ∷ es) all =
    rw (apart order e n (All-head (λ (x : Entry). precedes x.name n ≡ true) e es all))
    (none_has order n es (All-tail (λ (x : Entry). precedes x.name n ≡ true) e es all))

behind : NamesAreOrdered → (m n : Name) → precedes m n ≡ true → precedes n m ≡ false
behind order m n before = by (precedes n m) refl
  where
    by : (t : Bool) → precedes n m ≡ t → t ≡ false
    by true is = absurd (false_true (sym (order.irreflexive m) ∙ order.transitive m n m before is))
    by false is = refl

none_greater : NamesAreOrdered → (n : Name) (es : List Entry) → AllBefore n es → list_any (λ e. precedes n e.name) es ≡ false
none_greater order n [] all = refl
none_greater order n (e ∷ es) all =
    rw (behind order e.name n (All-head (λ (x : Entry). precedes x.name n ≡ true) e es all))
    (none_greater order n es (All-tail (λ (x : Entry). precedes x.name n ≡ true) e es all))

-- the last entry is the one of its name
pub last_found : NamesAreOrdered → (n : Name) (xs : List Entry) (last : Entry) → Rise (xs ++ last ∷ []) → is_named n last ≡ true
    → find (is_named n) (xs ++ last ∷ []) ≡ Some last
last_found order n [] last rise is = rw is refl
last_found order n (x ∷ xs) last rise is =
    let same : n ≡ last.name = (bytes_eq-Decides n last.name).0 is in
    rw (apart order x n (subst (λ (m : Name). precedes x.name m ≡ true) (sym same) (first_before x xs last rise.0)))
    (last_found order n xs last rise.1 is)

-- ---- parts

-- the entries of the last part stand last
entries_end : (ps : List Part) (p : Part) (front : List Entry) (last : Entry) → p.entries ≡ front ++ last ∷ []
    → entries_of (ps ++ p ∷ []) ≡ (entries_of ps ++ front) ++ last ∷ []
entries_end ps p front last are =
    flat_map-append (λ (q : Part). q.entries) ps (p ∷ [])
    ∙ ap (λ (es : List Entry). entries_of ps ++ es) (append-nil p.entries ∙ are)
    ∙ sym (append_assoc (entries_of ps) front (last ∷ []))

pub parts_before : NamesAreOrdered → (n : Name) (ps : List Part) (p : Part) → Rise (entries_of (ps ++ p ∷ [])) → EndsBefore n p.entries
    → AllBefore n (entries_of (ps ++ p ∷ []))
parts_before order n ps p rise ends =
    let are = entries_end ps p ends.front ends.last ends.are in
    subst (AllBefore n) (sym are) (all_before order n (entries_of ps ++ ends.front) ends.last (subst Rise are rise) ends.before)

pub directory_before : NamesAreOrdered → (n : Name) (d : Directory) (p : Part) → IsLastPart d p → Rise (entries d) → EndsBefore n p.entries
    → AllBefore n (entries d)
directory_before order n d p last rise ends =
    subst (λ (ps : List Part). AllBefore n (entries_of ps)) (sym last.are)
    (parts_before order n last.front p (subst (λ (ps : List Part). Rise (entries_of ps)) last.are rise) ends)

pub directory_found : NamesAreOrdered → (n : Name) (d : Directory) (p : Part) → IsLastPart d p → Rise (entries d)
    → (front : List Entry) (e : Entry) → p.entries ≡ front ++ e ∷ [] → is_named n e ≡ true → find (is_named n) (entries d) ≡ Some e
directory_found order n d p last rise front e are is =
    let all : entries d ≡ (entries_of last.front ++ front) ++ e ∷ [] = ap entries_of last.are ∙ entries_end last.front p front e are in
    ap (find (is_named n)) all ∙ last_found order n (entries_of last.front ++ front) e (subst Rise all rise) is

-- no part has the name, or a greater one
pub no_part_has : NamesAreOrdered → (n : Name) (ps : List Part) → AllBefore n (entries_of ps) → find (has_name n) ps ≡ None
no_part_has order n [] all = refl
no_part_has order n (p ∷ ps) all =
    rw (none_has order n p.entries (All-left (λ (e : Entry). precedes e.name n ≡ true) p.entries (entries_of ps) all))
    (no_part_has order n ps (All-right (λ (e : Entry). precedes e.name n ≡ true) p.entries (entries_of ps) all))

-- the first part neither
pub first_not_greater : NamesAreOrdered → (n : Name) (d : Directory) → AllBefore n (entries d) → has_greater n d.first ≡ false
first_not_greater order n d all =
    none_greater order n d.first.entries (All-left (λ (e : Entry). precedes e.name n ≡ true) d.first.entries (entries_of d.more) all)

past_all : NamesAreOrdered → (n : Name) (ps : List Part) → AllBefore n (entries_of ps) → position_or_len (has_greater n) ps ≡ length ps
past_all order n [] all = refl
past_all order n (p ∷ ps) all =
    let here = none_greater order n p.entries (All-left (λ (e : Entry). precedes e.name n ≡ true) p.entries (entries_of ps) all) in
    let rest = past_all order n ps (All-right (λ (e : Entry). precedes e.name n ≡ true) p.entries (entries_of ps) all) in
    grind (arith, here, rest)

pub no_part_greater : NamesAreOrdered → (n : Name) (ps : List Part) → AllBefore n (entries_of ps) → position (has_greater n) ps ≡ None
no_part_greater order n ps all =
    ap (λ (k : ℕ). cond (nat_lt k (length ps)) (Some k) None) (past_all order n ps all)
    ∙ ap (λ (t : Bool). cond t (Some (length ps)) None) (not_less (length ps))
  where
    not_less : (k : ℕ) → nat_lt k k ≡ false
    not_less k = grind (arith, nat_tests)

-- ---- the one part that has a name

some_counted : {X : Type 0} (t : X → Bool) (xs : List X) → list_any t xs ≡ true → 1 ≤ count_by t xs
some_counted t [] has = cc
some_counted t (x ∷ xs) has = grind (arith, count_cases t x xs, some_counted t xs)

some_have : (n : Name) (ps : List Part) (p : Part) → has_name n p ≡ true → 1 ≤ count_by (is_named n) (entries_of (ps ++ p ∷ []))
some_have n [] p has = omega (arith, count_parts n p [], some_counted (is_named n) p.entries has)
some_have n (q ∷ ps) p has = omega (arith, count_parts n q (ps ++ p ∷ []), some_have n ps p has)

-- a list less its last element
pub front_and_last : {X : Type 0} (xs : List X) (d : X) → 0 < length xs → xs ≡ take (length xs - 1) xs ++ get_or xs (length xs - 1) d ∷ []
front_and_last [] d some = absurd (omega (arith, some))
front_and_last (x ∷ []) d some = refl
front_and_last {X} (x ∷ y ∷ ys) d some =
    let all : List X = x ∷ y ∷ ys in
    let inner : length (y ∷ ys) - 1 ≡ length ys = omega arith in
    let outer : length all - 1 ≡ suc (length ys) = omega arith in
    let rest : y ∷ ys ≡ take (length ys) (y ∷ ys) ++ get_or (y ∷ ys) (length ys) d ∷ [] =
    subst (λ (n : ℕ). y ∷ ys ≡ take n (y ∷ ys) ++ get_or (y ∷ ys) n d ∷ []) inner (front_and_last (y ∷ ys) d (omega arith)) in
    subst (λ (n : ℕ). all ≡ take n all ++ get_or all n d ∷ []) (sym outer) (ap (λ (zs : List X). x ∷ zs) rest)

-- it is found where the last part has it, since no other does
pub last_has : (n : Name) (ps : List Part) (p : Part) → count_by (is_named n) (entries_of (ps ++ p ∷ [])) ≤ 1 → has_name n p ≡ true
    → find (has_name n) (ps ++ p ∷ []) ≡ Some p
last_has n [] p once has = rw has refl
last_has n (q ∷ ps) p once has = by (has_name n q) refl (λ few. last_has n ps p few has)
  where
    by : (t : Bool) → has_name n q ≡ t
        → (count_by (is_named n) (entries_of (ps ++ p ∷ [])) ≤ 1 → find (has_name n) (ps ++ p ∷ []) ≡ Some p)
        → (if t then Some q else find (has_name n) (ps ++ p ∷ [])) ≡ Some p
    by true is later = absurd (omega (
      arith,
      once,
      count_parts n q (ps ++ p ∷ []),
      some_counted (is_named n) q.entries is,
      some_have n ps p has,
    ))
    by false is later = later (omega (arith, once, count_parts n q (ps ++ p ∷ [])))

place_is : (n : Name) (ps : List Part) (p : Part) → count_by (is_named n) (entries_of (ps ++ p ∷ [])) ≤ 1 → has_name n p ≡ true
    → position_or_len (has_name n) (ps ++ p ∷ []) ≡ length ps
place_is n [] p once has = grind (arith, has)
place_is n (q ∷ ps) p once has = by (has_name n q) refl (λ few. place_is n ps p few has)
  where
    by : (t : Bool) → has_name n q ≡ t
        → (count_by (is_named n) (entries_of (ps ++ p ∷ [])) ≤ 1 → position_or_len (has_name n) (ps ++ p ∷ []) ≡ length ps)
        → position_or_len (has_name n) (q ∷ ps ++ p ∷ []) ≡ length (q ∷ ps)
    by true is later = absurd (omega (
      arith,
      once,
      count_parts n q (ps ++ p ∷ []),
      some_counted (is_named n) q.entries is,
      some_have n ps p has,
    ))
    by false is later =
        let rest = later (omega (arith, once, count_parts n q (ps ++ p ∷ []))) in
        grind (arith, is, rest)

pub last_place : (n : Name) (ps : List Part) (p : Part) → count_by (is_named n) (entries_of (ps ++ p ∷ [])) ≤ 1 → has_name n p ≡ true
    → position (has_name n) (ps ++ p ∷ []) ≡ Some (length ps)
last_place n ps p once has =
    ap (λ (k : ℕ). cond (nat_lt k (length (ps ++ p ∷ []))) (Some k) None) (place_is n ps p once has)
    ∙ ap (λ (t : Bool). cond t (Some (length ps)) None) (less (length ps) (length (ps ++ p ∷ [])) (omega (arith, length-append ps (p ∷ []))))
  where
    less : (k m : ℕ) → k < m → nat_lt k m ≡ true
    less k m lt = grind (arith, nat_tests)

-- ---- what is got at the end of a list

got_more : {X : Type 0} (x e : X) (xs : List X) → ((front : List X) × (xs ≡ front ++ e ∷ [])) → (front : List X) × (x ∷ xs ≡ front ++ e ∷ [])
got_more {X} x e xs rest = (x ∷ rest.0, ap (λ (ys : List X). x ∷ ys) rest.1)

pub last_got : {X : Type 0} (xs : List X) (e : X) → slice_get xs (length xs - 1) ≡ Some e → (front : List X) × (xs ≡ front ++ e ∷ [])
last_got [] e is = cc
last_got {X} (x ∷ []) e is = let same : x ≡ e = cc in ([], ap (λ (y : X). y ∷ []) same)
last_got {X} (x ∷ y ∷ ys) e is =
    let last : length (x ∷ y ∷ ys) - 1 ≡ suc (length (y ∷ ys) - 1) = omega arith in
    got_more x e (y ∷ ys) (last_got (y ∷ ys) e (subst (λ (n : ℕ). slice_get (x ∷ y ∷ ys) n ≡ Some e) last is))

-- a part has the name if its last entry has
any_last : (n : Name) (xs : List Entry) (e : Entry) → is_named n e ≡ true → list_any (is_named n) (xs ++ e ∷ []) ≡ true
any_last n [] e is = rw is refl
any_last n (x ∷ xs) e is = by (is_named n x) (any_last n xs e is)
  where
    by : (t : Bool) → list_any (is_named n) (xs ++ e ∷ []) ≡ true → (t || list_any (is_named n) (xs ++ e ∷ [])) ≡ true
    by true later = refl
    by false later = later

pub has_last : (n : Name) (p : Part) (slice : List Entry) (e : Entry) → slice ≡ p.entries → slice_get slice (length slice - 1) ≡ Some e
    → is_named n e ≡ true → true ≡ has_name n p
has_last n p slice e same got is =
    let ends = last_got slice e got in
    sym (ap (list_any (is_named n)) (sym same ∙ ends.1) ∙ any_last n ends.0 e is)

-- all entries stand before a name that comes after the last one
before_greater : NamesAreOrdered → (n : Name) (es : List Entry) → AllBefore n es → prefix_len (λ e. not (precedes n e.name)) es ≡ length es
before_greater order n [] all = refl
before_greater order n (e ∷ es) all =
    let here : precedes n e.name ≡ false = behind order e.name n (All-head (λ (x : Entry). precedes x.name n ≡ true) e es all) in
    let rest = before_greater order n es (All-tail (λ (x : Entry). precedes x.name n ≡ true) e es all) in
    grind (arith, here, rest)

pub all_stand_before : NamesAreOrdered → (n : Name) (es : List Entry) (e : Entry) → Rise es → slice_get es (length es - 1) ≡ Some e
    → precedes e.name n ≡ true → length es ≡ prefix_len (λ e. not (precedes n e.name)) es
all_stand_before order n es e rise got before =
    let ends = last_got es e got in
    sym (before_greater order n es
    (subst (AllBefore n) (sym ends.1) (all_before order n ends.0 e (subst Rise ends.1 rise) before)))

pub last_is_more : (d : Directory) (first p : Part) (more slice : List Part) → record { first = first; more = more } ≡ d → slice ≡ more
    → slice_get slice (length slice - 1) ≡ Some p → IsLastPart d p
last_is_more d first p more slice is same got =
    let ends = last_got slice p got in
    record { front = first ∷ ends.0; are = sym (ap parts is) ∙ ap (λ (ps : List Part). first ∷ ps) (sym same ∙ ends.1) }

pub last_entry_found : NamesAreOrdered → (n : Name) (d : Directory) (p : Part) (slice : List Entry) (e : Entry) → IsLastPart d p → Rise (entries d)
    → slice ≡ p.entries → slice_get slice (length slice - 1) ≡ Some e → is_named n e ≡ true → find (is_named n) (entries d) ≡ Some e
last_entry_found order n d p slice e last rise same got is =
    let ends = last_got slice e got in
    directory_found order n d p last rise ends.0 e (sym same ∙ ends.1) is

-- ---- the directory of a pair

found_has : {X : Type 0} (P : X → Type 0) (t : X → Bool) (xs : List X) (x : X) → All P xs → Some x ≡ find t xs → P x
found_has P t [] x all found = absurd (none-some x (sym found))
found_has {X} P t (y ∷ ys) x all found = by (t y) found (found_has P t ys x (All-tail P y ys all))
  where
    by : (b : Bool) → Some x ≡ (if b then Some y else find t ys) → (Some x ≡ find t ys → P x) → P x
    by true here later = subst P (sym (same_Some x y here)) (All-head P y ys all)
    by false there later = later there

pub rises_there : (k : Pair) (ds : List Directory) (d : Directory) → NamesRise ds → Some d ≡ find (begins_at k) ds → Rise (entries d)
rises_there k ds d rise found = found_has (λ (e : Directory). Rise (entries e)) (begins_at k) ds d rise found

-- what is found in it is found there
pub found_there : (k : Pair) (n : Name) (ds : List Directory) (d : Directory) (e : Option Entry) → Some d ≡ find (begins_at k) ds
    → find (is_named n) (entries d) ≡ e → e ≡ entry_in ds k n
found_there k n ds d e at found = sym found ∙ ap (option_and_then (λ (x : Directory). find (is_named n) (entries x))) at

-- ---- parts that are sought at the end first

pub last_part_has : NamesAreOrdered → (n : Name) (d : Directory) (p : Part) → IsLastPart d p → Rise (entries d) → has_name n p ≡ true
    → Some p ≡ find (has_name n) (parts d)
last_part_has order n d p last rise has =
    let once = named_once n (entries d) order rise in
    sym (ap (find (has_name n)) last.are
    ∙ last_has n last.front p (subst (λ (ps : List Part). count_by (is_named n) (entries_of ps) ≤ 1) last.are once) has)

-- the last of some parts stands last
stands_last : (ps : List Part) (p : Part) (last : ℕ) → 0 < length ps → last ≡ length ps - 1 → p ≡ get_or ps last p
    → ps ≡ take (length ps - 1) ps ++ p ∷ []
stands_last ps p last some is at =
    front_and_last ps p some
    ∙ ap (λ (q : Part). take (length ps - 1) ps ++ q ∷ []) (sym (at ∙ ap (λ (i : ℕ). get_or ps i p) is))

pub parent_is_last : NamesAreOrdered → (n : Name) (ps : List Part) (p : Part) (last : ℕ) → 0 < length ps → last ≡ length ps - 1
    → p ≡ get_or ps last p → Rise (entries_of ps) → EndsBefore n p.entries
    → last ≡ unwrap_or (position (has_greater n) ps) (length ps - 1)
parent_is_last order n ps p last some is at rise ends =
    let are = stands_last ps p last some is at in
    let before : AllBefore n (entries_of ps) = subst (λ (qs : List Part). AllBefore n (entries_of qs)) (sym are)
    (parts_before order n (take (length ps - 1) ps) p (subst (λ (qs : List Part). Rise (entries_of qs)) are rise) ends) in
    is ∙ ap (λ (o : Option ℕ). unwrap_or o (length ps - 1)) (sym (no_part_greater order n ps before))

pub place_is_last : (n : Name) (ps : List Part) (p : Part) (last : ℕ) → 0 < length ps → last ≡ length ps - 1 → p ≡ get_or ps last p
    → count_by (is_named n) (entries_of ps) ≤ 1 → has_name n p ≡ true → Some last ≡ position (has_name n) ps
place_is_last n ps p last some is at once has =
    let are = stands_last ps p last some is at in
    let front : List Part = take (length ps - 1) ps in
    let many : length front ≡ last = length-take-le (length ps - 1) ps (omega arith) ∙ sym is in
    sym (ap (position (has_name n)) are
    ∙ last_place n front p (subst (λ (qs : List Part). count_by (is_named n) (entries_of qs) ≤ 1) are once) has
    ∙ ap (λ (i : ℕ). Some i) many)

pub rise_right : (xs ys : List Entry) → Rise (xs ++ ys) → Rise ys
rise_right [] ys rise = rise
rise_right (x ∷ xs) ys rise = rise_right xs ys rise.1

pub rise_left : (xs ys : List Entry) → Rise (xs ++ ys) → Rise xs
rise_left [] ys rise = tt
rise_left (x ∷ xs) ys rise = (All-left (λ (f : Entry). precedes x.name f.name ≡ true) xs ys rise.0, rise_left xs ys rise.1)

-- the names of each part rise
rises_at : (ps : List Part) (i : ℕ) (d : Part) → Rise (entries_of ps) → i < length ps → Rise (get_or ps i d).entries
rises_at [] i d rise within = absurd (omega (arith, within))
rises_at (p ∷ ps) zero d rise within = rise_left p.entries (entries_of ps) rise
rises_at (p ∷ ps) (suc i) d rise within = rises_at ps i d (rise_right p.entries (entries_of ps) rise) (omega (arith, within))

pub part_rises : (ps : List Part) (i : ℕ) (p : Part) → Rise (entries_of ps) → i < length ps → p ≡ get_or ps i p → Rise p.entries
part_rises ps i p rise within is = subst (λ (q : Part). Rise q.entries) (sym is) (rises_at ps i p rise within)

-- what is left of rising names rises
pub unlinked_rise : (k : Pair) (n : Name) (ds : List Directory) → NamesRise ds → NamesRise (unlink k n ds)
unlinked_rise k n ds rise =
    All-where (λ (d : Directory). Rise (entries d)) (begins_at k) (unlink_in n) ds
    (λ d is here. subst Rise (sym (entries_unlink n d)) (Rise-without n (entries d) here)) rise
