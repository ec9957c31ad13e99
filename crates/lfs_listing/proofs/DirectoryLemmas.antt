-- Directories found by a block of theirs.
use Rattle.std.proofs.Common.{◌≡◌, ◌≢◌, ℕ, ◌+◌, ◌-◌, ◌<◌, ◌≤◌, Bool, true, false, List, [], ◌∷◌, ◌++◌, Option, Some, None, refl, ap, sym, ◌∙◌, subst}
use Rattle.std.proofs.Common.{arith, cond, drop, get_or, inl, inr, length, length-drop, set, take, get_or-set_same, get_or-set_other, length-set}
use Rattle.std.specs.Prelude.{find, if◌then◌else◌, slice_get, sum_by}
use Rattle.std.specs.List.{All, Contains}
use Rattle.std.specs.Option.{option_and_then, option_flatten}
use Rattle.std.proofs.lemmas.Bool.{cases_eq, cases_lt}
use Rattle.std.proofs.lemmas.Option.{get_or_from_slice_get, none-some, same_Some, slice_get-get_or, slice_get_within}
use Rattle.std.proofs.lemmas.List.{get_or-drop, length-take-le, take_more}
use Rattle.std.proofs.lemmas.List.Elements.{All-contains, All-get_or, All-nil, All-push}
use Rattle.std.proofs.lemmas.List.Sums.{get_or-le-sum_by, sum_by-cons, sum_by-drop_more, sum_by-take-drop}
use Rattle.lfs_meta.specs.Body.{Pair}
use Rattle.lfs_fs.specs.Directory.{Directory, begins_at, key}
use Rattle.lfs_fs.specs.Sound.{IsSound}
use Rattle.lfs_fs.specs.Uses.{directory_uses}
use Rattle.lfs_fs.specs.Volume.{Volume}
use Rattle.lfs_fs.proofs.CountLemmas.{count_uses, element_le}
use Rattle.lfs_fs.proofs.DirectoryTableLemmas.{slice_get_left, slice_get_seam}
use Rattle.lfs_fs.proofs.EntryAtLemmas.{found}
use Rattle.lfs_fs.proofs.OrderedEndLemmas.{none_counted}
use Rattle.lfs_fs.proofs.PairLemmas.{same_pair-is, same_pair-refl}
use Rattle.lfs_listing.specs.DirectoryNumbers.{AreNumbers, FindDirectories, IsNumberAt, key_block, directory_numbered}

-- ---- numbers, directory by directory

longer : (front : List Directory) (d : Directory) (b : ℕ) (o : Option ℕ) → key_block d ≢ b → IsNumberAt front b o
    → IsNumberAt (front ++ d ∷ []) b o
longer front d b None other all = All-push (λ (c : Directory). key_block c ≢ b) front d all other
longer front d b (Some i) other (c, at, is) = (c, slice_get_left front (d ∷ []) i c at, is)

-- a directory more
front_more : (front : List Directory) (d : Directory) (numbers : List (Option ℕ)) → AreNumbers front numbers
    → AreNumbers (front ++ d ∷ []) (set numbers (key_block d) (Some (length front)))
front_more front d numbers h b within =
    let inside : b < length numbers = omega (arith, length-set numbers (key_block d) (Some (length front))) in
    elim (cases_eq b (key_block d)) [
      | inl same ↦
          let at : get_or (set numbers (key_block d) (Some (length front))) b None ≡ Some (length front) =
          ap (λ (i : ℕ). get_or (set numbers (key_block d) (Some (length front))) i None) same
          ∙ get_or-set_same numbers (key_block d) (Some (length front)) None (subst (λ (i : ℕ). i < length numbers) same inside) in
          subst (IsNumberAt (front ++ d ∷ []) b) (sym at) (d, slice_get_seam front d [], sym same)
      | inr other ↦
          subst (IsNumberAt (front ++ d ∷ []) b) (sym (get_or-set_other numbers (key_block d) b (Some (length front)) None other))
          (longer front d b (get_or numbers b None) (λ is. other (sym is)) (h b inside))
    ]

-- the next directory is noted
pub noted_more : (ds : List Directory) (i : ℕ) (d : Directory) (numbers new : List (Option ℕ)) → i < length ds → d ≡ get_or ds i d
    → new ≡ set numbers (key_block d) (Some i) → AreNumbers (take i ds) numbers → AreNumbers (take (i + 1) ds) new
noted_more ds i d numbers new within at is h =
    let complete : take (i + 1) ds ≡ take i ds ++ d ∷ [] = take_more ds i d within ∙ ap (λ (c : Directory). take i ds ++ c ∷ []) (sym at) in
    let len : length (take i ds) ≡ i = length-take-le i ds (omega arith) in
    let noted : set numbers (key_block d) (Some (length (take i ds))) ≡ new =
    ap (λ (n : ℕ). set numbers (key_block d) (Some n)) len ∙ sym is in
    subst (λ (cs : List Directory). AreNumbers cs new) (sym complete)
    (subst (AreNumbers (take i ds ++ d ∷ [])) noted (front_more (take i ds) d numbers h))

none_at : (b : ℕ) (o : Option ℕ) → o ≡ None → IsNumberAt [] b o
none_at b None is = All-nil (λ (c : Directory). key_block c ≢ b)
none_at b (Some i) is = absurd (none-some i (sym is))

pub none_noted : (numbers : List (Option ℕ)) → All (λ o. o ≡ None) numbers → AreNumbers [] numbers
none_noted numbers none b within = none_at b (get_or numbers b None) (All-get_or (λ (o : Option ℕ). o ≡ None) numbers b None within none)

-- ---- a sound volume has one directory at a block

-- a directory uses the lesser block of its pair
uses_key : (v : Volume) (d : Directory) → 1 ≤ directory_uses (key_block d) d
uses_key v d =
    let alone : Volume = record v { directories = d ∷ [] } in
    let count = (count_uses (key d) alone).0 in
    omega (
      arith,
      count,
      ap (λ (b : Bool). cond {A = ℕ} b 1 0) (same_pair-refl (key d)),
      sum_by-cons (λ (c : Directory). cond {A = ℕ} (begins_at (key d) c) 1 0) d [],
      sum_by-cons (directory_uses (key_block d)) d [],
    )

-- two different ones would use it twice
two_at : {X : Type 0} (f : X → ℕ) (xs : List X) (i j : ℕ) (d e : X) → i < j → j < length xs → 1 ≤ f (get_or xs i d) → 1 ≤ f (get_or xs j e)
    → 2 ≤ sum_by f xs
two_at f xs i j d e before within one other =
    let rest = drop (i + 1) xs in
    let there : i + 1 + (j - (i + 1)) ≡ j = omega arith in
    let at : get_or rest (j - (i + 1)) e ≡ get_or xs j e = get_or-drop (i + 1) xs (j - (i + 1)) e ∙ ap (λ (k : ℕ). get_or xs k e) there in
    let later : f (get_or rest (j - (i + 1)) e) ≤ sum_by f rest = get_or-le-sum_by f rest (j - (i + 1)) e (omega (arith, length-drop (i + 1) xs)) in
    omega (arith, later, ap f at, sum_by-drop_more f xs i d (omega arith), sum_by-take-drop f xs i)

one_at : (v : Volume) → IsSound v → (i j : ℕ) (d e : Directory) → slice_get v.directories i ≡ Some d → slice_get v.directories j ≡ Some e
    → key_block d ≡ key_block e → i < j → ⊥
one_at v sound i j d e at there same before =
    let b = key_block e in
    let one : 1 ≤ directory_uses b (get_or v.directories i d) =
    subst (λ (c : Directory). 1 ≤ directory_uses b c) (sym (get_or_from_slice_get v.directories i d d at))
    (subst (λ (x : ℕ). 1 ≤ directory_uses x d) same (uses_key v d)) in
    let other : 1 ≤ directory_uses b (get_or v.directories j e) =
    subst (λ (c : Directory). 1 ≤ directory_uses b c) (sym (get_or_from_slice_get v.directories j e e there)) (uses_key v e) in
    absurd (omega (
      arith,
      two_at (directory_uses b) v.directories i j d e before (slice_get_within v.directories j e there) one other,
      sound.once b,
    ))

-- directories at one block are one
pub same_at : (v : Volume) → IsSound v → (i j : ℕ) (d e : Directory) → slice_get v.directories i ≡ Some d → slice_get v.directories j ≡ Some e
    → key_block d ≡ key_block e → d ≡ e
same_at v sound i j d e at there same = elim (cases_eq i j) [
  | inl is ↦ same_Some d e (sym at ∙ ap (slice_get v.directories) is ∙ there)
  | inr other ↦ elim (cases_lt i j) [
    | inl before ↦ absurd (one_at v sound i j d e at there same before)
    | inr after ↦ absurd (one_at v sound j i e d there at (sym same) (omega arith))
  ]
]

-- ---- the directory that the numbers give

-- a directory, if it begins at a pair
abbrev begun_at : Pair → Directory → Option Directory
begun_at k d = if begins_at k d then Some d else None

fails_by : (b : Bool) → cond {A = ℕ} b 1 0 ≤ 0 → b ≡ false
fails_by true few = absurd (omega arith)
fails_by false few = refl

-- what isn't found doesn't pass
pub fails : {X : Type 0} (a : X → Bool) (xs : List X) (x : X) → find a xs ≡ None → Contains xs x → a x ≡ false
fails {X} a xs x none there =
    fails_by (a x) (omega (arith, element_le (λ (y : X). cond {A = ℕ} (a y) 1 0) xs x there, none_counted a xs none))

gives_by : (v : Volume) → IsSound v → (k : Pair) (e : Directory) (o : Option ℕ) → Contains v.directories e
    → begins_at k e ≡ true → key_block e ≡ k.0 → IsNumberAt v.directories k.0 o
    → option_and_then (begun_at k) (option_and_then (slice_get v.directories) o) ≡ Some e
gives_by v sound k e None there begins same all =
    absurd (All-contains (λ (c : Directory). key_block c ≢ k.0) v.directories e all there same)
gives_by v sound k e (Some i) there begins same (d, at, is) =
    let inside : slice_get v.directories there.0 ≡ Some e = slice_get-get_or v.directories there.0 e there.1
    ∙ ap (λ (c : Directory). Some c) there.2 in
    let equal : d ≡ e = same_at v sound i there.0 d e at inside (is ∙ sym same) in
    ap (option_and_then (begun_at k)) (at ∙ ap (λ (c : Directory). Some c) equal)
    ∙ ap (λ (b : Bool). if b then Some e else None) begins

lacks_at : (v : Volume) (k : Pair) (i : ℕ) (o : Option Directory) → find (begins_at k) v.directories ≡ None → slice_get v.directories i ≡ o
    → option_and_then (begun_at k) o ≡ None
lacks_at v k i None none is = refl
lacks_at v k i (Some d) none is =
    let there : Contains v.directories d = (i, slice_get_within v.directories i d is, get_or_from_slice_get v.directories i d d is) in
    ap (λ (b : Bool). if b then Some d else None) (fails (begins_at k) v.directories d none there)

lacks_by : (v : Volume) (k : Pair) (o : Option ℕ) → find (begins_at k) v.directories ≡ None
    → option_and_then (begun_at k) (option_and_then (slice_get v.directories) o) ≡ None
lacks_by v k None none = refl
lacks_by v k (Some i) none = lacks_at v k i (slice_get v.directories i) none refl

finds_by : (v : Volume) → IsSound v → (numbers : List (Option ℕ)) → AreNumbers v.directories numbers → length numbers ≡ v.count → (k : Pair)
    → (f : Option Directory) → find (begins_at k) v.directories ≡ f → directory_numbered v.directories numbers k ≡ f
finds_by v sound numbers are long k None is = lacks_by v k (option_flatten (slice_get numbers k.0)) is
finds_by v sound numbers are long k (Some e) is =
    let here = found (begins_at k) v.directories e is in
    let same : key_block e ≡ k.0 = ap (λ (p : Pair). p.0) (sym (same_pair-is k (key e) here.1)) in
    let used : 1 ≤ directory_uses k.0 e = subst (λ (b : ℕ). 1 ≤ directory_uses b e) same (uses_key v e) in
    let inside : k.0 < length numbers =
    omega (arith, sound.within k.0 (omega (arith, used, element_le (directory_uses k.0) v.directories e here.0))) in
    ap (λ (o : Option (Option ℕ)). option_and_then (begun_at k) (option_and_then (slice_get v.directories) (option_flatten o)))
    (slice_get-get_or numbers k.0 None inside)
    ∙ gives_by v sound k e (get_or numbers k.0 None) here.0 here.1 same (are k.0 inside)

pub find_directories : (v : Volume) → IsSound v → (numbers : List (Option ℕ)) → AreNumbers v.directories numbers → length numbers ≡ v.count
    → FindDirectories v.directories numbers
find_directories v sound numbers are long k = finds_by v sound numbers are long k (find (begins_at k) v.directories) refl
