-- Names of rows that a host can have, and of paths below a folder.
use Rattle.std.proofs.Common.{◌≡◌, ℕ, ◌-◌, ◌<◌, zero, suc, List, [], ◌∷◌, ◌++◌, Option, None, Some, refl, ap, sym, subst, arith, length, take}
use Rattle.std.specs.Prelude.{All, Contains, IfSome, is_some}
use Rattle.std.proofs.lemmas.List.Elements.{All-nil, All-cons, All-head, All-tail, All-push, All-take}
use Rattle.lfs_meta.specs.Name.{Name, IsName}
use Rattle.lfs_fs.specs.Path.{Path}
use Rattle.lfs_fs.specs.Volume.{Volume}
use Rattle.lfs_fs.specs.Tree.{entry_at}
use Rattle.lfs_fs.specs.Sound.{IsSound}
use Rattle.lfs_fs.specs.Row.{Row}
use Rattle.lfs_fs.specs.Listed.{Listed, path_after, rows_after}
use Rattle.lfs_fs.proofs.ProperLemmas.{names_of_path}
use Rattle.lfs_command.specs.PathMap.{below}
use Rattle.lfs_law.proofs.PathMapLemmas.{below_some}
use Rattle.lfs_extract.specs.HostNames.{IsHostName}
use Rattle.lfs_extract.specs.Extracted.{IsHostText, HaveTexts, HasOtherName, StayBelow}
use Rattle.lfs_extract.specs.RowsBelow.{IsDeeper, row_below, rows_below}
use Rattle.lfs_extract.proofs.PrefixLemmas.{has_last, rest_after}

-- ---- names of rows, one after another

-- what is left of the path of the row before is of texts, and what is found of the rows that are left says it of all
pub record IsJudgedOn (at q : Path) (left complete : List Row) : Type 0 where
  pub fit : IfSome (below at q) (All IsHostText)
  pub fits : HaveTexts left → HaveTexts complete
  pub other : HasOtherName left → HasOtherName complete

root_fits : (at : Path) → IfSome (below at []) (All IsHostText)
root_fits [] = All-nil IsHostText
root_fits (n ∷ at) = tt

pub judged_none : (at : Path) (rows : List Row) → IsJudgedOn at [] rows rows
judged_none at rows = record { fit = root_fits at; fits = λ h. h; other = λ h. h }

other_later : (r : Row) (rows : List Row) → HasOtherName rows → HasOtherName (r ∷ rows)
other_later r rows (s, n, (i, within, is), there, none) = (s, n, (suc i, omega arith, is), there, none)

-- ---- names of paths

text_path : (q : Path) (depth : ℕ) (n : Name) → All IsHostText q → (0 < depth → IsHostText n) → All IsHostText (path_after q depth n)
text_path q zero n texts text = All-nil IsHostText
text_path q (suc k) n texts text = All-push IsHostText (take k q) n (All-take IsHostText k q texts) (text (omega arith))

-- what is left, or nothing
abbrev left_of : Option Path → Path
left_of None = []
left_of (Some rest) = rest

is_left : (o : Option Path) → IfSome o (λ rest. rest ≡ left_of o)
is_left None = tt
is_left (Some rest) = refl

left_fits : (o : Option Path) → IfSome o (All IsHostText) → All IsHostText (left_of o)
left_fits None fit = All-nil IsHostText
left_fits (Some rest) fit = fit

module _ (at q : Path) (left later : List Listed) (x : Listed) (complete : List Row) (h : IsJudgedOn at q (rows_below at (rows_after q left)) complete)
    (first : left ≡ x ∷ later) where
  abbrev path : Path
  path = path_after q x.depth x.entry.name

  abbrev next : List Row
  next = rows_below at (rows_after path later)

  abbrev more : ℕ
  more = length path - length at

  here : IsJudgedOn at q (row_below x.entry (below at path) next) complete
  here = subst (λ (xs : List Listed). IsJudgedOn at q (rows_below at (rows_after q xs)) complete) first h

  rest_is : (rest : Path) → below at path ≡ Some rest → rest ≡ path_after (left_of (below at q)) more x.entry.name
  rest_is rest inside = rest_after at q rest (left_of (below at q)) x.depth x.entry.name inside (is_left (below at q))

  deeper : (rest : Path) → below at path ≡ Some rest → 0 < more → IsDeeper at path
  deeper rest inside some' = (ap (λ (o : Option Path). is_some o) inside, omega (arith, some'))

  -- a name more is a text
  more_by : (IsDeeper at path → IsHostText x.entry.name) → (o : Option Path) → below at path ≡ o
      → (HaveTexts (row_below x.entry o next) → HaveTexts complete) → (HasOtherName (row_below x.entry o next) → HasOtherName complete)
      → IsJudgedOn at path next complete
  more_by text None outside fits other = record {
    fit = subst (λ (o : Option Path). IfSome o (All IsHostText)) (sym outside) tt;
    fits = fits;
    other = other;
  }
  more_by text (Some rest) inside fits other =
      let r : Row = record { path = rest; entry = x.entry } in
      let texts : All IsHostText rest =
      subst (All IsHostText) (sym (rest_is rest inside))
      (text_path (left_of (below at q)) more x.entry.name (left_fits (below at q) here.fit) (λ some'. text (deeper rest inside some'))) in
      record {
        fit = subst (λ (o : Option Path). IfSome o (All IsHostText)) (sym inside) texts;
        fits = λ later'. fits (All-cons (λ (s : Row). All IsHostText s.path) r next texts later');
        other = λ later'. other (other_later r next later');
      }

  pub judged_more : (IsDeeper at path → IsHostText x.entry.name) → IsJudgedOn at path next complete
  judged_more text = more_by text (below at path) refl here.fits here.other

  -- or is none
  other_by : (o : Option Path) → below at path ≡ o → IsDeeper at path → ¬ IsHostText x.entry.name
      → (HasOtherName (row_below x.entry o next) → HasOtherName complete) → HasOtherName complete
  other_by None outside deep none other = absurd (cc (deep.0, ap (λ (o : Option Path). is_some o) outside))
  other_by (Some rest) inside deep none other =
      let some' : 0 < more = omega (arith, deep.1) in
      other (
        record { path = rest; entry = x.entry },
        x.entry.name,
        (0, omega arith, refl),
        subst (λ (p : Path). Contains p x.entry.name) (sym (rest_is rest inside)) (has_last (left_of (below at q)) more x.entry.name some'),
        none,
      )

  pub judged_other : IsDeeper at path → ¬ IsHostText x.entry.name → HasOtherName complete
  judged_other deep none = other_by (below at path) refl deep none here.other

pub judged_all : (at q : Path) (left : List Listed) (complete : List Row) → IsJudgedOn at q (rows_below at (rows_after q left)) complete → left ≡ []
    → HaveTexts complete
judged_all at q left complete h none =
    let here : IsJudgedOn at q [] complete = subst (λ (xs : List Listed). IsJudgedOn at q (rows_below at (rows_after q xs)) complete) none h in
    here.fits (All-nil (λ (r : Row). All IsHostText r.path))

-- ---- names below the folder

both_fit : (p : Path) → All IsName p → All IsHostText p → All IsHostName p
both_fit [] names texts = All-nil IsHostName
both_fit (n ∷ p) names texts =
    let text : IsHostText n = All-head IsHostText n p texts in
    let name : IsName n = All-head IsName n p names in
    All-cons IsHostName n p (record { name = name; no_zero = text.no_zero; text = text.text })
    (both_fit p (All-tail IsName n p names) (All-tail IsHostText n p texts))

names_behind : (at rest : Path) → All IsName (at ++ rest) → All IsName rest
names_behind [] rest names = names
names_behind (n ∷ at) rest names = names_behind at rest (All-tail IsName n (at ++ rest) names)

fit_by : (at : Path) (r : Row) (later : List Row) (o : Option Path) → below at r.path ≡ o → All IsName r.path
    → (HaveTexts later → StayBelow later) → HaveTexts (row_below r.entry o later) → StayBelow (row_below r.entry o later)
fit_by at r later None outside named goes fit = goes fit
fit_by at r later (Some rest) inside named goes fit =
    let s : Row = record { path = rest; entry = r.entry } in
    let left : All IsName rest = names_behind at rest (subst (All IsName) (below_some at r.path rest inside) named) in
    All-cons (λ (t : Row). All IsHostName t.path) s later
    (both_fit rest left (All-head (λ (t : Row). All IsHostText t.path) s later fit))
    (goes (All-tail (λ (t : Row). All IsHostText t.path) s later fit))

-- rows of a sound volume at a path and below it whose names are texts stay below the folder
pub stay_below : (v : Volume) → IsSound v → (at : Path) (rows : List Row) → All (λ (r : Row). entry_at v r.path ≡ Some r.entry) rows
    → HaveTexts (rows_below at rows) → StayBelow (rows_below at rows)
stay_below v sound at [] right texts = All-nil (λ (r : Row). All IsHostName r.path)
stay_below v sound at (r ∷ rows) right texts =
    fit_by at r (rows_below at rows) (below at r.path) refl
    (names_of_path v sound r.path r.entry (All-head (λ (t : Row). entry_at v t.path ≡ Some t.entry) r rows right))
    (stay_below v sound at rows (All-tail (λ (s : Row). entry_at v s.path ≡ Some s.entry) r rows right)) texts
