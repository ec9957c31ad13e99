-- What rows have at a path.
use Rattle.std.proofs.Common.{◌≡◌, Bool, true, false, List, [], ◌∷◌, ◌++◌, Option, Some, None, refl, ap, sym, ◌∙◌, cond, subst}
use Rattle.std.specs.Bool.{Decides}
use Rattle.std.specs.Prelude.{All, if◌then◌else◌, is_some, reverse, ◌||◌}
use Rattle.std.specs.List.{AllByRecursion, filter}
use Rattle.std.proofs.lemmas.List.{reverse-append}
use Rattle.std.proofs.lemmas.List.Elements.{All-filter, All-head, All-tail, All-weaker}
use Rattle.lfs_fs.specs.Path.{Path}
use Rattle.lfs_fs.specs.Row.{PathsAreOrdered, path_precedes}
use Rattle.lfs_fs.specs.Tree.{Node}
use Rattle.lfs_command.specs.PathMap.{same_path}
use Rattle.lfs_law.proofs.PathMapLemmas.{same_path_decides}
use Rattle.lfs_sync.specs.Shown.{IsBare, Shown, ShownRise, shown_at}

-- ---- rows that rise

-- each row comes behind a path
abbrev pub AreBehind : Path → List Shown → Type 0
AreBehind p rs = All (λ (s : Shown). path_precedes p s.path ≡ true) rs

-- a path isn't one that comes behind it
pub other_behind : PathsAreOrdered → (p q : Path) → path_precedes p q ≡ true → same_path q p ≡ false
other_behind order p q before = by (same_path q p) (same_path_decides q p)
  where
    by : (b : Bool) → Decides b (q ≡ p) → b ≡ false
    by true decides =
        cc (order.irreflexive p, subst (λ (x : Path). path_precedes p x ≡ true) (decides.0 refl) before)
    by false decides = refl

pub other_before : PathsAreOrdered → (p q : Path) → path_precedes p q ≡ true → same_path p q ≡ false
other_before order p q before = by (same_path p q) (same_path_decides p q)
  where
    by : (b : Bool) → Decides b (p ≡ q) → b ≡ false
    by true decides =
        cc (order.irreflexive p, subst (λ (x : Path). path_precedes p x ≡ true) (sym (decides.0 refl)) before)
    by false decides = refl

-- what comes behind a path has nothing there
pub none_behind : PathsAreOrdered → (p : Path) (rs : List Shown) → AreBehind p rs → shown_at rs p ≡ None
none_behind order p [] behind = refl
none_behind order p (r ∷ rs) behind =
    ap (λ (b : Bool). if b then Some r.node else shown_at rs p)
    (other_behind order p r.path (All-head (λ (s : Shown). path_precedes p s.path ≡ true) r rs behind))
    ∙ none_behind order p rs (All-tail (λ (s : Shown). path_precedes p s.path ≡ true) r rs behind)

pub behind_earlier : PathsAreOrdered → (p q : Path) (rs : List Shown) → path_precedes p q ≡ true → AreBehind q rs → AreBehind p rs
behind_earlier order p q rs before behind =
    All-weaker (λ (s : Shown). path_precedes q s.path ≡ true) (λ (s : Shown). path_precedes p s.path ≡ true)
    (λ s later. order.transitive p q s.path before later) rs behind

-- ---- some of the rows

pub rise_filter : (test : Shown → Bool) (rs : List Shown) → ShownRise rs → ShownRise (filter test rs)
rise_filter test [] rise = tt
rise_filter test (r ∷ rs) rise = by (test r) (rise_filter test rs rise.1)
  where
    by : (b : Bool) → ShownRise (filter test rs) → ShownRise (cond b (r ∷ filter test rs) (filter test rs))
    by true later = (All-filter test (λ (s : Shown). path_precedes r.path s.path ≡ true) rs rise.0, later)
    by false later = later

-- a node that passes
abbrev pub passing : (Node → Bool) → Option Node → Option Node
passing test None = None
passing test (Some x) = if test x then Some x else None

shown_by : (test : Shown → Bool) (p : Path) (r : Shown) (rs : List Shown) (b same : Bool) → (same ≡ true → r.path ≡ p)
    → same_path r.path p ≡ same → test r ≡ b → (r.path ≡ p → shown_at (filter test rs) p ≡ None)
    → shown_at (filter test rs) p ≡ passing (λ (x : Node). test (record { path = p; node = x })) (shown_at rs p)
    → shown_at (cond b (r ∷ filter test rs) (filter test rs)) p
    ≡ passing (λ (x : Node). test (record { path = p; node = x })) (if same then Some r.node else shown_at rs p)
shown_by test p r rs true true at same is none later =
    ap (λ (c : Bool). if c then Some r.node else shown_at (filter test rs) p) same
    ∙ ap (λ (c : Bool). if c then Some r.node else None)
    (sym (ap (λ (q : Path). test (record { path = q; node = r.node })) (sym (at refl)) ∙ is))
shown_by test p r rs false true at same is none later =
    none (at refl)
    ∙ ap (λ (c : Bool). if c then Some r.node else None)
    (sym (ap (λ (q : Path). test (record { path = q; node = r.node })) (sym (at refl)) ∙ is))
shown_by test p r rs true false at same is none later =
    ap (λ (c : Bool). if c then Some r.node else shown_at (filter test rs) p) same ∙ later
shown_by test p r rs false false at same is none later = later

pub shown_filter : PathsAreOrdered → (test : Shown → Bool) (p : Path) (rs : List Shown) → ShownRise rs
    → shown_at (filter test rs) p ≡ passing (λ (x : Node). test (record { path = p; node = x })) (shown_at rs p)
shown_filter order test p [] rise = refl
shown_filter order test p (r ∷ rs) rise =
    shown_by test p r rs (test r) (same_path r.path p) (same_path_decides r.path p).0 refl refl none (shown_filter order test p rs rise.1)
  where
    none : r.path ≡ p → shown_at (filter test rs) p ≡ None
    none same = none_behind order p (filter test rs)
        (subst (λ (q : Path). AreBehind q (filter test rs)) same (All-filter test (λ (s : Shown). path_precedes r.path s.path ≡ true) rs rise.0))

-- two tests that agree on them
pub filter_same : (test other : Shown → Bool) (rs : List Shown) → AllByRecursion (λ (r : Shown). test r ≡ other r) rs
    → filter test rs ≡ filter other rs
filter_same test other [] same = refl
filter_same test other (r ∷ rs) same =
    ap (λ (b : Bool). cond b (r ∷ filter test rs) (filter test rs)) same.0
    ∙ ap (λ (l : List Shown). cond (other r) (r ∷ l) l) (filter_same test other rs same.1)

-- none of them passes
pub filter_none : (test : Shown → Bool) (rs : List Shown) → AllByRecursion (λ (r : Shown). test r ≡ false) rs → filter test rs ≡ []
filter_none test [] fail = refl
filter_none test (r ∷ rs) fail =
    ap (λ (b : Bool). cond b (r ∷ filter test rs) (filter test rs)) fail.0 ∙ filter_none test rs fail.1

pub each_weaker : {X : Type 0} (P Q : X → Type 0) → ((x : X) → P x → Q x) → (xs : List X) → AllByRecursion P xs → AllByRecursion Q xs
each_weaker P Q f [] all = tt
each_weaker P Q f (x ∷ xs) all = (f x all.0, each_weaker P Q f xs all.1)

-- ---- rows in any order

some_append : (p : Path) (rs ss : List Shown) → is_some (shown_at (rs ++ ss) p) ≡ (is_some (shown_at rs p) || is_some (shown_at ss p))
some_append p [] ss = refl
some_append p (r ∷ rs) ss = by (same_path r.path p) (some_append p rs ss)
  where
    by : (b : Bool) → is_some (shown_at (rs ++ ss) p) ≡ (is_some (shown_at rs p) || is_some (shown_at ss p))
        → is_some (if b then Some r.node else shown_at (rs ++ ss) p)
        ≡ (is_some (if b then Some r.node else shown_at rs p) || is_some (shown_at ss p))
    by true later = refl
    by false later = later

or_turned : (a b : Bool) → (a || b) ≡ (b || a)
or_turned true true = refl
or_turned true false = refl
or_turned false true = refl
or_turned false false = refl

pub some_reverse : (p : Path) (rs : List Shown) → is_some (shown_at (reverse rs) p) ≡ is_some (shown_at rs p)
some_reverse p [] = refl
some_reverse p (r ∷ rs) =
    ap (λ (l : List Shown). is_some (shown_at l p)) (reverse-append (r ∷ []) rs) ∙ some_append p (reverse rs) (r ∷ [])
    ∙ ap (λ (b : Bool). b || is_some (shown_at (r ∷ []) p)) (some_reverse p rs)
    ∙ or_turned (is_some (shown_at rs p)) (is_some (shown_at (r ∷ []) p))
    ∙ sym (some_append p (r ∷ []) rs)

-- ---- rows without attributes

abbrev pub IsBareAt : Option Node → Type 0
IsBareAt None = Unit {0}
IsBareAt (Some x) = IsBare x

pub bare_at : (p : Path) (rs : List Shown) → AllByRecursion (λ (r : Shown). IsBare r.node) rs → IsBareAt (shown_at rs p)
bare_at p [] bare = tt
bare_at p (r ∷ rs) bare = by (same_path r.path p) (bare_at p rs bare.1)
  where
    by : (b : Bool) → IsBareAt (shown_at rs p) → IsBareAt (if b then Some r.node else shown_at rs p)
    by true later = bare.0
    by false later = later
