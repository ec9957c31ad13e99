-- Rows that are merged, one step at a time.
use Rattle.std.proofs.Common.{◌≡◌, ◌⊎◌, Bool, true, false, not, List, [], ◌∷◌, ◌++◌, Option, Some, cond, map, refl, ap, sym, ◌∙◌, subst}
use Rattle.std.proofs.Common.{append_assoc, inl, inr}
use Rattle.std.specs.Prelude.{if◌then◌else◌, ◌&&◌}
use Rattle.std.specs.List.{AllByRecursion, filter}
use Rattle.std.specs.declared.cmp.Ordering.TheVariants.{Equal, Greater, Less}
use Rattle.std.proofs.lemmas.List.Elements.{All-cons, All-nil, recursion_from_All}
use Rattle.lfs_block.specs.Disk.{Disk}
use Rattle.lfs_fs.specs.Path.{Path}
use Rattle.lfs_fs.specs.Row.{PathsAreOrdered, path_precedes}
use Rattle.lfs_fs.specs.Tree.{Node}
use Rattle.lfs_command.specs.Command.{Asked, Command}
use Rattle.lfs_command.specs.PathMap.{same_path}
use Rattle.lfs_law.proofs.PathMapLemmas.{same_path_or_not}
use Rattle.lfs_sync.specs.Merging.{PlansBehind, IsUnderWay, PlansBoth, PlansHeld, PlansWanted, if_so}
use Rattle.lfs_sync.specs.Planned.{in_texts, plan_asked}
use Rattle.lfs_sync.specs.Shown.{Shown, ShownRise, shown_at}
use Rattle.lfs_listing.specs.Below.{names}
use Rattle.lfs_sync.specs.Sides.{first_order, held_all, wanted_all}
use Rattle.lfs_sync.specs.Synced.{comes, goes, is_dir, is_like, is_new_directory, is_new_file, making_row, removing, same_held, same_kind}
use Rattle.lfs_sync.specs.declared.held_row.HeldRow.{HeldRow}
use Rattle.lfs_sync.specs.declared.merging.Merging.{Merging}
use Rattle.lfs_sync.specs.declared.planned.Planned.{Planned}
use Rattle.lfs_sync.specs.declared.sync_row.SyncRow.{SyncRow}
use Rattle.lfs_sync.specs.declared.wanted_row.WantedRow.{WantedRow}
use Rattle.lfs_sync.proofs.DoneLemmas.{same_itself}
use Rattle.lfs_sync.proofs.ShownLemmas.{AreBehind, behind_earlier, each_weaker, filter_same, none_behind, other_before}

-- ---- lists of commands

-- what was left of all is planned, and the rest is left
pub further : (rows : List SyncRow) (old new : List Planned) (commands : List Command) (left rest all : List Asked)
    → plan_asked rows old ++ left ≡ all → PlansBehind rows old new commands → left ≡ in_texts commands ++ rest → plan_asked rows new ++ rest ≡ all
further rows old new commands left rest all way adds cut =
    ap (λ (l : List Asked). l ++ rest) adds ∙ append_assoc (plan_asked rows old) (in_texts commands) rest
    ∙ ap (λ (l : List Asked). plan_asked rows old ++ l) (sym cut) ∙ way

-- of rows that pass, the first is taken if it does
first_if : (make : Shown → Command) (test other : Shown → Bool) (b : Bool) (r : Shown) (rs : List Shown) → test r ≡ b
    → filter test rs ≡ filter other rs
    → in_texts (map make (filter test (r ∷ rs))) ≡ in_texts (if_so b (make r)) ++ in_texts (map make (filter other rs))
first_if make test other b r rs is same =
    ap (λ (c : Bool). in_texts (map make (cond c (r ∷ filter test rs) (filter test rs)))) is
    ∙ ap (λ (l : List Shown). in_texts (map make (cond b (r ∷ l) l))) same ∙ by b
  where
    by : (c : Bool) → in_texts (map make (cond c (r ∷ filter other rs) (filter other rs)))
        ≡ in_texts (if_so c (make r)) ++ in_texts (map make (filter other rs))
    by true = refl
    by false = refl

none_first : (make : Shown → Command) (test other : Shown → Bool) (rs : List Shown) → filter test rs ≡ filter other rs
    → in_texts (map make (filter test rs)) ≡ in_texts [] ++ in_texts (map make (filter other rs))
none_first make test other rs same = ap (λ (l : List Shown). in_texts (map make l)) same

-- ---- rows behind a path

-- a row that comes behind another isn't where that one is
goes_behind : PathsAreOrdered → (w : Shown) (ws : List Shown) (r : Shown) → path_precedes w.path r.path ≡ true → goes (w ∷ ws) r ≡ goes ws r
goes_behind order w ws r before =
    ap (λ (b : Bool). not (is_like same_kind (if b then Some w.node else shown_at ws r.path) r.node)) (other_before order w.path r.path before)

comes_behind : PathsAreOrdered → (r : Shown) (rs : List Shown) (w : Shown) → path_precedes r.path w.path ≡ true
    → comes (r ∷ rs) w ≡ comes rs w
comes_behind order r rs w before =
    ap (λ (b : Bool). not (is_like same_held (if b then Some r.node else shown_at rs w.path) w.node))
    (other_before order r.path w.path before)

same_goes : PathsAreOrdered → (w : Shown) (ws rs : List Shown) → AreBehind w.path rs → filter (goes (w ∷ ws)) rs ≡ filter (goes ws) rs
same_goes order w ws rs behind =
    filter_same (goes (w ∷ ws)) (goes ws) rs
    (each_weaker (λ (r : Shown). path_precedes w.path r.path ≡ true) (λ (r : Shown). goes (w ∷ ws) r ≡ goes ws r)
    (goes_behind order w ws) rs (recursion_from_All (λ (r : Shown). path_precedes w.path r.path ≡ true) rs behind))

module _ (order : PathsAreOrdered) (r : Shown) (rs ws : List Shown) (behind : AreBehind r.path ws) where
  each : AllByRecursion (λ (w : Shown). path_precedes r.path w.path ≡ true) ws
  each = recursion_from_All (λ (w : Shown). path_precedes r.path w.path ≡ true) ws behind

  same_directories : filter (is_new_directory (r ∷ rs)) ws ≡ filter (is_new_directory rs) ws
  same_directories =
      filter_same (is_new_directory (r ∷ rs)) (is_new_directory rs) ws
      (each_weaker (λ (w : Shown). path_precedes r.path w.path ≡ true) (λ (w : Shown). is_new_directory (r ∷ rs) w ≡ is_new_directory rs w)
      (λ w before. ap (λ (b : Bool). is_dir w && b) (comes_behind order r rs w before)) ws each)

  same_files : filter (is_new_file (r ∷ rs)) ws ≡ filter (is_new_file rs) ws
  same_files =
      filter_same (is_new_file (r ∷ rs)) (is_new_file rs) ws
      (each_weaker (λ (w : Shown). path_precedes r.path w.path ≡ true) (λ (w : Shown). is_new_file (r ∷ rs) w ≡ is_new_file rs w)
      (λ w before. ap (λ (b : Bool). not (is_dir w) && b) (comes_behind order r rs w before)) ws each)

-- a row that the other side doesn't have
goes_alone : PathsAreOrdered → (r : Shown) (ws : List Shown) → AreBehind r.path ws → goes ws r ≡ true
goes_alone order r ws behind = ap (λ (o : Option Node). not (is_like same_kind o r.node)) (none_behind order r.path ws behind)

comes_alone : PathsAreOrdered → (w : Shown) (rs : List Shown) → AreBehind w.path rs → comes rs w ≡ true
comes_alone order w rs behind = ap (λ (o : Option Node). not (is_like same_held o w.node)) (none_behind order w.path rs behind)

-- ---- steps

pub held_further : PathsAreOrdered → (at : Path) (rows : List SyncRow) (old new : Merging) (r : Shown) (rs ws held wanted : List Shown)
    → IsUnderWay at rows old (r ∷ rs) ws held wanted → PlansHeld at rows old new r true → AreBehind r.path ws
    → IsUnderWay at rows new rs ws held wanted
held_further order at rows old new r rs ws held wanted way plans behind = record {
  gone = further rows old.removed.items new.removed.items (removing at r ∷ []) _ _ _ way.gone plans.removed
      (first_if (removing at) (goes ws) (goes ws) true r rs (goes_alone order r ws behind) refl);
  made = further rows old.directories.items new.directories.items [] _ _ _ way.made plans.directories
      (none_first (making_row at) (is_new_directory (r ∷ rs)) (is_new_directory rs) ws (same_directories order r rs ws behind));
  put = further rows old.files.items new.files.items [] _ _ _ way.put plans.files
      (none_first (making_row at) (is_new_file (r ∷ rs)) (is_new_file rs) ws (same_files order r rs ws behind));
  rise = way.rise.1;
  rises = way.rises;
}

pub wanted_further : PathsAreOrdered → (at : Path) (rows : List SyncRow) (old new : Merging) (w : Shown) (rs ws held wanted : List Shown)
    → IsUnderWay at rows old rs (w ∷ ws) held wanted → PlansWanted at rows old new w true → AreBehind w.path rs
    → IsUnderWay at rows new rs ws held wanted
wanted_further order at rows old new w rs ws held wanted way plans behind = record {
  gone = further rows old.removed.items new.removed.items [] _ _ _ way.gone plans.removed
      (none_first (removing at) (goes (w ∷ ws)) (goes ws) rs (same_goes order w ws rs behind));
  made = further rows old.directories.items new.directories.items (if_so (is_dir w && true) (making_row at w)) _ _ _ way.made plans.directories
      (first_if (making_row at) (is_new_directory rs) (is_new_directory rs) (is_dir w && true) w ws
      (ap (λ (b : Bool). is_dir w && b) (comes_alone order w rs behind)) refl);
  put = further rows old.files.items new.files.items (if_so (not (is_dir w) && true) (making_row at w)) _ _ _ way.put plans.files
      (first_if (making_row at) (is_new_file rs) (is_new_file rs) (not (is_dir w) && true) w ws
      (ap (λ (b : Bool). not (is_dir w) && b) (comes_alone order w rs behind)) refl);
  rise = way.rise;
  rises = way.rises.1;
}

pub both_further : PathsAreOrdered → (at : Path) (rows : List SyncRow) (old new : Merging) (r w : Shown) (rs ws held wanted : List Shown)
    → IsUnderWay at rows old (r ∷ rs) (w ∷ ws) held wanted → PlansBoth at rows old new r w → r.path ≡ w.path
    → IsUnderWay at rows new rs ws held wanted
both_further order at rows old new r w rs ws held wanted way plans same = record {
  gone = further rows old.removed.items new.removed.items (if_so (not (same_kind w.node r.node)) (removing at r)) _ _ _ way.gone plans.removed
      (first_if (removing at) (goes (w ∷ ws)) (goes ws) (not (same_kind w.node r.node)) r rs goes_here
      (same_goes order w ws rs (subst (λ (p : Path). AreBehind p rs) same way.rise.0)));
  made = further rows old.directories.items new.directories.items (if_so (is_dir w && not (same_held r.node w.node)) (making_row at w)) _ _ _
      way.made plans.directories
      (first_if (making_row at) (is_new_directory (r ∷ rs)) (is_new_directory rs) (is_dir w && not (same_held r.node w.node)) w ws
      (ap (λ (b : Bool). is_dir w && b) comes_here)
      (same_directories order r rs ws behind));
  put = further rows old.files.items new.files.items (if_so (not (is_dir w) && not (same_held r.node w.node)) (making_row at w)) _ _ _
      way.put plans.files
      (first_if (making_row at) (is_new_file (r ∷ rs)) (is_new_file rs) (not (is_dir w) && not (same_held r.node w.node)) w ws
      (ap (λ (b : Bool). not (is_dir w) && b) comes_here)
      (same_files order r rs ws behind));
  rise = way.rise.1;
  rises = way.rises.1;
}
  where
    behind : AreBehind r.path ws
    behind = subst (λ (p : Path). AreBehind p ws) (sym same) way.rises.0

    goes_here : goes (w ∷ ws) r ≡ not (same_kind w.node r.node)
    goes_here =
        ap (λ (b : Bool). not (is_like same_kind (if b then Some w.node else shown_at ws r.path) r.node))
        (ap (λ (p : Path). same_path p r.path) (sym same) ∙ same_itself r.path)

    comes_here : comes (r ∷ rs) w ≡ not (same_held r.node w.node)
    comes_here =
        ap (λ (b : Bool). not (is_like same_held (if b then Some r.node else shown_at rs w.path) w.node))
        (ap (λ (p : Path). same_path p w.path) same ∙ same_itself w.path)

-- ---- which row comes first

less_is : (p q : Path) (after before : Bool) → path_precedes q p ≡ after → path_precedes p q ≡ before
    → (if after then Greater else (if before then Less else Equal)) ≡ Less → path_precedes p q ≡ true
less_is p q true before after_is before_is less = absurd (cc)
less_is p q false true after_is before_is less = before_is
less_is p q false false after_is before_is less = absurd (cc)

greater_is : (p q : Path) (after before : Bool) → path_precedes q p ≡ after
    → (if after then Greater else (if before then Less else Equal)) ≡ Greater → path_precedes q p ≡ true
greater_is p q true before after_is greater = after_is
greater_is p q false true after_is greater = absurd (cc)
greater_is p q false false after_is greater = absurd (cc)

equal_is : (p q : Path) (after before : Bool) → path_precedes q p ≡ after → path_precedes p q ≡ before
    → (if after then Greater else (if before then Less else Equal)) ≡ Equal → (path_precedes q p ≡ false) × (path_precedes p q ≡ false)
equal_is p q true before after_is before_is equal = absurd (cc)
equal_is p q false true after_is before_is equal = absurd (cc)
equal_is p q false false after_is before_is equal = (after_is, before_is)

pub less_behind : PathsAreOrdered → (rows : List SyncRow) (h : HeldRow) (hs : List HeldRow) (ws : List WantedRow)
    → first_order (h ∷ hs) ws ≡ Less → ShownRise (wanted_all rows ws) → AreBehind (names h.path.items) (wanted_all rows ws)
less_behind order rows h hs [] less rises = All-nil (λ (s : Shown). path_precedes (names h.path.items) s.path ≡ true)
less_behind order rows h hs (w ∷ ws) less rises =
    let p : Path = names h.path.items in
    let q : Path = names w.path.items in
    let before : path_precedes p q ≡ true = less_is p q (path_precedes q p) (path_precedes p q) refl refl less in
    All-cons (λ (s : Shown). path_precedes p s.path ≡ true) _ (wanted_all rows ws) before
    (behind_earlier order p q (wanted_all rows ws) before rises.0)

pub greater_behind : PathsAreOrdered → (d : Disk) (hs : List HeldRow) (w : WantedRow) (ws : List WantedRow)
    → first_order hs (w ∷ ws) ≡ Greater → ShownRise (held_all d hs) → AreBehind (names w.path.items) (held_all d hs)
greater_behind order d [] w ws greater rise = All-nil (λ (s : Shown). path_precedes (names w.path.items) s.path ≡ true)
greater_behind order d (h ∷ hs) w ws greater rise =
    let p : Path = names h.path.items in
    let q : Path = names w.path.items in
    let before : path_precedes q p ≡ true = greater_is p q (path_precedes q p) (path_precedes p q) refl greater in
    All-cons (λ (s : Shown). path_precedes q s.path ≡ true) _ (held_all d hs) before
    (behind_earlier order q p (held_all d hs) before rise.0)

same_by : PathsAreOrdered → (p q : Path) → path_precedes q p ≡ false → path_precedes p q ≡ false → (p ≡ q) ⊎ (p ≡ q → ⊥) → p ≡ q
same_by order p q after before (inl same) = same
same_by order p q after before (inr other) = elim (order.total p q other) [
  | inl first ↦ absurd (cc (first, before))
  | inr second ↦ absurd (cc (second, after))
]

pub equal_same : PathsAreOrdered → (h : HeldRow) (hs : List HeldRow) (w : WantedRow) (ws : List WantedRow)
    → first_order (h ∷ hs) (w ∷ ws) ≡ Equal → names h.path.items ≡ names w.path.items
equal_same order h hs w ws equal =
    let p : Path = names h.path.items in
    let q : Path = names w.path.items in
    let both = equal_is p q (path_precedes q p) (path_precedes p q) refl refl equal in
    same_by order p q both.0 both.1 (same_path_or_not p q)
