-- What a command sets are parts of the directory where its path's last name belongs, and of one right behind it; or any.
use Rattle.std.proofs.Common.{◌≡◌, ◌+◌, ◌<◌, ◌≤◌, ℕ, suc, zero, Bool, true, false, List, [], ◌∷◌, Option, Some, None, length, map, refl, ap, sym}
use Rattle.std.proofs.Common.{◌∙◌, ◌⊎◌, Bor, inl, inr, subst, arith, drop}
use Rattle.std.specs.Global.{Vec}
use Rattle.std.specs.Prelude.{All, count_by, find, if◌then◌else◌, slice_index_or}
use Rattle.std.specs.List.{position}
use Rattle.std.proofs.lemmas.List.{drop-map, length-map}
use Rattle.std.proofs.lemmas.List.Elements.{All-nil}
use Rattle.std.proofs.lemmas.List.Quantifiers.{position-Some}
use Rattle.std.proofs.lemmas.List.Sums.{sum_by-take-drop}
use Rattle.std.proofs.lemmas.Option.{none-some}
use Rattle.lfs_meta.specs.Attribute.{Attributes, remove_attribute, set_attribute}
use Rattle.lfs_meta.specs.Body.{Pair}
use Rattle.lfs_meta.specs.Name.{Name}
use Rattle.lfs_fs.specs.Directory.{Directory, Part, begins_at, parts, thread}
use Rattle.lfs_fs.specs.Entry.{Body, Directory_at, Entry, target}
use Rattle.lfs_fs.specs.Outlined.{outlined_body}
use Rattle.lfs_fs.specs.Path.{Path}
use Rattle.lfs_fs.specs.Tree.{entry_at}
use Rattle.lfs_fs.specs.Volume.{Volume}
use Rattle.lfs_command.specs.AskedFor.{OnNames, named_command}
use Rattle.lfs_command.specs.Clean.{IsClean}
use Rattle.lfs_command.specs.Command.{Mkdir, Put, SetAttr, RmAttr}
use Rattle.lfs_command.specs.declared.command.Command.TheVariants as case
use Rattle.lfs_command.specs.DirectoryEdit.{absorb, change_in, link_in, touch_last, unlink_in}
use Rattle.lfs_command.specs.Edited.{drop_target, make_directory, move_entry, put_file, remove_entry, set_attributes}
use Rattle.lfs_command.specs.Leading.{path_of}
use Rattle.lfs_command.specs.Edited.{empty_directory, new_entry, renamed, with_body, with_entry_attributes}
use Rattle.lfs_command.specs.Parent.{parent_of}
use Rattle.lfs_command.specs.Supplies.{Supplies, new_body}
use Rattle.lfs_command.specs.ThreadEdit.{add_after, drop_directory, in_directory, link, take_out, touch_first, unlink}
use Rattle.lfs_law.specs.EditedOutline.{edited_outline}
use Rattle.lfs_law.proofs.Cuts.{All-right}
use Rattle.lfs_law.proofs.OneElement.{count_cases, none_counted, where_none}
use Rattle.lfs_draft.specs.Editable.{BeginOnce}
use Rattle.lfs_draft.specs.Front.{IsFrontOf}
use Rattle.lfs_draft.proofs.AddedDirectories.{added_nowhere}
use Rattle.lfs_draft.proofs.OneIndex.{nowhere}

-- no part of the directories behind so many is set
abbrev pub IsCleanFrom : ℕ → List Directory → Type 0
IsCleanFrom n ds = All (λ p. p.dirty ≡ false) (thread (drop n ds))

-- ---- directories left away in front

clean_behind : (d : Directory) (ds : List Directory) → All (λ p. p.dirty ≡ false) (thread (d ∷ ds)) → All (λ p. p.dirty ≡ false) (thread ds)
clean_behind d ds all = All-right (λ (p : Part). p.dirty ≡ false) (parts d) (thread ds) all

pub clean_drop : (n : ℕ) (ds : List Directory) → All (λ p. p.dirty ≡ false) (thread ds) → IsCleanFrom n ds
clean_drop zero ds all = all
clean_drop (suc n) [] all = All-nil (λ (p : Part). p.dirty ≡ false)
clean_drop (suc n) (d ∷ ds) all = clean_drop n ds (clean_behind d ds all)

-- behind all of them nothing is set
pub clean_past : (n : ℕ) (ds : List Directory) → length ds ≤ n → IsCleanFrom n ds
clean_past n [] le = clean_drop n [] (All-nil (λ (p : Part). p.dirty ≡ false))
clean_past zero (d ∷ ds) le = absurd (omega (arith, le))
clean_past (suc n) (d ∷ ds) le = clean_past n ds (omega (arith, le))

-- ---- directories of one pair

-- where none begins at the pair, nothing changes
none_changed : (k : Pair) (f : Directory → Directory) (n : ℕ) (ds : List Directory) → count_by (begins_at k) (drop n ds) ≡ 0
    → drop n (in_directory k f ds) ≡ drop n ds
none_changed k f n ds none =
    drop-map (λ d. if begins_at k d then f d else d) n ds ∙ where_none (begins_at k) f (drop n ds) (none_counted (begins_at k) (drop n ds) none)

pub clean_changed : (k : Pair) (f : Directory → Directory) (n : ℕ) (ds : List Directory) → count_by (begins_at k) (drop n ds) ≡ 0
    → IsCleanFrom n ds → IsCleanFrom n (in_directory k f ds)
clean_changed k f n ds none clean =
    subst (λ (l : List Directory). All (λ p. p.dirty ≡ false) (thread l)) (sym (none_changed k f n ds none)) clean

one_later : (n : ℕ) (ds : List Directory) → IsCleanFrom n ds → IsCleanFrom (suc n) ds
one_later zero ds clean = clean_drop 1 ds clean
one_later (suc n) [] clean = All-nil (λ (p : Part). p.dirty ≡ false)
one_later (suc n) (d ∷ ds) clean = one_later n ds clean

pub clean_added : (k : Pair) (new : Directory) (n : ℕ) (ds : List Directory) → count_by (begins_at k) (drop n ds) ≡ 0
    → IsCleanFrom n ds → IsCleanFrom (suc n) (add_after k new ds)
unfolding add_after
clean_added k new zero ds none clean =
    subst (IsCleanFrom 1) (added_nowhere k new ds (none_counted (begins_at k) ds none)) (one_later 0 ds clean)
clean_added k new (suc n) [] none clean = All-nil (λ (p : Part). p.dirty ≡ false)
clean_added k new (suc n) (d ∷ ds) none clean = by (begins_at k d) (clean_added k new n ds none clean)
  where
    by : (t : Bool) → IsCleanFrom (suc n) (add_after k new ds)
        → IsCleanFrom (suc (suc n)) (if t then touch_last d ∷ new ∷ ds else d ∷ add_after k new ds)
    by true later = clean
    by false later = later

pub clean_touched : (n : ℕ) (ds : List Directory) → All (λ p. p.dirty ≡ false) (thread ds) → IsCleanFrom (suc n) (touch_first ds)
clean_touched n [] all = All-nil (λ (p : Part). p.dirty ≡ false)
clean_touched n (d ∷ ds) all = clean_drop n ds (clean_behind d ds all)

-- ---- where the directory is among those in front

-- none of the directories behind so many is that of a parent
abbrev pub IsBefore : Option (Pair × Name) → ℕ → List Directory → Type 0
IsBefore h n ds = (k : Pair) (m : Name) → h ≡ Some (k, m) → count_by (begins_at k) (drop n ds) ≡ 0

pub clean_made : (o : Volume) (pair : Pair) (h : Option (Pair × Name)) (n : ℕ) → IsBefore h n o.directories → IsClean o
    → IsCleanFrom (suc n) (make_directory o pair h).directories
clean_made o pair None n none clean = clean_drop (suc n) o.directories clean
clean_made o pair (Some h) n none clean =
    clean_added h.0 (empty_directory pair) n (link h.0 e o.directories)
    (ap (count_by (begins_at h.0)) (none_changed h.0 (link_in e) n o.directories (none h.0 h.1 refl)) ∙ none h.0 h.1 refl)
    (clean_changed h.0 (link_in e) n o.directories (none h.0 h.1 refl) (clean_drop n o.directories clean))
  where
    e : Entry
    e = new_entry h.1 (Directory_at pair)

pub clean_put : (o : Volume) (body : Body) (h : Option (Pair × Name)) (old : Option Entry) (n : ℕ) → IsBefore h n o.directories → IsClean o
    → IsCleanFrom (suc n) (put_file o body h old).directories
clean_put o body None old n none clean = clean_drop (suc n) o.directories clean
clean_put o body (Some h) None n none clean =
    one_later n (link h.0 (new_entry h.1 body) o.directories)
    (clean_changed h.0 (link_in (new_entry h.1 body)) n o.directories (none h.0 h.1 refl) (clean_drop n o.directories clean))
clean_put o body (Some h) (Some e) n none clean =
    one_later n (in_directory h.0 (change_in h.1 (with_body body)) o.directories)
    (clean_changed h.0 (change_in h.1 (with_body body)) n o.directories (none h.0 h.1 refl) (clean_drop n o.directories clean))

pub clean_set : (o : Volume) (f : Attributes → Attributes) (h : Option (Pair × Name)) (n : ℕ) → IsBefore h n o.directories → IsClean o
    → IsCleanFrom (suc n) (set_attributes o f h).directories
clean_set o f None n none clean = clean_touched n o.directories clean
clean_set o f (Some h) n none clean =
    one_later n (in_directory h.0 (change_in h.1 (with_entry_attributes f)) o.directories)
    (clean_changed h.0 (change_in h.1 (with_entry_attributes f)) n o.directories (none h.0 h.1 refl) (clean_drop n o.directories clean))

-- ---- where any may be set

same_length : (k : Pair) (f : Directory → Directory) (ds : List Directory) → length (in_directory k f ds) ≡ length ds
same_length k f ds = length-map ds (λ (d : Directory). if begins_at k d then f d else d)

taken_shorter : (k : Pair) (d : Directory) (ds : List Directory) → length (take_out k d ds) ≤ suc (length ds)
unfolding take_out
taken_shorter k d [] = omega arith
taken_shorter k d (e ∷ ds) = by (begins_at k e) (taken_shorter k e ds)
  where
    by : (t : Bool) → length (take_out k e ds) ≤ suc (length ds)
        → length (if t then absorb d e ∷ ds else d ∷ take_out k e ds) ≤ suc (suc (length ds))
    by true later = omega arith
    by false later = omega (arith, later)

dropped_shorter : (k : Pair) (ds : List Directory) → length (drop_directory k ds) ≤ length ds
dropped_shorter k [] = omega arith
dropped_shorter k (d ∷ ds) = taken_shorter k d ds

target_shorter : (j : Option Pair) (ds : List Directory) → length (drop_target j ds) ≤ length ds
target_shorter None ds = omega arith
target_shorter (Some k) ds = dropped_shorter k ds

pub clean_removed : (o : Volume) (h : Option (Pair × Name)) (e : Option Entry) → IsCleanFrom (length o.directories) (remove_entry o h e).directories
clean_removed o None e = clean_past (length o.directories) o.directories (omega arith)
clean_removed o (Some h) None = clean_past (length o.directories) o.directories (omega arith)
clean_removed o (Some h) (Some e) =
    clean_past (length o.directories) (drop_target (target e) (unlink h.0 h.1 o.directories))
    (omega (arith, target_shorter (target e) (unlink h.0 h.1 o.directories), same_length h.0 (unlink_in h.1) o.directories))

pub clean_moved : (o : Volume) (h g : Option (Pair × Name)) (e : Option Entry) → IsCleanFrom (length o.directories) (move_entry o h g e).directories
clean_moved o None g e = clean_past (length o.directories) o.directories (omega arith)
clean_moved o (Some h) None e = clean_past (length o.directories) o.directories (omega arith)
clean_moved o (Some h) (Some g) None = clean_past (length o.directories) o.directories (omega arith)
clean_moved o (Some h) (Some g) (Some e) =
    clean_past (length o.directories) (link g.0 (renamed g.1 e) (unlink h.0 h.1 o.directories))
    (omega (
      arith,
      same_length g.0 (link_in (renamed g.1 e)) (unlink h.0 h.1 o.directories),
      same_length h.0 (unlink_in h.1) o.directories,
    ))

touched_length : (ds : List Directory) → length (touch_first ds) ≡ length ds
touched_length [] = refl
touched_length (d ∷ ds) = refl

pub clean_grown : (ds : List Directory) → IsCleanFrom (length ds) (touch_first ds)
clean_grown ds = clean_past (length ds) (touch_first ds) (omega (arith, touched_length ds))

-- ---- what a place says

-- behind the one directory that begins at a pair there is none
pub none_past : (k : Pair) (ds : List Directory) (i : ℕ) (d : Directory) → i < length ds → begins_at k (slice_index_or ds i d) ≡ true
    → count_by (begins_at k) ds ≤ 1 → count_by (begins_at k) (drop (suc i) ds) ≡ 0
none_past k [] i d within begins once = absurd (omega (arith, within))
none_past k (e ∷ ds) zero d within begins once = grind (arith, count_cases (begins_at k) e ds)
none_past k (e ∷ ds) (suc i) d within begins once =
    none_past k ds i d (omega (arith, within)) begins (grind (arith, count_cases (begins_at k) e ds))

same_parent : (k : Pair) (m : Name) (j : Pair) (n : Name) → ◌≡◌ {A = Option (Pair × Name)} (Some (k, m)) (Some (j, n)) → k ≡ j
same_parent k m j n same = ap (λ (h : Option (Pair × Name)). parent_pair k h) same
  where
    parent_pair : Pair → Option (Pair × Name) → Pair
    parent_pair x None = x
    parent_pair x (Some h) = h.0

one_more : (n : ℕ) → suc n ≡ n + 1
one_more n = omega arith

none_counts : {X : Type 0} (t : X → Bool) (xs : List X) → find t xs ≡ None → count_by t xs ≡ 0
none_counts t [] none = refl
none_counts t (x ∷ xs) none = grind (arith, count_cases t x xs, none_counts t xs, none)

none_behind : (k : Pair) (n : ℕ) (ds : List Directory) → count_by (begins_at k) ds ≡ 0 → count_by (begins_at k) (drop n ds) ≡ 0
none_behind k n ds none = omega (arith, none, sum_by-take-drop (λ d. if begins_at k d then 1 else 0) ds n)

-- ---- how many are in front

pub front_at : (o : Volume) (p : Path) (k : Pair) (m : Name) (at : ℕ) → parent_of o p ≡ Some (k, m)
    → position (begins_at k) o.directories ≡ Some at → BeginOnce o.directories → IsFrontOf o p (at + 2)
front_at o p k m at parent found once =
    let here = position-Some (begins_at k) o.directories at (empty_directory k) found in
    let later : at + 1 ≡ suc at = omega arith in
    let none : count_by (begins_at k) (drop (at + 1) o.directories) ≡ 0 = ap (λ (n : ℕ). count_by (begins_at k) (drop n o.directories)) later
    ∙ none_past k o.directories at (empty_directory k) here.0 here.1 (once k) in
    record {
      before = at + 1;
      one = omega arith;
      is = omega arith;
      none = λ j n other. subst (λ (x : Pair). count_by (begins_at x) (drop (at + 1) o.directories) ≡ 0) (same_parent k m j n (sym parent ∙ other)) none;
    }

pub front_nowhere : (o : Volume) (p : Path) (k : Pair) (m : Name) → parent_of o p ≡ Some (k, m) → position (begins_at k) o.directories ≡ None
    → IsFrontOf o p 2
front_nowhere o p k m parent nothing = record {
  before = 1;
  one = omega arith;
  is = refl;
  none = λ j n other. subst (λ (x : Pair). count_by (begins_at x) (drop 1 o.directories) ≡ 0) (same_parent k m j n (sym parent ∙ other))
      (none_behind k 1 o.directories (none_counts (begins_at k) o.directories (nowhere (begins_at k) o.directories nothing)));
}

pub front_without : (o : Volume) (p : Path) → parent_of o p ≡ None → IsFrontOf o p 2
front_without o p none = record {
  before = 1;
  one = omega arith;
  is = refl;
  none = λ k m there. absurd (none-some (k, m) (sym none ∙ there));
}

-- ---- the commands

pub make_front : (o : Volume) (p : Path) (n : ℕ) (s : Supplies) → IsFrontOf o p n → IsClean o
    → IsCleanFrom n (edited_outline o (Mkdir p) s).directories
make_front o p n s front clean =
    subst (λ (k : ℕ). IsCleanFrom k (edited_outline o (Mkdir p) s).directories) (one_more front.before ∙ sym front.is)
    (clean_made o s.pair (parent_of o p) front.before front.none clean)

pub put_front : (o : Volume) (p : Path) (bytes : List ℕ) (most : ℕ) (n : ℕ) (s : Supplies) → IsFrontOf o p n → IsClean o
    → IsCleanFrom n (edited_outline o (Put p bytes most) s).directories
put_front o p bytes most n s front clean =
    subst (λ (k : ℕ). IsCleanFrom k (edited_outline o (Put p bytes most) s).directories) (one_more front.before ∙ sym front.is)
    (clean_put o (outlined_body (new_body o s bytes most)) (parent_of o p) (entry_at o p) front.before front.none clean)

pub set_front : (o : Volume) (p : Path) (kind : ℕ) (value : List ℕ) (n : ℕ) (s : Supplies) → IsFrontOf o p n → IsClean o
    → IsCleanFrom n (edited_outline o (SetAttr p kind value) s).directories
set_front o p kind value n s front clean =
    subst (λ (k : ℕ). IsCleanFrom k (edited_outline o (SetAttr p kind value) s).directories) (one_more front.before ∙ sym front.is)
    (clean_set o (set_attribute kind value) (parent_of o p) front.before front.none clean)

pub unset_front : (o : Volume) (p : Path) (kind n : ℕ) (s : Supplies) → IsFrontOf o p n → IsClean o
    → IsCleanFrom n (edited_outline o (RmAttr p kind) s).directories
unset_front o p kind n s front clean =
    subst (λ (k : ℕ). IsCleanFrom k (edited_outline o (RmAttr p kind) s).directories) (one_more front.before ∙ sym front.is)
    (clean_set o (remove_attribute kind) (parent_of o p) front.before front.none clean)

-- what is about one path, and not removed or moved
pub one_front : (o : Volume) (command : OnNames) (n : ℕ) → ((path : Vec (Bor Name)) → command ≡ case.Rm path → ⊥)
    → ((from to : Vec (Bor Name)) → command ≡ case.Mv from to → ⊥) → ((count : ℕ) → command ≡ case.Grow count → ⊥)
    → IsFrontOf o (path_of (named_command command)) n → (s : Supplies) → IsClean o
    → IsCleanFrom n (edited_outline o (named_command command) s).directories
one_front o (case.Mkdir path) n rm mv grow front s clean = make_front o (map (λ n. n.now) path.items) n s front clean
one_front o (case.Put path bytes most) n rm mv grow front s clean = put_front o (map (λ n. n.now) path.items) bytes.now most n s front clean
one_front o (case.Rm path) n rm mv grow front s clean = absurd (rm path refl)
one_front o (case.Mv from to) n rm mv grow front s clean = absurd (mv from to refl)
one_front o (case.SetAttr path kind value) n rm mv grow front s clean =
    set_front o (map (λ n. n.now) path.items) kind value.now n s front clean
one_front o (case.RmAttr path kind) n rm mv grow front s clean = unset_front o (map (λ n. n.now) path.items) kind n s front clean
one_front o (case.Grow count) n rm mv grow front s clean = absurd (grow count refl)

-- what may set any
pub any_front : (o : Volume) (command : OnNames) (n : ℕ) → n ≡ length o.directories
    → ((path : Vec (Bor Name)) × (command ≡ case.Rm path)) ⊎ (((from : Vec (Bor Name)) × (to : Vec (Bor Name)) × (command ≡ case.Mv from to))
    ⊎ ((count : ℕ) × (command ≡ case.Grow count)))
    → (s : Supplies) → IsCleanFrom n (edited_outline o (named_command command) s).directories
any_front o command n many (inl (path, is)) s =
    subst (λ (x : OnNames). IsCleanFrom n (edited_outline o (named_command x) s).directories) (sym is)
    (subst (λ (k : ℕ). IsCleanFrom k (edited_outline o (named_command (case.Rm path)) s).directories) (sym many)
    (clean_removed o (parent_of o (map (λ n. n.now) path.items)) (entry_at o (map (λ n. n.now) path.items))))
any_front o command n many (inr (inl (from, to, is))) s =
    subst (λ (x : OnNames). IsCleanFrom n (edited_outline o (named_command x) s).directories) (sym is)
    (subst (λ (k : ℕ). IsCleanFrom k (edited_outline o (named_command (case.Mv from to)) s).directories) (sym many)
    (clean_moved o (parent_of o (map (λ n. n.now) from.items)) (parent_of o (map (λ n. n.now) to.items)) (entry_at o (map (λ n. n.now) from.items))))
any_front o command n many (inr (inr (count, is))) s =
    subst (λ (x : OnNames). IsCleanFrom n (edited_outline o (named_command x) s).directories) (sym is)
    (subst (λ (k : ℕ). IsCleanFrom k (edited_outline o (named_command (case.Grow count)) s).directories) (sym many) (clean_grown o.directories))
