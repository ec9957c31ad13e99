-- What an outline that can be edited keeps to.
use Rattle.std.proofs.Common.{◌≡◌, ◌≤◌, ◌<◌, ◌&&◌, ◌||◌, ℕ, Bool, true, false, List, [], ◌∷◌, length, refl, ap, sym, ◌∙◌, arith, true≢false}
use Rattle.std.proofs.Common.{Option, Some, None}
use Rattle.std.specs.Prelude.{count_by, cond, if◌then◌else◌, nat_lt, is_none}
use Rattle.std.specs.Option.{option_and_then, option_map, unwrap_or}
use Rattle.std.proofs.lemmas.Option.{same_Some}
use Rattle.std.proofs.lemmas.Bool.Decides.{nat_tests}
use Rattle.std.proofs.lemmas.List.Elements.{All-weaker}
use Rattle.std.proofs.lemmas.List.Sums.{sum_by-cons}
use Rattle.lfs_meta.specs.Name.{Name}
use Rattle.lfs_meta.specs.Body.{Pair}
use Rattle.lfs_fs.specs.Entry.{Entry, is_named}
use Rattle.lfs_fs.specs.Directory.{Directory, begins_at, entries}
use Rattle.lfs_fs.specs.NameOrder.{NamesAreOrdered}
use Rattle.lfs_fs.specs.Pair.{root}
use Rattle.lfs_fs.specs.Path.{Path}
use Rattle.lfs_fs.specs.Sound.{IsSound, Rise}
use Rattle.lfs_fs.specs.Tree.{entry_in, entry_at, node, tree}
use Rattle.lfs_fs.specs.Volume.{Volume}
use Rattle.lfs_command.specs.declared.refusal.Refusal.TheVariants.{IsADirectory, IsRoot, NameTooLong, NotFound}
use Rattle.lfs_command.specs.Command.{Mv, Put}
use Rattle.lfs_draft.specs.Editable.{BeginOnce, NamedOnce, IsEditable}
use Rattle.lfs_command.specs.Parent.{parent_of}
use Rattle.lfs_law.specs.PairWalk.{pair_at, directory_name}
use Rattle.lfs_command.specs.ThreadEdit.{in_directory}
use Rattle.lfs_command.specs.Verdict.{is_directory, is_root, last_length, refuse_if, walk_refusal}
use Rattle.lfs_law.proofs.DirectoryEdits.{begins_there}
use Rattle.lfs_law.proofs.EntriesThere.{stands_at_parent}
use Rattle.lfs_law.proofs.Parents.{Splits, first_passes, path_splits, test_passes}
use Rattle.lfs_law.proofs.InDirectory.{KeepsAllFirst}
use Rattle.lfs_law.proofs.Marks.{named_once}
use Rattle.lfs_law.proofs.OnePath.{entry_found, found_name, one_directory}
use Rattle.lfs_law.proofs.PairWalks.{walks_go_by_pairs}
use Rattle.lfs_law.proofs.Placed.{proper_entry}

pub begin_once : (o : Volume) → IsSound o → BeginOnce o.directories
begin_once o sound k = one_directory o sound k

pub each_named_once : (o : Volume) → NamesAreOrdered → IsSound o → NamedOnce o.directories
each_named_once o ordered sound n =
    All-weaker (λ (d : Directory). Rise (entries d)) (λ (d : Directory). count_by (is_named n) (entries d) ≤ 1)
    (λ d rise. named_once n (entries d) ordered rise) o.directories sound.order

-- ---- edits that keep the first pair

count_in : (j k : Pair) (f : Directory → Directory) (d : Directory) (b : Bool) → KeepsAllFirst f
    → cond {A = ℕ} (begins_at j (if b then f d else d)) 1 0 ≡ cond {A = ℕ} (begins_at j d) 1 0
count_in j k f d true keeps = ap (λ (b : Bool). cond {A = ℕ} b 1 0) (begins_there j d (f d) (keeps d).first)
count_in j k f d false keeps = refl

pub begins_kept : (j k : Pair) (f : Directory → Directory) (ds : List Directory) → KeepsAllFirst f
    → count_by (begins_at j) (in_directory k f ds) ≡ count_by (begins_at j) ds
begins_kept j k f [] keeps = refl
begins_kept j k f (d ∷ ds) keeps =
    let g : Directory → ℕ = λ e. cond {A = ℕ} (begins_at j e) 1 0 in
    let changed : Directory = if begins_at k d then f d else d in
    omega (
      arith,
      sum_by-cons g changed (in_directory k f ds),
      sum_by-cons g d ds,
      count_in j k f d (begins_at k d) keeps,
      begins_kept j k f ds keeps,
    )

-- ---- parents

-- the name of a parent is the last one
parent_by : (n : Name) (k : Option Pair) (h : Pair × Name) → option_map {U = Pair × Name} (λ (j : Pair). (j, n)) k ≡ Some h → n ≡ h.1
parent_by n None h is = cc
parent_by n (Some k) h is = ap (λ (x : Pair × Name). x.1) (same_Some (k, n) h is)

parent_at : (v : Volume) (p : Path) (h : Pair × Name) (s : Splits p) → parent_of v p ≡ Some h → last_length p ≡ length h.1
parent_at v p h s is =
    ap (λ (x : Option (Path × Name)). unwrap_or (option_map (λ (s : Path × Name). length s.1) x) 0) s.split
    ∙ ap length (parent_by s.name (pair_at v.directories root s.front) h
    (ap (option_and_then (directory_name v.directories)) (sym s.split) ∙ sym ((walks_go_by_pairs v).parent p) ∙ is))

pub last_parent : (v : Volume) (p : Path) (h : Pair × Name) → parent_of v p ≡ Some h → last_length p ≡ length h.1
last_parent v [] h is = cc
last_parent v (n ∷ ns) h is = parent_at v (n ∷ ns) h (path_splits (n ∷ ns) refl) is

-- ---- what the checks leave

-- what stands under a name has a name within the limits
entry_short : (o : Volume) → IsSound o → (k : Pair) (n : Name) (e : Entry) → entry_in o.directories k n ≡ Some e → length n ≤ o.limits.name
entry_short o sound k n e is =
    let found = entry_found o.directories k n e is in
    let proper = proper_entry o sound k n e is in
    let same : length n ≡ length e.name = ap length (found_name (entries found.0) n e found.2) in
    omega (arith, same, proper.name_fits)

-- a file's name is within the limits: it is there, or was checked
pub put_short : (o : Volume) (p : Path) (bytes : List ℕ) (most : ℕ) (h : Pair × Name) → IsEditable o (Put p bytes most) → parent_of o p ≡ Some h
    → length h.1 < 1023
put_short o p bytes most h editable is = by (entry_at o p) refl
  where
    passed : (is_none (tree o p) && nat_lt o.limits.name (last_length p)) ≡ false
    passed =
        let one = first_passes (refuse_if (is_root p) IsRoot) _ editable.unrefused in
        let two = first_passes (walk_refusal (tree o) [] p) _ one.1 in
        let three = first_passes (refuse_if (is_directory (tree o p)) IsADirectory) _ two.1 in
        let four = first_passes (refuse_if (is_none (tree o p) && nat_lt o.limits.name (last_length p)) NameTooLong) _ three.1 in
        test_passes (is_none (tree o p) && nat_lt o.limits.name (last_length p)) NameTooLong four.0

    by : (e : Option Entry) → entry_at o p ≡ e → length h.1 < 1023
    by None none =
        let long : nat_lt o.limits.name (last_length p) ≡ false = ap (λ (x : Option Entry).
        is_none (option_map node x) && nat_lt o.limits.name (last_length p)) (sym none) ∙ passed in
        let limit = editable.limits.name.1 in
        let len = last_parent o p h is in
        grind (arith, nat_tests)
    by (Some e) some =
        omega (arith, entry_short o editable.sound h.0 h.1 e (sym (stands_at_parent o p h.0 h.1 is) ∙ some), editable.limits.name.1)

-- what is moved is there
pub moved_there : (o : Volume) (p q : Path) (h : Pair × Name) → IsEditable o (Mv p q) → parent_of o p ≡ Some h
    → (e : Entry) × (entry_in o.directories h.0 h.1 ≡ Some e)
moved_there o p q h editable is = by (entry_at o p) refl
  where
    passed : is_none (tree o p) ≡ false
    passed =
        let one = first_passes (refuse_if (is_root p || is_root q) IsRoot) _ editable.unrefused in
        let two = first_passes (walk_refusal (tree o) [] p) _ one.1 in
        test_passes (is_none (tree o p)) NotFound (first_passes (refuse_if (is_none (tree o p)) NotFound) _ two.1).0

    by : (e : Option Entry) → entry_at o p ≡ e → (e : Entry) × (entry_in o.directories h.0 h.1 ≡ Some e)
    by None none = absurd (true≢false (ap (λ (x : Option Entry). is_none (option_map node x)) (sym none) ∙ passed))
    by (Some e) some = (e, sym (stands_at_parent o p h.0 h.1 is) ∙ some)
