-- Nothing differs between two mounted images where their trees are the same, and only there.
use Rattle.std.proofs.Common.{◌≡◌, ℕ, List, [], ◌∷◌, Option, Some, None, map, true, refl, ap, sym, subst, ◌∙◌}
use Rattle.std.specs.Option.{option_map}
use Rattle.std.specs.List.{Contains}
use Rattle.std.proofs.lemmas.List.Elements.{All-contains_itself, All-map, All-weaker}
use Rattle.std.proofs.lemmas.Option.{none-some, same_Some}
use Rattle.lfs_block.specs.Disk.{Disk, IsDisk}
use Rattle.lfs_meta.specs.Attribute.{Attributes}
use Rattle.lfs_fs.specs.Entry.{Inline, Directory_at, Entry}
use Rattle.lfs_fs.specs.Mounted.{MountedValue, IsMountOf}
use Rattle.lfs_fs.specs.Mounts.{Mounts, TreesAreOne}
use Rattle.lfs_fs.specs.Outlined.{outlined_entry}
use Rattle.lfs_fs.specs.Pair.{root}
use Rattle.lfs_fs.specs.Path.{Path}
use Rattle.lfs_fs.specs.Row.{AreRows, PathsAreOrdered, Row, RowsAreUnique, RowsRise, path_precedes}
use Rattle.lfs_fs.specs.RowShown.{RowsShowTheTree, shown_node}
use Rattle.lfs_fs.specs.Tree.{Node, File, Dir, entry_at, node, tree}
use Rattle.lfs_fs.specs.Volume.{Volume}
use Rattle.lfs_fs.proofs.ContainsLemmas.{contains_mapped}
use Rattle.lfs_fs.proofs.OutlinedLemmas.{outlined_at}
use Rattle.lfs_listing.specs.Trees.{DifferencesAreEmptyOfEqualTrees}
use Rattle.lfs_listing.proofs.SameRows.{AreSameRows, none_differ_same, same_differ_none, same_there, turned}

-- ---- what a tree has is what a row shows

-- a row of a mount at a path that shows a node
abbrev Shows : Disk → List Row → Path → Node → Type 0
Shows d rows p n = (e : Entry) × Contains rows (record { path = p; entry = e }) × (n ≡ shown_node d e)

entry_of : (o : Option Entry) (n : Node) → option_map node o ≡ Some n → (x : Entry) × (o ≡ Some x)
entry_of None n is = absurd (none-some n is)
entry_of (Some x) n is = (x, refl)

shows_there : RowsShowTheTree → (d : Disk) (m : MountedValue) (is : IsMountOf d m) → IsDisk d → (p : Path) (n : Node)
    → tree is.volume p ≡ Some n → Shows d m.rows p n
shows_there shows d m is disk p n there =
    let x = entry_of (entry_at is.volume p) n there in
    let outline : entry_at m.outline p ≡ Some (outlined_entry x.0) =
    ap (λ (v : Volume). entry_at v p) is.outline ∙ outlined_at is.volume p ∙ ap (λ (o : Option Entry). option_map outlined_entry o) x.1 in
    let row = is.rows.complete p (outlined_entry x.0) outline in
    let shown = shows d m is (record { path = p; entry = outlined_entry x.0 }) disk row in
    (outlined_entry x.0, row, same_Some n (shown_node d (outlined_entry x.0)) (sym there ∙ shown.0))

-- ---- from the same rows to the same trees

one_way : RowsShowTheTree → (d e : Disk) (m k : MountedValue) (is : IsMountOf d m) (are : IsMountOf e k) → IsDisk d → IsDisk e
    → AreSameRows d m.rows e k.rows → (p : Path) (n : Node) → tree is.volume p ≡ Some n → tree are.volume p ≡ Some n
one_way shows d e m k is are disk second same p n there =
    let row = shows_there shows d m is disk p n there in
    let other = same_there d e m.rows k.rows (record { path = p; entry = row.0 }) same row.1 in
    let shown = shows e k are other.0 second other.1 in
    ap (λ (q : Path). tree are.volume q) other.2.path ∙ shown.0 ∙ ap Some (sym other.2.shown ∙ sym row.2)

same_options : (o u : Option Node) → ((n : Node) → o ≡ Some n → u ≡ Some n) → ((n : Node) → u ≡ Some n → o ≡ Some n) → o ≡ u
same_options None None there back = refl
same_options (Some n) u there back = sym (there n refl)
same_options None (Some n) there back = back n refl

trees_same : RowsShowTheTree → (d e : Disk) (m k : MountedValue) (is : IsMountOf d m) (are : IsMountOf e k) → IsDisk d → IsDisk e
    → AreSameRows d m.rows e k.rows → (p : Path) → tree is.volume p ≡ tree are.volume p
trees_same shows d e m k is are disk second same p = same_options (tree is.volume p) (tree are.volume p)
    (one_way shows d e m k is are disk second same p)
    (one_way shows e d k m are is second disk (turned d e m.rows k.rows same) p)

-- ---- from the same trees to the same rows

-- an entry that shows a node wherever it stands
plain : Node → Entry
plain (File bytes a) = record { name = []; body = Inline bytes; attributes = a }
plain (Dir a) = record { name = []; body = Directory_at root; attributes = a }

plain_once : (n k : Node) → plain n ≡ plain k → n ≡ k
unfolding plain
plain_once (File x a) (File y b) same =
    let bodies : Inline x ≡ Inline y = ap (λ (e : Entry). e.body) same in
    let attributes : a ≡ b = ap (λ (e : Entry). e.attributes) same in
    let bytes : x ≡ y = cc in
    ap (λ (z : List ℕ). File z a) bytes ∙ ap (λ (c : Attributes). File y c) attributes
plain_once (Dir a) (Dir b) same = ap (λ (e : Entry). Dir e.attributes) same
plain_once (File x a) (Dir b) same = let bodies : Inline x ≡ Directory_at root = ap (λ (e : Entry). e.body) same in cc
plain_once (Dir a) (File y b) same = let bodies : Directory_at root ≡ Inline y = ap (λ (e : Entry). e.body) same in cc

-- a row that shows what another shows on a disk
plain_row : Disk → Row → Row
plain_row d r = record { path = r.path; entry = plain (shown_node d r.entry) }

plain_rise : (d : Disk) (rows : List Row) → RowsRise rows → RowsRise (map (plain_row d) rows)
unfolding plain_row
plain_rise d [] rise = tt
plain_rise d (r ∷ rows) rise =
    (All-map (λ (s : Row). path_precedes r.path s.path ≡ true) (plain_row d) rows rise.0, plain_rise d rows rise.1)

node_of_plain : (o : Option Node) (e : Entry) → option_map plain o ≡ Some e → (n : Node) × (o ≡ Some n) × (plain n ≡ e)
node_of_plain None e is = absurd (none-some e is)
node_of_plain (Some n) e is = (n, refl, same_Some (plain n) e is)

plain_rows : RowsShowTheTree → (d : Disk) (m : MountedValue) (is : IsMountOf d m) → IsDisk d → (t : Path → Option Node)
    → ((p : Path) → t p ≡ tree is.volume p) → AreRows (λ p. option_map plain (t p)) (map (plain_row d) m.rows)
unfolding plain_row
plain_rows shows d m is disk t same = record {
  rise = plain_rise d m.rows is.rows.rise;
  right = All-map (λ (s : Row). option_map plain (t s.path) ≡ Some s.entry) (plain_row d) m.rows
      (All-weaker (Contains m.rows) (λ (r : Row). option_map plain (t r.path) ≡ Some (plain (shown_node d r.entry))) (λ r there.
      ap (λ (o : Option Node). option_map plain o) (same r.path ∙ (shows d m is r disk there).0))
      m.rows (All-contains_itself m.rows));
  complete = λ p e at.
      let n = node_of_plain (t p) e at in
      let row = shows_there shows d m is disk p n.0 (sym (same p) ∙ n.1) in
      let mapped = contains_mapped (plain_row d) m.rows (record { path = p; entry = row.0 }) row.1 in
      subst (λ (x : Entry). Contains (map (plain_row d) m.rows) (record { path = p; entry = x }))
      (ap plain (sym row.2) ∙ n.2) mapped;
}

cons_parts : (a b : Row) (left right : List Row) → a ∷ left ≡ b ∷ right → (a ≡ b) × (left ≡ right)
cons_parts a b left right same = (cc, cc)

cons_none : (a : Row) (left : List Row) → a ∷ left ≡ [] → ⊥
cons_none a left same = cc

none_cons : (a : Row) (left : List Row) → [] ≡ a ∷ left → ⊥
none_cons a left same = cc

rows_same : (d e : Disk) (left right : List Row) → map (plain_row d) left ≡ map (plain_row e) right → AreSameRows d left e right
unfolding plain_row
rows_same d e [] [] same = tt
rows_same d e [] (b ∷ right) same = none_cons (plain_row e b) (map (plain_row e) right) same
rows_same d e (a ∷ left) [] same = cons_none (plain_row d a) (map (plain_row d) left) same
rows_same d e (a ∷ left) (b ∷ right) same =
    let parts = cons_parts (plain_row d a) (plain_row e b) (map (plain_row d) left) (map (plain_row e) right) same in (
      record {
        path = ap (λ (r : Row). r.path) parts.0;
        shown = plain_once (shown_node d a.entry) (shown_node e b.entry) (ap (λ (r : Row). r.entry) parts.0);
      },
      rows_same d e left right parts.1,
    )

-- ---- the law

pub differences_show_trees : PathsAreOrdered → RowsAreUnique → RowsShowTheTree → TreesAreOne → DifferencesAreEmptyOfEqualTrees
differences_show_trees order unique shows one form d e m k t u disk second is are mounts others =
    let mine : Mounts d (tree is.volume) = (is.volume, is.holds, is.sound, λ p. refl) in
    let yours : Mounts e (tree are.volume) = (are.volume, are.holds, are.sound, λ p. refl) in
    let first : (p : Path) → t p ≡ tree is.volume p = one d t (tree is.volume) mounts mine in
    let last : (p : Path) → u p ≡ tree are.volume p = one e u (tree are.volume) others yours in (
      λ none p.
          first p ∙ trees_same shows d e m k is are disk second (none_differ_same order form d e m.rows k.rows none) p ∙ sym (last p),
      λ same.
          same_differ_none order form d e m.rows k.rows (rows_same d e m.rows k.rows
          (unique (λ p. option_map plain (u p)) (map (plain_row d) m.rows) (map (plain_row e) k.rows)
          (plain_rows shows d m is disk u (λ p. sym (same p) ∙ first p)) (plain_rows shows e k are second u last))),
    )
