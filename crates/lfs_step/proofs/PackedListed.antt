-- What is listed of an image that was packed.
use Rattle.std.proofs.Common.{◌≡◌, ◌++◌, ℕ, Bool, true, false, List, [], ◌∷◌, Option, Some, None, All, map, length, refl, sym, ap, subst, ◌∙◌, arith, zero, suc, get_or}
use Rattle.std.specs.Prelude.{if◌then◌else◌, codes, flat_map, unwrap_or}
use Rattle.std.specs.Fmt.{decimal}
use Rattle.std.specs.Option.{option_map}
use Rattle.std.specs.List.{Contains}
use Rattle.std.proofs.lemmas.List.{length-replicate}
use Rattle.std.proofs.lemmas.List.Elements.{All-cons, All-head, All-map, All-nil, All-tail}
use Rattle.lfs_meta.specs.Attribute.{Attributes}
use Rattle.lfs_meta.specs.Name.{Name}
use Rattle.lfs_command.specs.PathMap.{same_path}
use Rattle.lfs_law.proofs.PathMapLemmas.{same_path_decides}
use Rattle.lfs_edit.specs.Formatted.{disk_with}
use Rattle.lfs_fs.specs.Entry.{Body, Inline, Chain, Directory_at, Entry}
use Rattle.lfs_fs.specs.Mounts.{Mounts, TreesAreOne}
use Rattle.lfs_fs.specs.Outlined.{blank, outlined_entry}
use Rattle.lfs_fs.specs.Path.{Path, path_text}
use Rattle.lfs_fs.specs.Row.{AreRows, PathsAreOrdered, Row, RowsAreUnique, RowsRise, path_precedes}
use Rattle.lfs_fs.specs.Tree.{Node, File, Dir, entry_at, node, node_of, tree}
use Rattle.lfs_fs.specs.Volume.{Volume}
use Rattle.lfs_fs.proofs.ContainsLemmas.{contains_mapped}
use Rattle.lfs_fs.proofs.OutlinedLemmas.{outlined_at}
use Rattle.lfs_listing.specs.Listing.{attribute_line, in_ten_places, listing, row_lines, shown_byte}
use Rattle.lfs_pack.specs.Packed.{Packed, PackedRise, packed_at, packed_node}
use Rattle.lfs_step.specs.PackedListed.{PackedImagesListTheirRows, listed_body, listed_row}

-- ---- lines say no more of an entry than a tree shows

file_bytes : (c d : List ℕ) (a b : Attributes) → File c a ≡ File d b → c ≡ d
file_bytes c d a b same = cc

file_attributes : (c d : List ℕ) (a b : Attributes) → File c a ≡ File d b → a ≡ b
file_attributes c d a b same = cc

dir_attributes : (a b : Attributes) → Dir a ≡ Dir b → a ≡ b
dir_attributes a b same = cc

file_no_dir : (c : List ℕ) (a b : Attributes) → File c a ≡ Dir b → ⊥
file_no_dir c a b same = cc

dir_no_file : (c : List ℕ) (a b : Attributes) → Dir a ≡ File c b → ⊥
dir_no_file c a b same = cc

-- the lines of an entry of an outline, with no name
abbrev pub lines_of : Path → Body → Attributes → List ℕ
lines_of p body a = row_lines (record { path = p; entry = record { name = []; body = body; attributes = a } })

-- a chain is listed as the bytes that it has
chain_lines : (p : Path) (blocks bytes : List ℕ) (a : Attributes) → lines_of p (Chain blocks (blank (length bytes))) a ≡ lines_of p (Inline bytes) a
chain_lines p blocks bytes a =
    ap (λ (n : ℕ). (codes "f " ++ in_ten_places (decimal n) ++ codes " " ++ flat_map shown_byte (path_text p) ++ codes "\n")
    ++ flat_map attribute_line a) (length-replicate (length bytes) 0)

lines_by : (p : Path) (name : Name) (body : Body) (a b : Attributes) (bytes : Option (List ℕ)) → node_of body a ≡ packed_node bytes b
    → row_lines (record { path = p; entry = outlined_entry (record { name = name; body = body; attributes = a }) })
    ≡ lines_of p (listed_body bytes) b
lines_by p name (Inline c) a b (Some bytes) same =
    ap (λ (x : List ℕ). lines_of p (Inline x) a) (file_bytes c bytes a b same) ∙ ap (lines_of p (Inline bytes)) (file_attributes c bytes a b same)
lines_by p name (Chain blocks c) a b (Some bytes) same =
    chain_lines p blocks c a
    ∙ ap (λ (x : List ℕ). lines_of p (Inline x) a) (file_bytes c bytes a b same) ∙ ap (lines_of p (Inline bytes)) (file_attributes c bytes a b same)
lines_by p name (Directory_at pair) a b None same = ap (lines_of p (Directory_at pair)) (dir_attributes a b same)
lines_by p name (Inline c) a b None same = absurd (file_no_dir c a b same)
lines_by p name (Chain blocks c) a b None same = absurd (file_no_dir c a b same)
lines_by p name (Directory_at pair) a b (Some bytes) same = absurd (dir_no_file bytes a b same)

-- ---- what is there at the path of a row that is packed

if_so : {X : Type 0} (b : Bool) (x y : X) → b ≡ true → (if b then x else y) ≡ x
if_so {X} b x y is = ap (λ (c : Bool). if c then x else y) is

if_not : {X : Type 0} (b : Bool) (x y : X) → b ≡ false → (if b then x else y) ≡ y
if_not {X} b x y is = ap (λ (c : Bool). if c then x else y) is

-- a row of a path
abbrev IsOf : List Packed → Path → Type 0
IsOf rows p = (r : Packed) × Contains rows r × (r.path ≡ p)

-- it is one of more rows
one_more : (r : Packed) (rows : List Packed) (p : Path) → IsOf rows p → IsOf (r ∷ rows) p
one_more r rows p (s, (k, within, there), is) = (s, (suc k, omega (arith, within), there), is)

at_by : (r : Packed) (rows : List Packed) (p : Path) (n : Node) (b : Bool) → same_path r.path p ≡ b
    → (if b then Some (packed_node r.bytes r.attributes) else packed_at rows p) ≡ Some n → (packed_at rows p ≡ Some n → IsOf rows p)
    → IsOf (r ∷ rows) p
at_by r rows p n true same is later = (r, (zero, omega arith, refl), (same_path_decides r.path p).0 same)
at_by r rows p n false same is later = one_more r rows p (later is)

-- the map at a path is what some row says
at_some : (rows : List Packed) (p : Path) (n : Node) → packed_at rows p ≡ Some n → IsOf rows p
at_some [] p n is = absurd cc
at_some (r ∷ rows) p n is = at_by r rows p n (same_path r.path p) refl is (λ there. at_some rows p n there)

not_both : (p : Path) → path_precedes p p ≡ false → path_precedes p p ≡ true → ⊥
not_both p never before = cc

differ_by : (p q : Path) (b : Bool) → PathsAreOrdered → path_precedes p q ≡ true → same_path p q ≡ b → same_path p q ≡ false
differ_by p q false order before same = same
differ_by p q true order before same =
    absurd (not_both p (order.irreflexive p)
    (subst (λ (r : Path). path_precedes p r ≡ true) (sym ((same_path_decides p q).0 same)) before))

not_same : (p q : Path) → PathsAreOrdered → path_precedes p q ≡ true → same_path p q ≡ false
not_same p q order before = differ_by p q (same_path p q) order before refl

-- each row's own is at its path
own : PathsAreOrdered → (rows : List Packed) → PackedRise rows → All (λ r. packed_at rows r.path ≡ Some (packed_node r.bytes r.attributes)) rows
own order [] rise = All-nil (λ (r : Packed). packed_at [] r.path ≡ Some (packed_node r.bytes r.attributes))
own order (r ∷ rows) rise =
    All-cons (λ (s : Packed). packed_at (r ∷ rows) s.path ≡ Some (packed_node s.bytes s.attributes)) r rows
    (if_so (same_path r.path r.path) (Some (packed_node r.bytes r.attributes)) (packed_at rows r.path) ((same_path_decides r.path r.path).1 refl))
    (λ i d within.
    let s = get_or rows i d in
    if_not (same_path r.path s.path) (Some (packed_node r.bytes r.attributes)) (packed_at rows s.path)
    (not_same r.path s.path order (rise.0 i d within)) ∙ own order rows rise.1 i d within)

-- ---- rows of a mount

-- the row of an outline at a path
abbrev row_at : (Path → Option Entry) → Packed → Row
row_at at r = record { path = r.path; entry = unwrap_or (at r.path) (listed_row r).entry }

-- what an outline has at each path is what the rows say
abbrev Says : (Path → Option Entry) → (Path → Option Entry) → List Packed → Type 0
Says at complete rows =
    (p : Path) → (at p ≡ option_map outlined_entry (complete p)) × (option_map node (complete p) ≡ packed_at rows p)

-- an entry that is there, of which this is the outline
record IsThere (at complete : Path → Option Entry) (rows : List Packed) (r : Packed) : Type 0 where
  entry : Entry
  there : at r.path ≡ Some (outlined_entry entry)
  shows : node entry ≡ packed_node r.bytes r.attributes

entry_there : (at : Option Entry) (complete : Option Entry) (n : Node) → at ≡ option_map outlined_entry complete → option_map node complete ≡ Some n
    → (e : Entry) × (at ≡ Some (outlined_entry e)) × (node e ≡ n)
entry_there at None n is shows = absurd cc
entry_there at (Some e) n is shows = (e, is, ap (λ (o : Option Node). unwrap_or o n) shows)

is_there : (at complete : Path → Option Entry) (rows : List Packed) (r : Packed) → Says at complete rows
    → packed_at rows r.path ≡ Some (packed_node r.bytes r.attributes) → IsThere at complete rows r
is_there at complete rows r says is =
    let e = entry_there (at r.path) (complete r.path) (packed_node r.bytes r.attributes) (says r.path).0 ((says r.path).1 ∙ is) in
    record { entry = e.0; there = e.1; shows = e.2 }

rows_rise : (at : Path → Option Entry) (rows : List Packed) → PackedRise rows → RowsRise (map (row_at at) rows)
rows_rise at [] rise = tt
rows_rise at (r ∷ rows) rise =
    (All-map (λ (s : Row). path_precedes r.path s.path ≡ true) (row_at at) rows rise.0, rows_rise at rows rise.1)

-- the rows of the outline are those of what is packed
are_rows : PathsAreOrdered → (at complete : Path → Option Entry) (rows : List Packed) → PackedRise rows → Says at complete rows
    → AreRows at (map (row_at at) rows)
are_rows order at complete rows rise says = record {
  rise = rows_rise at rows rise;
  right = All-map (λ (s : Row). at s.path ≡ Some s.entry) (row_at at) rows (λ i d within.
      let r = get_or rows i d in
      let here = is_there at complete rows r says (own order rows rise i d within) in
      here.there ∙ ap (λ (o : Option Entry). Some (unwrap_or o (listed_row r).entry)) (sym here.there));
  complete = λ p e is.
      let there = shown_there p e is in
      let r = at_some rows p there.0 there.1 in
      let row : row_at at r.0 ≡ record { path = p; entry = e } =
      ap (λ (q : Path). record { path = q; entry = unwrap_or (at q) (listed_row r.0).entry }) r.2
      ∙ ap (λ (o : Option Entry). record { path = p; entry = unwrap_or o (listed_row r.0).entry }) is in
      subst (Contains (map (row_at at) rows)) row (contains_mapped (row_at at) rows r.0 r.1);
}
  where
    shown_by : (o : Option Entry) (e : Entry) → option_map outlined_entry o ≡ Some e → (n : Node) × (option_map node o ≡ Some n)
    shown_by None e is = absurd cc
    shown_by (Some x) e is = (node x, refl)

    shown_there : (p : Path) (e : Entry) → at p ≡ Some e → (n : Node) × (packed_at rows p ≡ Some n)
    shown_there p e is =
        let n = shown_by (complete p) e (sym (says p).0 ∙ is) in
        (n.0, sym (says p).1 ∙ n.1)

-- the lines of rows whose lines are the same, one by one
same_listing : (f g : Packed → Row) (rows : List Packed) → All (λ r. row_lines (f r) ≡ row_lines (g r)) rows
    → listing (map f rows) ≡ listing (map g rows)
same_listing f g [] same = refl
same_listing f g (r ∷ rows) same =
    ap (λ (l : List ℕ). l ++ listing (map f rows)) (All-head (λ (s : Packed). row_lines (f s) ≡ row_lines (g s)) r rows same)
    ∙ ap (λ (l : List ℕ). row_lines (g r) ++ l)
    (same_listing f g rows (All-tail (λ (s : Packed). row_lines (f s) ≡ row_lines (g s)) r rows same))

-- they are listed as what is packed
lists : PathsAreOrdered → (at complete : Path → Option Entry) (rows : List Packed) → PackedRise rows → Says at complete rows
    → listing (map (row_at at) rows) ≡ listing (map listed_row rows)
lists order at complete rows rise says = same_listing (row_at at) listed_row rows (λ i d within.
    let r = get_or rows i d in
    let here = is_there at complete rows r says (own order rows rise i d within) in
    ap (λ (o : Option Entry). row_lines (record { path = r.path; entry = unwrap_or o (listed_row r).entry })) here.there
    ∙ lines_by r.path here.entry.name here.entry.body here.entry.attributes r.attributes r.bytes here.shows)

pub packed_images_list_their_rows : PathsAreOrdered → RowsAreUnique → TreesAreOne → PackedImagesListTheirRows
packed_images_list_their_rows order unique one size count limits rows bytes m packable packed mount =
    let d = disk_with size count bytes in
    let at = entry_at m.outline in
    let complete = entry_at mount.volume in
    let mounted : Mounts d (tree mount.volume) = (mount.volume, mount.holds, mount.sound, λ p. refl) in
    let filled : Mounts d (tree packed.volume) = (packed.volume, packed.holds, packed.sound, λ p. refl) in
    let says : Says at complete rows = λ p. (
      ap (λ (v : Volume). entry_at v p) mount.outline ∙ outlined_at mount.volume p,
      one d (tree mount.volume) (tree packed.volume) mounted filled p ∙ packed.at p,
    ) in
    let are = are_rows order at complete rows packable.rise says in
    ap listing (unique at m.rows (map (row_at at) rows) mount.rows are) ∙ lists order at complete rows packable.rise says
