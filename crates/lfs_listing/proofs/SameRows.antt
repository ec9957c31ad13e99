-- Nothing differs between rows that show the same, one by one, and between no others.
use Rattle.std.proofs.Common.{◌≡◌, ◌≢◌, ◌⊎◌, ℕ, zero, suc, Bool, true, false, List, [], ◌∷◌, ◌++◌, length, refl, ap, sym, subst, ◌∙◌, append-nil, arith, length-append, inl, inr}
use Rattle.std.specs.Bool.{Decides}
use Rattle.std.specs.Cmp.Lexicographic.{pointwise}
use Rattle.std.specs.Prelude.{bytes_eq, codes, flat_map, if◌then◌else◌}
use Rattle.std.specs.List.{Contains}
use Rattle.std.proofs.lemmas.List.{nil_from_length}
use Rattle.std.proofs.lemmas.Slice.Eq.{bytes_eq-Decides, slice_eq-Decides}
use Rattle.lfs_block.specs.Disk.{Disk}
use Rattle.lfs_fs.specs.Path.{Path}
use Rattle.lfs_fs.specs.Row.{PathsAreOrdered, Row, path_precedes}
use Rattle.lfs_fs.specs.RowShown.{shown_node}
use Rattle.lfs_json.specs.declared.form.Form.{Form}
use Rattle.lfs_json.specs.declared.form.Form.TheVariants.{Text, Json}
use Rattle.lfs_listing.specs.Difference.{added, are_alike, changed_text, difference, difference_at, removed, rewritten, shows_same}
use Rattle.lfs_json.specs.Line.{line_of, spelling}
use Rattle.lfs_json.specs.Object.{Member, object_of}
use Rattle.lfs_json.specs.Rows.{change_member, entry_members, row_members}
use Rattle.lfs_listing.specs.Listing.{attribute_line, entry_line}
use Rattle.lfs_listing.proofs.SameNodes.{same_node_decides}

-- two rows show the same at the same path
pub record IsSameRow (d e : Disk) (a b : Row) : Type 0 where
  pub path : a.path ≡ b.path
  pub shown : shown_node d a.entry ≡ shown_node e b.entry

-- the rows of two disks do, one by one
abbrev pub AreSameRows : Disk → List Row → Disk → List Row → Type 0
AreSameRows d [] e [] = Unit {0}
AreSameRows d (a ∷ left) e (b ∷ right) = IsSameRow d e a b × AreSameRows d left e right
AreSameRows d [] e (b ∷ right) = ⊥
AreSameRows d (a ∷ left) e [] = ⊥

-- ---- lines

first_none : (xs ys : List ℕ) → xs ++ ys ≡ [] → xs ≡ []
first_none xs ys none = nil_from_length xs (omega (arith, length-append xs ys, ap length none))

second_none : (xs ys : List ℕ) → xs ++ ys ≡ [] → ys ≡ []
second_none xs ys none = nil_from_length ys (omega (arith, length-append xs ys, ap length none))

-- lines with a mark in front are some
mark_stands : (mark line lines rest : List ℕ) → ((mark ++ line) ++ lines) ++ rest ≡ [] → mark ≡ []
mark_stands mark line lines rest none =
    first_none mark line (first_none (mark ++ line) lines (first_none ((mark ++ line) ++ lines) rest none))

minus_stands : codes "- " ≡ [] → ⊥
minus_stands none = cc

plus_stands : codes "+ " ≡ [] → ⊥
plus_stands none = cc

-- and so is an object
feed_stands : codes "\n" ≡ [] → ⊥
feed_stands none = cc

object_stands : (members : List Member) (rest : List ℕ) → line_of (object_of members) ++ rest ≡ [] → ⊥
object_stands members rest none =
    feed_stands (second_none (spelling (object_of members)) (10 ∷ []) (first_none (line_of (object_of members)) rest none))

removed_stands : (form : Form) (r : Row) (rest : List ℕ) → removed form r ++ rest ≡ [] → ⊥
removed_stands Json r rest none = object_stands (change_member (codes "removed") ∷ row_members r.path r.entry) rest none
removed_stands Text r rest none =
    minus_stands (mark_stands (codes "- ") (entry_line r.path r.entry) (flat_map (λ a. codes "- " ++ attribute_line a) r.entry.attributes) rest none)

added_stands : (form : Form) (r : Row) (rest : List ℕ) → added form r ++ rest ≡ [] → ⊥
added_stands Json r rest none = object_stands (change_member (codes "added") ∷ row_members r.path r.entry) rest none
added_stands Text r rest none =
    plus_stands (mark_stands (codes "+ ") (entry_line r.path r.entry) (flat_map (λ a. codes "+ " ++ attribute_line a) r.entry.attributes) rest none)

tilde_stands : codes "~ " ≡ [] → ⊥
tilde_stands none = cc

rewritten_stands : (form : Form) (r : Row) → rewritten form r ≡ [] → ⊥
rewritten_stands Json r none =
    object_stands (change_member (codes "contents") ∷ entry_members r.path r.entry) [] (append-nil _ ∙ none)
rewritten_stands Text r none = tilde_stands (first_none (codes "~ ") (entry_line r.path r.entry) none)

-- ---- from no difference to the same rows

shown_by : (form : Form) (d e : Disk) (a b : Row) (same alike : Bool) → (same ≡ true → shown_node d a.entry ≡ shown_node e b.entry)
    → (if same then [] else (if alike then rewritten form b else removed form a ++ added form b)) ≡ []
    → shown_node d a.entry ≡ shown_node e b.entry
shown_by form d e a b true alike is none = is refl
shown_by form d e a b false true is none = absurd (rewritten_stands form b none)
shown_by form d e a b false false is none = absurd (removed_stands form a (added form b) none)

never : false ≡ true → ⊥
never h = cc

path_by : (p q : Path) (same : Bool) → Decides same (p ≡ q) → (p ≢ q → (path_precedes p q ≡ true) ⊎ (path_precedes q p ≡ true))
    → path_precedes p q ≡ false → path_precedes q p ≡ false → p ≡ q
path_by p q true decides total first second = decides.0 refl
path_by p q false decides total first second = elim (total (λ equal. never (decides.1 equal))) [
  | inl before ↦ absurd (never (sym first ∙ before))
  | inr before ↦ absurd (never (sym second ∙ before))
]

same_path : PathsAreOrdered → (p q : Path) → path_precedes p q ≡ false → path_precedes q p ≡ false → p ≡ q
same_path order p q =
    path_by p q (pointwise bytes_eq p q) (slice_eq-Decides bytes_eq-Decides p q (pointwise bytes_eq p q) refl) (order.total p q)

-- what differs at the first rows, by which path comes first
first_by : PathsAreOrdered → (form : Form) (d e : Disk) (a b : Row) (after before : Bool) (later behind tail : List ℕ)
    → path_precedes b.path a.path ≡ after → path_precedes a.path b.path ≡ before
    → (if after then added form b ++ later else (if before then removed form a ++ behind else changed_text form d a e b ++ tail)) ≡ []
    → IsSameRow d e a b × (tail ≡ [])
first_by order form d e a b true before later behind tail second first none = absurd (added_stands form b later none)
first_by order form d e a b false true later behind tail second first none = absurd (removed_stands form a behind none)
first_by order form d e a b false false later behind tail second first none = (
  record {
    path = same_path order a.path b.path first second;
    shown = shown_by form d e a b (shows_same d a.entry e b.entry) (are_alike a.entry b.entry) (same_node_decides (shown_node d a.entry) (shown_node e b.entry)).0
        (first_none (changed_text form d a e b) tail none);
  },
  second_none (changed_text form d a e b) tail none,
)

pub none_differ_same : PathsAreOrdered → (form : Form) (d e : Disk) (left right : List Row) → difference form d left e right ≡ [] → AreSameRows d left e right
none_differ_same order form d e [] [] none = tt
none_differ_same order form d e [] (b ∷ right) none = added_stands form b (flat_map (added form) right) none
none_differ_same order form d e (a ∷ left) [] none = removed_stands form a (difference form d left e []) none
none_differ_same order form d e (a ∷ left) (b ∷ right) none =
    let first = first_by order form d e a b (path_precedes b.path a.path) (path_precedes a.path b.path)
    (difference_at form d e a (difference form d left e) right) (difference form d left e (b ∷ right)) (difference form d left e right) refl refl none in
    (first.0, none_differ_same order form d e left right first.1)

-- ---- and back

none_by : (form : Form) (d e : Disk) (a b : Row) (after before same : Bool) (later behind tail : List ℕ) → after ≡ false → before ≡ false → same ≡ true
    → tail ≡ []
    → (if after then added form b ++ later else (if before then removed form a ++ behind
    else (if same then [] else (if are_alike a.entry b.entry then rewritten form b else removed form a ++ added form b)) ++ tail)) ≡ []
none_by form d e a b after before same later behind tail second first equal none = rw (second, first, equal, none) refl

pub same_differ_none : PathsAreOrdered → (form : Form) (d e : Disk) (left right : List Row) → AreSameRows d left e right → difference form d left e right ≡ []
same_differ_none order form d e [] [] same = refl
same_differ_none order form d e [] (b ∷ right) same = absurd same
same_differ_none order form d e (a ∷ left) [] same = absurd same
same_differ_none order form d e (a ∷ left) (b ∷ right) same =
    none_by form d e a b (path_precedes b.path a.path) (path_precedes a.path b.path) (shows_same d a.entry e b.entry)
    (difference_at form d e a (difference form d left e) right) (difference form d left e (b ∷ right)) (difference form d left e right)
    (ap (λ (p : Path). path_precedes b.path p) same.0.path ∙ order.irreflexive b.path)
    (ap (λ (p : Path). path_precedes p b.path) same.0.path ∙ order.irreflexive b.path)
    ((same_node_decides (shown_node d a.entry) (shown_node e b.entry)).1 same.0.shown)
    (same_differ_none order form d e left right same.1)

-- ---- a row of one side has one on the other

abbrev pub HasSame : Disk → Disk → List Row → Row → Type 0
HasSame d e right r = (s : Row) × Contains right s × IsSameRow d e r s

none_there : (r : Row) → Contains [] r → ⊥
none_there r there = omega arith

one_more : (d e : Disk) (b r : Row) (right : List Row) → HasSame d e right r → HasSame d e (b ∷ right) r
one_more d e b r right (s, (k, within, there), is) = (s, (suc k, omega (arith, within), there), is)

pub same_there : (d e : Disk) (left right : List Row) (r : Row) → AreSameRows d left e right → Contains left r → HasSame d e right r
same_there d e [] right r same there = absurd (none_there r there)
same_there d e (a ∷ left) [] r same there = absurd same
same_there d e (a ∷ left) (b ∷ right) r same (zero, within, is) =
    (b, (zero, omega arith, refl), subst (λ (x : Row). IsSameRow d e x b) is same.0)
same_there d e (a ∷ left) (b ∷ right) r same (suc i, within, is) =
    one_more d e b r right (same_there d e left right r same.1 (i, omega arith, is))

pub turned : (d e : Disk) (left right : List Row) → AreSameRows d left e right → AreSameRows e right d left
turned d e [] [] same = tt
turned d e [] (b ∷ right) same = absurd same
turned d e (a ∷ left) [] same = absurd same
turned d e (a ∷ left) (b ∷ right) same =
    (record { path = sym same.0.path; shown = sym same.0.shown }, turned d e left right same.1)
