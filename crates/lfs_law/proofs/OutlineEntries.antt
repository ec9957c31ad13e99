-- Outlines of entries: what stays of them, and edits of a list of them.
use Rattle.std.proofs.Common.{◌≡◌, ℕ, ◌+◌, Bool, true, false, List, [], ◌∷◌, length, refl, ap, map}
use Rattle.std.specs.Prelude.{not, ◌||◌, if◌then◌else◌}
use Rattle.std.specs.List.{list_any}
use Rattle.lfs_meta.specs.Name.{Name}
use Rattle.lfs_meta.specs.Weighing.{attributes_weight}
use Rattle.lfs_fs.specs.NameOrder.{precedes}
use Rattle.lfs_fs.specs.Entry.{Body, Inline, Chain, Directory_at, Entry, is_named}
use Rattle.lfs_fs.specs.Weight.{body_weight, weight}
use Rattle.lfs_fs.specs.Uses.{entry_uses}
use Rattle.lfs_fs.specs.Outlined.{outlined_body, outlined_entry}
use Rattle.lfs_fs.proofs.OutlinedLemmas.{body_uses_same}
use Rattle.lfs_command.specs.EntryEdit.{place, without, changed}

pub cons_same : {X : Type 0} (x y : X) (xs ys : List X) → x ≡ y → xs ≡ ys → x ∷ xs ≡ y ∷ ys
cons_same x y xs ys h k = cc

-- ---- what stays of an entry

body_weight_same : (b : Body) → body_weight (outlined_body b) ≡ body_weight b
body_weight_same (Inline bytes) = refl
body_weight_same (Chain blocks bytes) = refl
body_weight_same (Directory_at pair) = refl

pub weight_same : (e : Entry) → weight (outlined_entry e) ≡ weight e
weight_same e = ap (λ (n : ℕ). 4 + length e.name + n + attributes_weight e.attributes) (body_weight_same e.body)

pub uses_same : (b : ℕ) (e : Entry) → entry_uses b (outlined_entry e) ≡ entry_uses b e
uses_same b e = body_uses_same b e.body

-- ---- a list of entries

abbrev pub outlined_entries : List Entry → List Entry
outlined_entries = map outlined_entry

pub any_named_outlined : (n : Name) (es : List Entry) → list_any (is_named n) (outlined_entries es) ≡ list_any (is_named n) es
any_named_outlined n [] = refl
any_named_outlined n (e ∷ es) = ap (λ (t : Bool). is_named n e || t) (any_named_outlined n es)

pub any_later_outlined : (n : Name) (es : List Entry) → list_any (λ e. precedes n e.name) (outlined_entries es)
    ≡ list_any (λ e. precedes n e.name) es
any_later_outlined n [] = refl
any_later_outlined n (e ∷ es) = ap (λ (t : Bool). precedes n e.name || t) (any_later_outlined n es)

place_by : (e f : Entry) (es : List Entry) (t : Bool) → place (outlined_entry e) (outlined_entries es) ≡ outlined_entries (place e es)
    → (if t then outlined_entry e ∷ outlined_entry f ∷ outlined_entries es else outlined_entry f
    ∷ place (outlined_entry e) (outlined_entries es))
    ≡ outlined_entries (if t then e ∷ f ∷ es else f ∷ place e es)
place_by e f es true rest = refl
place_by e f es false rest = ap (λ (xs : List Entry). outlined_entry f ∷ xs) rest

pub place_outlined : (e : Entry) (es : List Entry) → place (outlined_entry e) (outlined_entries es) ≡ outlined_entries (place e es)
unfolding place
place_outlined e [] = refl
place_outlined e (f ∷ es) = place_by e f es (precedes e.name f.name) (place_outlined e es)

without_by : (n : Name) (e : Entry) (es : List Entry) (t : Bool) → without n (outlined_entries es) ≡ outlined_entries (without n es)
    → (if not t then outlined_entry e ∷ without n (outlined_entries es) else without n (outlined_entries es))
    ≡ outlined_entries (if not t then e ∷ without n es else without n es)
without_by n e es true rest = rest
without_by n e es false rest = ap (λ (xs : List Entry). outlined_entry e ∷ xs) rest

pub without_outlined : (n : Name) (es : List Entry) → without n (outlined_entries es) ≡ outlined_entries (without n es)
without_outlined n [] = refl
without_outlined n (e ∷ es) = without_by n e es (is_named n e) (without_outlined n es)

-- g does to an outline what f does to an entry
abbrev pub Outlines : (Entry → Entry) → (Entry → Entry) → Type 0
Outlines f g = (e : Entry) → g (outlined_entry e) ≡ outlined_entry (f e)

changed_by : (f g : Entry → Entry) → Outlines f g → (e : Entry) (t : Bool)
    → (if t then g (outlined_entry e) else outlined_entry e) ≡ outlined_entry (if t then f e else e)
changed_by f g same e true = same e
changed_by f g same e false = refl

pub changed_outlined : (n : Name) (f g : Entry → Entry) → Outlines f g → (es : List Entry)
    → changed n g (outlined_entries es) ≡ outlined_entries (changed n f es)
changed_outlined n f g same [] = refl
changed_outlined n f g same (e ∷ es) =
    cons_same (if is_named n e then g (outlined_entry e) else outlined_entry e) (outlined_entry (if is_named n e then f e else e))
    (changed n g (outlined_entries es))
    (outlined_entries (changed n f es))
    (changed_by f g same e (is_named n e)) (changed_outlined n f g same es)
