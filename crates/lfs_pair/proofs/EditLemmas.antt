-- Edits added one after another.
use Rattle.std.proofs.Common.{◌≡◌, ◌≢◌, ℕ, ◌+◌, ◌/◌, ◌<◌, ◌==◌, false, List, [], ◌∷◌, ◌++◌, length, map, take, refl, ap, sym, ◌∙◌, arith}
use Rattle.std.proofs.Common.{get_or, append_assoc, append-nil}
use Rattle.std.proofs.lemmas.Bool.Decides.{nat_tests}
use Rattle.std.proofs.lemmas.List.{map-append, take_more, length-take}
use Rattle.lfs_tag.specs.declared.edit.Edit.{Edit}
use Rattle.lfs_tag.specs.Tag.{main_kind, len_of, data_len}
use Rattle.lfs_tag.specs.Commit.{Item}
use Rattle.lfs_tag.specs.Writing.{item_of, items}
use Rattle.lfs_meta.specs.Entry.{StoredEntry}
use Rattle.lfs_pair.specs.Spelling.{entry_tags, entries_tags}
use Rattle.lfs_pair.proofs.TagWordLemmas.{word, kind_of-word, len_of-word}

pub edit-kind : (kind id len : ℕ) → kind < 2048 → id < 1024 → len < 1024 → kind / 256 ≢ 5 → main_kind (word kind id len) ≢ 5
edit-kind kind id len hk hi hl other e = other (sym (ap (λ (k : ℕ). k / 256) (kind_of-word kind id len hk hi hl)) ∙ e)

pub edit-len : (kind id len : ℕ) → len < 1023 → len ≡ data_len (word kind id len)
edit-len kind id len hl =
    let e : len_of (word kind id len) ≡ len = len_of-word kind id len (omega arith) in
    let kept : (len == 0x3ff) ≡ false = grind (arith, nat_tests) in
    rw (e, kept) refl

pub items-push : (edits : List Edit) (more : Edit) (ts : List Item) (t : Item) → items edits ≡ ts → item_of more ≡ t
    → items (edits ++ (more ∷ [])) ≡ ts ++ (t ∷ [])
items-push edits more ts t e is =
    map-append item_of edits (more ∷ []) ∙ ap (λ (xs : List Item). xs ++ (item_of more ∷ [])) e ∙ ap (λ (u : Item). ts ++ (u ∷ [])) is

-- one more of a list that is written item by item
pub map-push : {X : Type 0} (f : X → Item) (xs : List X) (i : ℕ) (d : X) (ts : List Item) → i < length xs
    → (ts ++ map f (take i xs)) ++ (f (get_or xs i d) ∷ []) ≡ ts ++ map f (take (i + 1) xs)
map-push f xs i d ts within =
    append_assoc ts (map f (take i xs)) (f (get_or xs i d) ∷ [])
    ∙ ap (λ (ys : List Item). ts ++ ys) (sym (ap (map f) (take_more xs i d within) ∙ map-append f (take i xs) (get_or xs i d ∷ [])))

pub entries_tags-push : (id : ℕ) (es : List StoredEntry) (e : StoredEntry) (at : ℕ) → at ≡ id + length es
    → entries_tags id (es ++ (e ∷ [])) ≡ entries_tags id es ++ entry_tags at e
unfolding entries_tags
entries_tags-push id [] e at is =
    let here : at ≡ id = omega arith in
    append-nil (entry_tags id e) ∙ ap (λ (k : ℕ). entry_tags k e) (sym here)
entries_tags-push id (d ∷ es) e at is =
    ap (λ (ts : List Item). entry_tags id d ++ ts) (entries_tags-push (id + 1) es e at (omega arith))
    ∙ sym (append_assoc (entry_tags id d) (entries_tags (id + 1) es) (entry_tags at e))

pub entries_tags-more : (es : List StoredEntry) (i : ℕ) (d : StoredEntry) (ts : List Item) → i < length es
    → (ts ++ entries_tags 0 (take i es)) ++ entry_tags i (get_or es i d) ≡ ts ++ entries_tags 0 (take (i + 1) es)
entries_tags-more es i d ts within =
    append_assoc ts (entries_tags 0 (take i es)) (entry_tags i (get_or es i d))
    ∙ ap (λ (us : List Item). ts ++ us)
    (sym (ap (entries_tags 0) (take_more es i d within) ∙ entries_tags-push 0 (take i es) (get_or es i d) i
    (omega (arith, length-take i es))))
