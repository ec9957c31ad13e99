-- One tag about an entry in the middle of others: what it leaves.
use Rattle.std.proofs.Common.{◌≡◌, ℕ, ◌+◌, ◌<◌, ◌≤◌, ◌==◌, ◌&&◌, ◌||◌, not, Bool, true, false, if◌then◌else◌, List, [], ◌∷◌, ◌++◌, length, ap, refl}
use Rattle.std.proofs.Common.{◌∙◌, arith, Some, length-append, nat_le, nat_lt}
use Rattle.std.specs.Prelude.{insert, remove}
use Rattle.std.proofs.lemmas.Bool.Decides.{nat_tests}
use Rattle.lfs_tag.specs.Tag.{type_of, chunk_of, id_of, len_of}
use Rattle.lfs_tag.specs.Commit.{Item}
use Rattle.lfs_meta.specs.declared.kind.Kind.{Kind}
use Rattle.lfs_meta.specs.Action.{is_deleted}
use Rattle.lfs_meta.specs.Attribute.{set_attribute, remove_attribute}
use Rattle.lfs_meta.specs.Body.{StoredBody, body_named, body_bytes}
use Rattle.lfs_meta.specs.Entry.{RawEntry, StoredEntry, blank}
use Rattle.lfs_meta.specs.Fits.{AttributeFits, BodyFits}
use Rattle.lfs_meta.specs.Part.{RawPart}
use Rattle.lfs_meta.specs.Replay.{at_entry, up_to, kind_named, named_by, embodied_by, attributed_by, with_raw_entries, step}
use Rattle.lfs_meta.proofs.FitsLemmas.{body_bytes-small}
use Rattle.lfs_pair.specs.Difference.{create_item, delete_item, gone_item}
use Rattle.lfs_pair.specs.Spelling.{name_kind, body_kind, name_item, body_item, attribute_item}
use Rattle.lfs_pair.proofs.ActionLemmas.{stepped, create-acts, delete-acts, name-acts, body-acts, attribute-acts}
use Rattle.lfs_pair.proofs.StructLemmas.{body_named-bytes, body-good}
use Rattle.lfs_pair.proofs.TagWordLemmas.{HasFields, item-fields, kind_of-word, id_of-word, len_of-word}
use Rattle.lfs_pair.proofs.TagWordLemmas.{name_kind-small, name_kind-named, body_kind-small}
use Rattle.lfs_pair.proofs.PlaceLemmas.{Place, part_with, at_place, with_name, with_body, with_values, at_entry-place, insert-place, remove-place}
use Rattle.lfs_pair.proofs.PlaceLemmas.{within}

pub create-step : (p : Place) → length p.done < 1023
    → step (part_with (p.done ++ p.rest) p.tail p.delta) (create_item (length p.done)) ≡ Some (at_place p blank)
create-step p few =
    let t : Item = create_item (length p.done) in
    let xs : List RawEntry = p.done ++ p.rest in
    let old : RawPart = part_with xs p.tail p.delta in
    let fields : HasFields t 0x401 (length p.done) 0 = item-fields 0x401 (length p.done) [] (omega arith) (omega arith) (omega arith) in
    let id : id_of t.word ≡ length p.done = fields.id_is in
    let room : length p.done ≤ length xs = omega (arith, length-append p.done p.rest) in
    let there : nat_lt (length xs) (id_of t.word) ≡ false = grind (arith, nat_tests) in
    let some' : (id_of t.word == 0x3ff) ≡ false = grind (arith, nat_tests) in
    let empty : (len_of t.word == 0) ≡ true = ap (λ (n : ℕ). n == 0) fields.len_is in
    let bad : Bool = nat_lt (length xs) (id_of t.word) || (id_of t.word == 0x3ff) || not (len_of t.word == 0) in
    let good : bad ≡ false = rw (there, some', empty) refl in
    stepped old (with_raw_entries old (insert xs (id_of t.word) blank)) t 0x401 bad fields.kind_is (create-acts old t) good
    ∙ ap (λ (es : List RawEntry). Some (part_with es p.tail p.delta)) (insert-place p.done p.rest blank (id_of t.word) id)

pub delete-step : (p : Place) (x : RawEntry) → length p.done < 1023
    → step (at_place p x) (delete_item (length p.done)) ≡ Some (part_with (p.done ++ p.rest) p.tail p.delta)
delete-step p x few =
    let t : Item = delete_item (length p.done) in
    let xs : List RawEntry = p.done ++ (x ∷ p.rest) in
    let old : RawPart = at_place p x in
    let fields : HasFields t 0x4ff (length p.done) 0 = item-fields 0x4ff (length p.done) [] (omega arith) (omega arith) (omega arith) in
    let id : id_of t.word ≡ length p.done = fields.id_is in
    let room : length p.done < length xs = within p x in
    let there : nat_le (length xs) (id_of t.word) ≡ false = grind (arith, nat_tests) in
    let empty : (len_of t.word == 0) ≡ true = ap (λ (n : ℕ). n == 0) fields.len_is in
    let bad : Bool = nat_le (length xs) (id_of t.word) || not (len_of t.word == 0) in
    let good : bad ≡ false = rw (there, empty) refl in
    stepped old (with_raw_entries old (remove xs (id_of t.word))) t 0x4ff bad fields.kind_is (delete-acts old t) good
    ∙ ap (λ (es : List RawEntry). Some (part_with es p.tail p.delta)) (remove-place p.done x p.rest (id_of t.word) id)

-- the name of an entry that is there, or that the tag makes
pub name-step : (all : List RawEntry) (p : Place) (x : RawEntry) (e : StoredEntry) → length e.name < 1023 → length p.done < 1023
    → up_to (length p.done) all ≡ p.done ++ (x ∷ p.rest)
    → step (part_with all p.tail p.delta) (name_item (length p.done) e) ≡ Some (at_place p (with_name e.kind e.name x))
name-step all p x e small few made =
    let t : Item = name_item (length p.done) e in
    let fields : HasFields t (name_kind e.kind) (length p.done) (length e.name) =
    item-fields (name_kind e.kind) (length p.done) e.name (name_kind-small e.kind) (omega arith) (omega arith) in
    let id : id_of t.word ≡ length p.done = fields.id_is in
    let len : len_of t.word ≡ length e.name = fields.len_is in
    let some' : (id_of t.word == 0x3ff) ≡ false = grind (arith, nat_tests) in
    let kept : (len_of t.word == 0x3ff) ≡ false = grind (arith, nat_tests) in
    let bad : Bool = (id_of t.word == 0x3ff) || is_deleted t in
    let good : bad ≡ false = rw (some', kept) refl in
    let kind : kind_named (type_of t.word) ≡ e.kind = ap kind_named fields.kind_is ∙ name_kind-named e.kind in
    let old : RawPart = part_with all p.tail p.delta in
    let named : List RawEntry = at_entry (id_of t.word) (named_by t) (up_to (id_of t.word) all) in
    let entries : named ≡ p.done ++ (with_name e.kind e.name x ∷ p.rest) =
    ap (λ (k : ℕ). at_entry (id_of t.word) (named_by t) (up_to k all)) id
    ∙ ap (at_entry (id_of t.word) (named_by t)) made
    ∙ at_entry-place (named_by t) p.done x p.rest (id_of t.word) id
    ∙ ap (λ (k : Kind). p.done ++ (with_name k e.name x ∷ p.rest)) kind in
    stepped old (with_raw_entries old named) t (name_kind e.kind) bad fields.kind_is (name-acts e.kind old t) good
    ∙ ap (λ (es : List RawEntry). Some (part_with es p.tail p.delta)) entries

pub body-step : (p : Place) (x : RawEntry) (e : StoredEntry) → BodyFits e.body → length p.done < 1023
    → step (at_place p x) (body_item (length p.done) e) ≡ Some (at_place p (with_body e.body x))
body-step p x e fits few =
    let t : Item = body_item (length p.done) e in
    let xs : List RawEntry = p.done ++ (x ∷ p.rest) in
    let small : length (body_bytes e.body) < 1023 = body_bytes-small e.body fits in
    let fields : HasFields t (body_kind e.body) (length p.done) (length (body_bytes e.body)) =
    item-fields (body_kind e.body) (length p.done) (body_bytes e.body) (body_kind-small e.body) (omega arith) (omega arith) in
    let kind : type_of t.word ≡ body_kind e.body = fields.kind_is in
    let id : id_of t.word ≡ length p.done = fields.id_is in
    let len : len_of t.word ≡ length (body_bytes e.body) = fields.len_is in
    let room : length p.done < length xs = within p x in
    let there : nat_le (length xs) (id_of t.word) ≡ false = grind (arith, nat_tests) in
    let kept : (len_of t.word == 0x3ff) ≡ false = grind (arith, nat_tests) in
    let complete : (not (type_of t.word == 0x201) && not (len_of t.word == 8)) ≡ false = rw (kind, len) (body-good e.body) in
    let bad : Bool = nat_le (length xs) (id_of t.word) || is_deleted t || (not (type_of t.word == 0x201) && not (len_of t.word == 8)) in
    let good : bad ≡ false = rw (there, kept, complete) refl in
    let named : body_named (type_of t.word) (body_bytes e.body) ≡ e.body =
    ap (λ (k : ℕ). body_named k (body_bytes e.body)) kind ∙ body_named-bytes e.body fits in
    let old : RawPart = at_place p x in
    let embodied : List RawEntry = at_entry (id_of t.word) (embodied_by t) xs in
    let entries : embodied ≡ p.done ++ (with_body e.body x ∷ p.rest) =
    at_entry-place (embodied_by t) p.done x p.rest (id_of t.word) id
    ∙ ap (λ (b : StoredBody). p.done ++ (with_body b x ∷ p.rest)) named in
    stepped old (with_raw_entries old embodied) t (body_kind e.body) bad kind (body-acts e.body old t) good
    ∙ ap (λ (es : List RawEntry). Some (part_with es p.tail p.delta)) entries

-- a tag of an attribute, which sets it or takes it out
attribute-step : (p : Place) (x : RawEntry) (t : Item) (kind len : ℕ) → kind < 256 → HasFields t (0x300 + kind) (length p.done) len
    → step (at_place p x) t ≡ Some (at_place p (attributed_by t x))
attribute-step p x t kind len low fields =
    let xs : List RawEntry = p.done ++ (x ∷ p.rest) in
    let id : id_of t.word ≡ length p.done = fields.id_is in
    let room : length p.done < length xs = within p x in
    let good : nat_le (length xs) (id_of t.word) ≡ false = grind (arith, nat_tests) in
    let old : RawPart = at_place p x in
    stepped old (with_raw_entries old (at_entry (id_of t.word) (attributed_by t) xs)) t (0x300 + kind) (nat_le (length xs) (id_of t.word))
    fields.kind_is (attribute-acts kind old t low) good
    ∙ ap (λ (es : List RawEntry). Some (part_with es p.tail p.delta)) (at_entry-place (attributed_by t) p.done x p.rest (id_of t.word) id)

chunk : (word kind : ℕ) → kind < 256 → type_of word ≡ 0x300 + kind → chunk_of word ≡ kind
chunk word kind low is = omega arith

pub set-step : (p : Place) (x : RawEntry) (a : ℕ × List ℕ) → length p.done < 1023 → AttributeFits a
    → step (at_place p x) (attribute_item (length p.done) a) ≡ Some (at_place p (with_values (set_attribute a.0 a.1 x.attributes) x))
set-step p x a few fits =
    let t : Item = attribute_item (length p.done) a in
    let low : a.0 < 256 = fits.kind in
    let small : length a.1 < 1023 = fits.value in
    let fields : HasFields t (0x300 + a.0) (length p.done) (length a.1) =
    item-fields (0x300 + a.0) (length p.done) a.1 (omega arith) (omega arith) (omega arith) in
    let len : len_of t.word ≡ length a.1 = fields.len_is in
    let kept : (len_of t.word == 0x3ff) ≡ false = grind (arith, nat_tests) in
    attribute-step p x t a.0 (length a.1) low fields
    ∙ ap (λ (b : Bool). Some (at_place p (with_values
    (if b then remove_attribute (chunk_of t.word) x.attributes else set_attribute (chunk_of t.word) a.1 x.attributes) x))) kept
    ∙ ap (λ (k : ℕ). Some (at_place p (with_values (set_attribute k a.1 x.attributes) x))) (chunk t.word a.0 low fields.kind_is)

pub gone-step : (p : Place) (x : RawEntry) (kind : ℕ) → length p.done < 1023 → kind < 256
    → step (at_place p x) (gone_item (length p.done) kind) ≡ Some (at_place p (with_values (remove_attribute kind x.attributes) x))
gone-step p x kind few low =
    let t : Item = gone_item (length p.done) kind in
    let fields : HasFields t (0x300 + kind) (length p.done) 0x3ff = record {
      kind_is = kind_of-word (0x300 + kind) (length p.done) 0x3ff (omega arith) (omega arith) (omega arith);
      id_is = id_of-word (0x300 + kind) (length p.done) 0x3ff (omega arith) (omega arith);
      len_is = len_of-word (0x300 + kind) (length p.done) 0x3ff (omega arith);
    } in
    let gone : (len_of t.word == 0x3ff) ≡ true = ap (λ (n : ℕ). n == 0x3ff) fields.len_is in
    attribute-step p x t kind 0x3ff low fields
    ∙ ap (λ (b : Bool). Some (at_place p (with_values
    (if b then remove_attribute (chunk_of t.word) x.attributes else set_attribute (chunk_of t.word) [] x.attributes) x))) gone
    ∙ ap (λ (k : ℕ). Some (at_place p (with_values (remove_attribute k x.attributes) x))) (chunk t.word kind low fields.kind_is)
