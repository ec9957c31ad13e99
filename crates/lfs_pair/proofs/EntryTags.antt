-- The tags of an entry that comes, and of one that stays, at a place in the middle of entries.
use Rattle.std.proofs.Common.{◌≡◌, ℕ, ◌<◌, ◌==◌, ◌&&◌, not, Bool, true, if◌then◌else◌, List, [], ◌∷◌, ◌++◌, length, map, ap, ap₂, sym, ◌∙◌}
use Rattle.std.proofs.Common.{append_assoc, inl, inr, true≢false}
use Rattle.std.specs.Prelude.{bytes_eq}
use Rattle.std.proofs.lemmas.Bool.{cases_Bool, and_parts, eqb-true}
use Rattle.std.proofs.lemmas.Slice.Eq.{bytes_eq-Decides}
use Rattle.lfs_tag.specs.Commit.{Item}
use Rattle.lfs_meta.specs.declared.kind.Kind.{Kind}
use Rattle.lfs_meta.specs.Body.{StoredBody, Inline, Chain, Directory_at}
use Rattle.lfs_meta.specs.Entry.{RawEntry, StoredEntry, blank}
use Rattle.lfs_meta.specs.Fits.{BodyFits, EntryFits}
use Rattle.lfs_meta.specs.Name.{Name}
use Rattle.lfs_meta.specs.Replay.{kind_named, replay_from, up_to}
use Rattle.lfs_meta.specs.Complete.{raw_of}
use Rattle.lfs_meta.proofs.ReplayLemmas.{replay_from-cons}
use Rattle.lfs_pair.specs.Difference.{Forced, is_same_name, is_same_body, is_struct_forced, forced_value, body_tags, attributes_between}
use Rattle.lfs_pair.specs.Difference.{entry_between}
use Rattle.lfs_pair.specs.Spelling.{name_kind, name_item, body_item, attribute_item, entry_tags}
use Rattle.lfs_pair.proofs.AttributeTags.{attributes-become, attributes-come}
use Rattle.lfs_pair.proofs.PlaceLemmas.{Place, part_with, at_place, with_name, with_body}
use Rattle.lfs_pair.proofs.PlaceTags.{name-step, body-step}
use Rattle.lfs_pair.proofs.TagWordLemmas.{name_kind-named}

-- ---- an entry that comes

-- an entry's tags, where it is blank or is made by its name
pub entry-comes : (all : List RawEntry) (p : Place) (e : StoredEntry) (more : List Item) → EntryFits e → length p.done < 1023
    → up_to (length p.done) all ≡ p.done ++ (blank ∷ p.rest)
    → replay_from (part_with all p.tail p.delta) (entry_tags (length p.done) e ++ more) ≡ replay_from (at_place p (raw_of e)) more
unfolding blank
entry-comes all p e more fits few made =
    let id : ℕ = length p.done in
    let values : List Item = map (attribute_item id) e.attributes in
    let named : RawEntry = with_name e.kind e.name blank in
    let complete : RawEntry = with_body e.body named in
    replay_from-cons (part_with all p.tail p.delta) (at_place p named) (name_item id e) (body_item id e ∷ (values ++ more))
    (name-step all p blank e fits.name few made)
    ∙ replay_from-cons (at_place p named) (at_place p complete) (body_item id e) (values ++ more) (body-step p named e fits.body few)
    ∙ attributes-come p complete e.attributes more few fits.attributes

-- ---- an entry that stays

kinds-same : (k l : Kind) → name_kind k ≡ name_kind l → k ≡ l
kinds-same k l same = sym (name_kind-named k) ∙ ap kind_named same ∙ name_kind-named l

same_name-kind : (e f : StoredEntry) → is_same_name e f ≡ true → e.kind ≡ f.kind
same_name-kind e f same =
    kinds-same e.kind f.kind
    (eqb-true (name_kind e.kind) (name_kind f.kind) (and_parts (name_kind e.kind == name_kind f.kind) (bytes_eq e.name f.name) same).0)

same_name-name : (e f : StoredEntry) → is_same_name e f ≡ true → e.name ≡ f.name
same_name-name e f same =
    (bytes_eq-Decides e.name f.name).0 (and_parts (name_kind e.kind == name_kind f.kind) (bytes_eq e.name f.name) same).1

same_body-is : (b c : StoredBody) → is_same_body b c ≡ true → b ≡ c
unfolding is_same_body
same_body-is (Inline bytes) (Inline others) same = ap Inline ((bytes_eq-Decides bytes others).0 same)
same_body-is (Chain head size) (Chain other len) same =
    let parts : ((head == other) ≡ true) × ((size == len) ≡ true) = and_parts (head == other) (size == len) same in
    ap₂ Chain (eqb-true head other parts.0) (eqb-true size len parts.1)
same_body-is (Directory_at first second) (Directory_at one two) same =
    let parts : ((first == one) ≡ true) × ((second == two) ≡ true) = and_parts (first == one) (second == two) same in
    ap₂ Directory_at (eqb-true first one parts.0) (eqb-true second two parts.1)
same_body-is _ _ same = absurd (true≢false (sym same))

body-becomes : (p : Place) (forced : Bool) (e f : StoredEntry) (more : List Item) → BodyFits f.body → length p.done < 1023
    → replay_from (at_place p (raw_of e)) (body_tags forced (length p.done) e f ++ more)
    ≡ replay_from (at_place p (with_body f.body (raw_of e))) more
body-becomes p forced e f more fits few =
    let tags : Bool → List Item = λ t. (if t then [] else body_item (length p.done) f ∷ []) ++ more in
    let test : Bool = is_same_body e.body f.body && not forced in
    elim (cases_Bool test) [
      | inl kept ↦
          let same : e.body ≡ f.body = same_body-is e.body f.body (and_parts (is_same_body e.body f.body) (not forced) kept).0 in
          ap (λ (t : Bool). replay_from (at_place p (raw_of e)) (tags t)) kept
          ∙ ap (λ (b : StoredBody). replay_from (at_place p (with_body b (raw_of e))) more) same
      | inr other ↦
          ap (λ (t : Bool). replay_from (at_place p (raw_of e)) (tags t)) other
          ∙ replay_from-cons (at_place p (raw_of e)) (at_place p (with_body f.body (raw_of e))) (body_item (length p.done) f) more
          (body-step p (raw_of e) f fits few)
    ]

pub entry-becomes : (p : Place) (forced : Forced) (e f : StoredEntry) (more : List Item) → EntryFits e → EntryFits f
    → is_same_name e f ≡ true → length p.done < 1023
    → replay_from (at_place p (raw_of e)) (entry_between forced (length p.done) e f ++ more) ≡ replay_from (at_place p (raw_of f)) more
entry-becomes p forced e f more old new same few =
    let id : ℕ = length p.done in
    let body : List Item = body_tags (is_struct_forced forced f) id e f in
    let values : List Item = attributes_between (forced_value forced f) id e.attributes f.attributes in
    let x : RawEntry = with_body f.body (raw_of e) in
    ap (replay_from (at_place p (raw_of e))) (append_assoc body values more)
    ∙ body-becomes p (is_struct_forced forced f) e f (values ++ more) new.body few
    ∙ attributes-become p x (forced_value forced f) 0 [] e.attributes f.attributes more few tt old.attributes new.attributes
    ∙ ap (λ (k : Kind). replay_from (at_place p (with_name k e.name (raw_of f))) more) (same_name-kind e f same)
    ∙ ap (λ (n : Name). replay_from (at_place p (with_name f.kind n (raw_of f))) more) (same_name-name e f same)
