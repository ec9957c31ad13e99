-- A tail's tag, and a delta's.
use Rattle.std.proofs.Common.{◌≡◌, ℕ, ◌==◌, not, Bool, true, false, if◌then◌else◌, List, [], ◌∷◌, ◌++◌, length, refl, ap, ap₂, sym}
use Rattle.std.proofs.Common.{◌∙◌, arith, Some, None, inl, inr, true≢false}
use Rattle.std.specs.Prelude.{bytes_eq}
use Rattle.std.proofs.lemmas.Bool.{cases_Bool, and_parts, eqb-true}
use Rattle.std.proofs.lemmas.Slice.Eq.{bytes_eq-Decides}
use Rattle.lfs_tag.specs.Commit.{Item}
use Rattle.lfs_tag.specs.Tag.{len_of}
use Rattle.lfs_meta.specs.declared.tail.Tail.{Tail}
use Rattle.lfs_meta.specs.declared.tail.Tail.TheVariants.{End, Soft, Hard}
use Rattle.lfs_meta.specs.Action.{action_of, is_bad, is_null}
use Rattle.lfs_meta.specs.Body.{words}
use Rattle.lfs_meta.specs.Entry.{RawEntry}
use Rattle.lfs_meta.specs.Fits.{TailFits}
use Rattle.lfs_meta.specs.Part.{RawPart}
use Rattle.lfs_meta.specs.Replay.{acted, replay_from, tail_named}
use Rattle.lfs_meta.proofs.ReplayLemmas.{replay_from-cons, replay_from-none}
use Rattle.lfs_pair.specs.Difference.{is_same_tail, tail_item, tail_between, delta_between}
use Rattle.lfs_pair.specs.Spelling.{tag_item}
use Rattle.lfs_pair.proofs.ActionLemmas.{stepped, delta-acts}
use Rattle.lfs_pair.proofs.PlaceLemmas.{part_with}
use Rattle.lfs_pair.proofs.StructLemmas.{first_word, second_word, numbers-not_null}
use Rattle.lfs_pair.proofs.TagWordLemmas.{HasFields, item-fields}

-- ---- the tail

pub tail-set : (es : List RawEntry) (old new : Tail) (delta : List ℕ) (more : List Item) → TailFits new
    → replay_from (part_with es old delta) (tail_item new ∷ more) ≡ replay_from (part_with es new delta) more
unfolding acted is_bad action_of tail_named tail_item
tail-set es old End delta more fits =
    replay_from-cons (part_with es old delta) (part_with es End delta) (tag_item 0x600 0x3ff (words 0xffffffff 0xffffffff)) more refl
tail-set es old (Soft a b) delta more fits =
    let is : tail_named 0x600 (words a b) ≡ Soft a b =
    rw (numbers-not_null a b fits, first_word a b fits.first_fits, second_word a b fits.second_fits) refl in
    replay_from-cons (part_with es old delta) (part_with es (Soft a b) delta) (tag_item 0x600 0x3ff (words a b)) more
    (ap (λ (t : Tail). Some (part_with es t delta)) is)
tail-set es old (Hard a b) delta more fits =
    let some' : is_null (words a b) ≡ false = numbers-not_null a b fits in
    let is : tail_named 0x601 (words a b) ≡ Hard a b =
    rw (some', first_word a b fits.first_fits, second_word a b fits.second_fits) refl in
    replay_from-cons (part_with es old delta) (part_with es (Hard a b) delta) (tag_item 0x601 0x3ff (words a b)) more
    (ap (λ (n : Bool). if n then None else Some (part_with es (tail_named 0x601 (words a b)) delta)) some'
    ∙ ap (λ (t : Tail). Some (part_with es t delta)) is)

same_tail-is : (old new : Tail) → is_same_tail old new ≡ true → old ≡ new
unfolding is_same_tail
same_tail-is End End same = refl
same_tail-is (Soft first second) (Soft one two) same =
    let parts : ((first == one) ≡ true) × ((second == two) ≡ true) = and_parts (first == one) (second == two) same in
    ap₂ Soft (eqb-true first one parts.0) (eqb-true second two parts.1)
same_tail-is (Hard first second) (Hard one two) same =
    let parts : ((first == one) ≡ true) × ((second == two) ≡ true) = and_parts (first == one) (second == two) same in
    ap₂ Hard (eqb-true first one parts.0) (eqb-true second two parts.1)
same_tail-is _ _ same = absurd (true≢false (sym same))

pub tail-becomes : (es : List RawEntry) (old new : Tail) (delta : List ℕ) (more : List Item) → TailFits new
    → replay_from (part_with es old delta) (tail_between old new ++ more) ≡ replay_from (part_with es new delta) more
tail-becomes es old new delta more fits =
    let tags : Bool → List Item = λ t. (if t then [] else tail_item new ∷ []) ++ more in
    elim (cases_Bool (is_same_tail old new)) [
      | inl same ↦
          ap (λ (t : Bool). replay_from (part_with es old delta) (tags t)) same
          ∙ ap (λ (t : Tail). replay_from (part_with es t delta) more) (same_tail-is old new same)
      | inr other ↦
          ap (λ (t : Bool). replay_from (part_with es old delta) (tags t)) other ∙ tail-set es old new delta more fits
    ]

-- ---- the delta

pub delta-set : (es : List RawEntry) (tail : Tail) (old new : List ℕ) → length new ≡ 12
    → replay_from (part_with es tail old) (tag_item 0x7ff 0x3ff new ∷ []) ≡ Some (part_with es tail new)
delta-set es tail old new len =
    let t : Item = tag_item 0x7ff 0x3ff new in
    let p : RawPart = part_with es tail old in
    let fields : HasFields t 0x7ff 0x3ff (length new) = item-fields 0x7ff 0x3ff new (omega arith) (omega arith) (omega arith) in
    let good : not (len_of t.word == 12) ≡ false = ap (λ (n : ℕ). not (n == 12)) (fields.len_is ∙ len) in
    replay_from-cons p (part_with es tail new) t []
    (stepped p (part_with es tail new) t 0x7ff (not (len_of t.word == 12)) fields.kind_is (delta-acts p t) good)
    ∙ replay_from-none (part_with es tail new)

pub delta-becomes : (es : List RawEntry) (tail : Tail) (old new : List ℕ) → length new ≡ 12
    → replay_from (part_with es tail old) (delta_between old new) ≡ Some (part_with es tail new)
delta-becomes es tail old new len =
    let tags : Bool → List Item = λ t. if t then [] else tag_item 0x7ff 0x3ff new ∷ [] in
    elim (cases_Bool (bytes_eq old new)) [
      | inl same ↦
          ap (λ (t : Bool). replay_from (part_with es tail old) (tags t)) same
          ∙ replay_from-none (part_with es tail old)
          ∙ ap (λ (d : List ℕ). Some (part_with es tail d)) ((bytes_eq-Decides old new).0 same)
      | inr other ↦ ap (λ (t : Bool). replay_from (part_with es tail old) (tags t)) other ∙ delta-set es tail old new len
    ]
