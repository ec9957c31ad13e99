-- What tags leave keeps to the lengths of tags.
use Rattle.std.proofs.Common.{◌≡◌, ℕ, ◌+◌, ◌-◌, ◌<◌, ◌≤◌, ◌==◌, Bool, true, false, cond, not, if◌then◌else◌, List, [], ◌∷◌, length, take}
use Rattle.std.proofs.Common.{drop, refl, sym, arith, Option, Some, None, subst, inl, inr}
use Rattle.std.specs.Prelude.{option_and_then, All, slice_index_or, suc}
use Rattle.std.specs.List.{AllByRecursion, filter}
use Rattle.std.proofs.lemmas.Bool.{cases_lt, cases_order}
use Rattle.std.proofs.lemmas.Bool.Decides.{nat_tests}
use Rattle.std.proofs.Math.ListN.{get_or-eq_default}
use Rattle.std.proofs.lemmas.List.Elements.{All-nil, All-cons, All-append, All-replicate, All-set, All-take, All-drop, All-get_or}
use Rattle.lfs_tag.specs.Tag.{type_of, chunk_of, id_of, data_len}
use Rattle.lfs_tag.specs.Commit.{Item, IsItem}
use Rattle.lfs_meta.specs.declared.action.Action.{Action}
use Rattle.lfs_meta.specs.declared.action.Action.TheVariants.{Create, Delete, SetName, SetBody, SetAttribute, SetTail, SetDelta}
use Rattle.lfs_meta.specs.Action.{action_of, is_bad, is_deleted}
use Rattle.lfs_meta.specs.Attribute.{Attributes, put_by, set_attribute, remove_attribute}
use Rattle.lfs_meta.specs.Body.{StoredBody, Inline, Chain, Directory_at, struct_word, body_named}
use Rattle.lfs_meta.specs.Entry.{RawEntry, blank}
use Rattle.lfs_meta.specs.Fits.{AttributeFits, RiseFrom, ContentsFit, RawEntryFits, RawPartFits}
use Rattle.lfs_meta.specs.Part.{RawPart, empty_part}
use Rattle.lfs_meta.specs.Replay.{acted, replay_by, step, replay_from, replay, at_entry, up_to, named_by, embodied_by, attributed_by}
use Rattle.lfs_meta.proofs.AttributeLemmas.{set_lesser, set_same, set_greater}

content-small : (t : Item) → IsItem t → length t.content < 1023
content-small t item = let e : length t.content ≡ data_len t.word = item.content in grind (arith, nat_tests)

-- ---- attributes

RiseFrom-lower : (least more : ℕ) (xs : Attributes) → least ≤ more → RiseFrom more xs → RiseFrom least xs
RiseFrom-lower least more [] le rise = tt
RiseFrom-lower least more (a ∷ xs) le rise = (omega (arith, rise.0), rise.1, rise.2)

pub set_attribute-rises : (least k : ℕ) (v : List ℕ) (xs : Attributes) → least ≤ k → AttributeFits (k, v) → RiseFrom least xs
    → RiseFrom least (set_attribute k v xs)
unfolding put_by
set_attribute-rises least k v [] le fits rise = (le, fits, tt)
set_attribute-rises least k v (a ∷ xs) le fits rise = elim (cases_order a.0 k) [
  | inl same ↦ subst (RiseFrom least) (sym (set_same k v a xs same)) (le, fits, subst (λ (m : ℕ). RiseFrom (m + 1) xs) same rise.2)
  | inr other ↦ elim other [
    | inl less ↦ subst (RiseFrom least) (sym (set_lesser k v a xs less))
        (rise.0, rise.1, set_attribute-rises (a.0 + 1) k v xs (omega arith) fits rise.2)
    | inr more ↦ subst (RiseFrom least) (sym (set_greater k v a xs more)) (le, fits, (omega arith, rise.1, rise.2))
  ]
]

kept-rises : (b : Bool) (least : ℕ) (a : ℕ × List ℕ) (xs : Attributes) → least ≤ a.0 → AttributeFits a → RiseFrom (a.0 + 1) xs
    → RiseFrom least (cond b (a ∷ xs) xs)
kept-rises true least a xs le fits rise = (le, fits, rise)
kept-rises false least a xs le fits rise = RiseFrom-lower least (a.0 + 1) xs (omega arith) rise

pub filter-rises : (p : ℕ × List ℕ → Bool) (least : ℕ) (xs : Attributes) → RiseFrom least xs → RiseFrom least (filter p xs)
filter-rises p least [] rise = tt
filter-rises p least (a ∷ xs) rise = kept-rises (p a) least a (filter p xs) rise.0 rise.1 (filter-rises p (a.0 + 1) xs rise.2)

attributed : (b : Bool) (k : ℕ) (v : List ℕ) (xs : Attributes) → AttributeFits (k, v) → RiseFrom 0 xs
    → RiseFrom 0 (if b then remove_attribute k xs else set_attribute k v xs)
attributed true k v xs fits rise = filter-rises (λ a. not (k == a.0)) 0 xs rise
attributed false k v xs fits rise = set_attribute-rises 0 k v xs (omega arith) fits rise

-- ---- entries

either_fits : (b : Bool) (x y : StoredBody) → ContentsFit x → ContentsFit y → ContentsFit (if b then x else y)
either_fits true x y fits other = fits
either_fits false x y fits other = other

body_named-fits : (kind : ℕ) (bytes : List ℕ) → length bytes < 1023 → ContentsFit (body_named kind bytes)
unfolding body_named
body_named-fits kind bytes h =
    let ctz : StoredBody = Chain (struct_word bytes 0) (struct_word bytes 4) in
    let leads : StoredBody = Directory_at (struct_word bytes 0) (struct_word bytes 4) in
    either_fits (kind == 0x201) (Inline bytes) (if kind == 0x202 then ctz else leads) h (either_fits (kind == 0x202) ctz leads tt tt)

blank-fits : RawEntryFits blank
unfolding blank
blank-fits = record { name = tt; contents = tt; attributes = tt }

named-fits : (t : Item) (e : RawEntry) → IsItem t → RawEntryFits e → RawEntryFits (named_by t e)
named-fits t e item fits = record { name = content-small t item; contents = fits.contents; attributes = fits.attributes }

embodied-fits : (t : Item) (e : RawEntry) → IsItem t → RawEntryFits e → RawEntryFits (embodied_by t e)
embodied-fits t e item fits = record {
  name = fits.name;
  contents = body_named-fits (type_of t.word) t.content (content-small t item);
  attributes = fits.attributes;
}

attributed-fits : (t : Item) (e : RawEntry) → IsItem t → RawEntryFits e → RawEntryFits (attributed_by t e)
attributed-fits t e item fits = record {
  name = fits.name;
  contents = fits.contents;
  attributes = attributed (is_deleted t) (chunk_of t.word) t.content e.attributes
      (record { kind = omega arith; value = content-small t item }) fits.attributes;
}

read-fits : (i : ℕ) (xs : List RawEntry) → All RawEntryFits xs → RawEntryFits (slice_index_or xs i blank)
read-fits i xs all = elim (cases_lt i (length xs)) [
  | inl within ↦ All-get_or RawEntryFits xs i blank within all
  | inr past ↦ subst RawEntryFits (sym (get_or-eq_default xs blank past)) blank-fits
]

at_entry-fits : (i : ℕ) (f : RawEntry → RawEntry) (xs : List RawEntry) → ((e : RawEntry) → RawEntryFits e → RawEntryFits (f e))
    → All RawEntryFits xs
    → All RawEntryFits (at_entry i f xs)
at_entry-fits i f xs keeps all = All-set RawEntryFits xs i (f (slice_index_or xs i blank))
    (keeps (slice_index_or xs i blank) (read-fits i xs all)) all

up_to-fits : (i : ℕ) (xs : List RawEntry) → All RawEntryFits xs → All RawEntryFits (up_to i xs)
up_to-fits i xs all = All-append RawEntryFits xs _ all (All-replicate RawEntryFits (i + 1 - length xs) blank blank-fits)

-- ---- parts

acted-fits : (a : Action) (t : Item) (p : RawPart) → IsItem t → RawPartFits p → RawPartFits (acted a t p)
unfolding acted
acted-fits Create t p item all =
    All-append RawEntryFits (take (id_of t.word) p.entries) (blank ∷ drop (id_of t.word) p.entries)
    (All-take RawEntryFits (id_of t.word) p.entries all)
    (All-cons RawEntryFits blank (drop (id_of t.word) p.entries) blank-fits (All-drop RawEntryFits (id_of t.word) p.entries all))
acted-fits Delete t p item all =
    All-append RawEntryFits (take (id_of t.word) p.entries) (drop (suc (id_of t.word)) p.entries)
    (All-take RawEntryFits (id_of t.word) p.entries all) (All-drop RawEntryFits (suc (id_of t.word)) p.entries all)
acted-fits SetName t p item all =
    at_entry-fits (id_of t.word) (named_by t) (up_to (id_of t.word) p.entries) (λ e fits. named-fits t e item fits)
    (up_to-fits (id_of t.word) p.entries all)
acted-fits SetBody t p item all = at_entry-fits (id_of t.word) (embodied_by t) p.entries (λ e fits. embodied-fits t e item fits) all
acted-fits SetAttribute t p item all = at_entry-fits (id_of t.word) (attributed_by t) p.entries
    (λ e fits. attributed-fits t e item fits) all
acted-fits SetTail t p item all = all
acted-fits SetDelta t p item all = all

-- ---- logs

pub taken : (b : Bool) (p q : RawPart) → (if b then None else Some p) ≡ Some q → p ≡ q
taken true p q e = cc
taken false p q e = cc

step-fits : (o : Option Action) (p q : RawPart) (t : Item) → replay_by o p t ≡ Some q → IsItem t → RawPartFits p → RawPartFits q
step-fits None p q t e item all = cc
step-fits (Some a) p q t e item all = subst RawPartFits (taken (is_bad a t (length p.entries)) (acted a t p) q e)
    (acted-fits a t p item all)

rest-fits : (o : Option RawPart) (f : RawPart → Option RawPart) (q : RawPart) → option_and_then f o ≡ Some q
    → ((p : RawPart) → o ≡ Some p → f p ≡ Some q → RawPartFits q) → RawPartFits q
rest-fits None f q e more = cc
rest-fits (Some p) f q e more = more p refl e

replay_from-fits : (p q : RawPart) (tags : List Item) → replay_from p tags ≡ Some q → AllByRecursion IsItem tags → RawPartFits p
    → RawPartFits q
unfolding replay_from
replay_from-fits p q [] e items all = let same : p ≡ q = cc in subst RawPartFits same all
replay_from-fits p q (t ∷ ts) e items all =
    rest-fits (step p t) (λ r. replay_from r ts) q e
    (λ r stepped left. replay_from-fits r q ts left items.1 (step-fits (action_of (type_of t.word)) p r t stepped items.0 all))

empty-fits : RawPartFits empty_part
unfolding empty_part
empty-fits = All-nil RawEntryFits

pub replay-fits : (tags : List Item) (p : RawPart) → AllByRecursion IsItem tags → replay tags ≡ Some p → RawPartFits p
replay-fits tags p items e = replay_from-fits empty_part p tags e items empty-fits
