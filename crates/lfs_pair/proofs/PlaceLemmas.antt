-- A place in the middle of a part's entries.
use Rattle.std.proofs.Common.{◌≡◌, ℕ, ◌+◌, ◌-◌, ◌<◌, List, [], ◌∷◌, ◌++◌, length, refl, ap, ◌∙◌, arith, Some, append-nil, length-append}
use Rattle.std.specs.Prelude.{replicate, slice_set, insert, remove}
use Rattle.std.proofs.lemmas.List.Edits.{insert-append_right, remove-append_right}
use Rattle.std.proofs.Math.Seq.{get_or-append_seam, set-append_seam}
use Rattle.lfs_meta.specs.declared.kind.Kind.{Kind}
use Rattle.lfs_meta.specs.declared.tail.Tail.{Tail}
use Rattle.lfs_meta.specs.Attribute.{Attributes}
use Rattle.lfs_meta.specs.Body.{StoredBody}
use Rattle.lfs_meta.specs.Entry.{RawEntry, blank}
use Rattle.lfs_meta.specs.Name.{Name}
use Rattle.lfs_meta.specs.Part.{RawPart}
use Rattle.lfs_meta.specs.Replay.{at_entry, up_to}

-- a part with these
abbrev pub part_with : List RawEntry → Tail → List ℕ → RawPart
part_with entries tail delta = record { entries = entries; tail = tail; delta = delta }

-- a place among the entries of a part: those before it, those behind it, and all else of the part
pub record Place : Type 0 where
  pub done : List RawEntry
  pub rest : List RawEntry
  pub tail : Tail
  pub delta : List ℕ

abbrev pub place : List RawEntry → List RawEntry → Tail → List ℕ → Place
place done rest tail delta = record { done = done; rest = rest; tail = tail; delta = delta }

-- the part with an entry at a place
abbrev pub at_place : Place → RawEntry → RawPart
at_place p x = part_with (p.done ++ (x ∷ p.rest)) p.tail p.delta

-- an entry with this name, with this struct, with these attributes
abbrev pub with_name : Kind → Name → RawEntry → RawEntry
with_name kind name x = record { name = Some (kind, name); body = x.body; attributes = x.attributes }

abbrev pub with_body : StoredBody → RawEntry → RawEntry
with_body body x = record { name = x.name; body = Some body; attributes = x.attributes }

abbrev pub with_values : Attributes → RawEntry → RawEntry
with_values values x = record { name = x.name; body = x.body; attributes = values }

-- ---- lists

pub at_entry-place : (f : RawEntry → RawEntry) (done : List RawEntry) (x : RawEntry) (rest : List RawEntry) (i : ℕ) → i ≡ length done
    → at_entry i f (done ++ (x ∷ rest)) ≡ done ++ (f x ∷ rest)
at_entry-place f done x rest i e =
    ap (λ (k : ℕ). at_entry k f (done ++ (x ∷ rest))) e
    ∙ ap (λ (y : RawEntry). slice_set (done ++ (x ∷ rest)) (length done) (f y)) (get_or-append_seam done x rest blank)
    ∙ set-append_seam done x rest (f x)

pub insert-place : (done rest : List RawEntry) (x : RawEntry) (i : ℕ) → i ≡ length done → insert (done ++ rest) i x ≡ done ++ (x ∷ rest)
insert-place done rest x i e =
    let none : i - length done ≡ 0 = omega arith in
    insert-append_right done rest (length done) i x refl (omega arith) ∙ ap (λ (k : ℕ). done ++ insert rest k x) none

pub remove-place : (done : List RawEntry) (x : RawEntry) (rest : List RawEntry) (i : ℕ) → i ≡ length done
    → remove (done ++ (x ∷ rest)) i ≡ done ++ rest
remove-place done x rest i e =
    let none : i - length done ≡ 0 = omega arith in
    remove-append_right done (x ∷ rest) (length done) i refl (omega arith) ∙ ap (λ (k : ℕ). done ++ remove (x ∷ rest) k) none

-- a name makes an entry behind the last one
pub up_to-next : (xs : List RawEntry) → up_to (length xs) xs ≡ xs ++ (blank ∷ [])
up_to-next xs =
    let one : length xs + 1 - length xs ≡ 1 = omega arith in
    ap (λ (k : ℕ). xs ++ replicate k blank) one

-- and none where there is one
pub up_to-there : (done : List RawEntry) (x : RawEntry) (rest : List RawEntry)
    → up_to (length done) (done ++ (x ∷ rest)) ≡ done ++ (x ∷ rest)
up_to-there done x rest =
    let none : length done + 1 - length (done ++ (x ∷ rest)) ≡ 0 = omega (arith, length-append done (x ∷ rest)) in
    ap (λ (k : ℕ). (done ++ (x ∷ rest)) ++ replicate k blank) none ∙ append-nil (done ++ (x ∷ rest))

-- there is an entry at a place
pub within : (p : Place) (x : RawEntry) → length p.done < length (p.done ++ (x ∷ p.rest))
within p x = omega (arith, length-append p.done (x ∷ p.rest))
