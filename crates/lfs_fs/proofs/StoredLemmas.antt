-- What is read on a front of an image that holds a volume.
use Rattle.std.proofs.Common.{◌≡◌, ◌≢◌, ◌⊎◌, ℕ, List, [], ◌∷◌, refl, ap, sym, ◌∙◌, subst, append-nil, Some, zero, suc}
use Rattle.std.specs.Prelude.{All, Contains}
use Rattle.std.specs.List.{slice_get}
use Rattle.std.proofs.lemmas.Bool.Decides.{eqb_tells}
use Rattle.std.proofs.lemmas.List.Elements.{All-head, All-tail, Contains-append_left}
use mathlib.Core.Logic.{inl, inr}
use Rattle.lfs_meta.specs.Body.{Pair}
use Rattle.lfs_meta.specs.Entry.{StoredEntry}
use Rattle.lfs_meta.specs.Part.{StoredPart}
use Rattle.lfs_fs.specs.Pair.{root}
use Rattle.lfs_fs.specs.Volume.{Volume}
use Rattle.lfs_fs.specs.Reading.{Reading}
use Rattle.lfs_fs.specs.Front.{Begins, IsFront, IsThread}
use Rattle.lfs_fs.specs.FrontCause.{StoredOn}
use Rattle.lfs_fs.specs.Superblock.{superblock_entry}
use Rattle.lfs_fs.specs.Holds.{Holds, IsResolved}
use Rattle.lfs_fs.proofs.FrontLemmas.{fronts_begin_each_other}
use Rattle.lfs_fs.proofs.OneMountLemmas.{begun_by_thread}

-- a front begins the thread
pub front_of_thread : (r : Reading) (ps qs : List Pair) → IsThread r ps → IsFront r qs → Begins qs ps
front_of_thread r ps qs h k = elim (fronts_begin_each_other r ps qs h.front k)
    [ inl b ↦ ([], sym (begun_by_thread r ps qs h k b) ∙ sym (append-nil qs)) | inr b ↦ b ]

pub there_in_thread : (qs ps : List Pair) (p : Pair) → Begins qs ps → Contains qs p → Contains ps p
there_in_thread qs ps p begins there = subst (λ (x : List Pair). Contains x p) (sym begins.1) (Contains-append_left qs begins.0 p there)

pub same_or_not : (p q : Pair) → (p ≡ q) ⊎ (p ≢ q)
same_or_not p q =
    elim (eqb_tells p.0 q.0) [
      | inl first ↦ elim (eqb_tells p.1 q.1) [
        | inl second ↦ inl (ap (λ (x : ℕ). (x, p.1)) first.1 ∙ ap (λ (y : ℕ). (q.0, y)) second.1)
        | inr second ↦ inr (λ same. second.1 (ap (λ (x : Pair). x.1) same))
      ]
      | inr first ↦ inr (λ same. first.1 (ap (λ (x : Pair). x.0) same))
    ]

pub all_got : {X : Type 0} (P : X → Type 0) (xs : List X) (i : ℕ) (x : X) → All P xs → slice_get xs i ≡ Some x → P x
all_got P [] i x all is = cc
all_got P (y ∷ xs) zero x all is = let same : y ≡ x = cc in subst P same (All-head P y xs all)
all_got P (y ∷ xs) (suc i) x all is = all_got P xs i x (All-tail P y xs all) is

-- an entry is the superblock, or one that is resolved
pub data Standing (r : Reading) (v : Volume) (holds : Holds r v) (e : StoredEntry) (pair : Pair) (index : ℕ) : Type 0 where
  First : pair ≡ root → index ≡ 0 → e ≡ superblock_entry holds.bytes holds.attributes → Standing r v holds e pair index
  Later : IsResolved r e → Standing r v holds e pair index

first_or_later : (r : Reading) (v : Volume) (holds : Holds r v) (e : StoredEntry) (pair : Pair) (index : ℕ) → pair ≡ root
    → slice_get (superblock_entry holds.bytes holds.attributes ∷ holds.superblock.others) index ≡ Some e → Standing r v holds e pair index
first_or_later r v holds e pair zero at is = let same : superblock_entry holds.bytes holds.attributes ≡ e = cc in First at refl (sym same)
first_or_later r v holds e pair (suc index) at is = Later (all_got (IsResolved r) holds.superblock.others index e holds.resolved is)

pub standing : (r : Reading) (v : Volume) (holds : Holds r v) (e : StoredEntry) (s : StoredOn r e) → Standing r v holds e s.pair s.index
standing r v holds e s =
    elim (same_or_not s.pair root) [
      | inl at ↦
          let part : s.part ≡ holds.superblock.part = cc (s.read, ap r.part at, holds.superblock.read) in
          first_or_later r v holds e s.pair s.index at (ap (λ x. slice_get x s.index) (sym holds.superblock.is)
          ∙ ap (λ (x : StoredPart). slice_get x.entries s.index) (sym part) ∙ s.member)
      | inr other ↦ Later (all_got (IsResolved r) s.part.entries s.index e
          (holds.resolved_later s.pair s.part (there_in_thread s.front holds.pairs s.pair
          (front_of_thread r holds.pairs s.front holds.is_thread s.is_front) s.there) other s.read) s.member)
    ]
