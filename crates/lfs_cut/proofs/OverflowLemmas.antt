-- What is gathered from a list, one element after another.
use Rattle.std.proofs.Common.{◌≡◌, ℕ, ◌+◌, ◌<◌, ◌≤◌, List, [], ◌∷◌, ◌++◌, length, drop, refl, ap, sym, ◌∙◌, arith, append_assoc, append-nil}
use Rattle.std.proofs.Common.{length-append, length-drop}
use Rattle.std.specs.Prelude.{flat_map, slice_index_or}
use Rattle.std.proofs.lemmas.Grind.{flat_map-append}
use Rattle.std.proofs.lemmas.List.Concat.{flat_map-cons}
use Rattle.lfs_fs.specs.Directory.{Directory, parts, thread}
use Rattle.lfs_fs.proofs.ItemLemmas.{drop_at}
use Rattle.lfs_cut.specs.declared.overflow.Overflow.{Overflow}
use Rattle.lfs_cut.specs.Overflow.{overflow_of, overflows_of}

pub one_gathered : {X Y : Type 0} (f : X → List Y) (xs : List X) (i : ℕ) (x : X) (done complete : List Y) → i < length xs
    → x ≡ slice_index_or xs i x
    → done ++ flat_map f (drop i xs) ≡ complete → (done ++ f x) ++ flat_map f (drop (i + 1) xs) ≡ complete
one_gathered f xs i x done complete within is so =
    append_assoc done (f x) (flat_map f (drop (i + 1) xs))
    ∙ ap (λ ys. done ++ ys) (sym (flat_map-cons f x (drop (i + 1) xs)))
    ∙ ap (λ ys. done ++ flat_map f ys) (sym (drop_at xs i x within is)) ∙ so

pub room_for_one : {X Y : Type 0} (f : X → List Y) (xs : List X) (i : ℕ) (x : X) (done complete : List Y) → i < length xs
    → x ≡ slice_index_or xs i x
    → done ++ flat_map f (drop i xs) ≡ complete → length done + length (f x) ≤ length complete
room_for_one f xs i x done complete within is so =
    let all : length ((done ++ f x) ++ flat_map f (drop (i + 1) xs)) ≡ length complete =
    ap (λ ys. length ys) (one_gathered f xs i x done complete within is so) in
    omega (arith, all, length-append (done ++ f x) (flat_map f (drop (i + 1) xs)), length-append done (f x))

pub all_gathered : {X Y : Type 0} (f : X → List Y) (xs : List X) (i : ℕ) (done complete : List Y) → length xs ≤ i
    → done ++ flat_map f (drop i xs) ≡ complete → done ≡ complete
all_gathered {X} {Y} f xs i done complete past so = sym (append-nil done)
    ∙ ap (λ (ys : List Y). done ++ ys) (sym (none (drop i xs) (omega (arith, length-drop i xs, past)))) ∙ so
  where
    none : (ys : List X) → length ys ≡ 0 → flat_map f ys ≡ []
    none [] h = refl
    none (y ∷ ys) h = absurd (omega (arith, h))

-- those of a thread, directory by directory
pub overflows_in_turn : (bytes superblock : ℕ) (ds : List Directory)
    → overflows_of bytes superblock (thread ds) ≡ flat_map (λ d. overflows_of bytes superblock (parts d)) ds
overflows_in_turn bytes superblock [] = refl
overflows_in_turn bytes superblock (d ∷ ds) =
    ap (overflows_of bytes superblock) (flat_map-cons parts d ds)
    ∙ flat_map-append (overflow_of bytes superblock) (parts d) (thread ds)
    ∙ ap (λ (gs : List Overflow). overflows_of bytes superblock (parts d) ++ gs) (overflows_in_turn bytes superblock ds)
    ∙ sym (flat_map-cons (λ (e : Directory). overflows_of bytes superblock (parts e)) d ds)
