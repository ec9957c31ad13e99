-- Directories in a table under their first pairs.
use Rattle.std.proofs.Common.{◌≡◌, ℕ, ◌+◌, ◌<◌, Bool, true, false, List, [], ◌∷◌, ◌++◌, Option, Some, None, refl, ap, sym, ◌∙◌, subst}
use Rattle.std.proofs.Common.{arith, cond, length, take, get_or, zero, suc}
use Rattle.std.specs.Prelude.{slice_get, if◌then◌else◌}
use Rattle.std.specs.BTreeMap.{is_at}
use Rattle.std.proofs.lemmas.Option.{none-some}
use Rattle.std.proofs.lemmas.List.{take_more, length-take-le}
use Rattle.std.proofs.lemmas.List.Elements.{All-nil, All-push}
use Rattle.lfs_meta.specs.Body.{Pair}
use Rattle.lfs_fs.specs.Pair.{same_pair}
use Rattle.lfs_fs.specs.Directory.{Directory, key, begins_at}
use Rattle.lfs_fs.specs.DirectoryTable.{pair_order, look_up}
use Rattle.lfs_fs.specs.DirectoryTable.{StandsAt, IsTableOf}
use Rattle.lfs_fs.proofs.PairLemmas.{is_at-same, same_pair-is, same_pair-refl, same_pair-symmetric}

pub slice_get_left : {X : Type 0} (xs ys : List X) (i : ℕ) (x : X) → slice_get xs i ≡ Some x → slice_get (xs ++ ys) i ≡ Some x
slice_get_left [] ys i x at = absurd (none-some x at)
slice_get_left (z ∷ xs) ys zero x at = at
slice_get_left (z ∷ xs) ys (suc i) x at = slice_get_left xs ys i x at

pub slice_get_seam : {X : Type 0} (xs : List X) (x : X) (ys : List X) → slice_get (xs ++ x ∷ ys) (length xs) ≡ Some x
slice_get_seam [] x ys = refl
slice_get_seam (z ∷ xs) x ys = slice_get_seam xs x ys

stands_longer : (front : List Directory) (d : Directory) (k : Pair) (o : Option ℕ) → begins_at k d ≡ false → StandsAt front k o
    → StandsAt (front ++ d ∷ []) k o
stands_longer front d k None other all = All-push (λ (c : Directory). begins_at k c ≡ false) front d all other
stands_longer front d k (Some i) other (c, at, is) = (c, slice_get_left front (d ∷ []) i c at, is)

stands_by : (b : Bool) (front : List Directory) (d : Directory) (k j : Pair) (old : Option ℕ) → same_pair k j ≡ b → k ≡ key d
    → StandsAt front j old → StandsAt (front ++ d ∷ []) j (if b then Some (length front) else old)
stands_by true front d k j old same is h =
    (d, slice_get_seam front d [], ap (λ (p : Pair). same_pair j p) (sym is ∙ same_pair-is k j same) ∙ same_pair-refl j)
stands_by false front d k j old other is h = stands_longer front d j old
    (ap (λ (p : Pair). same_pair j p) (sym is) ∙ same_pair-symmetric j k ∙ other) h

-- a directory more
table_more : (front : List Directory) (d : Directory) (table after : List (Pair × ℕ)) (k : Pair) → k ≡ key d
    → ((j : Pair) → look_up j after ≡ cond (is_at (pair_order k) j) (Some (length front)) (look_up j table)) → IsTableOf front table
    → IsTableOf (front ++ d ∷ []) after
table_more front d table after k is updates h j =
    let same : look_up j after ≡ (if same_pair k j then Some (length front) else look_up j table) =
    updates j ∙ ap (λ (b : Bool). if b then Some (length front) else look_up j table) (is_at-same k j) in
    subst (StandsAt (front ++ d ∷ []) j) (sym same) (stands_by (same_pair k j) front d k j (look_up j table) refl is (h j))

-- the next directory is put in
pub taken_more : (ds : List Directory) (i : ℕ) (d : Directory) (table after : List (Pair × ℕ)) (k : Pair) → i < length ds
    → d ≡ get_or ds i d → k ≡ key d
    → ((j : Pair) → look_up j after ≡ cond (is_at (pair_order k) j) (Some i) (look_up j table)) → IsTableOf (take i ds) table
    → IsTableOf (take (i + 1) ds) after
taken_more ds i d table after k within at is updates h =
    let complete : take (i + 1) ds ≡ take i ds ++ d ∷ [] = take_more ds i d within ∙ ap (λ (c : Directory). take i ds ++ c ∷ []) (sym at) in
    let len : length (take i ds) ≡ i = length-take-le i ds (omega arith) in
    subst (λ (cs : List Directory). IsTableOf cs after) (sym complete)
    (table_more (take i ds) d table after k is (λ j. updates j ∙ ap (λ (n : ℕ). cond (is_at (pair_order k) j) (Some n) (look_up j table))
    (sym len)) h)

pub table_none : (table : List (Pair × ℕ)) → table ≡ [] → IsTableOf [] table
table_none table is = subst (λ (t : List (Pair × ℕ)). IsTableOf [] t) (sym is) (λ k. All-nil (λ (c : Directory). begins_at k c ≡ false))
