-- With how many names of a path others begin, and what is left of them.
use Rattle.std.proofs.Common.{◌≡◌, ◌≢◌, ◌⊎◌, ℕ, zero, suc, ◌+◌, ◌-◌, ◌<◌, ◌≤◌, min, Bool, true, false, List, [], ◌∷◌, ◌++◌, Option, Some, None, length}
use Rattle.std.proofs.Common.{Bor, get_or, add-one, nat_eq, take, drop, refl, ap, sym, ◌∙◌, subst, arith, inl, inr, length-append, append_assoc}
use Rattle.std.specs.Prelude.{Contains, IfSome, bytes_eq, if◌then◌else◌, is_some}
use Rattle.std.proofs.lemmas.Bool.{eq-eqb, eqb-true}
use Rattle.std.proofs.lemmas.List.Elements.{Contains-append_right}
use Rattle.std.proofs.lemmas.List.{drop_all, length-map, length-take, take-append-drop}
use Rattle.std.proofs.lemmas.Option.{none-some, same_Some}
use Rattle.std.proofs.lemmas.Slice.Eq.{bytes_eq-Decides}
use Rattle.std.proofs.Math.Seq.{take-append_seam}
use Rattle.lfs_meta.specs.Name.{Name}
use Rattle.lfs_fs.specs.Listed.{path_after}
use Rattle.lfs_fs.specs.Path.{Path}
use Rattle.lfs_command.specs.PathMap.{below}
use Rattle.lfs_law.proofs.PathMapLemmas.{below-append, below_some}
use Rattle.lfs_listing.proofs.BelowLemmas.{name_at}
use Rattle.lfs_listing.specs.Below.{names}
use Rattle.lfs_extract.specs.RowsBelow.{IsSharedPrefix, shared}
use Rattle.lfs_extract.specs.declared.shared_prefix.SharedPrefix.{SharedPrefix}

-- ---- shared names

shared_none : (at : Path) → shared at [] ≡ 0
shared_none [] = refl
shared_none (n ∷ at) = refl

pub starts : (at : Path) (f : SharedPrefix) → f.length ≡ 0 → f.shared ≡ 0 → IsSharedPrefix at [] f
starts at f long same = record { long = long; same = same ∙ sym (shared_none at) }

no_more : (b : Bool) (x : ℕ) → (if b then suc x else 0) ≤ suc x
no_more true x = omega arith
no_more false x = omega arith

pub shared_within : (at path : Path) → shared at path ≤ length at
shared_within [] path = omega arith
shared_within (n ∷ at) [] = omega arith
shared_within (n ∷ at) (m ∷ path) = omega (arith, no_more (bytes_eq n m) (shared at path), shared_within at path)

-- names that differ
differ_by : (b : Bool) (x y k : ℕ) → (x < k → y ≡ x) → (if b then suc x else 0) < suc k → (if b then suc y else 0) ≡ (if b then suc x else 0)
differ_by true x y k more less = ap suc (more (omega (arith, less)))
differ_by false x y k more less = refl

pub shared_before : (at prefix more other : Path) → shared at (prefix ++ more) < length prefix
    → shared at (prefix ++ other) ≡ shared at (prefix ++ more)
shared_before at [] more other less = absurd (omega (arith, less))
shared_before [] (m ∷ prefix) more other less = refl
shared_before (n ∷ at) (m ∷ prefix) more other less =
    differ_by (bytes_eq n m) (shared at (prefix ++ more)) (shared at (prefix ++ other)) (length prefix) (shared_before at prefix more other) less

-- names that are the same
alike_by : (b : Bool) (x k : ℕ) → suc k ≤ (if b then suc x else 0) → (b ≡ true) × (k ≤ x)
alike_by true x k long = (refl, omega (arith, long))
alike_by false x k long = absurd (omega (arith, long))

pub shared_ends : (at prefix more other : Path) → length prefix ≤ shared at (prefix ++ more) → drop (length prefix) at ≡ []
    → shared at (prefix ++ other) ≡ length prefix
shared_ends [] [] more other long ends = refl
shared_ends (n ∷ at) [] more other long ends = absurd cc
shared_ends [] (m ∷ prefix) more other long ends = absurd (omega (arith, long))
shared_ends (n ∷ at) (m ∷ prefix) more other long ends =
    let here = alike_by (bytes_eq n m) (shared at (prefix ++ more)) (length prefix) long in
    ap (λ (b : Bool). if b then suc (shared at (prefix ++ other)) else 0) here.0 ∙ ap suc (shared_ends at prefix more other here.1 ends)

pub shared_goes : (at prefix more later : Path) (n m : Name) → length prefix ≤ shared at (prefix ++ more) → drop (length prefix) at ≡ n ∷ later
    → shared at (prefix ++ m ∷ []) ≡ (if bytes_eq n m then suc (length prefix) else length prefix)
shared_goes [] [] more later n m long is = absurd cc
shared_goes (k ∷ at) [] more later n m long is =
    let same : k ≡ n = cc in
    ap (λ (x : ℕ). if bytes_eq k m then suc x else 0) (shared_none at) ∙ ap (λ (x : Name). if bytes_eq x m then 1 else 0) same
shared_goes [] (h ∷ prefix) more later n m long is = absurd (omega (arith, long))
shared_goes (k ∷ at) (h ∷ prefix) more later n m long is =
    let here = alike_by (bytes_eq k h) (shared at (prefix ++ more)) (length prefix) long in
    ap (λ (b : Bool). if b then suc (shared at (prefix ++ m ∷ [])) else 0) here.0
    ∙ ap suc (shared_goes at prefix more later n m here.1 is)
    ∙ moved (bytes_eq n m) (length prefix)
  where
    moved : (b : Bool) (x : ℕ) → suc (if b then suc x else x) ≡ (if b then suc (suc x) else suc x)
    moved true x = refl
    moved false x = refl

-- so many names are all
pub ended : (at : List (Bor Name)) (prefix more : Path) (kept old : ℕ) (n : Name) → length at ≤ kept → length prefix ≡ kept
    → shared (names at) (prefix ++ more) ≡ old → kept ≤ old → kept ≡ shared (names at) (prefix ++ n ∷ [])
ended at prefix more kept old n over long is least =
    let len : length (names at) ≡ length at = length-map at (λ (b : Bor Name). b.now) in
    let none : drop (length prefix) (names at) ≡ [] = drop_all (length prefix) (names at) (omega (arith, len, over, long)) in
    sym (shared_ends (names at) prefix more (n ∷ []) (omega (arith, long, is, least)) none ∙ long)

-- or this one is next
pub meets : (at : List (Bor Name)) (prefix more : Path) (kept old : ℕ) (n : Name) (b : Bor Name) → kept < length at → length prefix ≡ kept
    → shared (names at) (prefix ++ more) ≡ old → kept ≤ old
    → shared (names at) (prefix ++ n ∷ []) ≡ (if bytes_eq (get_or at kept b).now n then suc kept else kept)
meets at prefix more kept old n b within long is least =
    let next : drop (length prefix) (names at) ≡ (get_or at kept b).now ∷ drop (kept + 1) (names at) =
    ap (λ (i : ℕ). drop i (names at)) long ∙ name_at at kept b within in
    shared_goes (names at) prefix more (drop (kept + 1) (names at)) (get_or at kept b).now n (omega (arith, long, is, least)) next
    ∙ ap (λ (i : ℕ). if bytes_eq (get_or at kept b).now n then suc i else i) long

other_bytes : (n m : Name) (b : Bool) → n ≢ m → (b ≡ true → n ≡ m) → b ≡ false
other_bytes n m true other is = absurd (other (is refl))
other_bytes n m false other is = refl

pub meets_other : (at : List (Bor Name)) (prefix more : Path) (kept old : ℕ) (n : Name) (b : Bor Name) → kept < length at → length prefix ≡ kept
    → shared (names at) (prefix ++ more) ≡ old → kept ≤ old → (get_or at kept b).now ≢ n → kept ≡ shared (names at) (prefix ++ n ∷ [])
meets_other at prefix more kept old n b within long is least other =
    let m : Name = (get_or at kept b).now in
    sym (meets at prefix more kept old n b within long is least
    ∙ ap (λ (t : Bool). if t then suc kept else kept) (other_bytes m n (bytes_eq m n) other (bytes_eq-Decides m n).0))

pub meets_same : (at : List (Bor Name)) (prefix more : Path) (kept old : ℕ) (n : Name) (b : Bor Name) → kept < length at → length prefix ≡ kept
    → shared (names at) (prefix ++ more) ≡ old → kept ≤ old → (get_or at kept b).now ≡ n → kept + 1 ≡ shared (names at) (prefix ++ n ∷ [])
meets_same at prefix more kept old n b within long is least same =
    let m : Name = (get_or at kept b).now in
    add-one kept
    ∙ sym (meets at prefix more kept old n b within long is least
    ∙ ap (λ (t : Bool). if t then suc kept else kept) ((bytes_eq-Decides m n).1 same))

-- ---- the path of the next row

pub goes_on : (at q : Path) (f g : SharedPrefix) (kept depth : ℕ) (n : Name) → IsSharedPrefix at q f → kept ≡ min f.length (depth - 1) → depth ≢ 0
    → g.length ≡ kept + 1
    → ((prefix more : Path) → length prefix ≡ kept → shared at (prefix ++ more) ≡ f.shared → g.shared ≡ shared at (prefix ++ n ∷ []))
    → IsSharedPrefix at (path_after q depth n) g
goes_on at q f g kept zero n is least some' long after = absurd (some' refl)
goes_on at q f g kept (suc k) n is least some' long after =
    let len : length (take k q) ≡ min k (length q) = length-take k q in
    record {
      long = omega (arith, long, least, is.long, len, length-append (take k q) (n ∷ []));
      same = after (take k q) (drop k q) (omega (arith, len, least, is.long)) (ap (shared at) (take-append-drop k q) ∙ sym is.same);
    }

-- ---- below

all_by : (b : Bool) (x k : ℕ) (o : Option Path) → (x ≡ k → is_some o ≡ true) → (if b then suc x else 0) ≡ suc k
    → is_some (if b then o else None) ≡ true
all_by true x k o more same = more (omega (arith, same))
all_by false x k o more same = absurd (omega (arith, same))

pub below_shared : (at path : Path) → shared at path ≡ length at → is_some (below at path) ≡ true
below_shared [] path same = refl
below_shared (n ∷ at) [] same = absurd (omega (arith, same))
below_shared (n ∷ at) (m ∷ path) same = all_by (bytes_eq n m) (shared at path) (length at) (below at path) (below_shared at path) same

complete_by : (b : Bool) (x k : ℕ) (o : Option Path) → (is_some o ≡ true → x ≡ k) → is_some (if b then o else None) ≡ true
    → (if b then suc x else 0) ≡ suc k
complete_by true x k o more is = ap suc (more is)
complete_by false x k o more is = absurd cc

pub shared_below : (at path : Path) → is_some (below at path) ≡ true → shared at path ≡ length at
shared_below [] path is = refl
shared_below (n ∷ at) [] is = absurd cc
shared_below (n ∷ at) (m ∷ path) is = complete_by (bytes_eq n m) (shared at path) (length at) (below at path) (shared_below at path) is

both : (a b : Bool) → (a ≡ true → b ≡ true) → (b ≡ true → a ≡ true) → a ≡ b
both true b there back = sym (there refl)
both false true there back = back refl
both false false there back = refl

pub tells : (at : List (Bor Name)) (path : Path) (f : SharedPrefix) → IsSharedPrefix (names at) path f
    → nat_eq f.shared (length at) ≡ is_some (below (names at) path)
tells at path f is =
    let len : length (names at) ≡ length at = length-map at (λ (b : Bor Name). b.now) in
    both (nat_eq f.shared (length at)) (is_some (below (names at) path))
    (λ same. below_shared (names at) path (sym is.same ∙ eqb-true f.shared (length at) same ∙ sym len))
    (λ there. eq-eqb f.shared (length at) (is.same ∙ shared_below (names at) path there ∙ len))

-- ---- what is left

-- a path with one name more is the other one, or was below it before
abbrev pub IsGrown : Path → Path → Name → Path → Type 0
IsGrown at prefix n rest =
    ((length (prefix ++ n ∷ []) ≡ length at) × (rest ≡ []))
    ⊎ ((before : Path) × (below at prefix ≡ Some before) × (rest ≡ before ++ n ∷ []))

if_true : (b : Bool) (o : Option Path) (rest : Path) → (if b then o else None) ≡ Some rest → (b ≡ true) × (o ≡ Some rest)
if_true true o rest is = (refl, is)
if_true false o rest is = absurd (none-some rest is)

alone : (at rest : Path) → below at [] ≡ Some rest → (at ≡ []) × (rest ≡ [])
alone [] rest is = (refl, sym (same_Some [] rest is))
alone (n ∷ at) rest is = absurd (none-some rest is)

pub grown : (at prefix rest : Path) (n : Name) → below at (prefix ++ n ∷ []) ≡ Some rest → IsGrown at prefix n rest
grown [] prefix rest n is = inr (prefix, refl, sym (same_Some (prefix ++ n ∷ []) rest is))
grown (m ∷ at) [] rest n is =
    let there = if_true (bytes_eq m n) (below at []) rest is in
    let none = alone at rest there.1 in
    inl (ap (λ (p : Path). suc (length p)) (sym none.0), none.1)
grown (m ∷ at) (h ∷ prefix) rest n is =
    let there = if_true (bytes_eq m h) (below at (prefix ++ n ∷ [])) rest is in
    elim (grown at prefix rest n there.1) [
      | inl same ↦ inl (ap suc same.0, same.1)
      | inr left ↦ inr (left.0, ap (λ (b : Bool). if b then below at prefix else None) there.0 ∙ left.1, left.2)
    ]

-- what is left of a prefix is a prefix of what is left
pub prefix_left : (at prefix more before : Path) → below at prefix ≡ Some before → below at (prefix ++ more) ≡ Some (before ++ more)
prefix_left at prefix more before is =
    ap (λ (p : Path). below at (p ++ more)) (below_some at prefix before is)
    ∙ ap (below at) (append_assoc at before more) ∙ below-append at (before ++ more)

-- what is left of the next row's path: nothing, where it is the path itself, or first names of what was left, and its own
pub rest_after : (at q rest left : Path) (depth : ℕ) (n : Name) → below at (path_after q depth n) ≡ Some rest
    → IfSome (below at q) (λ before. before ≡ left) → rest ≡ path_after left (length (path_after q depth n) - length at) n
rest_after at q rest left zero n is was =
    let none = alone at rest is in
    let least : 0 ≡ 0 - length at = omega arith in
    none.1 ∙ ap (λ (i : ℕ). path_after left i n) least
rest_after at q rest left (suc k) n is was = elim (grown at (take k q) rest n is) [
  | inl here ↦
      let least : 0 ≡ length (take k q ++ n ∷ []) - length at = omega (arith, here.0) in
      here.1 ∙ ap (λ (i : ℕ). path_after left i n) least
  | inr (before, there, rest_is) ↦
      let complete : below at q ≡ Some (before ++ drop k q) =
      ap (below at) (sym (take-append-drop k q)) ∙ prefix_left at (take k q) (drop k q) before there in
      let left_is : before ++ drop k q ≡ left = subst (λ (o : Option Path). IfSome o (λ b. b ≡ left)) complete was in
      let cut : take (length before) left ≡ before =
      ap (take (length before)) (sym left_is) ∙ take-append_seam before (drop k q) in
      let long : length (take k q) ≡ length at + length before =
      ap length (below_some at (take k q) before there) ∙ length-append at before in
      let count : suc (length before) ≡ length (take k q ++ n ∷ []) - length at =
      omega (arith, long, length-append (take k q) (n ∷ [])) in
      rest_is ∙ ap (λ (p : Path). p ++ n ∷ []) (sym cut) ∙ ap (λ (i : ℕ). path_after left i n) count
]

-- the last name of a path that has some
pub has_last : (left : Path) (more : ℕ) (n : Name) → 0 < more → Contains (path_after left more n) n
has_last left zero n some' = absurd (omega (arith, some'))
has_last left (suc k) n some' = Contains-append_right (take k left) (n ∷ []) n (0, omega arith, refl)

left_by : (at q left : Path) (depth : ℕ) (n : Name) (o : Option Path) → IfSome (below at q) (λ before. before ≡ left)
    → below at (path_after q depth n) ≡ o → is_some o ≡ true
    → o ≡ Some (path_after left (length (path_after q depth n) - length at) n)
left_by at q left depth n None was is there = absurd cc
left_by at q left depth n (Some rest) was is there = ap (λ (p : Path). Some p) (rest_after at q rest left depth n is was)

-- what is left where the row is at the path or below it
pub left_after : (at q left : Path) (depth : ℕ) (n : Name) → IfSome (below at q) (λ before. before ≡ left)
    → is_some (below at (path_after q depth n)) ≡ true
    → below at (path_after q depth n) ≡ Some (path_after left (length (path_after q depth n) - length at) n)
left_after at q left depth n was there = left_by at q left depth n (below at (path_after q depth n)) was refl there
