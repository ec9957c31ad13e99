-- Runs of blocks of one user.
use Rattle.std.proofs.Common.{◌≡◌, ℕ, zero, suc, ◌+◌, ◌-◌, ◌<◌, ◌≤◌, Bool, true, false, List, [], ◌∷◌, ◌++◌, Option, Some, None, refl, ap, sym, subst, ◌∙◌}
use Rattle.std.proofs.Common.{arith, cond, inl, inr, drop, drop-cons, flat_map, get_or, length}
use Rattle.std.specs.Prelude.{nat_eq, slice_get}
use Rattle.std.specs.Option.{option_eq, option_map_or}
use Rattle.std.proofs.lemmas.Bool.{cases_lt}
use Rattle.std.proofs.lemmas.Bool.Decides.{nat_tests}
use Rattle.std.proofs.lemmas.Option.{slice_get-get_or, slice_get_past}
use Rattle.std.proofs.lemmas.List.{drop_all}
use Rattle.lfs_json.specs.declared.form.Form.{Form}
use Rattle.lfs_listing.specs.BlockMap.{BlockRun, put_before, runs_from}
use Rattle.lfs_listing.specs.Using.{part_line, run_line}
use Rattle.lfs_listing.specs.Runs.{run_goes_on}
use Rattle.lfs_listing.proofs.BufferLemmas.{IsUnderWay, more_waits}

same_number : (t : Bool) (n m : ℕ) → nat_eq n m ≡ t → t ≡ true → n ≡ m
same_number t n m is true' = grind (arith, nat_tests)

-- users that are tested as the same are the same
pub same_user : (u w : Option ℕ) → option_eq nat_eq u w ≡ true → u ≡ w
same_user None None is = refl
same_user None (Some m) is = absurd (cc)
same_user (Some n) None is = absurd (cc)
same_user (Some n) (Some m) is = ap (λ (i : ℕ). Some i) (same_number (nat_eq n m) n m refl is)

pub user_itself : (u : Option ℕ) → option_eq nat_eq u u ≡ true
user_itself None = refl
user_itself (Some n) = grind (arith, nat_tests)

-- a run of blocks with this user, from the first to the last
abbrev pub run_of : ℕ → ℕ → Option ℕ → BlockRun
run_of first last u = record { first = first; last = last; user = u }

-- the first run is of the first user
record BeginsWith (u : Option ℕ) (runs : List BlockRun) : Type 0 where
  run : BlockRun
  later : List BlockRun
  are : runs ≡ run ∷ later
  user : run.user ≡ u

begins_by : (t : Bool) (b : ℕ) (u : Option ℕ) (run : BlockRun) (runs : List BlockRun)
    → BeginsWith u (cond t (run_of b run.last u ∷ runs) (run_of b b u ∷ run ∷ runs))
begins_by true b u run runs = record { run = run_of b run.last u; later = runs; are = refl; user = refl }
begins_by false b u run runs = record { run = run_of b b u; later = run ∷ runs; are = refl; user = refl }

begins_put : (b : ℕ) (u : Option ℕ) (runs : List BlockRun) → BeginsWith u (put_before b u runs)
begins_put b u [] = record { run = run_of b b u; later = []; are = refl; user = refl }
begins_put b u (run ∷ runs) = begins_by (option_eq nat_eq run.user u) b u run runs

-- a run that another user's follows
ends_put : (b : ℕ) (u w : Option ℕ) (runs : List BlockRun) → BeginsWith w runs → option_eq nat_eq w u ≡ false
    → put_before b u runs ≡ run_of b b u ∷ runs
ends_put b u w runs h other =
    let test : option_eq nat_eq h.run.user u ≡ false = ap (λ (x : Option ℕ). option_eq nat_eq x u) h.user ∙ other in
    ap (put_before b u) h.are
    ∙ ap (λ (t : Bool). cond t (run_of b h.run.last u ∷ h.later) (run_of b b u ∷ h.run ∷ h.later)) test
    ∙ ap (λ (rs : List BlockRun). run_of b b u ∷ rs) (sym h.are)

-- a run that its own user's follows
longer_put : (b last : ℕ) (u : Option ℕ) (runs : List BlockRun) → put_before b u (run_of (b + 1) last u ∷ runs) ≡ run_of b last u ∷ runs
longer_put b last u runs =
    ap (λ (t : Bool). cond t (run_of b last u ∷ runs) (run_of b b u ∷ run_of (b + 1) last u ∷ runs)) (user_itself u)

-- the last block of a run
one_run : (b : ℕ) (u : Option ℕ) (us : List (Option ℕ))
    → option_map_or (λ next. option_eq nat_eq next u) (slice_get us 0) false ≡ false
    → put_before b u (runs_from (b + 1) us) ≡ run_of b b u ∷ runs_from (b + 1) us
one_run b u [] ends = refl
one_run b u (w ∷ us) ends = ends_put b u w (runs_from (b + 1) (w ∷ us)) (begins_put (b + 1) w (runs_from (b + 1 + 1) us)) ends

-- the users from a block on
split_at : (us : List (Option ℕ)) (b : ℕ) → b < length us → drop b us ≡ get_or us b None ∷ drop (b + 1) us
split_at us b within =
    let next : suc b ≡ b + 1 = omega arith in
    drop-cons us b None within ∙ ap (λ (i : ℕ). get_or us b None ∷ drop i us) next

at_drop : (us : List (Option ℕ)) (b : ℕ) → slice_get (drop b us) 0 ≡ slice_get us b
at_drop [] zero = refl
at_drop [] (suc b) = refl
at_drop (u ∷ us) zero = refl
at_drop (u ∷ us) (suc b) = at_drop us b

first_of_both : (x y : BlockRun) (xs ys : List BlockRun) (u : Option ℕ) → x ∷ xs ≡ y ∷ ys → x.user ≡ u → y.user ≡ u
first_of_both x y xs ys u same is = let equal : x ≡ y = cc in ap (λ (r : BlockRun). r.user) (sym equal) ∙ is

head_user : (runs later : List BlockRun) (run : BlockRun) (u : Option ℕ) → BeginsWith u runs → runs ≡ run ∷ later → run.user ≡ u
head_user runs later run u h is = first_of_both h.run run h.later later u (sym h.are ∙ is) h.user

-- a run of so many blocks and one
run_ends : (n b : ℕ) (us : List (Option ℕ)) → b + n < length us
    → ((k : ℕ) → b ≤ k → k < b + n → run_goes_on us k ≡ true) → run_goes_on us (b + n) ≡ false
    → runs_from b (drop b us) ≡ run_of b (b + n) (get_or us (b + n) None) ∷ runs_from (b + n + 1) (drop (b + n + 1) us)
run_ends zero b us within on ends =
    let here : b + 0 ≡ b = omega arith in
    let stops : run_goes_on us b ≡ false = ap (run_goes_on us) (sym here) ∙ ends in
    let u : Option ℕ = get_or us b None in
    let rest : List (Option ℕ) = drop (b + 1) us in
    let test : option_map_or (λ (next : Option ℕ). option_eq nat_eq next u) (slice_get rest 0) false ≡ false =
    ap (λ (o : Option (Option ℕ)). option_map_or (λ (next : Option ℕ). option_eq nat_eq next u) o false) (at_drop us (b + 1)) ∙ stops in
    ap (runs_from b) (split_at us b (omega arith)) ∙ one_run b u rest test
    ∙ ap (λ (i : ℕ). run_of b i (get_or us i None) ∷ runs_from (i + 1) (drop (i + 1) us)) (sym here)
run_ends (suc n) b us within on ends =
    let there : b + 1 + n ≡ b + suc n = omega arith in
    let u : Option ℕ = get_or us b None in
    let next : Option ℕ = get_or us (b + 1) None in
    let last : Option ℕ = get_or us (b + suc n) None in
    let more : runs_from (b + 1) (drop (b + 1) us) ≡ run_of (b + 1) (b + suc n) last ∷ runs_from (b + suc n + 1) (drop (b + suc n + 1) us) =
    run_ends n (b + 1) us (omega arith) (λ k from to. on k (omega arith) (omega arith)) (ap (run_goes_on us) there ∙ ends)
    ∙ ap (λ (i : ℕ). run_of (b + 1) i (get_or us i None) ∷ runs_from (i + 1) (drop (i + 1) us)) there in
    let at : slice_get us (b + 1) ≡ Some next = slice_get-get_or us (b + 1) None (omega arith) in
    let test : option_eq nat_eq next u ≡ true =
    ap (λ (o : Option (Option ℕ)). option_map_or (λ (w : Option ℕ). option_eq nat_eq w u) o false) (sym at)
    ∙ on b (omega arith) (omega arith) in
    let same : next ≡ u = same_user next u test in
    let begun : BeginsWith next (runs_from (b + 1) (drop (b + 1) us)) =
    subst (λ (xs : List (Option ℕ)). BeginsWith next (runs_from (b + 1) xs)) (sym (split_at us (b + 1) (omega arith)))
    (begins_put (b + 1) next (runs_from (b + 1 + 1) (drop (b + 1 + 1) us))) in
    let first : last ≡ next = head_user (runs_from (b + 1) (drop (b + 1) us)) (runs_from (b + suc n + 1) (drop (b + suc n + 1) us)) (run_of (b + 1) (b + suc n) last) next begun more in
    ap (runs_from b) (split_at us b (omega arith))
    ∙ ap (put_before b u) (more ∙ ap (λ (w : Option ℕ). run_of (b + 1) (b + suc n) w ∷ runs_from (b + suc n + 1) (drop (b + suc n + 1) us)) (first ∙ same))
    ∙ longer_put b (b + suc n) u (runs_from (b + suc n + 1) (drop (b + suc n + 1) us))
    ∙ ap (λ (w : Option ℕ). run_of b (b + suc n) w ∷ runs_from (b + suc n + 1) (drop (b + suc n + 1) us)) (sym (first ∙ same))

-- ---- their lines

-- a run that ends at a block waits
pub run_waits : (form : Form) (old new : Option (List ℕ)) (waits longer complete : List ℕ) (words : Option ℕ → List ℕ) (us : List (Option ℕ)) (first block : ℕ)
    (end : List ℕ) → IsUnderWay old new waits (flat_map (run_line form words) (runs_from first (drop first us))) complete
    → first ≤ block → block < length us → ((k : ℕ) → first ≤ k → k < block → run_goes_on us k ≡ true) → run_goes_on us block ≡ false
    → end ≡ words (get_or us block None) → longer ≡ waits ++ (part_line form first block end)
    → IsUnderWay old new longer (flat_map (run_line form words) (runs_from (block + 1) (drop (block + 1) us))) complete
run_waits form old new waits longer complete words us first block end h before within on ends word is =
    let n : ℕ = block - first in
    let there : first + n ≡ block = omega arith in
    let run : runs_from first (drop first us) ≡ run_of first block (get_or us block None) ∷ runs_from (block + 1) (drop (block + 1) us) =
    run_ends n first us (omega arith) (λ k from to. on k from (omega arith)) (ap (run_goes_on us) there ∙ ends)
    ∙ ap (λ (i : ℕ). run_of first i (get_or us i None) ∷ runs_from (i + 1) (drop (i + 1) us)) there in
    more_waits old new waits (part_line form first block end) (flat_map (run_line form words) (runs_from (block + 1) (drop (block + 1) us))) longer complete
    (subst (λ (rest : List ℕ). IsUnderWay old new waits rest complete)
    (ap (flat_map (run_line form words)) run ∙ ap (λ (w : List ℕ). part_line form first block w ++ flat_map (run_line form words)
    (runs_from (block + 1) (drop (block + 1) us))) (sym word)) h) is

-- no run is left
pub runs_done : (form : Form) (old new : Option (List ℕ)) (waits complete : List ℕ) (words : Option ℕ → List ℕ) (us : List (Option ℕ)) (first : ℕ)
    → length us ≤ first → IsUnderWay old new waits (flat_map (run_line form words) (runs_from first (drop first us))) complete
    → IsUnderWay old new waits [] complete
runs_done form old new waits complete words us first over h =
    subst (λ (rest : List ℕ). IsUnderWay old new waits rest complete)
    (ap (λ (xs : List (Option ℕ)). flat_map (run_line form words) (runs_from first xs)) (drop_all first us over)) h

-- a block is the last one whose run goes on
pub goes_within : (us : List (Option ℕ)) (block : ℕ) → run_goes_on us block ≡ true → block + 1 < length us
goes_within us block on = elim (cases_lt (block + 1) (length us)) [
  | inl within ↦ within
  | inr past ↦
      let none : run_goes_on us block ≡ false =
      ap (λ (o : Option (Option ℕ)). option_map_or (λ (next : Option ℕ). option_eq nat_eq next (get_or us block None)) o false)
      (slice_get_past us (block + 1) past) in
      absurd (let bad : false ≡ true = sym none ∙ on in cc)
]

-- a run that goes on at one more block
pub on_more : (us : List (Option ℕ)) (first block : ℕ) → ((k : ℕ) → first ≤ k → k < block → run_goes_on us k ≡ true) → run_goes_on us block ≡ true
    → (k : ℕ) → first ≤ k → k < block + 1 → run_goes_on us k ≡ true
on_more us first block on here k from to = elim (cases_lt k block) [
  | inl before ↦ on k from before
  | inr past ↦ let is : block ≡ k = omega arith in ap (run_goes_on us) (sym is) ∙ here
]
