-- How many blocks a written outline changes.
use Rattle.std.proofs.Common.{◌≡◌, ℕ, ◌+◌, ◌≤◌, ◌==◌, nat_lt, Bool, true, false, cond, List, [], ◌∷◌, ◌++◌, length, take, refl, ap, subst}
use Rattle.std.proofs.Common.{arith, inl, inr, None}
use Rattle.std.specs.Prelude.{Contains, if◌then◌else◌}
use Rattle.std.specs.List.{list_any}
use Rattle.std.proofs.lemmas.Bool.Decides.{nat_tests}
use Rattle.std.proofs.lemmas.List.{length-append, length-map, length-take-le}
use Rattle.std.proofs.lemmas.List.Elements.{All-weaker, All-contains_itself}
use Rattle.lfs_block.specs.Change.{Change}
use Rattle.lfs_block.specs.Disk.{Disk}
use Rattle.lfs_meta.specs.Attribute.{Attributes}
use Rattle.lfs_meta.specs.Body.{Pair}
use Rattle.lfs_fs.specs.Directory.{Part}
use Rattle.lfs_fs.specs.Outlined.{outlined}
use Rattle.lfs_fs.specs.Thread.{links}
use Rattle.lfs_fs.specs.Volume.{Volume}
use Rattle.lfs_fs.specs.Free.{free_blocks}
use Rattle.lfs_fs.specs.Uses.{times}
use Rattle.lfs_fs.proofs.ContainsLemmas.{contains_first, contains_later, contains_mapped}
use Rattle.lfs_command.specs.declared.refusal.Refusal.TheVariants.{EntryTooLarge, NoSpace}
use Rattle.lfs_command.specs.Command.{Command}
use Rattle.lfs_command.specs.Growth.{grown}
use Rattle.lfs_command.specs.Supplies.{Supplies, nothing}
use Rattle.lfs_command.specs.Edited.{edited}
use Rattle.lfs_command.specs.Cut.{cut}
use Rattle.lfs_command.specs.Need.{dirty_parts, changed_parts, is_new_to, need}
use Rattle.lfs_command.specs.Verdict.{refuse_if, checks, is_too_large, room_checks, verdict}
use Rattle.lfs_command.specs.Accepted.{AreChosen, IsAccepted}
use Rattle.lfs_command.specs.Planned.{HasOneOf, TakesLeast}
use Rattle.lfs_law.specs.WrittenLinks.{AreWritten, changed_blocks, number_in}
use Rattle.lfs_law.specs.PlansHold.{content_blocks, rewritten_blocks, PlansAreFrugal}
use Rattle.lfs_law.proofs.BlockLemmas.{number_is_one}
use Rattle.lfs_law.proofs.Parents.{first_passes, test_passes}
use Rattle.lfs_law.proofs.LinksAdded.{times_cons, times_append}
use Rattle.lfs_law.proofs.NamedBlocks.{blocks_are_taken}
use Rattle.lfs_law.proofs.OutlinesWritten.{blocks_outlined}
use Rattle.lfs_law.proofs.WrittenLemmas.{times_there}
use Rattle.lfs_law.proofs.PartsFit.{checks_pass}

-- ---- lists with the same numbers

pub one_is : (x n : ℕ) → x ≡ n → cond {A = ℕ} (x == n) 1 0 ≡ 1
one_is x n same = grind (arith, nat_tests)

pub times_contains : (n : ℕ) (xs : List ℕ) → 1 ≤ times n xs → Contains xs n
times_contains n [] some = let no : ⊥ = omega (arith, some) in absurd no
times_contains n (x ∷ xs) some = by (x == n) refl (λ later. times_contains n xs later)
  where
    by : (t : Bool) → (x == n) ≡ t → (1 ≤ times n xs → Contains xs n) → Contains (x ∷ xs) n
    by true is later = let same : x ≡ n = grind (arith, nat_tests) in subst (Contains (x ∷ xs)) same (contains_first x xs)
    by false is later =
        let none : cond {A = ℕ} (x == n) 1 0 ≡ 0 = ap (λ (t : Bool). cond {A = ℕ} t 1 0) is in
        contains_later x xs n (later (omega (arith, some, none, times_cons n x xs)))

-- the first such number taken out
abbrev removed : ℕ → List ℕ → List ℕ
removed n [] = []
removed n (x ∷ xs) = if x == n then xs else x ∷ removed n xs

times_removed : (n : ℕ) (xs : List ℕ) → 1 ≤ times n xs → (m : ℕ) → times m (removed n xs) + cond (n == m) 1 0 ≡ times m xs
times_removed n [] some m = let no : ⊥ = omega (arith, some) in absurd no
times_removed n (x ∷ xs) some m = by (x == n) refl (λ later. times_removed n xs later m)
  where
    by : (t : Bool) → (x == n) ≡ t → (1 ≤ times n xs → times m (removed n xs) + cond (n == m) 1 0 ≡ times m xs)
        → times m (if t then xs else x ∷ removed n xs) + cond (n == m) 1 0 ≡ times m (x ∷ xs)
    by true is later =
        let same : x ≡ n = grind (arith, nat_tests) in
        omega (arith, times_cons m x xs, ap (λ (y : ℕ). cond {A = ℕ} (y == m) 1 0) same)
    by false is later =
        let none : cond {A = ℕ} (x == n) 1 0 ≡ 0 = ap (λ (t : Bool). cond {A = ℕ} t 1 0) is in
        omega (arith, later (omega (arith, some, none, times_cons n x xs)), times_cons m x xs, times_cons m x (removed n xs))

length_removed : (n : ℕ) (xs : List ℕ) → 1 ≤ times n xs → length (removed n xs) + 1 ≡ length xs
length_removed n [] some = let no : ⊥ = omega (arith, some) in absurd no
length_removed n (x ∷ xs) some = by (x == n) refl (λ later. length_removed n xs later)
  where
    by : (t : Bool) → (x == n) ≡ t → (1 ≤ times n xs → length (removed n xs) + 1 ≡ length xs)
        → length (if t then xs else x ∷ removed n xs) + 1 ≡ length (x ∷ xs)
    by true is later = omega arith
    by false is later =
        let none : cond {A = ℕ} (x == n) 1 0 ≡ 0 = ap (λ (t : Bool). cond {A = ℕ} t 1 0) is in
        omega (arith, later (omega (arith, some, none, times_cons n x xs)))

pub same_length : (xs ys : List ℕ) → ((n : ℕ) → times n xs ≡ times n ys) → length xs ≡ length ys
same_length [] [] same = refl
same_length [] (y ∷ ys) same = let no : ⊥ = omega (arith, same y, times_cons y y ys, one_is y y refl) in absurd no
same_length (x ∷ xs) ys same =
    let some : 1 ≤ times x ys = omega (arith, same x, times_cons x x xs, one_is x x refl) in
    let rest : (m : ℕ) → times m xs ≡ times m (removed x ys) = λ m. omega (arith, same m, times_cons m x xs, times_removed x ys some m) in
    omega (arith, same_length xs (removed x ys) rest, length_removed x ys some)

-- ---- there is room

pub enough_free : (v : Volume) (c : Command) → verdict v c ≡ None → need v c ≤ length (free_blocks (grown c v))
enough_free v c h =
    let small = first_passes (refuse_if (list_any (is_too_large (edited v c nothing)) (dirty_parts (edited v c nothing))) EntryTooLarge) _
    (checks_pass (checks v c) (room_checks v c) h) in
    let free = first_passes (refuse_if (nat_lt (length (free_blocks (grown c v))) (need v c)) (NoSpace (need v c) (length (free_blocks (grown c v)))))
    _ small.1 in
    not_less (length (free_blocks (grown c v))) (need v c) (test_passes (nat_lt (length (free_blocks (grown c v))) (need v c))
    (NoSpace (need v c) (length (free_blocks (grown c v)))) free.0)
  where
    not_less : (n m : ℕ) → nat_lt n m ≡ false → m ≤ n
    not_less n m is = grind (arith, nat_tests)

-- ---- the blocks that are changed

one_of : (cs : List Change) (p : Part) (numbers : List ℕ) → Contains numbers (number_in cs p.pair) → HasOneOf numbers p
one_of cs p numbers inside = elim (number_is_one cs p.pair) [
  | inl one ↦ (0, p.pair.0, omega arith, refl, subst (Contains numbers) one inside)
  | inr one ↦ (1, p.pair.1, omega arith, refl, subst (Contains numbers) one inside)
]

-- they are the least free ones, as many as the command needs, and one of the pair of each part that it rewrites
pub changed_named : (d : Disk) (v : Volume) (c : Command) (s : Supplies) (chosen : Part → List Pair) (bytes : List ℕ)
    (attributes : Attributes) (base cs : List Change)
    → IsAccepted v c s → AreChosen v c s chosen → TakesLeast v c s chosen → changed_blocks base ≡ content_blocks v c s
    → AreWritten d bytes attributes (is_new_to v) base (links (outlined (cut chosen (edited v c s))).directories) cs
    → (n : ℕ) → times n (changed_blocks cs) ≡ times n (take (need v c) (free_blocks (grown c v)) ++ rewritten_blocks cs v (edited v c s))
changed_named d v c s chosen bytes attributes base cs ok pairs least contents written n =
    omega (
      arith,
      written.named n,
      ap (times n) contents,
      ap (times n) (blocks_outlined cs (is_new_to v) (cut chosen (edited v c s))),
      blocks_are_taken cs v c s chosen ok pairs n,
      least n,
      times_append n (take (need v c) (free_blocks (grown c v))) (rewritten_blocks cs v (edited v c s)),
    )

pub plans_are_frugal : PlansAreFrugal
plans_are_frugal d v c s chosen old new base p ok pairs least contents writes =
    let w : Volume = edited v c s in
    let numbers : List ℕ = changed_blocks p.changes in
    let taken : List ℕ = take (need v c) (free_blocks (grown c v)) in
    let rewritten : List ℕ = rewritten_blocks p.changes v w in
    let named = changed_named d v c s chosen new (cut chosen w).attributes base p.changes ok pairs least contents writes.written in
    let len : length numbers ≡ length (taken ++ rewritten) = same_length numbers (taken ++ rewritten) named in
    let many : length rewritten ≡ length (changed_parts v w) = length-map (changed_parts v w) (λ (q : Part). number_in p.changes q.pair) in
    let all : length taken ≡ need v c = length-take-le (need v c) (free_blocks (grown c v)) (enough_free v c ok.unrefused) in
    record {
      free = All-weaker (Contains taken) (Contains numbers) (λ n there. times_contains n numbers
          (omega (arith, named n, times_append n taken rewritten, times_there n taken there)))
          taken (All-contains_itself taken);
      changed = All-weaker (Contains (changed_parts v w)) (HasOneOf numbers)
          (λ q there. one_of p.changes q numbers
          (times_contains (number_in p.changes q.pair) numbers
          (omega (
            arith,
            named (number_in p.changes q.pair),
            times_append (number_in p.changes q.pair) taken rewritten,
            times_there (number_in p.changes q.pair) rewritten (contains_mapped (λ (x : Part). number_in p.changes x.pair) (changed_parts v w) q there),
          ))))
          (changed_parts v w) (All-contains_itself (changed_parts v w));
      len = omega (arith, len, length-append taken rewritten, many, all);
    }
