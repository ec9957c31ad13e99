-- Links of an outline written one after another.
use Rattle.std.proofs.Common.{◌≡◌, ◌⊎◌, ℕ, ◌+◌, ◌≤◌, ◌==◌, Bool, true, false, cond, List, [], ◌∷◌, ◌++◌, ap, sym, ◌∙◌, subst, arith, inl}
use Rattle.std.proofs.Common.{inr, Some, refl}
use Rattle.std.specs.Prelude.{Contains, if◌then◌else◌}
use Rattle.std.proofs.lemmas.Bool.Decides.{nat_tests}
use Rattle.std.proofs.lemmas.Grind.{flat_map-append}
use Rattle.std.proofs.lemmas.List.Elements.{Contains-append_cases}
use Rattle.std.proofs.lemmas.List.Sums.{sum_by-cons, sum_by-append}
use Rattle.lfs_block.specs.Change.{Change}
use Rattle.lfs_block.specs.Disk.{Disk}
use Rattle.lfs_meta.specs.Body.{Pair}
use Rattle.lfs_command.specs.PartWritten.{FirstIsFilled}
use Rattle.lfs_meta.specs.Part.{StoredPart}
use Rattle.lfs_pair.specs.Writing.{part_in}
use Rattle.lfs_fs.specs.Directory.{Part}
use Rattle.lfs_fs.specs.Thread.{Link}
use Rattle.lfs_fs.specs.Uses.{times, pair_uses}
use Rattle.lfs_fs.proofs.ContainsLemmas.{contains_none, contains_cases, contains_first, contains_later}
use Rattle.lfs_fs.proofs.CountLemmas.{element_le}
use Rattle.lfs_pair.specs.Difference.{Forced}
use Rattle.lfs_command.specs.PairChanged.{beside, pair_number}
use Rattle.lfs_law.specs.WrittenLinks.{changed_blocks, block_after, part_after, number_in, written_blocks, set_blocks, links_blocks, set_uses}
use Rattle.lfs_law.specs.WrittenLinks.{link_part, FillsFirst, IsPairWritten, MakesLink}
use Rattle.lfs_law.specs.OutlineLaws.{LinksAreAdded, LinksAreFree, LinksAreLeft, NoLinksAreWritten}
use Rattle.lfs_law.proofs.BlockLemmas.{number_is_one, pair_number_is_one, beside_is_one}

-- ---- lists

pub times_cons : (n x : ℕ) (xs : List ℕ) → times n (x ∷ xs) ≡ cond {A = ℕ} (x == n) 1 0 + times n xs
times_cons n x xs = sum_by-cons (λ (y : ℕ). cond {A = ℕ} (y == n) 1 0) x xs

pub times_append : (n : ℕ) (xs ys : List ℕ) → times n (xs ++ ys) ≡ times n xs + times n ys
times_append n xs ys = sum_by-append (λ (y : ℕ). cond {A = ℕ} (y == n) 1 0) xs ys

pub contains_one : {X : Type 0} (y x : X) → Contains (y ∷ []) x → x ≡ y
contains_one y x h = elim (contains_cases y [] x h) [ inl same ↦ same | inr later ↦ (let no : ⊥ = contains_none later in absurd no) ]
  where
    contains_none : Contains [] x → ⊥
    contains_none there = omega arith

-- ---- the blocks of a pair

pub times_pair : (n : ℕ) (pair : Pair) → times n (pair.0 ∷ pair.1 ∷ []) ≡ cond {A = ℕ} (pair.0 == n) 1 0 + cond {A = ℕ} (pair.1 == n) 1 0
times_pair n pair = omega (arith, times_cons n pair.0 (pair.1 ∷ []), times_cons n pair.1 [])

-- what is written of a pair is of its blocks
pub written_within : (cs : List Change) (is_new : Pair → Bool) (pair : Pair) (n : ℕ)
    → times n (written_blocks cs is_new pair) ≤ times n (pair.0 ∷ pair.1 ∷ [])
written_within cs is_new pair n = by (is_new pair)
  where
    other : (m : ℕ) → (m ≡ pair.0) ⊎ (m ≡ pair.1) → times n (m ∷ []) ≤ times n (pair.0 ∷ pair.1 ∷ [])
    other m is = elim is [
      | inl one ↦ (let same : cond {A = ℕ} (m == n) 1 0 ≡ cond (pair.0 == n) 1 0 = ap (λ (x : ℕ). cond {A = ℕ} (x == n) 1 0) one in
          omega (arith, same, times_cons n m [], times_pair n pair))
      | inr one ↦ (let same : cond {A = ℕ} (m == n) 1 0 ≡ cond (pair.1 == n) 1 0 = ap (λ (x : ℕ). cond {A = ℕ} (x == n) 1 0) one in
          omega (arith, same, times_cons n m [], times_pair n pair))
    ]

    by : (t : Bool) → times n (if t then pair.0 ∷ pair.1 ∷ [] else number_in cs pair ∷ []) ≤ times n (pair.0 ∷ pair.1 ∷ [])
    by true = omega arith
    by false = other (number_in cs pair) (number_is_one cs pair)

pub first_used : (pair : Pair) → 1 ≤ times pair.0 (pair.0 ∷ pair.1 ∷ [])
first_used pair = let one : cond {A = ℕ} (pair.0 == pair.0) 1 0 ≡ 1 = grind (arith, nat_tests) in omega (arith, one, times_pair pair.0 pair)

pub second_used : (pair : Pair) → 1 ≤ times pair.1 (pair.0 ∷ pair.1 ∷ [])
second_used pair = let one : cond {A = ℕ} (pair.1 == pair.1) 1 0 ≡ 1 = grind (arith, nat_tests) in
    omega (arith, one, times_pair pair.1 pair)

-- ---- the uses of links that are set

abbrev pub one_use : ℕ → Link → ℕ
one_use n l = if l.part.dirty then pair_uses n l.part else 0

pub set_use : (n : ℕ) (l : Link) → l.part.dirty ≡ true → one_use n l ≡ pair_uses n l.part
set_use n l set = ap (λ (t : Bool). if t then pair_uses n l.part else 0) set

-- of links and one more
uses_behind : (n : ℕ) (ls : List Link) (l : Link) → set_uses n (ls ++ l ∷ []) ≡ set_uses n ls + one_use n l
uses_behind n ls l = omega (arith, sum_by-append (one_use n) ls (l ∷ []), sum_by-cons (one_use n) l [])

blocks_behind : (cs : List Change) (is_new : Pair → Bool) (n : ℕ) (ls : List Link) (l : Link)
    → times n (links_blocks cs is_new (ls ++ l ∷ [])) ≡ times n (links_blocks cs is_new ls) + times n (set_blocks cs is_new l.part)
blocks_behind cs is_new n ls l =
    let split : links_blocks cs is_new (ls ++ l ∷ []) ≡ links_blocks cs is_new ls ++ (set_blocks cs is_new l.part ++ []) =
    flat_map-append (λ (x : Link). set_blocks cs is_new x.part) ls (l ∷ []) in
    omega (
      arith,
      ap (times n) split,
      times_append n (links_blocks cs is_new ls) (set_blocks cs is_new l.part ++ []),
      times_append n (set_blocks cs is_new l.part) [],
    )

pub set_is : (cs : List Change) (is_new : Pair → Bool) (p : Part) (t : Bool) → p.dirty ≡ t
    → set_blocks cs is_new p ≡ (if t then written_blocks cs is_new p.pair else [])
set_is cs is_new p t is = ap (λ (x : Bool). if x then written_blocks cs is_new p.pair else []) is

-- ---- one more link

-- the blocks of a link that was written before stay
pub pair_stays : (d : Disk) (pair : Pair) (old new : List Change) (part : StoredPart) → block_after d new pair.0 ≡ block_after d old pair.0
    → block_after d new pair.1 ≡ block_after d old pair.1 → part_after d old pair ≡ Some part → part_after d new pair ≡ Some part
pair_stays d pair old new part first second holds =
    ap (λ (b : List ℕ). part_in b (block_after d new pair.1)) first ∙ ap (part_in (block_after d old pair.0)) second ∙ holds

pub first_stays : (d : Disk) (pair : Pair) (old new : List Change) → block_after d new pair.0 ≡ block_after d old pair.0
    → block_after d new pair.1 ≡ block_after d old pair.1 → FillsFirst d old pair → FillsFirst d new pair
first_stays d pair old new first second filled =
    subst (λ (b : List ℕ). FirstIsFilled d.size b (block_after d new pair.1)) (sym first)
    (subst (FirstIsFilled d.size (block_after d old pair.0)) (sym second) filled)

-- where changes name the first blocks of the pairs of links as often, they name the same blocks of them
same_number : (old new : List Change) (pair : Pair) → times pair.0 (changed_blocks new) ≡ times pair.0 (changed_blocks old)
    → number_in new pair ≡ number_in old pair
same_number old new pair same = ap (λ (n : ℕ). if n == 0 then pair.1 else pair.0) same

same_set : (is_new : Pair → Bool) (old new : List Change) (p : Part)
    → (p.dirty ≡ true → times p.pair.0 (changed_blocks new) ≡ times p.pair.0 (changed_blocks old))
    → set_blocks new is_new p ≡ set_blocks old is_new p
same_set is_new old new p same = by p.dirty same
  where
    by : (t : Bool) → (t ≡ true → times p.pair.0 (changed_blocks new) ≡ times p.pair.0 (changed_blocks old))
        → (if t then written_blocks new is_new p.pair else []) ≡ (if t then written_blocks old is_new p.pair else [])
    by true still = ap (λ (n : ℕ). if is_new p.pair then p.pair.0 ∷ p.pair.1 ∷ [] else n ∷ []) (same_number old new p.pair (still refl))
    by false still = refl

pub blocks_same : (is_new : Pair → Bool) (ls : List Link) (old new : List Change)
    → ((m : Link) → Contains ls m → m.part.dirty ≡ true
    → times m.part.pair.0 (changed_blocks new) ≡ times m.part.pair.0 (changed_blocks old))
    → links_blocks new is_new ls ≡ links_blocks old is_new ls
blocks_same is_new [] old new same = refl
blocks_same is_new (l ∷ ls) old new same =
    ap (λ (bs : List ℕ). bs ++ links_blocks new is_new ls) (same_set is_new old new l.part (same l (contains_first l ls)))
    ∙ ap (λ (bs : List ℕ). set_blocks old is_new l.part ++ bs)
    (blocks_same is_new ls old new (λ m there. same m (contains_later l ls m there)))

-- where both blocks of a pair stay, so does what was written of it
one_stays : (d : Disk) (pair : Pair) (old new : List Change) → block_after d new pair.0 ≡ block_after d old pair.0
    → block_after d new pair.1 ≡ block_after d old pair.1 → (n : ℕ) → (n ≡ pair.0) ⊎ (n ≡ pair.1) → block_after d new n ≡ block_after d old n
one_stays d pair old new first second n is = elim is [
  | inl one ↦ ap (block_after d new) one ∙ first ∙ sym (ap (block_after d old) one)
  | inr one ↦ ap (block_after d new) one ∙ second ∙ sym (ap (block_after d old) one)
]

pub written_stays : (d : Disk) (is_cut : Bool) (forced : Forced) (pair : Pair) (old new : List Change)
    → block_after d new pair.0 ≡ block_after d old pair.0
    → block_after d new pair.1 ≡ block_after d old pair.1 → IsPairWritten d is_cut forced pair old → IsPairWritten d is_cut forced pair new
written_stays d is_cut forced pair old new first second written =
    let n : ℕ = pair_number d is_cut forced pair written.part in
    record {
      part = written.part;
      holds = pair_stays d pair old new written.part first second written.holds;
      here = one_stays d pair old new first second n (pair_number_is_one d is_cut forced pair written.part) ∙ written.here;
      there = one_stays d pair old new first second (beside pair n) (beside_is_one pair n) ∙ written.there;
    }

-- what the last link writes is of no block of an earlier one
apart_from : (cs : List Change) (is_new : Pair → Bool) (ls : List Link) (l m : Link) (n : ℕ) → l.part.dirty ≡ true → Contains ls m
    → m.part.dirty ≡ true → 1 ≤ pair_uses n m.part
    → set_uses n (ls ++ l ∷ []) ≤ 1
    → times n (written_blocks cs is_new l.part.pair) ≡ 0
apart_from cs is_new ls l m n set there set_before used once =
    let before : one_use n m ≤ set_uses n ls = element_le (one_use n) ls m there in
    omega (arith, before, used, once, set_use n m set_before, set_use n l set, uses_behind n ls l, written_within cs is_new l.part.pair n)

pub links_are_added : LinksAreAdded
links_are_added d bytes attributes is_new base ls l old new set once written adds = record {
  rising = adds.adds.rising;
  made = adds.adds.made;
  named = λ n. omega (
    arith,
    written.named n,
    adds.adds.named n,
    blocks_behind new is_new n ls l,
    ap (times n) (blocks_same is_new ls old new (λ m before set_before. named_still m before set_before)),
    ap (times n) (set_is new is_new l.part true set),
  );
  kept = λ n some.
      let none : times n (written_blocks new is_new l.part.pair) ≡ 0 = omega
      (arith, some, once n, uses_behind n ls l, set_use n l set, written_within new is_new l.part.pair n) in
      adds.adds.others n none ∙ written.kept n some;
  makes = λ m there set_there. elim (Contains-append_cases ls (l ∷ []) m there) [
    | inl before ↦ makes_before m before set_there
    | inr last ↦ subst (MakesLink d bytes attributes is_new new) (sym (contains_one l m last))
        (record { delta = adds.delta; delta_is = adds.delta_is; part = adds.adds.back; filled = adds.filled })
  ];
}
  where
    block_stays : (m : Link) (n : ℕ) → Contains ls m → m.part.dirty ≡ true → 1 ≤ pair_uses n m.part
        → block_after d new n ≡ block_after d old n
    block_stays m n before set_before used = adds.adds.others n (apart_from new is_new ls l m n set before set_before used
        (omega (arith, once n)))

    named_still : (m : Link) → Contains ls m → m.part.dirty ≡ true
        → times m.part.pair.0 (changed_blocks new) ≡ times m.part.pair.0 (changed_blocks old)
    named_still m before set_before =
        let n : ℕ = m.part.pair.0 in
        let none : times n (written_blocks new is_new l.part.pair) ≡ 0 =
        apart_from new is_new ls l m n set before set_before (first_used m.part.pair) (omega (arith, once n)) in
        omega (arith, adds.adds.named n, none)

    makes_before : (m : Link) → Contains ls m → m.part.dirty ≡ true → MakesLink d bytes attributes is_new new m
    makes_before m before set_before =
        let made : MakesLink d bytes attributes is_new old m = written.makes m before set_before in
        record {
          delta = made.delta;
          delta_is = made.delta_is;
          part = pair_stays d m.part.pair old new (link_part bytes attributes m made.delta)
              (block_stays m m.part.pair.0 before set_before (first_used m.part.pair))
              (block_stays m m.part.pair.1 before set_before (second_used m.part.pair)) made.part;
          filled = λ fresh. first_stays d m.part.pair old new (block_stays m m.part.pair.0 before set_before (first_used m.part.pair))
              (block_stays m m.part.pair.1 before set_before (second_used m.part.pair)) (made.filled fresh);
        }

true-false : true ≡ false → ⊥
true-false h = cc

pub links_are_left : LinksAreLeft
links_are_left d bytes attributes is_new base ls l cs unset written = record {
  rising = written.rising;
  made = written.made;
  named = λ n. omega (arith, written.named n, blocks_behind cs is_new n ls l, ap (times n) (set_is cs is_new l.part false unset));
  kept = written.kept;
  makes = λ m there set. elim (Contains-append_cases ls (l ∷ []) m there) [
    | inl before ↦ written.makes m before set
    | inr last ↦ absurd (true-false (sym set ∙ ap (λ (x : Link). x.part.dirty) (contains_one l m last) ∙ unset))
  ];
}

-- what is written of links is within the uses of their pairs
pub written_uses : (cs : List Change) (is_new : Pair → Bool) (n : ℕ) (ls : List Link) → times n (links_blocks cs is_new ls) ≤ set_uses n ls
written_uses cs is_new n [] = omega arith
written_uses cs is_new n (l ∷ ls) =
    omega (
      arith,
      times_append n (set_blocks cs is_new l.part) (links_blocks cs is_new ls),
      one_by l.part.dirty refl,
      written_uses cs is_new n ls,
      sum_by-cons (one_use n) l ls,
    )
  where
    one_by : (t : Bool) → l.part.dirty ≡ t → times n (set_blocks cs is_new l.part) ≤ one_use n l
    one_by true is = omega (arith, ap (times n) (set_is cs is_new l.part true is), set_use n l is, written_within cs is_new l.part.pair n)
    one_by false is = omega (arith, ap (times n) (set_is cs is_new l.part false is))

pub links_are_free : LinksAreFree
links_are_free d bytes attributes is_new base ls l old set once written = record {
  rising = written.rising;
  made = written.made;
  first = unnamed l.part.pair.0 (first_used l.part.pair);
  second = unnamed l.part.pair.1 (second_used l.part.pair);
}
  where
    unnamed : (n : ℕ) → 1 ≤ pair_uses n l.part → times n (changed_blocks old) ≡ 0
    unnamed n used = omega (arith, used, once n, written.named n, uses_behind n ls l, set_use n l set, written_uses old is_new n ls)

pub no_links_are_written : NoLinksAreWritten
no_links_are_written d bytes attributes is_new base rising made = record {
  rising = rising;
  made = made;
  named = λ n. omega arith;
  kept = λ n some. refl;
  makes = λ l there set. absurd (contains_none l there);
}
