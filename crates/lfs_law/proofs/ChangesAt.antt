-- The changes of some blocks of an image, and one more put among them.
use Rattle.std.proofs.Common.{◌≡◌, ◌≢◌, ℕ, suc, ◌+◌, ◌<◌, ◌==◌, nat_lt, Bool, true, false, List, [], ◌∷◌, refl, ap, ◌∙◌, arith, length, map}
use Rattle.std.specs.Prelude.{All, AllPairs, insert, if◌then◌else◌}
use Rattle.std.specs.List.{AllByRecursion, prefix_len}
use Rattle.std.proofs.lemmas.Bool.Decides.{nat_tests}
use Rattle.std.proofs.lemmas.List.Elements.{All-head, All-tail}
use Rattle.lfs_block.specs.Bytes.{IsBytes}
use Rattle.lfs_block.specs.Change.{Change, IsRising, IsBlockChange, overlaid}
use Rattle.lfs_block.specs.Disk.{Disk, IsDisk, block_of}
use Rattle.lfs_block.specs.Patch.{Stands}
use Rattle.lfs_block.proofs.BlockLens.{length-block}
use Rattle.lfs_command.specs.PartWritten.{change_at, changes_at, with_change}

-- ---- an element put behind those in front that pass a test

pub insert_first : {X : Type 0} (t : X → Bool) (x y : X) (xs : List X) → t x ≡ false
    → insert (x ∷ xs) (prefix_len t (x ∷ xs)) y ≡ y ∷ x ∷ xs
insert_first t x y xs stops = rw stops refl

pub insert_later : {X : Type 0} (t : X → Bool) (x y : X) (xs : List X) → t x ≡ true
    → insert (x ∷ xs) (prefix_len t (x ∷ xs)) y ≡ x ∷ insert xs (prefix_len t xs) y
insert_later {X} t x y xs passes = rw passes (ap (λ (n : ℕ). insert (x ∷ xs) n y) one_more)
  where
    one_more : 1 + prefix_len t xs ≡ suc (prefix_len t xs)
    one_more = omega arith

-- ---- a change among others

pub insert_change : (c : Change) (cs : List Change) → insert cs (prefix_len (λ e. nat_lt e.number c.number) cs) c ≡ with_change c cs
unfolding with_change
insert_change c [] = refl
insert_change c (e ∷ es) = by (nat_lt e.number c.number) refl (insert_change c es)
  where
    lesser : Change → Bool
    lesser x = nat_lt x.number c.number

    by : (t : Bool) → nat_lt e.number c.number ≡ t → insert es (prefix_len lesser es) c ≡ with_change c es
        → insert (e ∷ es) (prefix_len lesser (e ∷ es)) c ≡ (if t then e ∷ with_change c es else c ∷ e ∷ es)
    by true is later = insert_later lesser e c es is ∙ ap (λ (xs : List Change). e ∷ xs) later
    by false is later = insert_first lesser e c es is

pub with_all : (P : Change → Type 0) (c : Change) (cs : List Change) → P c → AllByRecursion P cs → AllByRecursion P (with_change c cs)
unfolding with_change
with_all P c [] this others = (this, others)
with_all P c (e ∷ es) this others = by (nat_lt e.number c.number) (with_all P c es this others.1)
  where
    by : (t : Bool) → AllByRecursion P (with_change c es) → AllByRecursion P (if t then e ∷ with_change c es else c ∷ e ∷ es)
    by true later = (others.0, later)
    by false later = (this, others)

less_all : (a b : ℕ) (cs : List Change) → a < b → AllByRecursion (λ e. b < e.number) cs → AllByRecursion (λ e. a < e.number) cs
less_all a b [] lt more = more
less_all a b (c ∷ cs) lt more = (omega (arith, lt, more.0), less_all a b cs lt more.1)

-- of a block that has no change yet
pub with_rising : (c : Change) (cs : List Change) → AllByRecursion (λ e. e.number ≢ c.number) cs → IsRising cs → IsRising (with_change c cs)
unfolding with_change
with_rising c [] apart rising = (tt, rising)
with_rising c (e ∷ es) apart rising = by (nat_lt e.number c.number) refl (with_rising c es apart.1 rising.1)
  where
    by : (t : Bool) → nat_lt e.number c.number ≡ t → IsRising (with_change c es) → IsRising (if t then e ∷ with_change c es else c ∷ e ∷ es)
    by true is later =
        let lt : e.number < c.number = grind (arith, nat_tests) in
        (with_all (λ x. e.number < x.number) c es lt rising.0, later)
    by false is later =
        let other : e.number ≢ c.number = apart.0 in
        let lt : c.number < e.number = greater c.number e.number is other in
        ((lt, less_all c.number e.number es lt rising.0), rising)
      where
        greater : (m n : ℕ) → nat_lt n m ≡ false → n ≢ m → m < n
        greater m n no_less apart' = grind (arith, nat_tests)

-- ---- what holds of all changes

-- of the blocks of an image, with contents of their size
pub record FitsAt (d : Disk) (c : Change) : Type 0 where
  pub stands : Stands d c
  pub complete : IsBlockChange d.size c

pub change_complete : (d : Disk) (b : ℕ) (new : List ℕ) → IsDisk d → b < d.count → length new ≡ d.size → IsBytes new → IsBytes (block_of d b)
    → FitsAt d (change_at d b new)
change_complete d b new disk below len bytes old = record {
  stands = (below, refl);
  complete = record { old = length-block d b disk below; new = len; old_bytes = old; new_bytes = bytes };
}

pub changes_all : (P : Change → Type 0) (d : Disk) (blocks : List ℕ) (contents : List (List ℕ)) (N : ℕ → Type 0) (C : List ℕ → Type 0)
    → ((b : ℕ) (new : List ℕ) → N b → C new → P (change_at d b new))
    → All N blocks → All C contents → AllByRecursion P (changes_at d blocks contents)
changes_all P d [] contents N C make numbers news = tt
changes_all P d (b ∷ blocks) [] N C make numbers news = tt
changes_all P d (b ∷ blocks) (new ∷ contents) N C make numbers news = (
  make b new (All-head N b blocks numbers) (All-head C new contents news),
  changes_all P d blocks contents N C make (All-tail N b blocks numbers) (All-tail C new contents news),
)

pub rising_head : (b : ℕ) (blocks : List ℕ) → AllPairs ◌<◌ (b ∷ blocks) → All (λ m. b < m) blocks
rising_head b blocks rising = λ k d lt. rising 0 (suc k) d (omega arith) (omega (arith, lt))

pub rising_tail : (b : ℕ) (blocks : List ℕ) → AllPairs ◌<◌ (b ∷ blocks) → AllPairs ◌<◌ blocks
rising_tail b blocks rising = λ i j d less lt. rising (suc i) (suc j) d (omega (arith, less)) (omega (arith, lt))

pub any_content : (contents : List (List ℕ)) → All (λ c. Unit {0}) contents
any_content contents = λ k d lt. tt

pub changes_rising : (d : Disk) (blocks : List ℕ) (contents : List (List ℕ)) → AllPairs ◌<◌ blocks → IsRising (changes_at d blocks contents)
changes_rising d [] contents rising = tt
changes_rising d (b ∷ blocks) [] rising = tt
changes_rising d (b ∷ blocks) (new ∷ contents) rising = (
  changes_all (λ e. b < e.number) d blocks contents (λ m. b < m) (λ c. Unit {0}) (λ m c less any. less) (rising_head b blocks rising)
      (any_content contents),
  changes_rising d blocks contents (rising_tail b blocks rising),
)

pub changes_numbers : (d : Disk) (blocks : List ℕ) (contents : List (List ℕ)) → length contents ≡ length blocks
    → map (λ c. c.number) (changes_at d blocks contents) ≡ blocks
changes_numbers d [] contents many = refl
changes_numbers d (b ∷ blocks) [] many = let no : ⊥ = omega (arith, many) in absurd no
changes_numbers d (b ∷ blocks) (new ∷ contents) many = ap (λ (ns : List ℕ). b ∷ ns)
    (changes_numbers d blocks contents (omega (arith, many)))

-- ---- blocks that have no change

pub overlaid_none : (cs : List Change) (n : ℕ) (below : List ℕ) → AllByRecursion (λ c. c.number ≢ n) cs → overlaid cs n below ≡ below
overlaid_none [] n below apart = refl
overlaid_none (c ∷ cs) n below apart = let other : (c.number == n) ≡ false = grind (arith, nat_tests) in
    rw other (overlaid_none cs n below apart.1)
