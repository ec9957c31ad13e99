-- What walks back from a head, and the chain that it finds.
use Rattle.std.proofs.Common.{◌≡◌, ℕ, zero, suc, ◌+◌, ◌-◌, ◌<◌, ◌≤◌, eqb, true, false, cond, List, [], ◌∷◌, ◌++◌, length, get_or, take, All}
use Rattle.std.proofs.Common.{Option, Some, None, refl, sym, ap, ◌∙◌, subst, inl, inr, arith, add-one, slice_index, slice_get, reverse, ltb}
use Rattle.std.proofs.Common.{◌&&◌}
use Rattle.std.proofs.lemmas.List.{append_assoc, reverse-append, length-append, length-reverse, get_or-reverse, take_more, take_all}
use Rattle.std.proofs.lemmas.List.{length_push, get_or_push, get_or_append_left, get_or_default, nil_from_length}
use Rattle.std.proofs.lemmas.Option.{slice_get-get_or, get_or_from_slice_get}
use Rattle.std.proofs.lemmas.Bool.{and_left, le-ltb, cond-true, cond-false, cases_Bool, ne_eqb, eqb-true}
use Rattle.std.proofs.lemmas.Map.Keys.{IsDistinct-from_apart}
use Rattle.std.proofs.lemmas.Map.Steps.{length-le_from_distinct_below}
use Rattle.std.proofs.lemmas.Map.Views.{Contains-from_any}
use Rattle.lfs_block.specs.Disk.{Disk, block_of}
use Rattle.lfs_file.specs.Capacity.{IsLeast, least_blocks, least_from}
use Rattle.lfs_file.specs.Pointer.{pointer}
use Rattle.lfs_block.specs.declared.mount_fault.MountFault.{MountFault}
use Rattle.lfs_block.specs.declared.mount_fault.MountFault.TheVariants.{BadSkipList, Memory}
use Rattle.lfs_file.specs.SkipList.{ChainCause, IsChain, ChainWalkCause, walk, is_linked, is_linked_at, chain_of}
use Rattle.lfs_file.specs.Laws.{AgreeOn}
use Rattle.lfs_file.proofs.CapacityLemmas.{least_blocks-is, least_is}
use Rattle.lfs_file.proofs.SkipListLemmas.{IsLinkedAt, later_at, linked-false, linked-true, linked-from, linked_at-from, before, apart}

pub length-walk : (d : Disk) (block n : ℕ) → length (walk d block n) ≡ n
unfolding walk
length-walk d block zero = refl
length-walk d block (suc n) =
    length_push (walk d (pointer (block_of d block) 0) n) block ∙ ap (λ k. k + 1) (length-walk d (pointer (block_of d block) 0) n)
    ∙ add-one n

-- the last block of a walk is the one that it starts from
last-walk : (d : Disk) (block n : ℕ) → get_or (walk d block (suc n)) n 0 ≡ block
unfolding walk
last-walk d block n = get_or_push (walk d (pointer (block_of d block) 0) n) block 0 n (length-walk d (pointer (block_of d block) 0) n)

ends_with : (d : Disk) (head n : ℕ) → 0 < n → slice_get (walk d head n) (n - 1) ≡ Some head
ends_with d head zero some = absurd (omega (arith, some))
ends_with d head (suc n) some =
    let place : suc n - 1 ≡ n = omega arith in
    let within : n < length (walk d head (suc n)) = omega (arith, length-walk d head (suc n)) in
    ap (slice_get (walk d head (suc n))) place ∙ slice_get-get_or (walk d head (suc n)) n 0 within ∙ ap Some (last-walk d head n)

-- a walk from block k of a chain is the chain up to there
walk-front : (d : Disk) (blocks : List ℕ) → ((n : ℕ) → n < length blocks → IsLinkedAt d blocks n) → (k : ℕ) → k < length blocks
    → walk d (slice_index blocks k) (suc k) ≡ take (k + 1) blocks
unfolding walk
walk-front d blocks is zero within = sym (take_more blocks 0 0 within)
walk-front d blocks is (suc k) within =
    let earlier : k < length blocks = omega (arith, within) in
    let from : pointer (block_of d (slice_index blocks (suc k))) 0 ≡ slice_index blocks k = before d blocks k (is (suc k) within) in
    let front : walk d (slice_index blocks k) (suc k) ≡ take (k + 1) blocks = walk-front d blocks is k earlier in
    let number : k + 1 ≡ suc k = add-one k in
    ap (λ b. walk d b (suc k) ++ slice_index blocks (suc k) ∷ []) from
    ∙ ap (λ xs. xs ++ slice_index blocks (suc k) ∷ []) (front ∙ ap (λ n. take n blocks) number)
    ∙ sym (take_more blocks (suc k) 0 within)

pub linked : (d : Disk) (head len : ℕ) (blocks : List ℕ) → IsChain d head len blocks → (n : ℕ) → n < length blocks → IsLinkedAt d blocks n
linked d head len blocks is n within = record {
  below = is.below n 0 within;
  first = λ later same. is.apart 0 n 0 later within (sym same);
  back = λ i lt. is.back n i (later_at n i lt) within lt;
}

-- a walk of a chain's length from its head is the chain
walk-complete : (d : Disk) (head len : ℕ) (blocks : List ℕ) → IsChain d head len blocks → (n : ℕ) → length blocks ≡ n → walk d head n ≡ blocks
unfolding walk
walk-complete d head len blocks is zero none = sym (nil_from_length blocks none)
walk-complete d head len blocks is (suc n) same =
    let within : n < length blocks = omega (arith, same) in
    let place : length blocks - 1 ≡ n = omega (arith, same) in
    let last : slice_get blocks n ≡ Some head = ap (slice_get blocks) (sym place) ∙ is.last (omega arith) in
    let head_is : slice_index blocks n ≡ head = get_or_from_slice_get blocks n head 0 last in
    ap (λ b. walk d b (suc n)) (sym head_is)
    ∙ walk-front d blocks (linked d head len blocks is) n within
    ∙ take_all (n + 1) blocks (omega (arith, same))

pub chain-found : (d : Disk) (head len : ℕ) (blocks : List ℕ) → 8 ≤ d.size → IsChain d head len blocks → chain_of d head len ≡ Some blocks
unfolding chain_of
chain-found d head len blocks big is =
    let complete : walk d head (least_blocks d.size len) ≡ blocks = walk-complete d head len blocks is (least_blocks d.size len)
    (least_is d.size len (length blocks) big is.least) in
    let passes : is_linked d blocks ≡ true = linked-from d blocks (λ n within.
    linked_at-from d blocks n (linked d head len blocks is n within)) in
    ap (λ w. cond (is_linked d w) (Some w) None) complete ∙ cond-true (is_linked d blocks) (Some blocks) None passes

-- a walk of the least length that passes the tests is a chain
walk-chain : (d : Disk) (head len : ℕ) → 8 ≤ d.size → is_linked d (walk d head (least_blocks d.size len)) ≡ true
    → IsChain d head len (walk d head (least_blocks d.size len))
walk-chain d head len big passes =
    let n = least_blocks d.size len in
    let w = walk d head n in
    let len_is : length w ≡ n = length-walk d head n in
    record {
      least = subst (λ (m : ℕ). IsLeast d.size len m) (sym len_is) (least_blocks-is d.size len big);
      last = λ some. ap (λ m. slice_get w (m - 1)) len_is ∙ ends_with d head n (omega (arith, some, len_is));
      below = λ k e within. subst (λ (b : ℕ). b < d.count) (get_or_default w k 0 e within) (linked-true d w k passes within).below;
      apart = λ i j e lt within same.
          apart d w (λ m. linked-true d w m passes) i j lt within
          (get_or_default w i 0 e (omega (arith, lt, within)) ∙ same ∙ get_or_default w j e 0 within);
      back = λ m i later within lt. (linked-true d w m passes within).back i lt;
    }

pub found-chain : (d : Disk) (head len : ℕ) (blocks : List ℕ) → 8 ≤ d.size → chain_of d head len ≡ Some blocks → IsChain d head len blocks
unfolding chain_of
found-chain d head len blocks big found =
    let w = walk d head (least_blocks d.size len) in
    elim (cases_Bool (is_linked d w)) [
      | inl passes ↦
          let some : Some w ≡ Some blocks = sym (cond-true (is_linked d w) (Some w) None passes) ∙ found in
          let same : w ≡ blocks = cc in
          subst (λ (bs : List ℕ). IsChain d head len bs) same (walk-chain d head len big passes)
      | inr fails ↦
          let none : None ≡ Some blocks = sym (cond-false (is_linked d w) (Some w) None fails) ∙ found in
          absurd (cc)
    ]

-- a file of no bytes
pub chain-empty : (d : Disk) (head : ℕ) → chain_of d head 0 ≡ Some []
unfolding chain_of least_blocks least_from walk is_linked
chain-empty d head = refl

pub chain-is_one : (d : Disk) (head len : ℕ) (these those : List ℕ) → 8 ≤ d.size → IsChain d head len these → IsChain d head len those
    → these ≡ those
chain-is_one d head len these those big this that =
    let a : chain_of d head len ≡ Some these = chain-found d head len these big this in
    let b : chain_of d head len ≡ Some those = chain-found d head len those big that in
    cc

-- distinct blocks of the disk are no more than it has
pub chain-fits : (d : Disk) (head len : ℕ) (blocks : List ℕ) → IsChain d head len blocks → length blocks ≤ d.count
chain-fits d head len blocks is =
    length-le_from_distinct_below blocks d.count
    (IsDistinct-from_apart eqb blocks (λ i j e lt within. ne_eqb _ _ (is.apart i j e lt within)))
    (λ q among. let found = Contains-from_any {eq = eqb} eqb-true q blocks among in
    subst (λ (b : ℕ). b < d.count) found.2 (is.below found.0 q found.1))

pub chain-stays : (d e : Disk) (head len : ℕ) (blocks : List ℕ) → AgreeOn blocks d e → IsChain d head len blocks → IsChain e head len blocks
chain-stays d e head len blocks agree is = record {
  least = subst (λ (size : ℕ). IsLeast size len (length blocks)) agree.size is.least;
  last = is.last;
  below = λ k x within. omega (arith, is.below k x within, agree.count);
  apart = is.apart;
  back = λ n i later within lt. ap (λ b. pointer b i) (sym (agree.same n 0 within)) ∙ is.back n i later within lt;
}

pub found-stays : (d e : Disk) (head len : ℕ) (blocks : List ℕ) → 8 ≤ d.size → AgreeOn blocks d e → chain_of d head len ≡ Some blocks
    → chain_of e head len ≡ Some blocks
found-stays d e head len blocks big agree found =
    chain-found e head len blocks (subst (λ (size : ℕ). 8 ≤ size) agree.size big)
    (chain-stays d e head len blocks agree (found-chain d head len blocks big found))

-- no chain, and none is found
pub record NoChain (d : Disk) (head len : ℕ) : Type 0 where
  pub none : chain_of d head len ≡ None
  pub no : (blocks : List ℕ) → IsChain d head len blocks → ⊥

from_none : (d : Disk) (head len : ℕ) → 8 ≤ d.size → chain_of d head len ≡ None → NoChain d head len
from_none d head len big none = record {
  none = none;
  no = λ blocks is. let found : chain_of d head len ≡ Some blocks = chain-found d head len blocks big is in cc;
}

-- a walk that fails a test
pub none-unlinked : (d : Disk) (head len n : ℕ) (blocks : List ℕ) → 8 ≤ d.size → n ≡ least_blocks d.size len → blocks ≡ walk d head n
    → is_linked d blocks ≡ false
    → NoChain d head len
unfolding chain_of
none-unlinked d head len n blocks big is walked fails =
    from_none d head len big
    (ap (λ w. cond (is_linked d w) (Some w) None) (sym (walked ∙ ap (walk d head) is))
    ∙ cond-false (is_linked d blocks) (Some blocks) None fails)

found-too_many : (d : Disk) (head len : ℕ) (found : Option (List ℕ)) → 8 ≤ d.size → d.count < least_blocks d.size len
    → chain_of d head len ≡ found → chain_of d head len ≡ None
found-too_many d head len None big many is = is
found-too_many d head len (Some blocks) big many is =
    let chain = found-chain d head len blocks big is in
    absurd (omega (arith, chain-fits d head len blocks chain, least_is d.size len (length blocks) big chain.least, many))

-- more blocks than the disk has
pub none-too_many : (d : Disk) (head len : ℕ) → 8 ≤ d.size → d.count < least_blocks d.size len → NoChain d head len
none-too_many d head len big many = from_none d head len big (found-too_many d head len (chain_of d head len) big many refl)

-- a walk that passes the tests
pub walked-chain : (d : Disk) (head len n : ℕ) (blocks : List ℕ) → 8 ≤ d.size → n ≡ least_blocks d.size len → blocks ≡ walk d head n
    → is_linked d blocks ≡ true
    → chain_of d head len ≡ Some blocks
unfolding chain_of
walked-chain d head len n blocks big is walked passes =
    ap (λ w. cond (is_linked d w) (Some w) None) (sym (walked ∙ ap (walk d head) is))
    ∙ cond-true (is_linked d blocks) (Some blocks) None passes

-- one block more of a walk
pub walk-more : (d : Disk) (block m left before : ℕ) (items more complete : List ℕ) → m ≡ suc left → pointer (block_of d block) 0 ≡ before
    → more ≡ items ++ block ∷ []
    → complete ≡ walk d block m ++ reverse items → complete ≡ walk d before left ++ reverse more
unfolding walk
walk-more d block m left before items more complete is points pushed so_far =
    so_far ∙ ap (λ n. walk d block n ++ reverse items) is
    ∙ ap (λ b. (walk d b left ++ block ∷ []) ++ reverse items) points
    ∙ append_assoc (walk d before left) (block ∷ []) (reverse items)
    ∙ ap (λ xs. walk d before left ++ xs) (sym (ap reverse pushed ∙ reverse-append items (block ∷ [])))

-- a walk that comes to a block past the disk's end fails the tests
pub walk-past : (d : Disk) (head n block m left : ℕ) (rest : List ℕ) → m ≡ suc left → walk d head n ≡ walk d block m ++ rest
    → d.count ≤ block
    → is_linked d (walk d head n) ≡ false
unfolding is_linked_at
walk-past d head n block m left rest is complete past =
    let front : length (walk d block m) ≡ suc left = length-walk d block m ∙ is in
    let last : get_or (walk d block m) left 0 ≡ block = ap (λ k. get_or (walk d block k) left 0) is ∙ last-walk d block left in
    let here : get_or (walk d block m ++ rest) left 0 ≡ block = get_or_append_left (walk d block m) rest 0 left (omega (arith, front))
    ∙ last in
    let within : left < length (walk d block m ++ rest) = omega (arith, length-append (walk d block m) rest, front) in
    let same : slice_index (walk d head n) left ≡ block = ap (λ xs. get_or xs left 0) complete ∙ here in
    linked-false d (walk d head n) left (omega (arith, ap length complete, within))
    (and_left (ltb (slice_index (walk d head n) left) d.count && _) _ (and_left (ltb (slice_index (walk d head n) left) d.count) _
    (le-ltb _ _ (omega (arith, same, past)))))

pub All-reverse : (P : ℕ → Type 0) (xs : List ℕ) → All P xs → All P (reverse xs)
All-reverse P xs all k e within =
    let inside : k < length xs = omega (arith, length-reverse xs, within) in
    subst P (sym (get_or-reverse xs k e inside)) (all (length xs - 1 - k) e (omega arith))

-- a walk to its end
pub walk-none : (d : Disk) (block n : ℕ) (items : List ℕ) → n ≡ 0 → walk d block n ++ items ≡ items
unfolding walk
walk-none d block n items none = ap (λ m. walk d block m ++ items) none

-- a refused walk is a refused chain
pub ChainCause-from_walk : (fault : MountFault) (d : Disk) (head len n : ℕ) → 8 ≤ d.size → n ≡ least_blocks d.size len
    → ChainWalkCause fault d head n → ChainCause fault d head len
ChainCause-from_walk BadSkipList d head len n big is fails =
    let no = none-unlinked d head len n (walk d head n) big is refl fails in (no.none, no.no)
ChainCause-from_walk Memory d head len n big is fails = tt
ChainCause-from_walk _ d head len n big is fails = fails
