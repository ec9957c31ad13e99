-- Changes of one block each that are read are spelled so, and those that are spelled so are read.
use Rattle.std.proofs.Common.{◌≡◌, ℕ, zero, suc, ◌+◌, ◌<◌, ◌≤◌, Bool, true, false, cond, ltb, leb, ◌&&◌, ◌||◌, not, List, [], ◌∷◌, ◌++◌, length}
use Rattle.std.proofs.Common.{Option, Some, None, refl, sym, ap, subst, ◌∙◌, append_assoc, arith}
use Rattle.std.specs.Int.{w32, to_le_bytes}
use Rattle.std.specs.List.{flat_map, AllByRecursion}
use Rattle.std.proofs.lemmas.Bool.{ltb-false, leb-true, leb-false, le-ltb, lt-leb, or_parts}
use Rattle.std.proofs.lemmas.List.Concat.{flat_map-cons}
use Rattle.std.proofs.lemmas.Option.{same_Some}
use Rattle.lfs_block.specs.Bytes.{IsBytes}
use Rattle.lfs_block.specs.Change.{Change, IsRising, IsBlockChange}
use Rattle.lfs_block.specs.Disk.{erased_block}
use Rattle.lfs_journal.specs.Book.{change_bytes}
use Rattle.lfs_journal.specs.Reading.{◌>>=◌, word_at, block_at, is_all_erased, change_at, changes_at}
use Rattle.lfs_journal.proofs.Erased.{erased_before, passes_erased}
use Rattle.lfs_journal.proofs.Fields.{bind_some, guard_none, Takes, Takes-then, word_takes, word_again, block_takes, block_again}

pub each_one : (P Q : Change → Type 0) → ((c : Change) → P c → Q c) → (cs : List Change) → AllByRecursion P cs → AllByRecursion Q cs
each_one P Q turn [] each = tt
each_one P Q turn (c ∷ cs) each = (turn c each.0, each_one P Q turn cs each.1)

-- ---- one block

-- where the image has no such block before, it is erased before
abbrev pub IsErasedBefore : ℕ → ℕ → Change → Type 0
IsErasedBefore size before c = before ≤ c.number → c.old ≡ erased_block size

-- a change of one block, whose number is from `least` to below the count after
pub record IsChange (size before after least : ℕ) (c : Change) : Type 0 where
  pub from : least ≤ c.number
  pub below : c.number < after
  pub complete : IsBlockChange size c
  pub erased : IsErasedBefore size before c

pub record TakesChange (size before after least : ℕ) (bytes : List ℕ) (x : Change × List ℕ) : Type 0 where
  pub takes : Takes bytes (change_bytes x.0) x.1
  pub is : IsChange size before after least x.0

-- what is read of the old and the new bytes
abbrev tested : ℕ → ℕ → List ℕ → List ℕ × List ℕ → Option (Change × List ℕ)
tested before number old new =
    cond (leb before number && not (is_all_erased old)) None (Some (record { number = number; old = old; new = new.0 }, new.1))

abbrev blocks_at : ℕ → ℕ → ℕ → List ℕ → Option (Change × List ℕ)
blocks_at size before number bytes = block_at size bytes >>= λ old. block_at size old.1 >>= λ new. tested before number old.0 new

-- a change, each of whose parts is read
change_read : (size before after least : ℕ) (bytes : List ℕ) (n : ℕ × List ℕ) (o w : List ℕ × List ℕ) (x : Change × List ℕ) → IsBytes bytes
    → word_at bytes ≡ Some n → (ltb n.0 least || leb after n.0) ≡ false → block_at size n.1 ≡ Some o → block_at size o.1 ≡ Some w
    → tested before n.0 o.0 w ≡ Some x → TakesChange size before after least bytes x
change_read size before after least bytes n o w x h number_is within old_is new_is is =
    let t = word_takes bytes n.0 n.1 h number_is in
    let tests = or_parts (ltb n.0 least) (leb after n.0) within in
    let old = block_takes size n.1 o.0 o.1 t.0.rest_bytes old_is in
    let new = block_takes size o.1 w.0 w.1 old.takes.rest_bytes new_is in
    let both = Takes-then n.1 o.0 o.1 w.0 w.1 old.takes new.takes in
    let made : Change × List ℕ = (record { number = n.0; old = o.0; new = w.0 }, w.1) in
    let k = guard_none (leb before n.0 && not (is_all_erased o.0)) (Some made) x is in
    let all : TakesChange size before after least bytes made = record {
      takes = Takes-then bytes (to_le_bytes w32 n.0) n.1 (o.0 ++ w.0) w.1 t.0 both;
      is = record {
        from = ltb-false _ _ tests.0;
        below = leb-false _ _ tests.1;
        complete = record { old = old.len; new = new.len; old_bytes = old.block_bytes; new_bytes = new.block_bytes };
        erased = erased_before before n.0 size o.0 old.len k.0;
      };
    } in
    subst (TakesChange size before after least bytes) (same_Some made x k.1) all

pub change_takes : (size before after least : ℕ) (bytes : List ℕ) (x : Change × List ℕ) → IsBytes bytes
    → change_at size before after least bytes ≡ Some x → TakesChange size before after least bytes x
unfolding change_at
change_takes size before after least bytes x h e =
    let n = bind_some (word_at bytes) (λ n. cond (ltb n.0 least || leb after n.0) None (blocks_at size before n.0 n.1)) x e in
    let g = guard_none (ltb n.0.0 least || leb after n.0.0) (blocks_at size before n.0.0 n.0.1) x n.2 in
    let o = bind_some (block_at size n.0.1) (λ old. block_at size old.1 >>= λ new. tested before n.0.0 old.0 new) x g.1 in
    let w = bind_some (block_at size o.0.1) (λ new. tested before n.0.0 o.0.0 new) x o.2 in
    change_read size before after least bytes n.0 o.0 w.0 x h n.1 g.0 o.1 w.1 w.2

pub change_again : (size before after least : ℕ) (c : Change) (rest : List ℕ) → after ≤ 65536 → IsChange size before after least c
    → change_at size before after least (change_bytes c ++ rest) ≡ Some (c, rest)
unfolding change_at
change_again size before after least c rest limit is =
    let from : least ≤ c.number = is.from in
    let below : c.number < after = is.below in
    let regrouped : change_bytes c ++ rest ≡ to_le_bytes w32 c.number ++ (c.old ++ (c.new ++ rest)) =
    append_assoc (to_le_bytes w32 c.number) (c.old ++ c.new) rest ∙ ap (λ (x : List ℕ). to_le_bytes w32 c.number ++ x)
    (append_assoc c.old c.new rest) in
    let low : ltb c.number least ≡ false = le-ltb _ _ from in
    let high : leb after c.number ≡ false = lt-leb _ _ below in
    ap (change_at size before after least) regrouped
    ∙ rw (
      word_again c.number (c.old ++ (c.new ++ rest)) (omega arith),
      low,
      high,
      block_again size c.old (c.new ++ rest) is.complete.old,
      block_again size c.new rest is.complete.new,
      passes_erased before c.number size c.old is.erased,
    ) refl

not_unless : (b erased : Bool) → (b ≡ true → erased ≡ true) → (b && not erased) ≡ false
not_unless true erased h = ap not (h refl)
not_unless false erased h = refl

-- a change, each of whose parts is found, with bytes of its own
pub change_found : (size before after least number : ℕ) (bytes first old second new third olds news : List ℕ)
    → word_at bytes ≡ Some (number, first) → least ≤ number → number < after → block_at size first ≡ Some (old, second)
    → block_at size second ≡ Some (new, third) → (before ≤ number → is_all_erased old ≡ true) → olds ≡ old → news ≡ new
    → change_at size before after least bytes ≡ Some (record { number = number; old = olds; new = news }, third)
unfolding change_at
change_found size before after least number bytes first old second new third olds news word from below old_is new_is erased olds_are
    news_are =
    let low : ltb number least ≡ false = le-ltb _ _ from in
    let high : leb after number ≡ false = lt-leb _ _ below in
    let passed : (leb before number && not (is_all_erased old)) ≡ false =
    not_unless (leb before number) (is_all_erased old) (λ e. erased (leb-true _ _ e)) in
    rw (word, low, high, old_is, new_is, passed, olds_are, news_are) refl

-- ---- several blocks

-- changes of one block each, whose numbers rise from `least` or more to below the count after
pub record AreChanges (size before after least : ℕ) (cs : List Change) : Type 0 where
  pub from : AllByRecursion (λ e. least ≤ e.number) cs
  pub rising : IsRising cs
  pub complete : AllByRecursion (IsBlockChange size) cs
  pub below : AllByRecursion (λ c. c.number < after) cs
  pub erased : AllByRecursion (IsErasedBefore size before) cs

first_change : (size before after least : ℕ) (c : Change) (cs : List Change) → AreChanges size before after least (c ∷ cs)
    → IsChange size before after least c
first_change size before after least c cs are =
    record { from = are.from.0; below = are.below.0; complete = are.complete.0; erased = are.erased.0 }

later_changes : (size before after least : ℕ) (c : Change) (cs : List Change) → AreChanges size before after least (c ∷ cs)
    → AreChanges size before after (c.number + 1) cs
later_changes size before after least c cs are = record {
  from = each_one (λ e. c.number < e.number) (λ e. c.number + 1 ≤ e.number) (λ e lt. omega (arith, lt)) cs are.rising.0;
  rising = are.rising.1;
  complete = are.complete.1;
  below = are.below.1;
  erased = are.erased.1;
}

one_change_more : (size before after least : ℕ) (c : Change) (cs : List Change) → IsChange size before after least c
    → AreChanges size before after (c.number + 1) cs → AreChanges size before after least (c ∷ cs)
one_change_more size before after least c cs is are =
    let from : least ≤ c.number = is.from in
    record {
      from = (from, each_one (λ e. c.number + 1 ≤ e.number) (λ e. least ≤ e.number) (λ e le. omega (arith, le, from)) cs are.from);
      rising = (each_one (λ e. c.number + 1 ≤ e.number) (λ e. c.number < e.number) (λ e le. omega (arith, le)) cs are.from, are.rising);
      complete = (is.complete, are.complete);
      below = (is.below, are.below);
      erased = (is.erased, are.erased);
    }

-- there are no more of them than numbers
pub changes_few : (size before after least : ℕ) (cs : List Change) → least ≤ after → AreChanges size before after least cs
    → least + length cs ≤ after
changes_few size before after least [] le are = omega arith
changes_few size before after least (c ∷ cs) le are =
    let first = first_change size before after least c cs are in
    let from : least ≤ c.number = first.from in
    let below : c.number < after = first.below in
    let more : c.number + 1 + length cs ≤ after = changes_few size before after (c.number + 1) cs (omega arith)
    (later_changes size before after least c cs are) in
    omega arith

pub record TakesChanges (size before after least n : ℕ) (bytes : List ℕ) (x : List Change × List ℕ) : Type 0 where
  pub takes : Takes bytes (flat_map change_bytes x.0) x.1
  pub len : length x.0 ≡ n
  pub are : AreChanges size before after least x.0

-- one more in front
changes_more : (size before after n least : ℕ) (bytes : List ℕ) (a : Change × List ℕ) (b x : List Change × List ℕ)
    → TakesChange size before after least bytes a → TakesChanges size before after (a.0.number + 1) n a.1 b → (a.0 ∷ b.0, b.1) ≡ x
    → TakesChanges size before after least (suc n) bytes x
changes_more size before after n least bytes a b x first others same =
    let both : Takes bytes (change_bytes a.0 ++ flat_map change_bytes b.0) b.1 =
    Takes-then bytes (change_bytes a.0) a.1 (flat_map change_bytes b.0) b.1 first.takes others.takes in
    let all : TakesChanges size before after least (suc n) bytes (a.0 ∷ b.0, b.1) = record {
      takes = subst (λ (text : List ℕ). Takes bytes text b.1) (sym (flat_map-cons change_bytes a.0 b.0)) both;
      len = ap suc others.len;
      are = one_change_more size before after least a.0 b.0 first.is others.are;
    } in
    subst (TakesChanges size before after least (suc n) bytes) same all

pub changes_take : (size before after n least : ℕ) (bytes : List ℕ) (x : List Change × List ℕ) → IsBytes bytes
    → changes_at size before after n least bytes ≡ Some x
    → TakesChanges size before after least n bytes x
unfolding changes_at
changes_take size before after zero least bytes x h e =
    let made : List Change × List ℕ = ([], bytes) in
    let all : TakesChanges size before after least zero bytes made = record {
      takes = record { parts = refl; rest_bytes = h };
      len = refl;
      are = record { from = tt; rising = tt; complete = tt; below = tt; erased = tt };
    } in
    subst (TakesChanges size before after least zero bytes) (same_Some made x e) all
changes_take size before after (suc n) least bytes x h e =
    let a = bind_some (change_at size before after least bytes) (λ first. changes_at size before after n (first.0.number + 1) first.1
    >>= λ others. Some (first.0 ∷ others.0, others.1)) x e in
    let b = bind_some (changes_at size before after n (a.0.0.number + 1) a.0.1) (λ others. Some (a.0.0 ∷ others.0, others.1)) x a.2 in
    let first = change_takes size before after least bytes a.0 h a.1 in
    let others = changes_take size before after n (a.0.0.number + 1) a.0.1 b.0 first.takes.rest_bytes b.1 in
    changes_more size before after n least bytes a.0 b.0 x first others (same_Some (a.0.0 ∷ b.0.0, b.0.1) x b.2)

pub changes_again : (size before after least : ℕ) (cs : List Change) (rest : List ℕ) → after ≤ 65536
    → AreChanges size before after least cs
    → changes_at size before after (length cs) least (flat_map change_bytes cs ++ rest) ≡ Some (cs, rest)
unfolding changes_at
changes_again size before after least [] rest limit are = refl
changes_again size before after least (c ∷ cs) rest limit are =
    let regrouped : flat_map change_bytes (c ∷ cs) ++ rest ≡ change_bytes c ++ (flat_map change_bytes cs ++ rest) =
    ap (λ (x : List ℕ). x ++ rest) (flat_map-cons change_bytes c cs) ∙ append_assoc (change_bytes c) (flat_map change_bytes cs) rest in
    let one = change_again size before after least c (flat_map change_bytes cs ++ rest) limit
    (first_change size before after least c cs are) in
    let more = changes_again size before after (c.number + 1) cs rest limit (later_changes size before after least c cs are) in
    ap (changes_at size before after (suc (length cs)) least) regrouped ∙ rw (one, more) refl
