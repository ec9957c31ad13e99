-- Links written one after another, a list of them behind another.
use Rattle.std.proofs.Common.{◌≡◌, ℕ, ◌+◌, ◌≤◌, Bool, true, false, List, [], ◌∷◌, ◌++◌, ap, sym, ◌∙◌, subst, arith, inl, inr}
use Rattle.std.specs.Prelude.{Contains}
use Rattle.std.proofs.lemmas.Grind.{flat_map-append}
use Rattle.std.proofs.lemmas.List.Elements.{Contains-append_cases, Contains-append_left, Contains-append_right}
use Rattle.std.proofs.lemmas.List.Sums.{sum_by-append}
use Rattle.lfs_block.specs.Change.{Change}
use Rattle.lfs_block.specs.Disk.{Disk, block_of}
use Rattle.lfs_meta.specs.Attribute.{Attributes}
use Rattle.lfs_meta.specs.Body.{Pair}
use Rattle.lfs_fs.specs.Thread.{Link}
use Rattle.lfs_fs.specs.Uses.{times, pair_uses}
use Rattle.lfs_fs.proofs.ContainsLemmas.{contains_first}
use Rattle.lfs_fs.proofs.CountLemmas.{element_le}
use Rattle.lfs_pair.specs.Difference.{Forced}
use Rattle.lfs_command.specs.PairChanged.{is_cut_by}
use Rattle.lfs_law.specs.PairWritten.{CanBeAdded}
use Rattle.lfs_law.specs.WrittenLinks.{changed_blocks, block_after, links_blocks, set_blocks, set_uses, link_part, MakesLink, CanBeWritten}
use Rattle.lfs_law.specs.WrittenLinks.{IsFreeFor, AddsLink, AreWritten, ChangesLinks, IsPairWritten}
use Rattle.lfs_law.proofs.ChangesAt.{overlaid_none}
use Rattle.lfs_law.proofs.LeastBlocks.{none_or_some}
use Rattle.lfs_law.proofs.LinksAdded.{times_append, first_used, second_used, one_use, set_use, pair_stays, first_stays, written_uses, blocks_same, written_stays, contains_one}
use Rattle.lfs_law.proofs.LinksAdded.{links_are_added}
use Rattle.lfs_law.proofs.LinksAdded.{links_are_free, no_links_are_written}
use Rattle.lfs_law.proofs.OutlinesWritten.{none_named}

module _ (d : Disk) (bytes : List ℕ) (attributes : Attributes) (is_new : Pair → Bool) where
  uses_both : (n : ℕ) (ls ms : List Link) → set_uses n (ls ++ ms) ≡ set_uses n ls + set_uses n ms
  uses_both n ls ms = sum_by-append (one_use n) ls ms

  blocks_both : (cs : List Change) (n : ℕ) (ls ms : List Link) → times n (links_blocks cs is_new (ls ++ ms))
      ≡ times n (links_blocks cs is_new ls) + times n (links_blocks cs is_new ms)
  blocks_both cs n ls ms =
      let split : links_blocks cs is_new (ls ++ ms) ≡ links_blocks cs is_new ls ++ links_blocks cs is_new ms =
      flat_map-append (λ (x : Link). set_blocks cs is_new x.part) ls ms in
      omega (arith, ap (times n) split, times_append n (links_blocks cs is_new ls) (links_blocks cs is_new ms))

  -- ---- what can be written

  pub can_front : (old : List Change) (ls ms : List Link) → CanBeAdded d bytes attributes is_new old (ls ++ ms)
      → CanBeAdded d bytes attributes is_new old ls
  can_front old ls ms can = record {
    rising = can.rising;
    made = can.made;
    once = λ n. omega (arith, can.once n, uses_both n ls ms);
    may = λ l there set. can.may l (Contains-append_left ls ms l there) set;
    fresh = λ l there set new. can.fresh l (Contains-append_left ls ms l there) set new;
  }

  pub can_behind : (old mid : List Change) (ls ms : List Link) → CanBeAdded d bytes attributes is_new old (ls ++ ms)
      → AreWritten d bytes attributes is_new old ls mid
      → CanBeAdded d bytes attributes is_new mid ms
  can_behind old mid ls ms can written = record {
    rising = written.rising;
    made = written.made;
    once = λ n. omega (arith, can.once n, uses_both n ls ms, written.named n, written_uses mid is_new n ls);
    may = λ l there set. can.may l (Contains-append_right ls ms l there) set;
    fresh = λ l there set new. can.fresh l (Contains-append_right ls ms l there) set new;
  }

  -- ---- what is written

  -- a block of a link that was written before isn't written later
  unwritten_later : (old mid new : List Change) (ls ms : List Link) → CanBeAdded d bytes attributes is_new old (ls ++ ms)
      → (l : Link) → Contains ls l → l.part.dirty ≡ true → (n : ℕ) → 1 ≤ pair_uses n l.part → times n (links_blocks new is_new ms) ≡ 0
  unwritten_later old mid new ls ms can l there set n used =
      let before : one_use n l ≤ set_uses n ls = element_le (one_use n) ls l there in
      omega (
        arith,
        before,
        used,
        set_use n l set,
        can.once n,
        uses_both n ls ms,
        written_uses new is_new n ms,
      )

  -- so it stays
  block_stays : (old mid new : List Change) (ls ms : List Link) → CanBeAdded d bytes attributes is_new old (ls ++ ms)
      → AreWritten d bytes attributes is_new old ls mid → AreWritten d bytes attributes is_new mid ms new
      → (l : Link) → Contains ls l → l.part.dirty ≡ true → (n : ℕ) → 1 ≤ pair_uses n l.part → block_after d new n ≡ block_after d mid n
  block_stays old mid new ls ms can first second l there set n used =
      let none : times n (links_blocks new is_new ms) ≡ 0 = unwritten_later old mid new ls ms can l there set n used in
      elim (none_or_some (times n (changed_blocks mid))) [
        | inl unnamed ↦
            (let later : times n (changed_blocks new) ≡ 0 = omega (arith, unnamed, none, second.named n) in
            overlaid_none new n (block_of d n) (none_named n new later) ∙ sym
            (overlaid_none mid n (block_of d n) (none_named n mid unnamed)))
        | inr some ↦ second.kept n some
      ]

  link_stays : (old mid new : List Change) (ls ms : List Link) → CanBeAdded d bytes attributes is_new old (ls ++ ms)
      → AreWritten d bytes attributes is_new old ls mid → AreWritten d bytes attributes is_new mid ms new
      → (l : Link) → Contains ls l → l.part.dirty ≡ true → MakesLink d bytes attributes is_new new l
  link_stays old mid new ls ms can first second l there set =
      let made : MakesLink d bytes attributes is_new mid l = first.makes l there set in
      let stays = block_stays old mid new ls ms can first second l there set in
      record {
        delta = made.delta;
        delta_is = made.delta_is;
        part = pair_stays d l.part.pair mid new (link_part bytes attributes l made.delta) (stays l.part.pair.0 (first_used l.part.pair))
            (stays l.part.pair.1 (second_used l.part.pair)) made.part;
        filled = λ fresh. first_stays d l.part.pair mid new (stays l.part.pair.0 (first_used l.part.pair))
            (stays l.part.pair.1 (second_used l.part.pair)) (made.filled fresh);
      }

  -- the links that were written before are of the same blocks
  front_same : (old mid new : List Change) (ls ms : List Link) → CanBeAdded d bytes attributes is_new old (ls ++ ms)
      → AreWritten d bytes attributes is_new mid ms new → links_blocks new is_new ls ≡ links_blocks mid is_new ls
  front_same old mid new ls ms can second = blocks_same is_new ls mid new (λ l there set.
      let n : ℕ = l.part.pair.0 in
      omega (arith, second.named n, unwritten_later old mid new ls ms can l there set n (first_used l.part.pair)))

  pub both_written : (old mid new : List Change) (ls ms : List Link) → CanBeAdded d bytes attributes is_new old (ls ++ ms)
      → AreWritten d bytes attributes is_new old ls mid → AreWritten d bytes attributes is_new mid ms new
      → AreWritten d bytes attributes is_new old (ls ++ ms) new
  both_written old mid new ls ms can first second = record {
    rising = second.rising;
    made = second.made;
    named = λ n. omega (
      arith,
      first.named n,
      second.named n,
      blocks_both new n ls ms,
      ap (times n) (front_same old mid new ls ms can second),
    );
    kept = λ n some. second.kept n (omega (arith, some, first.named n)) ∙ first.kept n some;
    makes = λ l there set. elim (Contains-append_cases ls ms l there) [
      | inl before ↦ link_stays old mid new ls ms can first second l before set
      | inr later ↦ second.makes l later set
    ];
  }

  -- ---- which blocks are changed

  -- a pair that was changed before is as it was
  pair_still : (forced : Forced) (old mid new : List Change) (ls ms : List Link) → CanBeAdded d bytes attributes is_new old (ls ++ ms)
      → AreWritten d bytes attributes is_new old ls mid → AreWritten d bytes attributes is_new mid ms new
      → ChangesLinks d is_new forced ls mid → ChangesLinks d is_new forced ls new
  pair_still forced old mid new ls ms can first second changed l there set known =
      let stays = block_stays old mid new ls ms can first second l there set in
      written_stays d (is_cut_by is_new l.tail) forced l.part.pair mid new (stays l.part.pair.0 (first_used l.part.pair))
      (stays l.part.pair.1 (second_used l.part.pair)) (changed l there set known)

  both_changed : (forced : Forced) (old mid new : List Change) (ls ms : List Link) → CanBeAdded d bytes attributes is_new old (ls ++ ms)
      → AreWritten d bytes attributes is_new old ls mid → AreWritten d bytes attributes is_new mid ms new
      → ChangesLinks d is_new forced ls mid → ChangesLinks d is_new forced ms new → ChangesLinks d is_new forced (ls ++ ms) new
  both_changed forced old mid new ls ms can first second one two l there set known = elim (Contains-append_cases ls ms l there) [
    | inl before ↦ pair_still forced old mid new ls ms can first second one l before set known
    | inr later ↦ two l later set known
  ]

  pub changed_complete : (forced : Forced) (cs mid new : List Change) (all front behind : List Link) → all ≡ front ++ behind
      → CanBeAdded d bytes attributes is_new cs all
      → AreWritten d bytes attributes is_new cs front mid
      → AreWritten d bytes attributes is_new mid behind new → ChangesLinks d is_new forced front mid → ChangesLinks d is_new forced behind new
      → ChangesLinks d is_new forced all new
  changed_complete forced cs mid new all front behind is can first later one two =
      subst (λ (ls : List Link). ChangesLinks d is_new forced ls new) (sym is)
      (both_changed forced cs mid new front behind (subst (CanBeAdded d bytes attributes is_new cs) is can) first later one two)

  -- of no links there is nothing to say
  pub none_changed : (forced : Forced) (cs : List Change) → ChangesLinks d is_new forced [] cs
  none_changed forced cs l there set known = let no : ⊥ = omega (arith, there.1) in absurd no

  pub one_changed : (forced : Forced) (cs : List Change) (l : Link) → (l.part.dirty ≡ true → is_new l.part.pair ≡ false
      → IsPairWritten d (is_cut_by is_new l.tail) forced l.part.pair cs)
      → ChangesLinks d is_new forced (l ∷ []) cs
  one_changed forced cs l written m there set known =
      let same : m ≡ l = contains_one l m there in
      subst (λ (x : Link). IsPairWritten d (is_cut_by is_new x.tail) forced x.part.pair cs) (sym same)
      (written (sym (ap (λ (x : Link). x.part.dirty) same) ∙ set) (sym (ap (λ (x : Link). is_new x.part.pair) same) ∙ known))

  -- ---- one link

  -- the base alone
  none_written : (old : List Change) (ls : List Link) → CanBeAdded d bytes attributes is_new old ls
      → AreWritten d bytes attributes is_new old [] old
  none_written old ls can = no_links_are_written d bytes attributes is_new old can.rising can.made

  pub one_may : (old : List Change) (l : Link) → CanBeAdded d bytes attributes is_new old (l ∷ []) → l.part.dirty ≡ true
      → CanBeWritten d bytes attributes l
  one_may old l can set = can.may l (contains_first l []) set

  pub one_fresh : (old : List Change) (l : Link) → CanBeAdded d bytes attributes is_new old (l ∷ []) → l.part.dirty ≡ true
      → is_new l.part.pair ≡ true → l.part.delta ≡ 0
  one_fresh old l can set new = can.fresh l (contains_first l []) set new

  pub one_free : (old : List Change) (l : Link) → CanBeAdded d bytes attributes is_new old (l ∷ []) → l.part.dirty ≡ true
      → IsFreeFor d l.part.pair old
  one_free old l can set = links_are_free d bytes attributes is_new old [] l old set can.once (none_written old (l ∷ []) can)

  pub one_written : (old new : List Change) (l : Link) → CanBeAdded d bytes attributes is_new old (l ∷ []) → l.part.dirty ≡ true
      → AddsLink d bytes attributes is_new l old new
      → AreWritten d bytes attributes is_new old (l ∷ []) new
  one_written old new l can set adds = links_are_added d bytes attributes is_new old [] l old new set can.once
      (none_written old (l ∷ []) can) adds

  -- ---- those of a list that come first

  pub can_first : (cs : List Change) (all front behind : List Link) → all ≡ front ++ behind → CanBeAdded d bytes attributes is_new cs all
      → CanBeAdded d bytes attributes is_new cs front
  can_first cs all front behind is can = can_front cs front behind (subst (CanBeAdded d bytes attributes is_new cs) is can)

  pub can_later : (cs mid : List Change) (all front behind : List Link) → all ≡ front ++ behind
      → CanBeAdded d bytes attributes is_new cs all → AreWritten d bytes attributes is_new cs front mid
      → CanBeAdded d bytes attributes is_new mid behind
  can_later cs mid all front behind is can written = can_behind cs mid front behind
      (subst (CanBeAdded d bytes attributes is_new cs) is can) written

  pub written_complete : (cs mid new : List Change) (all front behind : List Link) → all ≡ front ++ behind
      → CanBeAdded d bytes attributes is_new cs all
      → AreWritten d bytes attributes is_new cs front mid
      → AreWritten d bytes attributes is_new mid behind new → AreWritten d bytes attributes is_new cs all new
  written_complete cs mid new all front behind is can first later =
      subst (λ (ls : List Link). AreWritten d bytes attributes is_new cs ls new) (sym is)
      (both_written cs mid new front behind (subst (CanBeAdded d bytes attributes is_new cs) is can) first later)
