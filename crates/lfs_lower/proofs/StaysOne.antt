-- What an image holds whose superblock stands once, it holds as before.
use Rattle.std.proofs.Common.{◌≡◌, ◌≢◌, ℕ, ◌≤◌, ◌==◌, Bool, true, false, List, [], ◌∷◌, ◌++◌, Option, Some, None, refl, ap, sym, ◌∙◌}
use Rattle.std.proofs.Common.{subst, arith, length, drop, get_or}
use Rattle.std.specs.Prelude.{All, Contains, bytes_eq, if◌then◌else◌, option_and_then, option_map, ◌&&◌}
use Rattle.std.specs.Int.{from_le_bytes, to_le_bytes, w32}
use Rattle.std.specs.List.{list_any}
use Rattle.std.proofs.lemmas.List.Sums.{sum_by-cons}
use Rattle.std.proofs.lemmas.List.Elements.{All-contains_itself, All-head, All-weaker}
use Rattle.lfs_meta.specs.declared.kind.Kind.{Kind}
use Rattle.lfs_meta.specs.declared.kind.Kind.TheVariants.{Dir, File, Super}
use Rattle.lfs_meta.specs.Attribute.{Attributes}
use Rattle.lfs_meta.specs.Body.{Pair, StoredBody, Chain, Directory_at, Inline}
use Rattle.lfs_meta.specs.Entry.{StoredEntry}
use Rattle.lfs_meta.specs.Part.{StoredPart}
use Rattle.lfs_fs.specs.Pair.{root, same_pair}
use Rattle.lfs_fs.specs.Alike.{PairsAreOfParts, ReadAlike, SameAt, SameReadingsHoldTheSame}
use Rattle.lfs_fs.specs.Front.{IsFront, pair_names}
use Rattle.lfs_fs.specs.Holds.{Holds, IsResolved}
use Rattle.lfs_fs.specs.Reading.{Reading}
use Rattle.lfs_fs.specs.Superblock.{littlefs, superblock_entry, word_at}
use Rattle.lfs_fs.specs.Volume.{Volume}
use Rattle.lfs_fs.proofs.PairLemmas.{same_pair-is, same_pair-refl}
use Rattle.lfs_lower.specs.OneSuperblock.{behind_superblock, can_join, entry_or, is_header, is_super, is_superblock, joined_entries, last_from, last_superblock, led_by, lowered_entry, one_superblock, part_as_one, part_joined, superblock_at, superblock_in, superblock_pairs}
use Rattle.lfs_lower.specs.Joined.{OneSuperblockStays}
use Rattle.lfs_lower.specs.Spelled.{lowered_header}
use Rattle.lfs_fs.proofs.ContainsLemmas.{contains_first, contains_later}
use Rattle.lfs_fs.proofs.StoredLemmas.{front_of_thread, there_in_thread}
use Rattle.lfs_lower.proofs.LongestFronts.{names_first, pairs_name_both}
use Rattle.lfs_lower.proofs.PairsAlong.{superblock_pairs_are_front}

-- ---- entries that are no superblocks

not_super : (k : Kind) → k ≢ Super → is_super k ≡ false
not_super File other = refl
not_super Dir other = refl
not_super Super other = absurd (other refl)

pub no_superblock : (e : StoredEntry) → e.kind ≢ Super → is_superblock e ≡ false
no_superblock e other = ap (λ (b : Bool). b && bytes_eq e.name littlefs && is_header e.body) (not_super e.kind other)

none_in : (r : Reading) (es : List StoredEntry) → All (IsResolved r) es → superblock_in es ≡ None
none_in r [] all = refl
none_in r (e ∷ es) all = ap (λ (b : Bool). if b then Some e else None) (no_superblock e (All-head (IsResolved r) e es all).0)

all_behind : (r : Reading) (es : List StoredEntry) → All (IsResolved r) es → behind_superblock es ≡ es
all_behind r [] all = refl
all_behind r (e ∷ es) all = ap (λ (b : Bool). if b then es else e ∷ es) (no_superblock e (All-head (IsResolved r) e es all).0)

-- ---- the superblock

pub is_one : (bytes : List ℕ) (attributes : Attributes) → length bytes ≡ 24 → is_superblock (superblock_entry bytes attributes) ≡ true
is_one bytes attributes len = ap (λ (n : ℕ). n == 24) len

first_word : (bytes : List ℕ) → word_at bytes 0 ≡ from_le_bytes w32 bytes
first_word [] = refl
first_word (a ∷ []) = refl
first_word (a ∷ b ∷ []) = refl
first_word (a ∷ b ∷ c ∷ []) = refl
first_word (a ∷ b ∷ c ∷ d ∷ bytes) = refl

-- one that states version 2.0 stays
header_stays : (bytes : List ℕ) → word_at bytes 0 ≡ 0x00020000 → lowered_header bytes ≡ bytes
header_stays bytes version = ap (λ (n : ℕ). if n == 0x00020001 then to_le_bytes w32 0x00020000 ++ drop 4 bytes else bytes)
    (sym (first_word bytes) ∙ version)

entry_stays : (bytes : List ℕ) (attributes : Attributes) → word_at bytes 0 ≡ 0x00020000
    → lowered_entry (superblock_entry bytes attributes) ≡ superblock_entry bytes attributes
entry_stays bytes attributes version = ap (λ (b : List ℕ). superblock_entry b attributes) (header_stays bytes version)

-- ---- along a thread the superblock is the first entry, and no other one is

last_among : (at : Pair → Option StoredEntry) (found : Option StoredEntry) (ps : List Pair) → ((p : Pair) → Contains ps p → at p ≡ None)
    → last_from at found ps ≡ found
last_among at found [] none = refl
last_among at found (p ∷ ps) none = ap (λ (o : Option StoredEntry). last_from at (entry_or o found) ps) (none p (contains_first p ps))
    ∙ last_among at found ps (λ q there. none q (contains_later p ps q there))

-- a front begins at the root's pair, and doesn't come back
root_once : (r : Reading) (p : Pair) (ps : List Pair) → IsFront r (p ∷ ps) → (q : Pair) → Contains ps q → q ≢ root
root_once r p ps front q there is =
    let at : root ≡ p = cc (front.follow.0) in
    let here : 1 ≤ pair_names q.0 p = subst (λ (x : Pair). 1 ≤ pair_names q.0 x) (is ∙ at) (names_first q) in
    let later = (pairs_name_both ps q there).0 in
    omega (arith, here, later, front.once q.0, sum_by-cons (pair_names q.0) p ps)

module _ (r : Reading) (v : Volume) (h : Holds r v) where
  pub in_thread : (p : Pair) → Contains (superblock_pairs r) p → Contains h.pairs p
  in_thread p there = there_in_thread (superblock_pairs r) h.pairs p
      (front_of_thread r h.pairs (superblock_pairs r) h.is_thread (superblock_pairs_are_front r)) there

  none_by : (p : Pair) (o : Option StoredPart) → r.part p ≡ o → Contains h.pairs p → p ≢ root
      → option_and_then (λ s. superblock_in s.entries) o ≡ None
  none_by p None is there other = refl
  none_by p (Some s) is there other = none_in r s.entries (h.resolved_later p s there other is)

  none_later : (p : Pair) → Contains h.pairs p → p ≢ root → superblock_at r p ≡ None
  none_later p there other = none_by p (r.part p) refl there other

  one_at_root : superblock_at r root ≡ Some (superblock_entry h.bytes h.attributes)
  one_at_root =
      ap (option_and_then (λ s. superblock_in s.entries)) h.superblock.read
      ∙ ap superblock_in h.superblock.is
      ∙ ap (λ (b : Bool). if b then Some (superblock_entry h.bytes h.attributes) else None) (is_one h.bytes h.attributes h.superblock.len)

  last_along : (ps : List Pair) → IsFront r ps → ((p : Pair) → Contains ps p → Contains h.pairs p) → list_any (same_pair root) ps ≡ true
      → last_from (superblock_at r) None ps ≡ Some (superblock_entry h.bytes h.attributes)
  last_along [] front inside some = cc
  last_along (p ∷ ps) front inside some =
      let at : root ≡ p = cc (front.follow.0) in
      ap (λ (o : Option StoredEntry). last_from (superblock_at r) (entry_or o None) ps) (ap (superblock_at r) (sym at) ∙ one_at_root)
      ∙ last_among (superblock_at r) (Some (superblock_entry h.bytes h.attributes)) ps
      (λ q there. none_later q (inside q (contains_later p ps q there)) (root_once r p ps front q there))

  last_is : list_any (same_pair root) (superblock_pairs r) ≡ true → last_superblock r ≡ Some (superblock_entry h.bytes h.attributes)
  last_is some = last_along (superblock_pairs r) (superblock_pairs_are_front r) in_thread some

-- ---- parts stay

joined_same : (within at_root : Bool) (es x y : List StoredEntry) → (within ≡ true → at_root ≡ true → x ≡ es) → (at_root ≡ false → y ≡ es)
    → (if within then if at_root then x else y else es) ≡ es
joined_same true true es x y here elsewhere = here refl refl
joined_same true false es x y here elsewhere = elsewhere refl
joined_same false at_root es x y here elsewhere = refl

pub part_same : (can : Bool) (pairs : List Pair) (last : Option StoredEntry) (p : Pair) (s : StoredPart)
    → joined_entries pairs last p s.entries ≡ s.entries → part_joined can pairs last p s ≡ s
part_same true pairs last p s is = ap (λ (es : List StoredEntry). record { entries = es; tail = s.tail; delta = s.delta }) is
part_same false pairs last p s is = refl

true_false : {A : Type 0} → true ≡ false → A
true_false h = cc

body_alike : (r : Reading) (body : StoredBody) → ReadAlike r (one_superblock r) body
body_alike r (Inline bytes) = tt
body_alike r (Chain head size) = (refl, λ blocks is. refl)
body_alike r (Directory_at first second) = tt

module _ (r : Reading) (v : Volume) (h : Holds r v) where
  root_stays : (p : Pair) (s : StoredPart) → p ≡ root → r.part p ≡ Some s → list_any (same_pair p) (superblock_pairs r) ≡ true
      → led_by (last_superblock r) (behind_superblock s.entries) ≡ s.entries
  root_stays p s at is within =
      let same : s ≡ h.superblock.part = cc (is, ap r.part at, h.superblock.read) in
      let e : StoredEntry = superblock_entry h.bytes h.attributes in
      let entries : s.entries ≡ e ∷ h.superblock.others = ap (λ (x : StoredPart). x.entries) same ∙ h.superblock.is in
      let behind : behind_superblock s.entries ≡ h.superblock.others = ap behind_superblock entries
      ∙ ap (λ (b : Bool). if b then h.superblock.others else e ∷ h.superblock.others) (is_one h.bytes h.attributes h.superblock.len) in
      ap (λ (o : Option StoredEntry). led_by o (behind_superblock s.entries))
      (last_is r v h (ap (λ (q : Pair). list_any (same_pair q) (superblock_pairs r)) (sym at) ∙ within))
      ∙ ap (λ (x : StoredEntry). x ∷ behind_superblock s.entries) (entry_stays h.bytes h.attributes h.version)
      ∙ ap (λ (es : List StoredEntry). e ∷ es) behind ∙ sym entries

  entries_stay : (p : Pair) (s : StoredPart) → Contains h.pairs p → r.part p ≡ Some s
      → joined_entries (superblock_pairs r) (last_superblock r) p s.entries ≡ s.entries
  entries_stay p s there is =
      joined_same (list_any (same_pair p) (superblock_pairs r)) (same_pair p root) s.entries
      (led_by (last_superblock r) (behind_superblock s.entries)) (behind_superblock s.entries)
      (λ within at. root_stays p s (same_pair-is p root at) is within)
      (λ other. all_behind r s.entries (h.resolved_later p s there
      (λ at. true_false (sym (ap (λ (q : Pair). same_pair q root) at ∙ same_pair-refl root) ∙ other)) is))

  part_stays : (p : Pair) (o : Option StoredPart) → r.part p ≡ o → Contains h.pairs p → option_map (part_as_one r p) o ≡ o
  part_stays p None is there = refl
  part_stays p (Some s) is there = ap (λ (x : StoredPart). Some x)
      (part_same (can_join r (superblock_pairs r) (last_superblock r)) (superblock_pairs r) (last_superblock r) p s
      (entries_stay p s there is))

  same_there : (p : Pair) → Contains h.pairs p → SameAt r (one_superblock r) p
  same_there p there = record {
    part = part_stays p (r.part p) refl there;
    bodies = λ s is i d within. body_alike r (get_or s.entries i d).body;
  }

pub one_superblock_stays : PairsAreOfParts → SameReadingsHoldTheSame → OneSuperblockStays
one_superblock_stays pairs same r v h = same r (one_superblock r) v refl refl
    (subst (All (SameAt r (one_superblock r))) (pairs r v h)
    (All-weaker (Contains h.pairs) (SameAt r (one_superblock r)) (same_there r v h) h.pairs (All-contains_itself h.pairs))) h
