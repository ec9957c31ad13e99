-- What an image holds along its thread is what it holds link by link.
use Rattle.std.proofs.Common.{◌≡◌, ◌≢◌, ℕ, ◌≤◌, ◌<◌, Bool, true, false, List, [], ◌∷◌, Option, Some, None, map, refl, ap, sym, ◌∙◌, subst}
use Rattle.std.proofs.Common.{arith, get_or}
use Rattle.std.specs.Prelude.{All, Contains, IsSome, if◌then◌else◌}
use Rattle.std.proofs.lemmas.List.Elements.{All-head, All-tail, All-map, All-contains, All-weaker, Contains-get_or}
use mathlib.Core.Logic.{inl, inr}
use Rattle.lfs_meta.specs.Attribute.{Attributes}
use Rattle.lfs_meta.specs.Body.{Pair}
use Rattle.lfs_meta.specs.Entry.{StoredEntry}
use Rattle.lfs_meta.specs.Part.{StoredPart}
use Rattle.lfs_fs.specs.declared.limits.Limits.{Limits}
use Rattle.lfs_fs.specs.Pair.{root, same_pair}
use Rattle.lfs_fs.specs.Directory.{Directory}
use Rattle.lfs_fs.specs.Volume.{Volume}
use Rattle.lfs_fs.specs.Thread.{Link, next, pieces, links}
use Rattle.lfs_fs.specs.Sound.{IsSound, StartsAtRoot}
use Rattle.lfs_fs.specs.Reading.{Reading}
use Rattle.lfs_fs.specs.Front.{Follow, after, tail_of, next_pair, pairs_name}
use Rattle.lfs_fs.specs.Superblock.{header_of, superblock_entry}
use Rattle.lfs_fs.specs.Held.{link_of, link_at}
use Rattle.lfs_fs.specs.Holds.{Holds, IsResolved}
use Rattle.lfs_fs.specs.Stored.{stored_before, IsStored, HoldsLinks, HeldAreHeldByLinks, HeldByLinksAreHeld}
use Rattle.lfs_fs.proofs.ThreadLemmas.{links_make_their_directories}
use Rattle.lfs_fs.proofs.ChainedLemmas.{first_pair, Chained, first_of_links, links_chained, links_of_pieces, pair_of, IsStep, pairs_follow}
use Rattle.lfs_fs.proofs.ChainedLemmas.{pairs_used}
use Rattle.lfs_fs.proofs.StandsLemmas.{all_are_resolved, read_at, stored_step, stored_at}
use Rattle.lfs_fs.proofs.CountLemmas.{link_pair}
use Rattle.lfs_fs.proofs.StoredLemmas.{same_or_not}
use Rattle.lfs_fs.proofs.PairLemmas.{same_pair-is}

-- ---- the pairs of a thread of links

-- they begin at the root's, are below the count, and name no block twice
pub record PairsFit (count : ℕ) (ds : List Directory) : Type 0 where
  pub starts : first_pair (links ds) ≡ Some root
  pub within : (b : ℕ) → 0 < pairs_name b (map pair_of (links ds)) → b < count
  pub once : (b : ℕ) → pairs_name b (map pair_of (links ds)) ≤ 1

starts_by : (ds : List Directory) → StartsAtRoot ds → first_pair (links ds) ≡ Some root
starts_by [] starts = absurd starts
starts_by (d ∷ ds) starts = first_of_links (d ∷ ds) ∙ ap (λ (p : Pair). Some p) starts

pub sound_fits : (v : Volume) → IsSound v → PairsFit v.count v.directories
sound_fits v sound = record {
  starts = starts_by v.directories sound.starts;
  within = λ b named. sound.within b (omega (arith, named, pairs_used b v.directories));
  once = λ b. omega (arith, sound.once b, pairs_used b v.directories);
}

-- ---- from links to the thread

-- the first link is at the root, and is stored there
first_stored : (P : Link → Type 0) (ls : List Link) (p : Pair) → All P ls → first_pair ls ≡ Some p → (l : Link) × P l × (l.part.pair ≡ p)
first_stored P [] p all is = cc
first_stored P (l ∷ ls) p all is = (l, All-head P l ls all, cc)

pub root_superblock : (r : Reading) (bytes : List ℕ) (attributes : Attributes) (l : Link) (h : IsStored r bytes attributes l)
    → l.part.pair ≡ root → h.stored.entries ≡ superblock_entry bytes attributes ∷ h.others
root_superblock r bytes attributes l h at = h.entries ∙ ap (λ (p : Pair). stored_before bytes attributes p h.others) at

false_unless : (b : Bool) → (b ≡ true → ⊥) → b ≡ false
false_unless true never = absurd (never refl)
false_unless false never = refl

pub not_root : (p : Pair) → p ≢ root → same_pair p root ≡ false
not_root p other = false_unless (same_pair p root) (λ h. other (same_pair-is p root h))

-- elsewhere no superblock stands before the entries
pub others_alone : (bytes : List ℕ) (attributes : Attributes) (p : Pair) (others : List StoredEntry) → p ≢ root
    → stored_before bytes attributes p others ≡ others
others_alone bytes attributes p others other = ap (λ (b : Bool). if b then superblock_entry bytes attributes ∷ others else others)
    (not_root p other)

-- the entries of a link that isn't the root's first part
later_resolved : (r : Reading) (bytes : List ℕ) (attributes : Attributes) (l : Link) → IsStored r bytes attributes l → l.part.pair ≢ root
    → (s : StoredPart) → r.part l.part.pair ≡ Some s → All (IsResolved r) s.entries
later_resolved r bytes attributes l h other s read =
    let same : h.stored ≡ s = cc (h.read, read) in
    subst (All (IsResolved r)) (sym (others_alone bytes attributes l.part.pair h.others other) ∙ sym h.entries
    ∙ ap (λ (x : StoredPart). x.entries) same) (all_are_resolved r h.others l.part.entries h.stands)

links_read : (r : Reading) (ls : List Link) → All (λ l. link_at r (pair_of l) ≡ l) ls → map (link_at r) (map pair_of ls) ≡ ls
links_read r [] all = refl
links_read r (l ∷ ls) all =
    let here : link_at r (pair_of l) ≡ l = All-head (λ (x : Link). link_at r (pair_of x) ≡ x) l ls all in
    let rest : map (link_at r) (map pair_of ls) ≡ ls = links_read r ls (All-tail (λ (x : Link). link_at r (pair_of x) ≡ x) l ls all) in
    ap (λ (x : Link). x ∷ map (link_at r) (map pair_of ls)) here ∙ ap (λ (x : List Link). l ∷ x) rest

same_volume : (v : Volume) (size count : ℕ) (limits : Limits) (ds : List Directory) → v.size ≡ size → v.count ≡ count → v.limits ≡ limits
    → v.directories ≡ ds → v ≡ record { size = size; count = count; limits = limits; attributes = v.attributes; directories = ds }
same_volume v size count limits ds size_is count_is limits_are directories_are =
    ap (λ (x : ℕ). record { size = x; count = v.count; limits = v.limits; attributes = v.attributes; directories = v.directories }) size_is
    ∙ ap (λ (x : ℕ). record { size = size; count = x; limits = v.limits; attributes = v.attributes; directories = v.directories }) count_is
    ∙ ap (λ (x : Limits). record { size = size; count = count; limits = x; attributes = v.attributes; directories = v.directories })
    limits_are
    ∙ ap (λ (x : List Directory). record { size = size; count = count; limits = limits; attributes = v.attributes; directories = x })
    directories_are

-- a volume is held along its thread where it is held by links whose pairs fit
pub held_by_links : (r : Reading) (v : Volume) → PairsFit v.count v.directories → HoldsLinks r v → Holds r v
held_by_links r v fit h =
    let ls : List Link = links v.directories in
    let follow = pairs_follow (next_pair r) (Some root) ls (sym fit.starts) (links_chained v.directories)
    (All-weaker (IsStored r h.bytes v.attributes) (IsStep (next_pair r)) (stored_step r h.bytes v.attributes) ls h.each) in
    let first = first_stored (IsStored r h.bytes v.attributes) ls root h.each fit.starts in
    record {
      pairs = map pair_of ls;
      is_thread = record {
        front = record { follow = follow.0; within = λ b named. subst (λ (n : ℕ). b < n) h.count (fit.within b named); once = fit.once };
        parts = All-map (λ (p : Pair). IsSome (r.part p)) pair_of ls (All-weaker (IsStored r h.bytes v.attributes)
            (λ (l : Link). IsSome (r.part (pair_of l))) (λ l stored. rw stored.read refl) ls h.each);
        ends = follow.1;
      };
      bytes = h.bytes;
      attributes = v.attributes;
      superblock = record {
        part = first.1.stored;
        read = ap r.part (sym first.2) ∙ first.1.read;
        others = first.1.others;
        is = root_superblock r h.bytes v.attributes first.0 first.1 first.2;
        len = h.superblock.len;
      };
      version = h.superblock.header.version;
      size = h.superblock.header.size_is ∙ h.size;
      count = h.superblock.header.count_is ∙ h.count;
      limits = h.superblock.header.limits;
      resolved = all_are_resolved r first.1.others first.0.part.entries first.1.stands;
      resolved_later = λ p s there other read. All-contains (λ (q : Pair). q ≢ root → (t : StoredPart) → r.part q ≡ Some t
          → All (IsResolved r) t.entries) (map pair_of ls) p
          (All-map (λ (q : Pair). q ≢ root → (t : StoredPart) → r.part q ≡ Some t → All (IsResolved r) t.entries) pair_of ls
          (All-weaker (IsStored r h.bytes v.attributes) (λ (l : Link). pair_of l ≢ root → (t : StoredPart) → r.part (pair_of l) ≡ Some t
          → All (IsResolved r) t.entries) (later_resolved r h.bytes v.attributes) ls h.each))
          there other s read;
      is = same_volume v r.size r.count (header_of h.bytes v.attributes).limits
          (pieces (map (link_at r) (map pair_of ls))) h.size h.count h.superblock.limits
          (sym (links_make_their_directories v.directories) ∙ ap pieces (sym
          (links_read r ls (All-weaker (IsStored r h.bytes v.attributes) (λ (l : Link). link_at r (pair_of l) ≡ l)
          (read_at r h.bytes v.attributes) ls h.each))));
    }

pub held_by_links_are_held : HeldByLinksAreHeld
held_by_links_are_held r v sound h = held_by_links r v (sound_fits v sound) h

-- ---- from the thread to links

tail_read : (r : Reading) (p : Pair) (o : Option StoredPart) → next (link_of r p o).tail ≡ tail_of o
tail_read r p None = refl
tail_read r p (Some s) = refl

-- what is read along a thread is chained
chained_along : (r : Reading) (from : Option Pair) (ps : List Pair) → Follow (next_pair r) from ps → after (next_pair r) from ps ≡ None
    → (from ≡ first_pair (map (link_at r) ps)) × Chained (map (link_at r) ps)
chained_along r from [] follow ends = (ends, tt)
chained_along r from (p ∷ ps) follow ends =
    let rest = chained_along r (next_pair r p) ps follow.1 ends in
    (follow.0 ∙ ap (λ (q : Pair). Some q) (sym (link_pair r p (r.part p))), (tail_read r p (r.part p) ∙ rest.0, rest.1))

links_along : (r : Reading) (v : Volume) (h : Holds r v) → links v.directories ≡ map (link_at r) h.pairs
links_along r v h = ap (λ (x : Volume). links x.directories) h.is ∙ links_of_pieces (map (link_at r) h.pairs)
    (chained_along r (Some root) h.pairs h.is_thread.front.follow h.is_thread.ends).1

pairs_along : (r : Reading) (ps : List Pair) → map pair_of (map (link_at r) ps) ≡ ps
pairs_along r [] = refl
pairs_along r (p ∷ ps) = ap (λ (q : Pair). q ∷ map pair_of (map (link_at r) ps)) (link_pair r p (r.part p))
    ∙ ap (λ (x : List Pair). p ∷ x) (pairs_along r ps)

-- the pairs of the thread are those of the links
pub pairs_of_links : (r : Reading) (v : Volume) (h : Holds r v) → map pair_of (links v.directories) ≡ h.pairs
pairs_of_links r v h = ap (map pair_of) (links_along r v h) ∙ pairs_along r h.pairs

pub held_fits : (r : Reading) (v : Volume) → Holds r v → PairsFit v.count v.directories
held_fits r v h =
    let same : map pair_of (links v.directories) ≡ h.pairs = pairs_of_links r v h in
    let count : v.count ≡ r.count = ap (λ (x : Volume). x.count) h.is in
    record {
      starts = ap first_pair (links_along r v h) ∙ sym (chained_along r (Some root) h.pairs h.is_thread.front.follow h.is_thread.ends).0;
      within = λ b named. rw count (h.is_thread.front.within b (rw same at named));
      once = λ b. rw same (h.is_thread.front.once b);
    }

pub some_part : (r : Reading) (p : Pair) (o : Option StoredPart) → r.part p ≡ o → IsSome o → (s : StoredPart) × (r.part p ≡ Some s)
some_part r p None is some = cc
some_part r p (Some s) is some = (s, is)

-- a part of the thread is stored: the root's first one behind the superblock, and the others whole
stored_along : (r : Reading) (v : Volume) (h : Holds r v) (p : Pair) → Contains h.pairs p → IsStored r h.bytes h.attributes (link_at r p)
stored_along r v h p there =
    let part = some_part r p (r.part p) refl (All-contains (λ (q : Pair). IsSome (r.part q)) h.pairs p h.is_thread.parts there) in
    elim (same_or_not p root) [
      | inl at ↦
          let same : part.0 ≡ h.superblock.part = cc (part.1, ap r.part at, h.superblock.read) in
          stored_at r h.bytes h.attributes p part.0 h.superblock.others part.1
          (ap (λ (x : StoredPart). x.entries) same ∙ h.superblock.is ∙ ap (λ (q : Pair).
          stored_before h.bytes h.attributes q h.superblock.others) (sym at))
          h.resolved
      | inr other ↦ stored_at r h.bytes h.attributes p part.0 part.0.entries part.1
          (sym (others_alone h.bytes h.attributes p part.0.entries other)) (h.resolved_later p part.0 there other part.1)
    ]

pub held_are_held_by_links : HeldAreHeldByLinks
held_are_held_by_links r v h =
    let size : v.size ≡ r.size = ap (λ (x : Volume). x.size) h.is in
    let count : v.count ≡ r.count = ap (λ (x : Volume). x.count) h.is in
    let attributes : v.attributes ≡ h.attributes = ap (λ (x : Volume). x.attributes) h.is in
    record {
      size = size;
      count = count;
      bytes = h.bytes;
      superblock = record {
        len = h.superblock.len;
        header = record { version = h.version; size_is = h.size ∙ sym size; count_is = h.count ∙ sym count; limits = h.limits };
        limits = ap (λ (x : Volume). x.limits) h.is;
      };
      each = rw (attributes, links_along r v h) (All-map (IsStored r h.bytes h.attributes) (link_at r) h.pairs
          (λ i d within. stored_along r v h (get_or h.pairs i d) (Contains-get_or h.pairs i d within)));
    }
