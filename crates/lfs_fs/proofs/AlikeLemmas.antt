-- What is stored stays where it is read alike.
use Rattle.std.proofs.Common.{◌≡◌, ℕ, Bool, true, false, List, [], ◌∷◌, Some, map, sym, ◌∙◌, subst}
use Rattle.std.specs.Prelude.{All, if◌then◌else◌}
use Rattle.std.specs.List.{AllZip}
use Rattle.std.proofs.lemmas.List.Elements.{All-cons, All-nil, All-head, All-tail}
use Rattle.lfs_meta.specs.Attribute.{Attributes}
use Rattle.lfs_meta.specs.Body.{StoredBody, Inline as Stored_inline, Chain as Stored_chain, Directory_at as Stored_directory}
use Rattle.lfs_meta.specs.Entry.{StoredEntry}
use Rattle.lfs_fs.specs.Pair.{root, same_pair}
use Rattle.lfs_fs.specs.Entry.{Body, Inline, Chain, Directory_at, Entry}
use Rattle.lfs_fs.specs.Thread.{Link, links}
use Rattle.lfs_fs.specs.Reading.{Reading}
use Rattle.lfs_fs.specs.Superblock.{superblock_entry}
use Rattle.lfs_fs.specs.Stored.{BodyStands, StandsFor, IsStored, HoldsLinks}
use Rattle.lfs_fs.specs.Alike.{ReadAlike, SameAt, ChainStays, PairsAreOfParts, SameReadingsHoldTheSame, StoredLinksStay}
use Rattle.lfs_fs.specs.Alike.{SuperblockIsOfTheRoot}
use Rattle.lfs_fs.proofs.ChainedLemmas.{pair_of, pairs_of_parts}
use Rattle.lfs_fs.proofs.BothSidesLemmas.{others_alone, held_by_links, held_fits, held_are_held_by_links, pairs_of_links}

-- ---- what stands for an entry still does

body_alike : (r q : Reading) (s : StoredBody) (b : Body) → BodyStands r s b → ReadAlike r q s → BodyStands q s b
body_alike r q (Stored_inline stored) (Inline bytes) h alike = h
body_alike r q (Stored_chain head size) (Chain blocks bytes) h alike = (alike.0 ∙ h.0, h.1 ∙ sym (alike.1 blocks h.0))
body_alike r q (Stored_directory first second) (Directory_at pair) h alike = h
body_alike r q _ _ h alike = absurd h

each_alike : (r q : Reading) (es : List StoredEntry) (fs : List Entry) → AllZip (StandsFor r) es fs → All (λ e. ReadAlike r q e.body) es
    → AllZip (StandsFor q) es fs
each_alike r q [] [] h alike = tt
each_alike r q [] (f ∷ fs) h alike = absurd h
each_alike r q (s ∷ es) [] h alike = absurd h
each_alike r q (s ∷ es) (f ∷ fs) h alike = (
  record {
    kind = h.0.kind;
    name = h.0.name;
    attributes = h.0.attributes;
    body = body_alike r q s.body f.body h.0.body (All-head (λ (x : StoredEntry). ReadAlike r q x.body) s es alike);
  },
  each_alike r q es fs h.1 (All-tail (λ (x : StoredEntry). ReadAlike r q x.body) s es alike),
)

stored_alike : (r q : Reading) (bytes : List ℕ) (attributes : Attributes) (l : Link) (h : IsStored r bytes attributes l)
    → q.part l.part.pair ≡ r.part l.part.pair → All (λ e. ReadAlike r q e.body) h.others → IsStored q bytes attributes l
stored_alike r q bytes attributes l h same alike = record {
  stored = h.stored;
  read = same ∙ h.read;
  others = h.others;
  entries = h.entries;
  stands = each_alike r q h.others l.part.entries h.stands alike;
  tail = h.tail;
  delta = h.delta;
  clean = h.clean;
}

-- ---- by the entries of a part

one_found : (r q : Reading) (size : ℕ) (blocks found : List ℕ) → Some blocks ≡ Some found → q.content size blocks ≡ r.content size blocks
    → q.content size found ≡ r.content size found
one_found r q size blocks found is same = let equal : blocks ≡ found = cc in
    subst (λ (x : List ℕ). q.content size x ≡ r.content size x) equal same

alike_by_chain : (r q : Reading) (s : StoredBody) (b : Body) → BodyStands r s b → ChainStays r q b → ReadAlike r q s
alike_by_chain r q (Stored_inline stored) b h stays = tt
alike_by_chain r q (Stored_chain head size) (Inline bytes) h stays = absurd h
alike_by_chain r q (Stored_chain head size) (Chain blocks bytes) h stays =
    let found = stays head size h.0 in
    (found.0 ∙ sym h.0, λ others is. one_found r q size blocks others (sym h.0 ∙ is) found.1)
alike_by_chain r q (Stored_chain head size) (Directory_at pair) h stays = absurd h
alike_by_chain r q (Stored_directory first second) b h stays = tt

all_alike : (r q : Reading) (es : List StoredEntry) (fs : List Entry) → AllZip (StandsFor r) es fs → All (λ f. ChainStays r q f.body) fs
    → All (λ e. ReadAlike r q e.body) es
all_alike r q [] [] h stay = All-nil (λ (x : StoredEntry). ReadAlike r q x.body)
all_alike r q [] (f ∷ fs) h stay = absurd h
all_alike r q (s ∷ es) [] h stay = absurd h
all_alike r q (s ∷ es) (f ∷ fs) h stay =
    All-cons (λ (x : StoredEntry). ReadAlike r q x.body) s es
    (alike_by_chain r q s.body f.body h.0.body (All-head (λ (x : Entry). ChainStays r q x.body) f fs stay))
    (all_alike r q es fs h.1 (All-tail (λ (x : Entry). ChainStays r q x.body) f fs stay))

pub stored_links_stay : StoredLinksStay
stored_links_stay r q bytes attributes l stays h = stored_alike r q bytes attributes l h stays.part
    (all_alike r q h.others l.part.entries h.stands stays.chains)

pub superblock_is_of_the_root : SuperblockIsOfTheRoot
superblock_is_of_the_root r old_bytes new_bytes old_attributes new_attributes l other h = record {
  stored = h.stored;
  read = h.read;
  others = h.others;
  entries = h.entries ∙ others_alone old_bytes old_attributes l.part.pair h.others other
      ∙ sym (others_alone new_bytes new_attributes l.part.pair h.others other);
  stands = h.stands;
  tail = h.tail;
  delta = h.delta;
  clean = h.clean;
}

-- ---- along a thread

pub behind_superblock : (P : StoredEntry → Type 0) (first : Bool) (s : StoredEntry) (others : List StoredEntry)
    → All P (if first then s ∷ others else others) → All P others
behind_superblock P true s others all = All-tail P s others all
behind_superblock P false s others all = all

same_link_stored : (r q : Reading) (bytes : List ℕ) (attributes : Attributes) (l : Link) → SameAt r q (pair_of l)
    → IsStored r bytes attributes l → IsStored q bytes attributes l
same_link_stored r q bytes attributes l same h =
    stored_alike r q bytes attributes l h same.part
    (behind_superblock (λ (e : StoredEntry). ReadAlike r q e.body) (same_pair l.part.pair root) (superblock_entry bytes attributes) h.others
    (subst (All (λ (e : StoredEntry). ReadAlike r q e.body)) h.entries (same.bodies h.stored h.read)))

links_stay : (r q : Reading) (bytes : List ℕ) (attributes : Attributes) (ls : List Link) → All (SameAt r q) (map pair_of ls)
    → All (IsStored r bytes attributes) ls → All (IsStored q bytes attributes) ls
links_stay r q bytes attributes [] same all = All-nil (IsStored q bytes attributes)
links_stay r q bytes attributes (l ∷ ls) same all =
    All-cons (IsStored q bytes attributes) l ls
    (same_link_stored r q bytes attributes l (All-head (SameAt r q) (pair_of l) (map pair_of ls) same)
    (All-head (IsStored r bytes attributes) l ls all))
    (links_stay r q bytes attributes ls (All-tail (SameAt r q) (pair_of l) (map pair_of ls) same)
    (All-tail (IsStored r bytes attributes) l ls all))

pub pairs_are_of_parts : PairsAreOfParts
pairs_are_of_parts r v h = sym (pairs_of_links r v h) ∙ pairs_of_parts v.directories

pub same_readings_hold_the_same : SameReadingsHoldTheSame
same_readings_hold_the_same r q v size count same h =
    let held : HoldsLinks r v = held_are_held_by_links r v h in
    held_by_links q v (held_fits r v h) (record {
      size = held.size ∙ sym size;
      count = held.count ∙ sym count;
      bytes = held.bytes;
      superblock = held.superblock;
      each = links_stay r q held.bytes v.attributes (links v.directories)
          (subst (All (SameAt r q)) (sym (pairs_of_parts v.directories)) same) held.each;
    })
