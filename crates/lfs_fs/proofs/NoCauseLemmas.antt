-- An image that holds a sound volume has none of the causes.
use Rattle.std.proofs.Common.{◌≡◌, ◌≢◌, ◌⊎◌, ℕ, ◌<◌, ◌≤◌, Bool, true, false, List, [], ◌∷◌, ◌++◌, length, refl, ap, sym, ◌∙◌, subst, arith}
use Rattle.std.proofs.Common.{append_assoc, map, Option, Some, None, zero, suc}
use Rattle.std.specs.Prelude.{All, Contains, IsSome, if◌then◌else◌, nat_le}
use Rattle.std.specs.List.{Any}
use Rattle.std.proofs.lemmas.Bool.Decides.{nat_tests}
use Rattle.std.proofs.lemmas.List.Elements.{All-contains, All-head, Contains-append_right}
use Rattle.std.proofs.lemmas.List.{map-append}
use mathlib.Core.Logic.{inl, inr}
use Rattle.lfs_block.specs.Disk.{Disk}
use Rattle.lfs_block.specs.declared.mount_fault.MountFault.{MountFault}
use Rattle.lfs_block.specs.declared.mount_fault.MountFault.TheVariants as fault
use Rattle.lfs_file.specs.Laws.{FoundAreChains, ContentHasLength}
use Rattle.lfs_meta.specs.declared.kind.Kind.{Kind}
use Rattle.lfs_meta.specs.declared.kind.Kind.TheVariants.{File, Dir, Super}
use Rattle.lfs_meta.specs.Attribute.{Attributes}
use Rattle.lfs_meta.specs.Body.{Pair, StoredBody, Inline as Stored_inline, Chain as Stored_chain, Directory_at as Stored_directory}
use Rattle.lfs_meta.specs.Cause.{PairCause}
use Rattle.lfs_meta.specs.Entry.{StoredEntry}
use Rattle.lfs_meta.specs.LiveBlock.{stored_part_of}
use Rattle.lfs_meta.specs.Name.{Name}
use Rattle.lfs_fs.specs.declared.limits.Limits.{Limits}
use Rattle.lfs_fs.specs.NameOrder.{precedes}
use Rattle.lfs_fs.specs.Pair.{root, unordered}
use Rattle.lfs_fs.specs.Entry.{Entry, body_length, body_target, target}
use Rattle.lfs_fs.specs.Directory.{Directory, entries, key, thread}
use Rattle.lfs_fs.specs.Volume.{Volume}
use Rattle.lfs_fs.specs.Thread.{Link, pieces}
use Rattle.lfs_fs.specs.Tree.{Reached, top}
use Rattle.lfs_fs.specs.Named.{named}
use Rattle.lfs_fs.specs.State.{delta_of, IsUnfinishedMove, SaysOrphans, IsUnknownState}
use Rattle.lfs_fs.specs.Sound.{IsSound, IsProper, Rise, AreAttributes}
use Rattle.lfs_fs.specs.EntryFault.{NamesNoDirectory, LosesDirectory}
use Rattle.lfs_fs.specs.Reading.{Reading, reading_of}
use Rattle.lfs_fs.specs.Front.{IsThread, next_after, pair_names}
use Rattle.lfs_fs.specs.Superblock.{Header, header_of, superblock_entry, word_at, IsLimits}
use Rattle.lfs_fs.specs.Held.{chained, resolved_body, link_at, directories_at, volume_at}
use Rattle.lfs_fs.specs.FrontCause.{Unread, TailRange, StoredOn, NoChain, EntryRange, FrontOrder, FrontTwice, SuperblockElsewhere}
use Rattle.lfs_fs.specs.FrontCause.{stored_size, stored_name_length, IsOversized, EntryOversized}
use Rattle.lfs_fs.specs.SuperblockCause.{NoSuperblock, SuperblockIs, WrongVersion, WrongGeometry, WrongLimits}
use Rattle.lfs_fs.specs.ThreadCause.{ThreadMissing, ThreadOrphan, HasState}
use Rattle.lfs_fs.specs.Holds.{Holds, IsResolved}
use Rattle.lfs_fs.specs.Cause.{HasCause, IsOfFormat}
use Rattle.lfs_fs.specs.Mounts.{MountedHaveNoCause}
use Rattle.lfs_fs.proofs.OneMountLemmas.{one_thread, one_superblock}
use Rattle.lfs_fs.proofs.PrefixLemmas.{Extension, extension, pieces_extend}
use Rattle.lfs_fs.proofs.StoredLemmas.{Standing, First, Later, standing, front_of_thread, there_in_thread}
use Rattle.lfs_fs.proofs.CountLemmas.{Ends, ends_by, uses_of_front, named_of_front, count_uses, named_once, element_le, names_some}
use Rattle.lfs_fs.proofs.InVolumeLemmas.{stands}
use Rattle.lfs_fs.proofs.ResolvedLemmas.{stood_for}

-- the volume as it is read
abbrev pub here : (r : Reading) (v : Volume) → Holds r v → Volume
here r v h = volume_at r (header_of h.bytes h.attributes) h.pairs

-- ---- causes of a pair

is_none : {X : Type 0} (o : Option X) → IsSome o → o ≡ None → ⊥
is_none None some none = cc
is_none (Some x) some none = cc

no_unread : (d : Disk) (v : Volume) (fault : MountFault) → ((f : MountFault) (e : Disk) (p : Pair) → PairCause f e p
    → stored_part_of e p ≡ None) → Holds (reading_of d) v → Unread d fault → ⊥
no_unread d v fault law h u =
    let begins = front_of_thread (reading_of d) h.pairs u.front h.is_thread u.is_front in
    let there = there_in_thread u.front h.pairs u.pair begins u.there in
    let some : IsSome (stored_part_of d u.pair) = All-contains (λ (p : Pair). IsSome (stored_part_of d p)) h.pairs u.pair
    h.is_thread.parts there in
    let none : stored_part_of d u.pair ≡ None = law fault d u.pair u.cause in
    is_none (stored_part_of d u.pair) some none

-- ---- causes of the superblock

no_superblock : (r : Reading) (v : Volume) → Holds r v → NoSuperblock r → ⊥
no_superblock r v h c = c.none h.bytes h.attributes h.superblock

superblock_is : (r : Reading) (v : Volume) (P : List ℕ → Type 0) → (h : Holds r v) → SuperblockIs r P → P h.bytes
superblock_is r v P h c = subst P (one_superblock r c.bytes h.bytes c.attributes h.attributes c.superblock h.superblock).0 c.is

no_version : (r : Reading) (v : Volume) → Holds r v → WrongVersion r → ⊥
no_version r v h c = superblock_is r v (λ (bytes : List ℕ). word_at bytes 0 ≢ 0x00020000) h c h.version

no_geometry : (r : Reading) (v : Volume) → Holds r v → WrongGeometry r → ⊥
no_geometry r v h c = elim (superblock_is r v (λ (bytes : List ℕ). (word_at bytes 1 ≢ r.size) ⊎ (word_at bytes 2 ≢ r.count)) h c)
    [ inl size ↦ size h.size | inr count ↦ count h.count ]

no_limits : (r : Reading) (v : Volume) → Holds r v → WrongLimits r → ⊥
no_limits r v h c = superblock_is r v (λ (bytes : List ℕ). ¬ IsLimits (header_of bytes []).limits) h c h.limits

-- ---- causes of stored entries

elsewhere : (r : Reading) (v : Volume) (h : Holds r v) (e : StoredEntry) (pair : Pair) (index : ℕ) → e.kind ≡ Super
    → (pair ≢ root) ⊎ (0 < index) → Standing r v h e pair index → ⊥
elsewhere r v h e pair index kind (inl other) (First at zero' is) = other at
elsewhere r v h e pair index kind (inr after) (First at zero' is) = omega arith
elsewhere r v h e pair index kind place (Later resolved) = resolved.0 kind

chainless : (r : Reading) (v : Volume) (h : Holds r v) (e : StoredEntry) (pair : Pair) (index head size : ℕ) → e.body ≡ Stored_chain head size
    → r.chain head size ≡ None → Standing r v h e pair index → ⊥
chainless r v h e pair index head size body none (First at zero' is) = let inline : Stored_inline h.bytes ≡ Stored_chain head size =
    sym (ap (λ (x : StoredEntry). x.body) is) ∙ body in cc
chainless r v h e pair index head size body none (Later resolved) = is_none (r.chain head size) (resolved.1 head size body) none

-- the blocks of a directory that is named are the volume's
within_count : (v : Volume) (k : Pair) → IsSound v → 1 ≤ named k v → (k.0 < v.count) × (k.1 < v.count)
within_count v k sound some =
    let count = count_uses k v in
    let names = sound.names k in
    (sound.within k.0 (omega (arith, count.0)), sound.within k.1 (omega (arith, count.1)))

unordered_within : (le : Bool) (p : Pair) (n : ℕ) → ((if le then p else (p.1, p.0)).0 < n) × ((if le then p else (p.1, p.0)).1 < n)
    → (p.0 < n) × (p.1 < n)
unordered_within true p n h = h
unordered_within false p n h = (h.1, h.0)

ranged : (r : Reading) (v : Volume) (h : Holds r v) → IsSound (here r v h) → (e : StoredEntry) (s : StoredOn r e) (pair : Pair)
    → e.body ≡ Stored_directory pair.0 pair.1 → (r.count ≤ pair.0) ⊎ (r.count ≤ pair.1) → Standing r v h e s.pair s.index → ⊥
ranged r v h sound e s pair body past (First at zero' is) = let inline : Stored_inline h.bytes ≡ Stored_directory pair.0 pair.1 =
    sym (ap (λ (x : StoredEntry). x.body) is) ∙ body in cc
ranged r v h sound e s pair body past (Later resolved) =
    let there = stands r h.pairs e s h.is_thread resolved.0 in
    let leads : target (stood_for r e) ≡ Some (unordered pair) = ap (λ (b : StoredBody). body_target (resolved_body r b)) body in
    let some = names_some (unordered pair) (here r v h) there.directory (stood_for r e) there.there there.member leads in
    let within = unordered_within (nat_le pair.0 pair.1) pair r.count (within_count (here r v h) (unordered pair) sound some) in
    elim past [ inl p ↦ let w = within.0 in omega arith | inr p ↦ let w = within.1 in omega arith ]

no_elsewhere : (r : Reading) (v : Volume) → Holds r v → SuperblockElsewhere r → ⊥
no_elsewhere r v h c = elsewhere r v h c.entry c.stored.pair c.stored.index c.kind c.elsewhere (standing r v h c.entry c.stored)

no_chain : (r : Reading) (v : Volume) → Holds r v → NoChain r → ⊥
no_chain r v h c = chainless r v h c.entry c.stored.pair c.stored.index c.head c.size c.is_chain c.none (standing r v h c.entry c.stored)

no_range : (r : Reading) (v : Volume) (h : Holds r v) → IsSound (here r v h) → EntryRange r → ⊥
no_range r v h sound c = ranged r v h sound c.entry c.stored c.pair c.leads c.past (standing r v h c.entry c.stored)

-- ---- causes of the thread

missing : (v : Volume) → IsSound v → NamesNoDirectory v → ⊥
missing v sound c =
    let some = names_some c.pair v c.directory c.entry c.there c.member c.leads in
    let names = sound.names c.pair in
    let none = c.none in
    omega arith

-- limits and attributes don't matter
moved_missing : (r : Reading) (h k : Header) (ps : List Pair) → NamesNoDirectory (volume_at r h ps) → NamesNoDirectory (volume_at r k ps)
moved_missing r h k ps c = record {
  directory = c.directory;
  there = c.there;
  entry = c.entry;
  member = c.member;
  pair = c.pair;
  leads = c.leads;
  none = c.none;
}

moved_reached : (r : Reading) (h k : Header) (ps : List Pair) (p : Pair) → Reached (volume_at r h ps) p → Reached (volume_at r k ps) p
moved_reached r h k ps p ([], e, is, leads) = let same : top (volume_at r h ps) ≡ e = cc in
    ([], top (volume_at r k ps), refl, ap target same ∙ leads)
moved_reached r h k ps p (n ∷ path, e, is, leads) = (n ∷ path, e, is, leads)

orphaned : (r : Reading) (h k : Header) (ps : List Pair) → IsSound (volume_at r k ps) → LosesDirectory (volume_at r h ps) → ⊥
orphaned r h k ps sound c = c.lost (moved_reached r k h ps (key c.directory)
    (All-contains (λ (d : Directory). Reached (volume_at r k ps) (key d)) (directories_at r ps) c.directory sound.reached c.there))

no_state : (r : Reading) (v : Volume) (P : ℕ → Type 0) (h : Holds r v) → IsSound (here r v h) → HasState r P → P 0
no_state r v P h sound c =
    let same = one_thread r c.pairs h.pairs c.is_thread h.is_thread in
    subst P (ap (λ (ps : List Pair). delta_of (thread (directories_at r ps))) same ∙ sound.settled) c.is

no_missing : (r : Reading) (v : Volume) (h : Holds r v) → IsSound (here r v h) → ThreadMissing r → ⊥
no_missing r v h sound c =
    let same = one_thread r c.pairs h.pairs c.is_thread h.is_thread in
    missing (here r v h) sound (subst (λ (ps : List Pair). NamesNoDirectory (volume_at r (header_of h.bytes h.attributes) ps)) same
    (moved_missing r c.header (header_of h.bytes h.attributes) c.pairs c.missing))

no_orphan : (r : Reading) (v : Volume) (h : Holds r v) → IsSound (here r v h) → ThreadOrphan r → ⊥
no_orphan r v h sound c =
    let same = one_thread r c.pairs h.pairs c.is_thread h.is_thread in
    orphaned r c.header (header_of h.bytes h.attributes) h.pairs sound (subst
    (λ (ps : List Pair). LosesDirectory (volume_at r c.header ps)) same c.orphan)

-- ---- causes of fronts

pub names_itself : (p : Pair) → (1 ≤ pair_names p.0 p) × (1 ≤ pair_names p.1 p)
names_itself p = (grind (arith, nat_tests), grind (arith, nat_tests))

tail_within : (r : Reading) (ps front rest : List Pair) (pair : Pair) (next : Option Pair) → IsThread r ps → ps ≡ front ++ rest
    → Ends rest next → next ≡ Some pair → (r.count ≤ pair.0) ⊎ (r.count ≤ pair.1) → ⊥
tail_within r ps front rest pair next h is (inl none) follows past = cc
tail_within r ps front rest pair next h is (inr (q, more, some, rest_is)) follows past =
    let same : q ≡ pair = cc in
    let all : ps ≡ front ++ pair ∷ more = is ∙ ap (λ (x : List Pair). front ++ x) rest_is ∙ ap (λ (x : Pair). front ++ x ∷ more) same in
    let there : Contains ps pair = subst (λ (x : List Pair). Contains x pair) (sym all)
    (Contains-append_right front (pair ∷ more) pair (0, omega arith, refl)) in
    let itself = names_itself pair in
    let first = h.front.within pair.0 (omega (arith, element_le (pair_names pair.0) ps pair there)) in
    let second = h.front.within pair.1 (omega (arith, element_le (pair_names pair.1) ps pair there)) in
    elim past [ inl p ↦ omega arith | inr p ↦ omega arith ]

rise_neighbours : (before : List Entry) (left right : Entry) (after : List Entry) → Rise (before ++ left ∷ right ∷ after)
    → precedes left.name right.name ≡ true
rise_neighbours [] left right after h = All-head (λ (f : Entry). precedes left.name f.name ≡ true) right after h.0
rise_neighbours (e ∷ before) left right after h = rise_neighbours before left right after h.1

ordered : (ds es : List Directory) {d : Directory} (x : Extension es d) → All (λ (e : Directory). Rise (entries e)) es
    → (before : List Entry) (left right : Entry) (after : List Entry) → entries d ≡ before ++ left ∷ right ∷ after
    → precedes left.name right.name ≡ false → ⊥
ordered ds es x order before left right after is fall =
    let rise = All-contains (λ (e : Directory). Rise (entries e)) es x.directory order x.there in
    let all = x.is ∙ ap (λ (y : List Entry). y ++ x.rest) is ∙ append_assoc before (left ∷ right ∷ after) x.rest in
    let before' = rise_neighbours before left right (after ++ x.rest) (subst Rise all rise) in
    cc

-- ---- what is over a limit

name_at_most : (kind : Kind) (name : Name) → stored_name_length kind name ≤ length name
name_at_most File name = omega arith
name_at_most Dir name = omega arith
name_at_most Super name = omega arith

-- the content of a chain has its size
abbrev pub Lengths : Reading → Type 0
Lengths r = (head size : ℕ) (blocks : List ℕ) → r.chain head size ≡ Some blocks → length (r.content size blocks) ≡ size

chained_size : (r : Reading) (head size : ℕ) (o : Option (List ℕ)) → Lengths r → r.chain head size ≡ o → IsSome o
    → size ≤ body_length (chained r size o)
chained_size r head size None lengths is some = cc
chained_size r head size (Some blocks) lengths is some = let same = lengths head size blocks is in omega arith

size_at_most : (r : Reading) (kind : Kind) (body : StoredBody) → Lengths r
    → ((head size : ℕ) → body ≡ Stored_chain head size → IsSome (r.chain head size)) → stored_size kind body ≤ body_length (resolved_body r body)
size_at_most r File (Stored_inline bytes) lengths some = omega arith
size_at_most r File (Stored_chain head size) lengths some = chained_size r head size (r.chain head size) lengths refl (some head size refl)
size_at_most r File (Stored_directory first second) lengths some = omega arith
size_at_most r Dir body lengths some = omega arith
size_at_most r Super body lengths some = omega arith

no_longer : (limit : ℕ) (a : Attributes) → AreAttributes limit a → Any (λ (x : ℕ × List ℕ). limit < length x.1) a → ⊥
no_longer limit [] h (k, x, within, is, long) = omega arith
no_longer limit (y ∷ a) h (zero, x, within, is, long) = let same : length y.1 ≡ length x.1 = ap (λ (z : ℕ × List ℕ). length z.1) is in
    let fits = h.0 in omega arith
no_longer limit (y ∷ a) h (suc k, x, within, is, long) = no_longer limit a h.2 (k, x, omega arith, is, long)

within_limits : (l : Limits) (r : Reading) (e : StoredEntry) → Lengths r → IsResolved r e → IsProper l (stood_for r e) → IsOversized l e → ⊥
within_limits l r e lengths resolved proper (inl name) = let most = name_at_most e.kind e.name in let fits = proper.name_fits in omega arith
within_limits l r e lengths resolved proper (inr (inl size)) = let most = size_at_most r e.kind e.body lengths resolved.1 in
    let fits = proper.file_fits in omega arith
within_limits l r e lengths resolved proper (inr (inr attribute)) = no_longer l.attribute e.attributes proper.attributes attribute

superblock_within : (l : Limits) (bytes : List ℕ) (a : Attributes) → AreAttributes l.attribute a → IsOversized l (superblock_entry bytes a)
    → ⊥
superblock_within l bytes a fit (inl name) = omega arith
superblock_within l bytes a fit (inr (inl size)) = omega arith
superblock_within l bytes a fit (inr (inr attribute)) = no_longer l.attribute a fit attribute

oversized : (r : Reading) (v : Volume) (h : Holds r v) → IsSound (here r v h) → Lengths r → (e : StoredEntry) (s : StoredOn r e)
    → IsOversized (header_of h.bytes []).limits e → Standing r v h e s.pair s.index → ⊥
oversized r v h sound lengths e s over (First at zero' is) = superblock_within
    (header_of h.bytes []).limits h.bytes h.attributes sound.root_attributes (subst (IsOversized (header_of h.bytes []).limits) is over)
oversized r v h sound lengths e s over (Later resolved) =
    let there = stands r h.pairs e s h.is_thread resolved.0 in
    let all = All-contains (λ (d : Directory). All (IsProper (header_of h.bytes []).limits) (entries d))
    (directories_at r h.pairs) there.directory sound.proper there.there in
    within_limits (header_of h.bytes []).limits r e lengths resolved (All-contains (IsProper (header_of h.bytes []).limits)
    (entries there.directory) (stood_for r e) all there.member) over

no_oversized : (r : Reading) (v : Volume) (h : Holds r v) → IsSound (here r v h) → Lengths r → EntryOversized r → ⊥
no_oversized r v h sound lengths c =
    let same = (one_superblock r c.bytes h.bytes c.attributes h.attributes c.superblock h.superblock).0 in
    oversized r v h sound lengths c.entry c.stored (subst (λ (b : List ℕ). IsOversized (header_of b []).limits c.entry) same c.over)
    (standing r v h c.entry c.stored)

no_tail_range : (r : Reading) (v : Volume) → Holds r v → TailRange r → ⊥
no_tail_range r v h c =
    let begins = front_of_thread r h.pairs c.front h.is_thread c.is_front in
    tail_within r h.pairs c.front begins.0 c.pair (next_after r c.front) h.is_thread begins.1
    (ends_by r h.pairs c.front begins.0 h.is_thread begins.1) c.follows c.past

no_order : (r : Reading) (v : Volume) (h : Holds r v) → IsSound (here r v h) → FrontOrder r → ⊥
no_order r v h sound c =
    let begins = front_of_thread r h.pairs c.front h.is_thread c.is_front in
    let all = map (link_at r) c.front ++ map (link_at r) begins.0 in
    let complete : map (link_at r) h.pairs ≡ all = ap (map (link_at r)) begins.1 ∙ map-append (link_at r) c.front begins.0 in
    let order : All (λ (d : Directory). Rise (entries d)) (pieces all) =
    subst (λ (ls : List Link). All (λ (d : Directory). Rise (entries d)) (pieces ls)) complete sound.order in
    ordered (directories_at r c.front) (pieces all) (extension (directories_at r c.front) (pieces all) c.fault.directory
    (pieces_extend (map (link_at r) c.front) (map (link_at r) begins.0)) c.fault.there) order
    c.fault.before c.fault.left c.fault.right c.fault.after c.fault.neighbours c.fault.fall

no_twice : (r : Reading) (v : Volume) (h : Holds r v) → IsSound (here r v h) → FrontTwice r → ⊥
no_twice r v h sound c =
    let begins = front_of_thread r h.pairs c.front h.is_thread c.is_front in
    elim c.twice [
      | inl block ↦ let more = uses_of_front r c.header (header_of h.bytes h.attributes) block.0 h.pairs c.front h.is_thread begins in
          let once = sound.once block.0 in let two = block.1 in omega arith
      | inr pair ↦ let more = named_of_front r c.header (header_of h.bytes h.attributes) pair.0 h.pairs c.front begins in
          let once = named_once pair.0 (here r v h) sound in let two = pair.1 in omega arith
    ]

-- ---- all together

-- what is owed by the layers below: a pair with a cause holds no part, and a chain's content has its length
abbrev pub PairsWithCausesAreUnread : Type 0
PairsWithCausesAreUnread = (fault : MountFault) (d : Disk) (pair : Pair) → PairCause fault d pair → stored_part_of d pair ≡ None

none_of : (d : Disk) (v : Volume) (fault : MountFault) → PairsWithCausesAreUnread → Lengths (reading_of d) → (h : Holds (reading_of d) v)
    → IsSound (here (reading_of d) v h) → IsOfFormat fault → HasCause d fault → ⊥
none_of d v fault.NoValidCommit law lengths h sound of c = no_unread d v fault.NoValidCommit law h c
none_of d v fault.UnknownTag law lengths h sound of c = no_unread d v fault.UnknownTag law h c
none_of d v fault.BadTag law lengths h sound of c = no_unread d v fault.BadTag law h c
none_of d v fault.IncompleteEntry law lengths h sound of c = no_unread d v fault.IncompleteEntry law h c
none_of d v fault.BadName law lengths h sound of c = no_unread d v fault.BadName law h c
none_of d v fault.BadSkipList law lengths h sound of c = no_chain (reading_of d) v h c
none_of d v fault.NoSuperblock law lengths h sound of c = no_superblock (reading_of d) v h c
none_of d v fault.Version law lengths h sound of c = no_version (reading_of d) v h c
none_of d v fault.Geometry law lengths h sound of c = no_geometry (reading_of d) v h c
none_of d v fault.Limits law lengths h sound of c = no_limits (reading_of d) v h c
none_of d v fault.OrderFault law lengths h sound of c = no_order (reading_of d) v h sound c
none_of d v fault.BlockRange law lengths h sound of (inl c) = no_tail_range (reading_of d) v h c
none_of d v fault.BlockRange law lengths h sound of (inr c) = no_range (reading_of d) v h sound c
none_of d v fault.BlockTwice law lengths h sound of c = no_twice (reading_of d) v h sound c
none_of d v fault.MissingDirectory law lengths h sound of c = no_missing (reading_of d) v h sound c
none_of d v fault.Orphan law lengths h sound of (inl c) = no_orphan (reading_of d) v h sound c
none_of d v fault.Orphan law lengths h sound of (inr c) = let says = no_state (reading_of d) v SaysOrphans h sound c in let bit = says.1 in
    omega arith
none_of d v fault.UnfinishedMove law lengths h sound of c = no_state (reading_of d) v IsUnfinishedMove h sound c refl
none_of d v fault.SuperblockElsewhere law lengths h sound of c = no_elsewhere (reading_of d) v h c
none_of d v fault.BadSize law lengths h sound of c = no_oversized (reading_of d) v h sound lengths c
none_of d v fault.UnknownState law lengths h sound of c = (no_state (reading_of d) v IsUnknownState h sound c).0 refl
none_of d v fault.Memory law lengths h sound of c = absurd of

pub mounted_have_no_cause : PairsWithCausesAreUnread → FoundAreChains → ContentHasLength → MountedHaveNoCause
mounted_have_no_cause law chains lengths d t fault disk (v, h, sound, is) of c =
    none_of d v fault law (λ head size blocks found. lengths d head size blocks disk (chains d head size blocks disk found)) h
    (subst IsSound h.is sound) of c
