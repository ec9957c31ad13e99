-- What is refused while an image is gathered is a cause of the image.
use Rattle.std.proofs.Common.{◌≡◌, ◌≢◌, ◌⊎◌, ℕ, ◌<◌, ◌≤◌, List, [], ◌∷◌, ◌++◌, length, map, Some, None, zero, suc, refl, ap, sym, ◌∙◌}
use Rattle.std.proofs.Common.{subst, arith}
use Rattle.std.specs.Prelude.{Contains, slice_index_or}
use Rattle.std.specs.List.{Any, slice_get}
use Rattle.std.proofs.lemmas.List.Elements.{All-contains}
use Rattle.std.proofs.lemmas.List.Sums.{sum_by-cons}
use mathlib.Core.Logic.{inl, inr}
use Rattle.lfs_block.specs.Disk.{Disk}
use Rattle.lfs_block.specs.declared.mount_fault.MountFault.{MountFault}
use Rattle.lfs_block.specs.declared.mount_fault.MountFault.TheVariants as fault
use Rattle.lfs_meta.specs.declared.kind.Kind.TheVariants.{Super}
use Rattle.lfs_meta.specs.Attribute.{Attributes}
use Rattle.lfs_meta.specs.Body.{Pair, StoredBody, Inline as Stored_inline, Chain as Stored_chain, Directory_at as Stored_directory}
use Rattle.lfs_meta.specs.Entry.{StoredEntry}
use Rattle.lfs_meta.specs.Part.{StoredPart}
use Rattle.lfs_fs.specs.declared.limits.Limits.{Limits}
use Rattle.lfs_fs.specs.Pair.{root}
use Rattle.lfs_fs.specs.NameOrder.{precedes}
use Rattle.lfs_fs.specs.Entry.{Entry}
use Rattle.lfs_fs.specs.Directory.{Directory, entries, thread}
use Rattle.lfs_fs.specs.State.{delta_of}
use Rattle.lfs_fs.specs.Thread.{pieces}
use Rattle.lfs_fs.specs.Reading.{Reading, reading_of}
use Rattle.lfs_fs.specs.Front.{pair_names, pairs_name, IsThread}
use Rattle.lfs_fs.specs.Superblock.{HasSuperblock, IsSuperblock, superblock_entry}
use Rattle.lfs_fs.specs.Header.{HeaderCause}
use Rattle.lfs_fs.specs.Held.{directories_at, volume_at}
use Rattle.lfs_fs.specs.EntryFault.{MisorderedNames}
use Rattle.lfs_fs.specs.FrontCause.{StoredOn, IsOversized}
use Rattle.lfs_fs.specs.SuperblockCause.{NoSuperblock, SuperblockIs}
use Rattle.lfs_fs.specs.ThreadCause.{HasState}
use Rattle.lfs_fs.specs.Cause.{HasCause}
use Rattle.lfs_fs.specs.Outlined.{outlined_entry, outlined_directory, outlined_directories}
use Rattle.lfs_fs.specs.Gathering.{PairPart, delta_from, StateCause, NamesFall, HasNoChain, LeadsPast, EntryFault, PartsCause}
use Rattle.lfs_fs.specs.ThreadRead.{pairs_of, IsPartRead}
use Rattle.lfs_fs.specs.Judged.{SaysLimits, IsSuperblockWith, JudgedCause, with_entries}
use Rattle.lfs_fs.proofs.CountLemmas.{element_le}
use Rattle.lfs_fs.proofs.ThreadReadLemmas.{no_header}
use Rattle.lfs_fs.proofs.OutlinedLemmas.{outlined_entries}
use Rattle.lfs_fs.proofs.GatheredLemmas.{RootRead, root_superblock, same_links, uses_are, state_is}
use Rattle.lfs_fs.proofs.ContainsLemmas.{contains_mapped}

-- ---- the global state

state_at : (r : Reading) (f : ℕ → Type 0) (p : PairPart) (e : StoredEntry) (others : List StoredEntry)
    (rest : List PairPart) → RootRead r p e others rest → e.kind ≡ Super → IsThread r (p.0 ∷ pairs_of rest)
    → f (delta_from (with_entries p others ∷ rest)) → HasState r f
state_at r f p e others rest h kind is_thread says = record {
  pairs = p.0 ∷ pairs_of rest;
  is_thread = is_thread;
  is = subst f (sym (state_is r (with_entries p others ∷ rest))
      ∙ ap (λ x. delta_of (thread (pieces x))) (same_links r p e others rest h kind)) says;
}

pub state_refuses : (d : Disk) (f : MountFault) (p : PairPart) (e : StoredEntry) (others : List StoredEntry) (rest : List PairPart)
    → RootRead (reading_of d) p e others rest → e.kind ≡ Super → IsThread (reading_of d) (p.0 ∷ pairs_of rest)
    → StateCause f (delta_from (with_entries p others ∷ rest)) → HasCause d f
state_refuses d fault.UnfinishedMove p e others rest h kind is_thread says =
    state_at (reading_of d) (StateCause fault.UnfinishedMove) p e others rest h kind is_thread says
state_refuses d fault.Orphan p e others rest h kind is_thread says =
    inr (state_at (reading_of d) (StateCause fault.Orphan) p e others rest h kind is_thread says)
state_refuses d fault.UnknownState p e others rest h kind is_thread says =
    state_at (reading_of d) (StateCause fault.UnknownState) p e others rest h kind is_thread says
state_refuses d _ p e others rest h kind is_thread says = absurd says

-- ---- the superblock

pub no_first : (r : Reading) (s : StoredPart) (bytes : List ℕ) (attributes : Attributes) → r.part root ≡ Some s → s.entries ≡ []
    → HasSuperblock r bytes attributes → ⊥
no_first r s bytes attributes read none super =
    let part : super.part ≡ s = cc (super.read, read) in
    let first : superblock_entry bytes attributes ∷ super.others ≡ [] = sym super.is ∙ ap (λ (x : StoredPart). x.entries) part ∙ none in
    cc

pub none_refuses : (r : Reading) (s : StoredPart) → r.part root ≡ Some s → s.entries ≡ [] → NoSuperblock r
none_refuses r s read none =
    record { part = s; read = read; none = λ bytes attributes super. no_first r s bytes attributes read none super }

e_is : (r : Reading) (p : PairPart) (e : StoredEntry) (others : List StoredEntry) (rest : List PairPart)
    (bytes : List ℕ) (attributes : Attributes) → RootRead r p e others rest → HasSuperblock r bytes attributes → IsSuperblock e bytes
e_is r p e others rest bytes attributes h super =
    let part : super.part ≡ (with_entries p (e ∷ others)).1 = cc (super.read, h.part) in
    let first : superblock_entry bytes attributes ∷ super.others ≡ e ∷ others = sym super.is ∙ ap (λ (s : StoredPart). s.entries) part in
    let same : superblock_entry bytes attributes ≡ e = cc in
    subst (λ (x : StoredEntry). IsSuperblock x bytes) same (record { kind = refl; name = refl; body = refl; len = super.len })

-- the first entry
e_stored : (r : Reading) (p : PairPart) (e : StoredEntry) (others : List StoredEntry) (rest : List PairPart)
    → RootRead r p e others rest → StoredOn r e
e_stored r p e others rest h = record {
  front = p.0 ∷ pairs_of rest;
  is_front = h.front;
  pair = root;
  there = (0, omega arith, h.at);
  part = (with_entries p (e ∷ others)).1;
  read = h.part;
  index = 0;
  member = refl;
}

says_wrong : (r : Reading) (p : PairPart) (e : StoredEntry) (others : List StoredEntry) (rest : List PairPart)
    (these : List ℕ → Type 0) → RootRead r p e others rest → IsSuperblockWith e these → SuperblockIs r these
says_wrong r p e others rest these h says = record {
  bytes = says.bytes;
  attributes = e.attributes;
  superblock = root_superblock r p e others rest says.bytes h says.is;
  is = says.says;
}

pub superblock_refuses : (d : Disk) (f : MountFault) (p : PairPart) (e : StoredEntry) (others : List StoredEntry)
    (rest : List PairPart) → RootRead (reading_of d) p e others rest → JudgedCause f d.size d.count e → HasCause d f
superblock_refuses d fault.NoSuperblock p e others rest h cause = record {
  part = (with_entries p (e ∷ others)).1;
  read = h.part;
  none = λ bytes attributes super. cause bytes (e_is (reading_of d) p e others rest bytes attributes h super);
}
superblock_refuses d fault.Version p e others rest h cause = says_wrong (reading_of d) p e others rest
    (HeaderCause fault.Version d.size d.count) h cause
superblock_refuses d fault.Geometry p e others rest h cause = says_wrong (reading_of d) p e others rest
    (HeaderCause fault.Geometry d.size d.count) h cause
superblock_refuses d fault.Limits p e others rest h cause = says_wrong (reading_of d) p e others rest
    (HeaderCause fault.Limits d.size d.count) h cause
superblock_refuses d fault.BadSize p e others rest h cause = record {
  bytes = cause.bytes;
  attributes = e.attributes;
  superblock = root_superblock (reading_of d) p e others rest cause.bytes h cause.is;
  entry = e;
  stored = e_stored (reading_of d) p e others rest h;
  over = inr (inr cause.says);
}
superblock_refuses d _ p e others rest h cause = absurd cause.says

-- ---- entries

got : {X : Type 0} (xs : List X) (i : ℕ) (x : X) → i < length xs → slice_index_or xs i x ≡ x → slice_get xs i ≡ Some x
got [] i x within is = absurd (omega arith)
got (y ∷ xs) zero x within is = ap (λ z. Some z) is
got (y ∷ xs) (suc i) x within is = got xs i x (omega arith) is

-- an entry of the thread, other than the first, of which something holds
record FoundEntry (r : Reading) (P : StoredEntry → Type 0) : Type 0 where
  entry : StoredEntry
  stored : StoredOn r entry
  holds : P entry
  elsewhere : (stored.pair ≢ root) ⊎ (0 < stored.index)

-- the root's pair stands once
not_again : (r : Reading) (p : PairPart) (e : StoredEntry) (others : List StoredEntry) (rest : List PairPart) (q : Pair)
    → RootRead r p e others rest → Contains (pairs_of rest) q → q ≢ root
not_again r p e others rest q h there same =
    let once : pairs_name 0 (p.0 ∷ pairs_of rest) ≤ 1 = h.front.once 0 in
    let first : pair_names 0 p.0 ≡ 1 = ap (pair_names 0) h.at in
    let again : pair_names 0 q ≡ 1 = ap (pair_names 0) same in
    let some : pair_names 0 q ≤ pairs_name 0 (pairs_of rest) = element_le (pair_names 0) (pairs_of rest) q there in
    omega (arith, sum_by-cons (pair_names 0) p.0 (pairs_of rest))

found_entry : (r : Reading) (p : PairPart) (e : StoredEntry) (others : List StoredEntry) (rest : List PairPart)
    (P : StoredEntry → Type 0) → RootRead r p e others rest → Any (λ (q : PairPart). Any P q.1.entries) (with_entries p others ∷ rest)
    → FoundEntry r P
found_entry r p e others rest P h (zero, q, within, at, any) =
    let inner : Any P others = subst (λ (y : PairPart). Any P y.1.entries) (sym at) any in
    record {
      entry = inner.1;
      stored = record {
        front = p.0 ∷ pairs_of rest;
        is_front = h.front;
        pair = root;
        there = (0, omega arith, h.at);
        part = (with_entries p (e ∷ others)).1;
        read = h.part;
        index = suc inner.0;
        member = got others inner.0 inner.1 inner.2 inner.3;
      };
      holds = inner.4;
      elsewhere = inr (omega arith);
    }
found_entry r p e others rest P h (suc k, q, within, at, (i, x, inside, is, holds)) =
    let there : Contains rest q = (k, omega arith, at) in
    let pairs : Contains (pairs_of rest) q.0 = contains_mapped (λ (y : PairPart). y.0) rest q there in
    record {
      entry = x;
      stored = record {
        front = p.0 ∷ pairs_of rest;
        is_front = h.front;
        pair = q.0;
        there = (suc pairs.0, omega (arith, pairs.1), pairs.2);
        part = q.1;
        read = (All-contains (IsPartRead r) rest q h.later there).read;
        index = i;
        member = got q.1.entries i x inside is;
      };
      holds = holds;
      elsewhere = inl (not_again r p e others rest q.0 h pairs);
    }

no_chain_of : (r : Reading) (body : StoredBody) → HasNoChain r body → (head : ℕ) × (size : ℕ) × (body ≡ Stored_chain head size)
    × (r.chain head size ≡ None)
no_chain_of r (Stored_inline bytes) none = absurd none
no_chain_of r (Stored_chain head size) none = (head, size, refl, none)
no_chain_of r (Stored_directory first second) none = absurd none

leads_of : (r : Reading) (body : StoredBody) → LeadsPast r body → (pair : Pair) × (body ≡ Stored_directory pair.0 pair.1)
    × ((r.count ≤ pair.0) ⊎ (r.count ≤ pair.1))
leads_of r (Stored_inline bytes) past = absurd past
leads_of r (Stored_chain head size) past = absurd past
leads_of r (Stored_directory first second) past = ((first, second), refl, past)

-- ---- names

-- neighbours among entries of an outline are neighbours
record Neighbours (es : List Entry) (left right : Entry) : Type 0 where
  before : List Entry
  one : Entry
  two : Entry
  after : List Entry
  is : es ≡ before ++ one ∷ two ∷ after
  one_is : outlined_entry one ≡ left
  two_is : outlined_entry two ≡ right

later_neighbours : (e : Entry) (es : List Entry) (left right : Entry) → Neighbours es left right → Neighbours (e ∷ es) left right
later_neighbours e es left right h = record {
  before = e ∷ h.before;
  one = h.one;
  two = h.two;
  after = h.after;
  is = ap (λ (y : List Entry). e ∷ y) h.is;
  one_is = h.one_is;
  two_is = h.two_is;
}

neighbours : (es : List Entry) (before : List Entry) (left right : Entry) (after : List Entry)
    → map outlined_entry es ≡ before ++ left ∷ right ∷ after → Neighbours es left right
neighbours [] [] left right after is = cc
neighbours [] (x ∷ before) left right after is = cc
neighbours (e ∷ []) [] left right after is = cc
neighbours (e ∷ f ∷ es) [] left right after is =
    let one : outlined_entry e ≡ left = cc in
    let two : outlined_entry f ≡ right = cc in
    record { before = []; one = e; two = f; after = es; is = refl; one_is = one; two_is = two }
neighbours (e ∷ es) (x ∷ before) left right after is =
    let tail : map outlined_entry es ≡ before ++ left ∷ right ∷ after = cc in
    later_neighbours e es left right (neighbours es before left right after tail)

any_outlined : (P : Directory → Type 0) (ds : List Directory) → Any P (outlined_directories ds)
    → (x : Directory) × Contains ds x × P (outlined_directory x)
any_outlined P [] (k, f, within, at, holds) = absurd (omega arith)
any_outlined P (d ∷ ds) (zero, f, within, at, holds) = (d, (0, omega arith, refl), subst P (sym at) holds)
any_outlined P (d ∷ ds) (suc k, f, within, at, holds) =
    let rest = any_outlined P ds (k, f, omega arith, at, holds) in
    (rest.0, (suc rest.1.0, omega (arith, rest.1.1), rest.1.2), rest.2)

misordered : (r : Reading) (pairs : List Pair) → Any (λ (d : Directory). NamesFall (entries d))
    (outlined_directories (directories_at r pairs)) → MisorderedNames (volume_at r no_header pairs)
misordered r pairs any =
    let found = any_outlined (λ (d : Directory). NamesFall (entries d)) (directories_at r pairs) any in
    let fall = found.2 in
    let two = neighbours (entries found.0) fall.before fall.left fall.right fall.after (sym (outlined_entries found.0) ∙ fall.neighbours) in
    record {
      directory = found.0;
      there = found.1;
      before = two.before;
      left = two.one;
      right = two.two;
      after = two.after;
      neighbours = two.is;
      fall = ap (λ (x : Entry). precedes x.name two.two.name) two.one_is ∙ ap (λ (x : Entry). precedes fall.left.name x.name) two.two_is
          ∙ fall.fall;
    }

-- ---- parts

pub parts_refuse : (d : Disk) (f : MountFault) (limits : Limits) (p : PairPart) (e : StoredEntry)
    (others : List StoredEntry) (rest : List PairPart) → RootRead (reading_of d) p e others rest → SaysLimits d.size d.count limits e
    → PartsCause f (reading_of d) limits (λ b. pairs_name b (p.0 ∷ pairs_of rest)) (with_entries p others ∷ rest) → HasCause d f
parts_refuse d fault.BadSkipList limits p e others rest h judged cause =
    let r = reading_of d in
    let found = found_entry r p e others rest (EntryFault fault.BadSkipList r limits) h cause in
    let none = no_chain_of r found.entry.body found.holds in
    record { entry = found.entry; stored = found.stored; head = none.0; size = none.1; is_chain = none.2; none = none.3 }
parts_refuse d fault.BlockRange limits p e others rest h judged cause =
    let r = reading_of d in
    let found = found_entry r p e others rest (EntryFault fault.BlockRange r limits) h cause in
    let leads = leads_of r found.entry.body found.holds in
    inr (record { entry = found.entry; stored = found.stored; pair = leads.0; leads = leads.1; past = leads.2 })
parts_refuse d fault.SuperblockElsewhere limits p e others rest h judged cause =
    let found = found_entry (reading_of d) p e others rest (EntryFault fault.SuperblockElsewhere (reading_of d) limits) h cause in
    record { entry = found.entry; stored = found.stored; kind = found.holds; elsewhere = found.elsewhere }
parts_refuse d fault.BadSize limits p e others rest h judged cause =
    let found = found_entry (reading_of d) p e others rest (EntryFault fault.BadSize (reading_of d) limits) h cause in
    record {
      bytes = judged.bytes;
      attributes = e.attributes;
      superblock = root_superblock (reading_of d) p e others rest judged.bytes h judged.is;
      entry = found.entry;
      stored = found.stored;
      over = subst (λ (l : Limits). IsOversized l found.entry) judged.limits_are found.holds;
    }
parts_refuse d fault.OrderFault limits p e others rest h judged cause =
    let r = reading_of d in
    let links = same_links r p e others rest h judged.is.kind in
    record {
      header = no_header;
      front = p.0 ∷ pairs_of rest;
      is_front = h.front;
      fault = misordered r (p.0 ∷ pairs_of rest) (subst (Any (λ (d : Directory). NamesFall (entries d)))
          (ap (λ x. outlined_directories (pieces x)) links) cause);
    }
parts_refuse d fault.BlockTwice limits p e others rest h judged (b, twice) =
    let r = reading_of d in
    let all = uses_are r no_header b (with_entries p others ∷ rest) (p.0 ∷ pairs_of rest)
    (same_links r p e others rest h judged.is.kind) refl in
    record { header = no_header; front = p.0 ∷ pairs_of rest; is_front = h.front; twice = inl (b, omega arith) }
parts_refuse d fault.Memory limits p e others rest h judged cause = tt
parts_refuse d f limits p e others rest h judged cause = absurd
    (found_entry (reading_of d) p e others rest (EntryFault f (reading_of d) limits) h cause).holds
