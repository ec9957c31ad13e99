-- Blocks are taken into use once.
use Rattle.std.proofs.Common.{◌≡◌, ◌≢◌, ◌==◌, ◌||◌, ◌+◌, ◌<◌, ℕ, zero, suc, Bool, true, false, List, [], ◌∷◌, ◌++◌, Option, Some, None, if◌then◌else◌, length, replicate, refl, ap, sym, ◌∙◌, subst, arith}
use Rattle.std.specs.Prelude.{All, AllPairs, not, slice_get, slice_index_or, slice_set}
use Rattle.std.specs.List.{list_any}
use Rattle.std.proofs.lemmas.List.{length-replicate, length-set}
use Rattle.std.proofs.lemmas.List.Elements.{All-append, All-cons, All-head, All-nil, All-tail, All-weaker}
use Rattle.std.proofs.lemmas.List.Kept.{AllPairs-cons}
use Rattle.std.proofs.lemmas.Option.{none-some, same_Some}
use Rattle.lfs_block.specs.Disk.{Disk, IsDisk}
use Rattle.lfs_block.specs.declared.mount_fault.MountFault.TheVariants.{BlockTwice}
use Rattle.lfs_file.specs.Laws.{ChainsDiffer}
use Rattle.lfs_file.specs.SkipList.{chain_of}
use Rattle.lfs_meta.specs.Body.{Pair, StoredBody, Inline, Chain, Directory_at}
use Rattle.lfs_meta.specs.Entry.{StoredEntry}
use Rattle.lfs_meta.specs.Part.{StoredPart}
use Rattle.lfs_meta.specs.declared.kind.Kind.{Kind}
use Rattle.lfs_meta.specs.declared.kind.Kind.TheVariants.{File, Dir, Super}
use Rattle.lfs_salvage.specs.Apart.{ChainsAreApart, PartsAreInUse, TakesBlocks, calls_blocks, entries_blocks, fate_blocks, found_blocks}
use Rattle.lfs_salvage.specs.AreaMade.{calls_uses, entries_uses, uses_by_entry, found_uses, call_parent}
use Rattle.lfs_salvage.specs.Fate.{FileFate, In_chain, Elsewhere, Lost, chain_fate, uses_by_chain, fate, head_fate, is_free, is_used, kind_fate, settled, uses_behind}
use Rattle.lfs_salvage.specs.PartsUsed.{areas_uses, uses_by_part, parts_uses}
use Rattle.lfs_salvage.specs.declared.block_use.BlockUse.{BlockUse}
use Rattle.lfs_salvage.specs.declared.block_use.BlockUse.TheVariants as use_of
use Rattle.lfs_salvage.specs.declared.parent.Parent.{Parent}
use Rattle.lfs_survey.specs.declared.area.Area.{Area}
use Rattle.lfs_survey.specs.declared.found.Found.{Found}
use Rattle.lfs_survey.specs.declared.found.Found.TheVariants.{Part, Refused}

-- ---- lists of blocks that differ

pairs_head : (b : ℕ) (bs : List ℕ) → AllPairs ◌≢◌ (b ∷ bs) → All (λ x. b ≢ x) bs
pairs_head b bs apart = λ k d within. apart 0 (suc k) d (omega arith) (omega arith)

pairs_tail : (b : ℕ) (bs : List ℕ) → AllPairs ◌≢◌ (b ∷ bs) → AllPairs ◌≢◌ bs
pairs_tail b bs apart = λ i j d less within. apart (suc i) (suc j) d (omega arith) (omega arith)

pairs_append : (xs ys : List ℕ) → AllPairs ◌≢◌ xs → AllPairs ◌≢◌ ys → All (λ x. All (λ y. x ≢ y) ys) xs → AllPairs ◌≢◌ (xs ++ ys)
pairs_append [] ys first later across = later
pairs_append (x ∷ xs) ys first later across =
    AllPairs-cons ◌≢◌ x (xs ++ ys)
    (All-append (λ (y : ℕ). x ≢ y) xs ys (pairs_head x xs first) (All-head (λ (z : ℕ). All (λ (y : ℕ). z ≢ y) ys) x xs across))
    (pairs_append xs ys (pairs_tail x xs first) later (All-tail (λ (z : ℕ). All (λ (y : ℕ). z ≢ y) ys) x xs across))

-- ---- one block

-- what was in use
abbrev pub Stays : List BlockUse → List BlockUse → Type 0
Stays old new = (b : ℕ) → is_used old b ≡ true → is_used new b ≡ true

set_stays : (uses : List BlockUse) (b : ℕ) (u : BlockUse) → is_free u ≡ false → Stays uses (slice_set uses b u)
set_stays [] b u taken x is = is
set_stays (v ∷ vs) zero u taken zero is = ap not taken
set_stays (v ∷ vs) zero u taken (suc x) is = is
set_stays (v ∷ vs) (suc b) u taken zero is = is
set_stays (v ∷ vs) (suc b) u taken (suc x) is = set_stays vs b u taken x is

set_takes : (uses : List BlockUse) (b : ℕ) (u : BlockUse) → is_free u ≡ false → b < length uses → is_used (slice_set uses b u) b ≡ true
set_takes [] b u taken within = absurd (omega (arith, within))
set_takes (v ∷ vs) zero u taken within = ap not taken
set_takes (v ∷ vs) (suc b) u taken within = set_takes vs b u taken (omega (arith, within))

stays_then : (a b e : List BlockUse) → Stays a b → Stays b e → Stays a e
stays_then a b e first later n is = later n (first n is)

-- ---- steps

takes_none : (uses : List BlockUse) → TakesBlocks uses uses []
takes_none uses = record {
  apart = λ i j d less within. absurd (omega arith);
  fresh = All-nil (λ (b : ℕ). is_used uses b ≡ false);
  taken = All-nil (λ (b : ℕ). is_used uses b ≡ true);
  stays = λ b is. is;
}

-- a block that is in use is none that isn't
differ : (uses : List BlockUse) (x y : ℕ) → is_used uses x ≡ true → is_used uses y ≡ false → x ≢ y
differ uses x y one other same = let also = ap (is_used uses) same in absurd (cc)

still_free : (old new : List BlockUse) (b : ℕ) → Stays old new → is_used new b ≡ false → is_used old b ≡ false
still_free old new b stays is = by (is_used old b) refl where
  by : (t : Bool) → is_used old b ≡ t → is_used old b ≡ false
  by true used = let now = stays b used in absurd (cc)
  by false used = used

takes_then : (a b e : List BlockUse) (xs ys : List ℕ) → TakesBlocks a b xs → TakesBlocks b e ys → TakesBlocks a e (xs ++ ys)
takes_then a b e xs ys p q = record {
  apart = pairs_append xs ys p.apart q.apart
      (All-weaker (λ (x : ℕ). is_used b x ≡ true) (λ (x : ℕ). All (λ (y : ℕ). x ≢ y) ys)
      (λ x one. All-weaker (λ (y : ℕ). is_used b y ≡ false) (λ (y : ℕ). x ≢ y) (λ y other. differ b x y one other) ys q.fresh) xs p.taken);
  fresh = All-append (λ (x : ℕ). is_used a x ≡ false) xs ys p.fresh
      (All-weaker (λ (y : ℕ). is_used b y ≡ false) (λ (y : ℕ). is_used a y ≡ false) (λ y is. still_free a b y p.stays is) ys q.fresh);
  taken = All-append (λ (x : ℕ). is_used e x ≡ true) xs ys
      (All-weaker (λ (x : ℕ). is_used b x ≡ true) (λ (x : ℕ). is_used e x ≡ true) q.stays xs p.taken) q.taken;
  stays = stays_then a b e p.stays q.stays;
}

-- ---- chains

chained_len : (uses : List BlockUse) (bs : List ℕ) → length (uses_by_chain uses bs) ≡ length uses
chained_len uses [] = refl
chained_len uses (b ∷ bs) = chained_len (slice_set uses b use_of.Chain) bs ∙ length-set uses b use_of.Chain

chained_stays : (uses : List BlockUse) (bs : List ℕ) → Stays uses (uses_by_chain uses bs)
chained_stays uses [] = λ b is. is
chained_stays uses (b ∷ bs) =
    stays_then uses (slice_set uses b use_of.Chain) (uses_by_chain (slice_set uses b use_of.Chain) bs) (set_stays uses b use_of.Chain refl)
    (chained_stays (slice_set uses b use_of.Chain) bs)

chained_takes : (uses : List BlockUse) (bs : List ℕ) → All (λ b. b < length uses) bs → All (λ b. is_used (uses_by_chain uses bs) b ≡ true) bs
chained_takes uses [] within = All-nil (λ (b : ℕ). is_used (uses_by_chain uses []) b ≡ true)
chained_takes uses (b ∷ bs) within =
    let next = slice_set uses b use_of.Chain in
    All-cons (λ (x : ℕ). is_used (uses_by_chain next bs) x ≡ true) b bs
    (chained_stays next bs b (set_takes uses b use_of.Chain refl (All-head (λ (x : ℕ). x < length uses) b bs within)))
    (chained_takes next bs (All-weaker (λ (x : ℕ). x < length uses) (λ (x : ℕ). x < length next)
    (λ x less. rw (length-set uses b use_of.Chain) less) bs (All-tail (λ (x : ℕ). x < length uses) b bs within)))

settled_stays : (uses : List BlockUse) (head : ℕ) (u : BlockUse) (bs : List ℕ) → is_free u ≡ false → Stays uses (settled uses head u bs)
settled_stays uses head u [] taken = λ b is. is
settled_stays uses head u (b ∷ bs) taken =
    stays_then uses (uses_by_chain uses (b ∷ bs)) (settled uses head u (b ∷ bs)) (chained_stays uses (b ∷ bs))
    (set_stays (uses_by_chain uses (b ∷ bs)) head u taken)

settled_takes : (uses : List BlockUse) (head : ℕ) (u : BlockUse) (bs : List ℕ) → is_free u ≡ false → All (λ b. b < length uses) bs
    → All (λ b. is_used (settled uses head u bs) b ≡ true) bs
settled_takes uses head u [] taken within = All-nil (λ (b : ℕ). is_used uses b ≡ true)
settled_takes uses head u (b ∷ bs) taken within =
    All-weaker (λ (x : ℕ). is_used (uses_by_chain uses (b ∷ bs)) x ≡ true) (λ (x : ℕ). is_used (settled uses head u (b ∷ bs)) x ≡ true)
    (λ x is. set_stays (uses_by_chain uses (b ∷ bs)) head u taken x is) (b ∷ bs) (chained_takes uses (b ∷ bs) within)

settled_len : (uses : List BlockUse) (head : ℕ) (u : BlockUse) (bs : List ℕ) → length (settled uses head u bs) ≡ length uses
settled_len uses head u [] = refl
settled_len uses head u (b ∷ bs) = length-set (uses_by_chain uses (b ∷ bs)) head u ∙ chained_len uses (b ∷ bs)

neither : (x y : Bool) → (x || y) ≡ false → (x ≡ false) × (y ≡ false)
neither true y is = absurd (cc)
neither false y is = (refl, is)

-- none of these is in use
none_used : (uses : List BlockUse) (bs : List ℕ) → list_any (is_used uses) bs ≡ false → All (λ b. is_used uses b ≡ false) bs
none_used uses [] is = All-nil (λ (b : ℕ). is_used uses b ≡ false)
none_used uses (b ∷ bs) is =
    let both = neither (is_used uses b) (list_any (is_used uses) bs) is in
    All-cons (λ (x : ℕ). is_used uses x ≡ false) b bs both.0 (none_used uses bs both.1)

-- what an entry takes
abbrev pub Takes : List BlockUse → Parent → FileFate → Type 0
Takes uses parent f = TakesBlocks uses (uses_behind uses parent f) (fate_blocks f)

module _ (d : Disk) (uses : List BlockUse) (parent : Parent) (head size : ℕ) (disk : IsDisk d) (len : length uses ≡ d.count)
    (differs : ChainsDiffer) where
  takes_any : (t : Bool) (blocks : List ℕ) → list_any (is_used uses) blocks ≡ t → chain_of d head size ≡ Some blocks
      → Takes uses parent (if t then Lost BlockTwice else In_chain head blocks size)
  takes_any true blocks used is = takes_none uses
  takes_any false blocks used is =
      let known = differs d head size blocks disk is in
      record {
        apart = known.1;
        fresh = none_used uses blocks used;
        taken = settled_takes uses head (use_of.Head parent size) blocks refl
            (All-weaker (λ (b : ℕ). b < d.count) (λ (b : ℕ). b < length uses) (λ b less. rw len less) blocks known.0);
        stays = settled_stays uses head (use_of.Head parent size) blocks refl;
      }

  takes_chain : (o : Option (List ℕ)) → chain_of d head size ≡ o → Takes uses parent (chain_fate uses head size o)
  takes_chain None is = takes_none uses
  takes_chain (Some blocks) is = takes_any (list_any (is_used uses) blocks) blocks refl is

  takes_same : (t : Bool) (other : Parent) → Takes uses parent (if t then Elsewhere other else Lost BlockTwice)
  takes_same true other = takes_none uses
  takes_same false other = takes_none uses

  takes_head : (u : BlockUse) → Takes uses parent (head_fate d uses head size u)
  takes_head use_of.Free = takes_chain (chain_of d head size) refl
  takes_head (use_of.Part area call) = takes_none uses
  takes_head use_of.Chain = takes_none uses
  takes_head (use_of.Head other long) = takes_same (long == size) other

  takes_size : (t : Bool)
      → Takes uses parent (if t then In_chain head [] size else head_fate d uses head size (slice_index_or uses head use_of.Free))
  takes_size true = takes_none uses
  takes_size false = takes_head (slice_index_or uses head use_of.Free)

module _ (d : Disk) (disk : IsDisk d) (differs : ChainsDiffer) where
  takes_kind : (uses : List BlockUse) (parent : Parent) (kind : Kind) (body : StoredBody) → length uses ≡ d.count
      → Takes uses parent (kind_fate d uses kind body)
  takes_kind uses parent File (Inline bytes) len = takes_none uses
  takes_kind uses parent File (Chain head size) len = takes_size d uses parent head size disk len differs (size == 0)
  takes_kind uses parent File (Directory_at first second) len = takes_none uses
  takes_kind uses parent Dir body len = takes_none uses
  takes_kind uses parent Super body len = takes_none uses

behind_len : (uses : List BlockUse) (parent : Parent) (f : FileFate) → length (uses_behind uses parent f) ≡ length uses
behind_len uses parent (In_chain head blocks size) = settled_len uses head (use_of.Head parent size) blocks
behind_len uses parent _ = refl

module _ (d : Disk) (disk : IsDisk d) (differs : ChainsDiffer) where
  takes_entry : (uses : List BlockUse) (parent : Parent) (e : StoredEntry) → length uses ≡ d.count
      → TakesBlocks uses (uses_by_entry d uses parent e) (fate_blocks (fate d uses e))
  takes_entry uses parent e len = takes_kind d disk differs uses parent e.kind e.body len

  entry_len : (uses : List BlockUse) (parent : Parent) (e : StoredEntry) → length uses ≡ d.count → length (uses_by_entry d uses parent e) ≡ d.count
  entry_len uses parent e len = behind_len uses parent (fate d uses e) ∙ len

  takes_entries : (uses : List BlockUse) (area call index : ℕ) (es : List StoredEntry) → length uses ≡ d.count
      → TakesBlocks uses (entries_uses d uses area call index es) (entries_blocks d uses area call index es)
  takes_entries uses area call index [] len = takes_none uses
  takes_entries uses area call index (e ∷ es) len =
      let parent : Parent = call_parent area call index in
      let next : List BlockUse = uses_by_entry d uses parent e in
      takes_then uses next (entries_uses d next area call (index + 1) es) (fate_blocks (fate d uses e))
      (entries_blocks d next area call (index + 1) es) (takes_entry uses parent e len)
      (takes_entries next area call (index + 1) es (entry_len uses parent e len))

  entries_len : (uses : List BlockUse) (area call index : ℕ) (es : List StoredEntry) → length uses ≡ d.count
      → length (entries_uses d uses area call index es) ≡ d.count
  entries_len uses area call index [] len = len
  entries_len uses area call index (e ∷ es) len =
      entries_len (uses_by_entry d uses (call_parent area call index) e) area call (index + 1) es (entry_len uses (call_parent area call index) e len)

  takes_found : (uses : List BlockUse) (area call : ℕ) (f : Found) → length uses ≡ d.count
      → TakesBlocks uses (found_uses d uses area call f) (found_blocks d uses area call f)
  takes_found uses area call (Part p) len = takes_entries uses area call 0 p.1.entries len
  takes_found uses area call (Refused fault) len = takes_none uses

  found_len : (uses : List BlockUse) (area call : ℕ) (f : Found) → length uses ≡ d.count → length (found_uses d uses area call f) ≡ d.count
  found_len uses area call (Part p) len = entries_len uses area call 0 p.1.entries len
  found_len uses area call (Refused fault) len = len

  takes_calls : (uses : List BlockUse) (area call : ℕ) (fs : List Found) → length uses ≡ d.count
      → TakesBlocks uses (calls_uses d uses area call fs) (calls_blocks d uses area call fs)
  takes_calls uses area call [] len = takes_none uses
  takes_calls uses area call (f ∷ fs) len =
      let next : List BlockUse = found_uses d uses area call f in
      takes_then uses next (calls_uses d next area (call + 1) fs) (found_blocks d uses area call f) (calls_blocks d next area (call + 1) fs)
      (takes_found uses area call f len) (takes_calls next area (call + 1) fs (found_len uses area call f len))

pub chains_apart : ChainsDiffer → ChainsAreApart
chains_apart differs d number uses a disk len = takes_calls d disk differs uses number 0 a.found.items len

-- ---- parts

part_stays : (uses : List BlockUse) (area call : ℕ) (f : Found) → Stays uses (uses_by_part uses area call f)
part_stays uses area call (Part p) =
    stays_then uses (slice_set uses p.0.0 (use_of.Part area call)) (uses_by_part uses area call (Part p))
    (set_stays uses p.0.0 (use_of.Part area call) refl)
    (set_stays (slice_set uses p.0.0 (use_of.Part area call)) p.0.1 (use_of.Part area call) refl)
part_stays uses area call (Refused fault) = λ b is. is

part_len : (uses : List BlockUse) (area call : ℕ) (f : Found) → length (uses_by_part uses area call f) ≡ length uses
part_len uses area call (Part p) =
    length-set (slice_set uses p.0.0 (use_of.Part area call)) p.0.1 (use_of.Part area call) ∙ length-set uses p.0.0 (use_of.Part area call)
part_len uses area call (Refused fault) = refl

parts_stay : (uses : List BlockUse) (area call : ℕ) (fs : List Found) → Stays uses (parts_uses uses area call fs)
parts_stay uses area call [] = λ b is. is
parts_stay uses area call (f ∷ fs) =
    stays_then uses (uses_by_part uses area call f) (parts_uses uses area call (f ∷ fs)) (part_stays uses area call f)
    (parts_stay (uses_by_part uses area call f) area (call + 1) fs)

parts_len : (uses : List BlockUse) (area call : ℕ) (fs : List Found) → length (parts_uses uses area call fs) ≡ length uses
parts_len uses area call [] = refl
parts_len uses area call (f ∷ fs) = parts_len (uses_by_part uses area call f) area (call + 1) fs ∙ part_len uses area call f

areas_stay : (uses : List BlockUse) (area : ℕ) (areas : List Area) → Stays uses (areas_uses uses area areas)
areas_stay uses area [] = λ b is. is
areas_stay uses area (a ∷ more) =
    stays_then uses (parts_uses uses area 0 a.found.items) (areas_uses uses area (a ∷ more)) (parts_stay uses area 0 a.found.items)
    (areas_stay (parts_uses uses area 0 a.found.items) (area + 1) more)

-- both blocks of a part are in use
abbrev BothUsed : List BlockUse → Pair × StoredPart → Type 0
BothUsed uses p = (is_used uses p.0.0 ≡ true) × (is_used uses p.0.1 ≡ true)

both_stay : (old new : List BlockUse) (p : Pair × StoredPart) → Stays old new → BothUsed old p → BothUsed new p
both_stay old new p stays both = (stays p.0.0 both.0, stays p.0.1 both.1)

part_used : (uses : List BlockUse) (area call : ℕ) (p : Pair × StoredPart) → p.0.0 < length uses → p.0.1 < length uses
    → BothUsed (uses_by_part uses area call (Part p)) p
part_used uses area call p first second =
    let mid : List BlockUse = slice_set uses p.0.0 (use_of.Part area call) in
    let len : length mid ≡ length uses = length-set uses p.0.0 (use_of.Part area call) in (
      set_stays mid p.0.1 (use_of.Part area call) refl p.0.0 (set_takes uses p.0.0 (use_of.Part area call) refl first),
      set_takes mid p.0.1 (use_of.Part area call) refl (rw len second),
    )

parts_used : (uses : List BlockUse) (area call : ℕ) (fs : List Found) (j : ℕ) (p : Pair × StoredPart) → slice_get fs j ≡ Some (Part p)
    → p.0.0 < length uses → p.0.1 < length uses → BothUsed (parts_uses uses area call fs) p
parts_used uses area call [] j p is first second = absurd (none-some (Part p) is)
parts_used uses area call (f ∷ fs) zero p is first second =
    both_stay (uses_by_part uses area call f) (parts_uses uses area call (f ∷ fs)) p (parts_stay (uses_by_part uses area call f) area (call + 1) fs)
    (subst (λ (g : Found). BothUsed (uses_by_part uses area call g) p) (sym (same_Some f (Part p) is)) (part_used uses area call p first second))
parts_used uses area call (f ∷ fs) (suc j) p is first second =
    let len = part_len uses area call f in
    parts_used (uses_by_part uses area call f) area (call + 1) fs j p is (rw len first) (rw len second)

areas_used : (uses : List BlockUse) (area : ℕ) (areas : List Area) (i j : ℕ) (a : Area) (p : Pair × StoredPart) → slice_get areas i ≡ Some a
    → slice_get a.found.items j ≡ Some (Part p) → p.0.0 < length uses → p.0.1 < length uses → BothUsed (areas_uses uses area areas) p
areas_used uses area [] i j a p is there first second = absurd (none-some a is)
areas_used uses area (x ∷ more) zero j a p is there first second =
    let next : List BlockUse = parts_uses uses area 0 x.found.items in
    both_stay next (areas_uses next (area + 1) more) p (areas_stay next (area + 1) more)
    (subst (λ (y : Area). BothUsed (parts_uses uses area 0 y.found.items) p) (sym (same_Some x a is))
    (parts_used uses area 0 a.found.items j p there first second))
areas_used uses area (x ∷ more) (suc i) j a p is there first second =
    let len = parts_len uses area 0 x.found.items in
    areas_used (parts_uses uses area 0 x.found.items) (area + 1) more i j a p is there (rw len first) (rw len second)

pub parts_in_use : PartsAreInUse
parts_in_use count areas i j a p is there first second =
    let len : length (replicate count use_of.Free) ≡ count = length-replicate count use_of.Free in
    areas_used (replicate count use_of.Free) 0 areas i j a p is there (rw len first) (rw len second)
