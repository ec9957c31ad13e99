-- What is written for an accepted command writes the outline of what it leaves: old chains stay, and new ones are there.
use Rattle.std.proofs.Common.{◌≡◌, ◌⊎◌, ℕ, ◌+◌, ◌<◌, ◌≤◌, Bool, true, false, List, [], ◌∷◌, length, map, refl, ap, sym, ◌∙◌, subst, arith}
use Rattle.std.proofs.Common.{inl, inr, Option, Some, None}
use Rattle.std.specs.Prelude.{All, Contains, sum_by, unwrap_or}
use Rattle.std.specs.List.{AllZip}
use Rattle.std.proofs.lemmas.List.Elements.{All-nil, All-cons, All-map, All-weaker, All-contains, All-contains_itself, Contains-append_left}
use Rattle.std.proofs.lemmas.List.Sums.{sum_by-cons}
use Rattle.lfs_block.specs.Change.{Change}
use Rattle.lfs_block.specs.Disk.{Disk, IsDisk, block_of}
use Rattle.lfs_block.specs.Patch.{applied}
use Rattle.lfs_block.specs.PatchLaws.{KeptBlocks, KeptIsDisk}
use Rattle.lfs_file.specs.Content.{content}
use Rattle.lfs_file.specs.Laws.{FoundAreChains, EmptyIsFound, FoundStay, ContentStays, ContentHasLength}
use Rattle.lfs_file.specs.SkipList.{IsChain, chain_of}
use Rattle.lfs_meta.specs.Name.{Name}
use Rattle.lfs_meta.specs.Attribute.{Attributes, set_attribute, remove_attribute}
use Rattle.lfs_meta.specs.Body.{Pair, StoredBody, Inline as Stored_inline, Chain as Stored_chain, Directory_at as Stored_directory}
use Rattle.lfs_meta.specs.Entry.{StoredEntry}
use Rattle.lfs_meta.specs.RunLaws.{RunsJoin}
use Rattle.lfs_fs.specs.AsStored.{head_of}
use Rattle.lfs_fs.specs.Pair.{root}
use Rattle.lfs_fs.specs.Entry.{Body, Inline, Chain, Directory_at, Entry}
use Rattle.lfs_fs.specs.Directory.{Part, Directory, parts, thread}
use Rattle.lfs_fs.specs.Volume.{Volume}
use Rattle.lfs_fs.specs.Tree.{entry_at}
use Rattle.lfs_fs.specs.Thread.{Link, links}
use Rattle.lfs_fs.specs.Uses.{times, body_uses, entry_uses, pair_uses, uses}
use Rattle.lfs_fs.specs.Sound.{IsSound, StartsAtRoot}
use Rattle.lfs_fs.specs.Reading.{Reading, reading_of}
use Rattle.lfs_fs.specs.Stored.{BodyStands, StandsFor, IsStored}
use Rattle.lfs_fs.specs.Alike.{ChainStays}
use Rattle.lfs_fs.proofs.ContainsLemmas.{contains_first}
use Rattle.lfs_fs.proofs.CountLemmas.{element_le}
use Rattle.lfs_command.specs.ThreadEdit.{touch_first}
use Rattle.lfs_command.specs.Command.{Command, Mkdir, Put, Rm, Mv, SetAttr, RmAttr, Grow}
use Rattle.lfs_command.specs.Growth.{grown}
use Rattle.lfs_command.specs.Supplies.{Supplies, new_body}
use Rattle.lfs_command.specs.Parent.{parent_of}
use Rattle.lfs_command.specs.Edited.{set_attributes, make_directory, put_file, remove_entry, move_entry, edited}
use Rattle.lfs_command.specs.Cut.{cut_directory, cut}
use Rattle.lfs_command.specs.Accepted.{Follows}
use Rattle.lfs_law.specs.Laws.{CutsFollow}
use Rattle.lfs_law.specs.Lengthened.{HoldsParts}
use Rattle.lfs_law.specs.SuperblockBytes.{superblock_bytes, volume_bytes}
use Rattle.lfs_law.specs.WrittenLinks.{changed_blocks, set_blocks, links_blocks}
use Rattle.lfs_law.specs.OutlineLaws.{IsThere}
use Rattle.lfs_law.specs.PlansWritten.{NewIsThere, CommandsAreWritten}
use Rattle.lfs_law.proofs.ChangesAt.{overlaid_none}
use Rattle.lfs_law.proofs.KnownBodies.{OfBodies, Bodies, OfNew, edited_bodies, cut_bodies, link_has, by_parts}
use Rattle.lfs_law.proofs.LinksAdded.{times_append, written_within, set_is}
use Rattle.lfs_law.proofs.NamedBlocks.{supplies_once}
use Rattle.lfs_law.proofs.OutlineRoom.{sum_over}
use Rattle.lfs_law.proofs.OutlinesWritten.{blocks_outlined, none_named}
use Rattle.lfs_fs.proofs.ChainedLemmas.{parts_of_links}
use Rattle.lfs_law.proofs.WrittenLemmas.{part_uses, sum_thread, two_le, pair_used, chain_by, part_there, set_apart}

-- ---- chains of the volume are there

-- the head of a chain is its last block, and its length is that of its contents
chain_there : FoundAreChains → EmptyIsFound → ContentHasLength → (d : Disk) → IsDisk d → (head size : ℕ) (blocks bytes : List ℕ)
    → chain_of d head size ≡ Some blocks → bytes ≡ content d size blocks
    → IsThere (reading_of d) (Chain blocks bytes)
chain_there chains empty long d disk head size blocks bytes found is =
    let chain : IsChain d head size blocks = chains d head size blocks disk found in
    let len : length bytes ≡ size = ap length is ∙ long d head size blocks disk chain in
    let at_head : chain_of d (head_of blocks) size ≡ Some blocks = by blocks chain found in
    (ap (chain_of d (head_of blocks)) len ∙ at_head, is ∙ ap (λ (n : ℕ). content d n blocks) (sym len))
  where
    by : (bs : List ℕ) → IsChain d head size bs → chain_of d head size ≡ Some bs → chain_of d (head_of bs) size ≡ Some bs
    by [] chain found = let none : size ≡ 0 = omega (arith, chain.least.0) in ap (chain_of d (head_of [])) none ∙ empty d (head_of [])
    by (b ∷ bs) chain found =
        let last : head_of (b ∷ bs) ≡ head = ap (λ (o : Option ℕ). unwrap_or o 0) (chain.last (omega arith)) in
        ap (λ (n : ℕ). chain_of d n size) last ∙ found

body_there : FoundAreChains → EmptyIsFound → ContentHasLength → (d : Disk) → IsDisk d → (s : StoredBody) (b : Body)
    → BodyStands (reading_of d) s b → IsThere (reading_of d) b
body_there chains empty long d disk s (Inline bytes) stands = tt
body_there chains empty long d disk s (Directory_at pair) stands = tt
body_there chains empty long d disk (Stored_chain head size) (Chain blocks bytes) stands =
    chain_there chains empty long d disk head size blocks bytes stands.0 stands.1
body_there chains empty long d disk (Stored_inline stored) (Chain blocks bytes) stands = absurd stands
body_there chains empty long d disk (Stored_directory first second) (Chain blocks bytes) stands = absurd stands

entries_there : FoundAreChains → EmptyIsFound → ContentHasLength → (d : Disk) → IsDisk d → (ss : List StoredEntry) (es : List Entry)
    → AllZip (StandsFor (reading_of d)) ss es
    → OfBodies (IsThere (reading_of d)) es
entries_there chains empty long d disk ss [] all = All-nil (λ (e : Entry). IsThere (reading_of d) e.body)
entries_there chains empty long d disk [] (e ∷ es) all = absurd all
entries_there chains empty long d disk (s ∷ ss) (e ∷ es) all =
    All-cons (λ (x : Entry). IsThere (reading_of d) x.body) e es (body_there chains empty long d disk s.body e.body all.0.body)
    (entries_there chains empty long d disk ss es all.1)

parts_there : FoundAreChains → EmptyIsFound → ContentHasLength → (d : Disk) → IsDisk d → (v : Volume) (bytes : List ℕ)
    → HoldsParts (reading_of d) v bytes → All (λ p. OfBodies (IsThere (reading_of d)) p.entries) (thread v.directories)
parts_there chains empty long d disk v bytes held =
    subst (All (λ (p : Part). OfBodies (IsThere (reading_of d)) p.entries)) (parts_of_links v.directories)
    (All-map (λ (p : Part). OfBodies (IsThere (reading_of d)) p.entries) (λ (l : Link). l.part) (links v.directories)
    (All-weaker (IsStored (reading_of d) bytes v.attributes) (λ (l : Link). OfBodies (IsThere (reading_of d)) l.part.entries)
    (λ l stored. entries_there chains empty long d disk stored.others l.part.entries stored.stands) (links v.directories) held.each))

-- ---- what is known of bodies that a command leaves

-- a body of the volume, whose chain is there, or one that is there in the new image
abbrev Known : Reading → Reading → Volume → Body → Type 0
Known r q v b = (IsThere r b × ((n : ℕ) → 0 < body_uses n b → 0 < uses n v)) ⊎ IsThere q b

known_before : FoundAreChains → EmptyIsFound → ContentHasLength → (d : Disk) → IsDisk d → (q : Reading) (v : Volume)
    (bytes : List ℕ) → HoldsParts (reading_of d) v bytes → Bodies (Known (reading_of d) q v) v.directories
known_before chains empty long d disk q v bytes held =
    by_parts (Known (reading_of d) q v) v.directories
    (All-weaker (Contains (thread v.directories)) (λ (p : Part). OfBodies (Known (reading_of d) q v) p.entries) in_part
    (thread v.directories) (All-contains_itself (thread v.directories)))
  where
    used : (p : Part) → Contains (thread v.directories) p → (e : Entry) → Contains p.entries e → (n : ℕ) → 0 < entry_uses n e → 0 < uses n v
    used p there e inside n some =
        let one : entry_uses n e ≤ sum_by (entry_uses n) p.entries = element_le (entry_uses n) p.entries e inside in
        let all : part_uses n p ≤ sum_by (part_uses n) (thread v.directories) = element_le (part_uses n) (thread v.directories) p there in
        omega (arith, one, all, some, sum_thread n v.directories)

    in_part : (p : Part) → Contains (thread v.directories) p → OfBodies (Known (reading_of d) q v) p.entries
    in_part p there =
        All-weaker (Contains p.entries) (λ (e : Entry). Known (reading_of d) q v e.body)
        (λ e inside. inl (
          All-contains (λ (x : Entry). IsThere (reading_of d) x.body) p.entries e
              (All-contains (λ (x : Part). OfBodies (IsThere (reading_of d)) x.entries) (thread v.directories) p
              (parts_there chains empty long d disk v bytes held) there) inside,
          used p there e inside,
        ))
        p.entries (All-contains_itself p.entries)

new_known : (r q : Reading) (v : Volume) (c : Command) (s : Supplies) → NewIsThere q v c s → OfNew (Known r q v) v c s
new_known r q v (Mkdir p) s there = tt
new_known r q v (Put p bytes most) s there = inr there
new_known r q v (Rm p) s there = tt
new_known r q v (Mv p p2) s there = tt
new_known r q v (SetAttr p k value) s there = tt
new_known r q v (RmAttr p k) s there = tt
new_known r q v (Grow n) s there = tt

-- ---- chains stay

pub body_stays : (r q : Reading) (b : Body) → ChainStays r q b → IsThere r b → IsThere q b
body_stays r q (Inline bytes) stays there = tt
body_stays r q (Directory_at pair) stays there = tt
body_stays r q (Chain blocks bytes) stays there = let now = stays (head_of blocks) (length bytes) there.0 in (now.0, there.1 ∙ sym now.1)

pub sum_both : {X : Type 0} (f g : X → ℕ) (xs : List X) → sum_by (λ x. f x + g x) xs ≡ sum_by f xs + sum_by g xs
sum_both f g [] = refl
sum_both f g (x ∷ xs) = omega (arith, sum_by-cons (λ y. f y + g y) x xs, sum_by-cons f x xs, sum_by-cons g x xs, sum_both f g xs)

part_within : (cs : List Change) (is_new : Pair → Bool) (n : ℕ) (p : Part) (t : Bool) → p.dirty ≡ t
    → times n (set_blocks cs is_new p) ≤ pair_uses n p
part_within cs is_new n p true is = omega (arith, ap (times n) (set_is cs is_new p true is), written_within cs is_new p.pair n)
part_within cs is_new n p false is = omega (arith, ap (times n) (set_is cs is_new p false is))

blocks_within : (cs : List Change) (is_new : Pair → Bool) (n : ℕ) (ls : List Link)
    → times n (links_blocks cs is_new ls) ≤ sum_by (λ l. pair_uses n l.part) ls
blocks_within cs is_new n [] = omega arith
blocks_within cs is_new n (l ∷ ls) =
    omega (
      arith,
      times_append n (set_blocks cs is_new l.part) (links_blocks cs is_new ls),
      part_within cs is_new n l.part l.part.dirty refl,
      blocks_within cs is_new n ls,
      sum_by-cons (λ (x : Link). pair_uses n x.part) l ls,
    )

-- a block of a chain isn't one of those of links that are written
chain_apart : (cs : List Change) (is_new : Pair → Bool) (n : ℕ) (w : Volume) (l : Link) → Contains (links w.directories) l → (e : Entry)
    → Contains l.part.entries e
    → entry_uses n e + times n (links_blocks cs is_new (links w.directories)) ≤ uses n w
chain_apart cs is_new n w l there e inside =
    let one : entry_uses n e ≤ sum_by (entry_uses n) l.part.entries = element_le (entry_uses n) l.part.entries e inside in
    let all : sum_by (entry_uses n) l.part.entries ≤ sum_by (λ (p : Part). sum_by (entry_uses n) p.entries) (thread w.directories) =
    element_le (λ (p : Part). sum_by (entry_uses n) p.entries) (thread w.directories) l.part (part_there w.directories l there) in
    let pairs : sum_by (λ (x : Link). pair_uses n x.part) (links w.directories) ≡ sum_by (pair_uses n) (thread w.directories) =
    sym (sum_over (λ (x : Link). pair_uses n x.part) (pair_uses n) (λ (x : Link). x.part) (λ x. refl) (links w.directories))
    ∙ ap (sum_by (pair_uses n)) (parts_of_links w.directories) in
    omega (
      arith,
      one,
      all,
      pairs,
      blocks_within cs is_new n (links w.directories),
      sum_both (pair_uses n) (λ (p : Part). sum_by (entry_uses n) p.entries) (thread w.directories),
      sum_thread n w.directories,
    )

-- ---- the root's attributes

make_attributes : (v : Volume) (pair : Pair) (h : Option (Pair × Name)) → (make_directory v pair h).attributes ≡ v.attributes
make_attributes v pair None = refl
make_attributes v pair (Some h) = refl

put_attributes : (v : Volume) (b : Body) (h : Option (Pair × Name)) (old : Option Entry) → (put_file v b h old).attributes ≡ v.attributes
put_attributes v b None old = refl
put_attributes v b (Some h) None = refl
put_attributes v b (Some h) (Some e) = refl

remove_attributes : (v : Volume) (h : Option (Pair × Name)) (old : Option Entry) → (remove_entry v h old).attributes ≡ v.attributes
remove_attributes v None old = refl
remove_attributes v (Some h) None = refl
remove_attributes v (Some h) (Some e) = refl

move_attributes : (v : Volume) (from to : Option (Pair × Name)) (old : Option Entry) → (move_entry v from to old).attributes ≡ v.attributes
move_attributes v None to old = refl
move_attributes v (Some h) None old = refl
move_attributes v (Some h) (Some k) None = refl
move_attributes v (Some h) (Some k) (Some e) = refl

-- the root's first part is set where its attributes are
first_set : (chosen : Part → List Pair) (x : Volume) (ds : List Directory) → StartsAtRoot ds
    → (q : Part) × Contains (thread (map (cut_directory chosen x) (touch_first ds))) q × (q.pair ≡ root) × (q.dirty ≡ true)
first_set chosen x [] starts = absurd starts
first_set chosen x (d ∷ ds) starts =
    let touched : Directory = record {
      first = record {
        pair = d.first.pair;
        entries = d.first.entries;
        delta = d.first.delta;
        dirty = true;
      };
      more = d.more;
    } in
    let now : Directory = cut_directory chosen x touched in (
      now.first,
      Contains-append_left (parts now) (thread (map (cut_directory chosen x) ds)) now.first (contains_first now.first now.more),
      starts,
      refl,
    )

root_used : (p : Part) → p.pair ≡ root → 0 < part_uses 0 p
root_used p is = subst (λ (n : ℕ). 0 < part_uses n p) (ap (λ (k : Pair). k.0) is) (pair_used p).0

-- a volume whose root's first part is set, with another number of blocks and other attributes of the root
abbrev touched : Volume → ℕ → Attributes → Volume
touched v n a = record { size = v.size; count = n; limits = v.limits; attributes = a; directories = touch_first v.directories }

none_unset : (chosen : Part → List Pair) (v : Volume) (n : ℕ) (a : Attributes) → IsSound v → IsSound (cut chosen (touched v n a))
    → (l : Link) → Contains (links (cut chosen (touched v n a)).directories) l → l.part.pair ≡ root → l.part.dirty ≡ false → ⊥
none_unset chosen v n a sound after l there is unset =
    let w : Volume = cut chosen (touched v n a) in
    let q = first_set chosen (touched v n a) v.directories sound.starts in
    let both : part_uses 0 q.0 + part_uses 0 l.part ≤ sum_by (part_uses 0) (thread w.directories) =
    two_le (part_uses 0) (thread w.directories) q.0 l.part q.1 (part_there w.directories l there) (set_apart q.0 l.part q.3 unset) in
    omega (arith, both, root_used q.0 q.2, root_used l.part is, sum_thread 0 w.directories, after.once 0)

set_attributes_kept : (chosen : Part → List Pair) (v : Volume) (f : Attributes → Attributes) (h : Option (Pair × Name)) → IsSound v
    → IsSound (cut chosen (set_attributes v f h))
    → (l : Link) → Contains (links (cut chosen (set_attributes v f h)).directories) l → l.part.pair ≡ root → l.part.dirty ≡ false
    → (set_attributes v f h).attributes ≡ v.attributes
set_attributes_kept chosen v f (Some h) sound after l there is unset = refl
set_attributes_kept chosen v f None sound after l there is unset =
    absurd (none_unset chosen v v.count (f v.attributes) sound after l there is unset)

-- the superblock of a volume of the same size, count and limits
bytes_same : (v w : Volume) → w.size ≡ v.size → w.count ≡ v.count → w.limits ≡ v.limits → volume_bytes w ≡ volume_bytes v
unfolding volume_bytes
bytes_same v w size count limits =
    ap (λ (n : ℕ). superblock_bytes n w.count w.limits) size
    ∙ ap (λ (n : ℕ). superblock_bytes v.size n w.limits) count
    ∙ ap (superblock_bytes v.size v.count) limits

-- the root's attributes and the superblock's bytes stay where the root's first part isn't set
superblock_kept : (chosen : Part → List Pair) (v : Volume) (c : Command) (s : Supplies) → IsSound v → Follows v c (cut chosen (edited v c s))
    → (l : Link) → Contains (links (cut chosen (edited v c s)).directories) l → l.part.pair ≡ root → l.part.dirty ≡ false
    → ((edited v c s).attributes ≡ v.attributes) × (volume_bytes (cut chosen (edited v c s)) ≡ volume_bytes v)
superblock_kept chosen v (Mkdir p) s sound after l there is unset = (
  make_attributes v s.pair (parent_of v p),
  bytes_same v (cut chosen (edited v (Mkdir p) s)) after.size after.count after.limits,
)
superblock_kept chosen v (Put p bytes most) s sound after l there is unset = (
  put_attributes v (new_body v s bytes most) (parent_of v p) (entry_at v p),
  bytes_same v (cut chosen (edited v (Put p bytes most) s)) after.size after.count after.limits,
)
superblock_kept chosen v (Rm p) s sound after l there is unset = (
  remove_attributes v (parent_of v p) (entry_at v p),
  bytes_same v (cut chosen (edited v (Rm p) s)) after.size after.count after.limits,
)
superblock_kept chosen v (Mv p q) s sound after l there is unset = (
  move_attributes v (parent_of v p) (parent_of v q) (entry_at v p),
  bytes_same v (cut chosen (edited v (Mv p q) s)) after.size after.count after.limits,
)
superblock_kept chosen v (SetAttr p k value) s sound after l there is unset = (
  set_attributes_kept chosen v (set_attribute k value) (parent_of v p) sound after.sound l there is unset,
  bytes_same v (cut chosen (edited v (SetAttr p k value) s)) after.size after.count after.limits,
)
superblock_kept chosen v (RmAttr p k) s sound after l there is unset = (
  set_attributes_kept chosen v (remove_attribute k) (parent_of v p) sound after.sound l there is unset,
  bytes_same v (cut chosen (edited v (RmAttr p k) s)) after.size after.count after.limits,
)
superblock_kept chosen v (Grow n) s sound after l there is unset =
    absurd (none_unset chosen v n v.attributes sound after.sound l there is unset)

-- ---- the commands

-- the laws of files that this stands on
pub record ChainLaws : Type 0 where
  pub chains : FoundAreChains
  pub empty : EmptyIsFound
  pub long : ContentHasLength
  pub found : FoundStay
  pub content : ContentStays

pub commands_are_written : ChainLaws → KeptIsDisk → KeptBlocks → RunsJoin Entry → CutsFollow → CommandsAreWritten
commands_are_written laws kept_disk kept_blocks join cuts d v c s chosen is_new base p held ok pairs writes = record {
  disk = writes.disk;
  patch = writes.patch;
  stands = writes.stands;
  keeps = writes.keeps;
  unused = unused;
  written = writes.written;
  there = there;
  superblock = superblock_kept chosen v c s ok.sound after;
}
  where
    w : Volume
    w = cut chosen (edited v c s)

    after : Follows v c (cut chosen (edited v c s))
    after = cuts v c s chosen ok pairs

    unused : (n : ℕ) → 0 < uses n v → times n (changed_blocks base) ≡ 0
    unused n used = omega (arith, used, ap (times n) writes.contents, supplies_once v c s n, ok.free.once n)

    block_stays : (l : Link) → Contains (links (cut chosen (edited v c s)).directories) l → (e : Entry) → Contains l.part.entries e
        → (n : ℕ) → 0 < entry_uses n e → 0 < uses n v
        → block_of (applied p d) n ≡ block_of d n
    block_stays l there e inside n some used =
        let unnamed : times n (changed_blocks p.changes) ≡ 0 =
        omega (
          arith,
          writes.written.named n,
          unused n used,
          ap (times n) (blocks_outlined p.changes is_new (cut chosen (edited v c s))),
          chain_apart p.changes is_new n (cut chosen (edited v c s)) l there e inside,
          after.sound.once n,
          some,
        ) in
        kept_blocks p d n writes.disk writes.patch writes.stands writes.keeps ∙ overlaid_none p.changes n (block_of d n)
        (none_named n p.changes unnamed)

    known : Bodies (Known (reading_of d) (reading_of (applied p d)) v) (cut chosen (edited v c s)).directories
    known =
        cut_bodies join (Known (reading_of d) (reading_of (applied p d)) v) chosen (edited v c s) pairs.enough
        (edited_bodies (Known (reading_of d) (reading_of (applied p d)) v) v c s (λ pair. inr tt)
        (new_known (reading_of d) (reading_of (applied p d)) v c s writes.there)
        (known_before laws.chains laws.empty laws.long d writes.disk (reading_of (applied p d)) (grown c v) (volume_bytes v) held))

    there : (l : Link) → Contains (links (cut chosen (edited v c s)).directories) l → (e : Entry) → Contains l.part.entries e
        → IsThere (reading_of (applied p d)) e.body
    there l inside e holds = elim (link_has (Known (reading_of d) (reading_of (applied p d)) v)
        (cut chosen (edited v c s)).directories known l inside e holds) [
          | inl old ↦
              let same = kept_disk p d writes.disk writes.patch writes.stands writes.keeps in
              body_stays (reading_of d) (reading_of (applied p d)) e.body
              (chain_by laws.found laws.content d (applied p d) writes.disk e.body same.size (omega (arith, same.count))
              (λ n some. block_stays l inside e holds n some (old.1 n some))) old.0
          | inr new ↦ new
        ]
