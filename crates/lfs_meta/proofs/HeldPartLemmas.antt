-- The entries of a part that a pair holds are complete, and their attributes rise.
use Rattle.std.proofs.Common.{◌≡◌, ℕ, ◌+◌, ◌*◌, ◌<◌, ◌≤◌, true, List, [], ◌∷◌, length, drop, refl, ap, sym, ◌∙◌}
use Rattle.std.proofs.Common.{subst, arith, Option, Some, None}
use Rattle.std.specs.Prelude.{All, option_and_then, option_map}
use Rattle.std.specs.List.{AllByRecursion}
use Rattle.std.proofs.lemmas.List.Elements.{All-nil, All-cons, All-head, All-tail}
use Rattle.std.proofs.lemmas.Option.{option_and_then_some}
use Rattle.lfs_block.specs.Bytes.{IsBytes}
use Rattle.lfs_block.specs.Disk.{Disk, IsDisk, block_of}
use Rattle.lfs_block.proofs.BlockLens.{length-block}
use Rattle.lfs_block.proofs.PutLemmas.{IsBytes-drop, IsBytes-take}
use Rattle.lfs_tag.specs.Commit.{Item, IsItem}
use Rattle.lfs_tag.specs.Laws.{BlocksHaveALog, LogTagsAreItems}
use Rattle.lfs_tag.specs.Log.{log_tags}
use Rattle.lfs_tag.specs.LogSeen.{LogSeen, log_seen}
use Rattle.lfs_tag.specs.Reading.{log_of}
use Rattle.lfs_meta.specs.declared.kind.Kind.{Kind}
use Rattle.lfs_meta.specs.declared.live_block.LiveBlock.{LiveBlock}
use Rattle.lfs_meta.specs.declared.live_block.LiveBlock.TheVariants.{First, Second, Neither}
use Rattle.lfs_meta.specs.Laws.{IsLive}
use Rattle.lfs_meta.specs.Attribute.{Attributes}
use Rattle.lfs_meta.specs.Body.{Pair, StoredBody}
use Rattle.lfs_meta.specs.Entry.{RawEntry, StoredEntry}
use Rattle.lfs_meta.specs.Fits.{RiseFrom, RawEntryFits}
use Rattle.lfs_meta.specs.LiveBlock.{live_block, live_log, tags_of}
use Rattle.lfs_meta.specs.Name.{Name}
use Rattle.lfs_meta.specs.Part.{RawPart, StoredPart}
use Rattle.lfs_meta.specs.Replay.{replay}
use Rattle.lfs_meta.specs.Complete.{kind_takes_body, kind_takes_name, complete_by, complete, all_complete, complete_part}
use Rattle.lfs_meta.specs.HeldLaws.{IsHeldEntry, HeldPartsAreComplete}
use Rattle.lfs_meta.proofs.LiveLemmas.{live-read}
use Rattle.lfs_meta.proofs.ReplayFitsLemmas.{replay-fits}
use Rattle.lfs_meta.proofs.CompleteLemmas.{when_both}

-- ---- blocks

block_len : (d : Disk) (n : ℕ) → IsDisk d → n < d.count → 4 ≤ length (block_of d n)
block_len d n disk below = omega (arith, length-block d n disk below, disk.geometry.size_fits.0)

pub block_bytes : (d : Disk) (n : ℕ) → IsDisk d → IsBytes (block_of d n)
block_bytes d n disk = IsBytes-take d.size (drop (n * d.size) d.bytes) (IsBytes-drop (n * d.size) d.bytes disk.bytes)

-- the tags that a block's log has
block_items : BlocksHaveALog → LogTagsAreItems → (d : Disk) (n : ℕ) (log : LogSeen) (tags : List Item) → IsDisk d → n < d.count
    → log ≡ log_seen (block_of d n) → log.tags ≡ tags → AllByRecursion IsItem tags
block_items logs items d n log tags disk below is same =
    let block : List ℕ = block_of d n in
    let there = logs block (block_len d n disk below) (block_bytes d n disk) in
    let these : log_tags (log_of block).commits ≡ tags = sym (ap (λ (l : LogSeen). l.tags) is) ∙ same in
    subst (AllByRecursion IsItem) these (items block (log_of block).commits (log_of block).rest there)

pub same_tags : (log : LogSeen) (tags : List Item) → ◌≡◌ {A = Option (List Item)} (Some log.tags) (Some tags) → log.tags ≡ tags
same_tags log tags is = cc

live_items : BlocksHaveALog → LogTagsAreItems → (d : Disk) (pair : Pair) (live : LiveBlock) (tags : List Item) → IsDisk d → pair.0 < d.count
    → pair.1 < d.count
    → IsLive live (block_of d pair.0) (block_of d pair.1) → option_map (λ log. log.tags) (live_log live) ≡ Some tags
    → AllByRecursion IsItem tags
live_items logs items d pair (First log) tags disk first second read is =
    block_items logs items d pair.0 log tags disk first read.0 (same_tags log tags is)
live_items logs items d pair (Second log) tags disk first second read is =
    block_items logs items d pair.1 log tags disk second read.0 (same_tags log tags is)
live_items logs items d pair Neither tags disk first second read is = cc

items_of : BlocksHaveALog → LogTagsAreItems → (d : Disk) (pair : Pair) (tags : List Item) → IsDisk d → pair.0 < d.count → pair.1 < d.count
    → tags_of d pair ≡ Some tags → AllByRecursion IsItem tags
items_of logs items d pair tags disk first second is =
    live_items logs items d pair (live_block (block_of d pair.0) (block_of d pair.1)) tags disk first second
    (live-read (block_of d pair.0) (block_of d pair.1)) is

-- ---- entries

held_by : (n : Option (Kind × Name)) (b : Option StoredBody) (attributes : Attributes) (w : StoredEntry) → RiseFrom 0 attributes
    → complete_by n b attributes ≡ Some w → IsHeldEntry w
held_by None b attributes w rise is = cc
held_by (Some n) None attributes w rise is = cc
held_by (Some n) (Some b) attributes w rise is =
    let x : StoredEntry = record { kind = n.0; name = n.1; body = b; attributes = attributes } in
    let both : (x ≡ w) × (kind_takes_body n.0 b ≡ true) × (kind_takes_name n.0 n.1 ≡ true) =
    when_both (kind_takes_body n.0 b) (kind_takes_name n.0 n.1) x w is in
    let held : IsHeldEntry x = record { complete = record { body = both.1; name = both.2 }; attributes = rise } in
    subst IsHeldEntry both.0 held

by_first : (e : RawEntry) (o : Option StoredEntry) (os : Option (List StoredEntry)) (ws : List StoredEntry) → RawEntryFits e → complete e ≡ o
    → option_and_then (λ w. option_map (λ vs. w ∷ vs) os) o ≡ Some ws → ((vs : List StoredEntry) → os ≡ Some vs → All IsHeldEntry vs)
    → All IsHeldEntry ws
by_first e None os ws fits is all later = cc
by_first e (Some w) None ws fits is all later = cc
by_first e (Some w) (Some vs) ws fits is all later =
    let same : w ∷ vs ≡ ws = cc in
    subst (All IsHeldEntry) same (All-cons IsHeldEntry w vs (held_by e.name e.body e.attributes w fits.attributes is) (later vs refl))

held_entries : (es : List RawEntry) (ws : List StoredEntry) → All RawEntryFits es → all_complete es ≡ Some ws → All IsHeldEntry ws
held_entries [] ws fit all = let none : [] ≡ ws = cc in subst (All IsHeldEntry) none (All-nil IsHeldEntry)
held_entries (e ∷ es) ws fit all = by_first e (complete e) (all_complete es) ws (All-head RawEntryFits e es fit) refl all
    (λ vs. held_entries es vs (All-tail RawEntryFits e es fit))

-- ---- parts

by_part : (p : RawPart) (o : Option (List StoredEntry)) (s : StoredPart) → All RawEntryFits p.entries → all_complete p.entries ≡ o
    → option_map (λ (es : List StoredEntry). let q : StoredPart = record { entries = es; tail = p.tail; delta = p.delta } in q) o ≡ Some s
    → All IsHeldEntry s.entries
by_part p None s fit is some' = cc
by_part p (Some ws) s fit is some' =
    let same : ◌≡◌ {A = StoredPart} (record { entries = ws; tail = p.tail; delta = p.delta }) s = cc in
    subst (λ (q : StoredPart). All IsHeldEntry q.entries) same (held_entries p.entries ws fit is)

pub held_parts : BlocksHaveALog → LogTagsAreItems → HeldPartsAreComplete
held_parts logs items d pair s disk first second is =
    option_and_then_some complete_part (option_and_then replay (tags_of d pair)) s is
    (λ p there complete_is. option_and_then_some replay (tags_of d pair) p there
    (λ tags tags_are replayed. by_part p (all_complete p.entries) s (replay-fits tags p
    (items_of logs items d pair tags disk first second tags_are) replayed) refl complete_is))
