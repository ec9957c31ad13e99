-- A part that a pair holds has few entries.
use Rattle.std.proofs.Common.{◌≡◌, ℕ, ◌*◌, ◌≤◌, List, [], ◌∷◌, length, drop, ap, sym, ◌∙◌, arith, Option, Some}
use Rattle.std.specs.Prelude.{option_and_then, option_map}
use Rattle.std.proofs.lemmas.List.{length-take}
use Rattle.lfs_block.specs.Disk.{Disk, IsDisk, block_of}
use Rattle.lfs_tag.specs.Commit.{Item}
use Rattle.lfs_tag.specs.Laws.{LogTagsAreFew}
use Rattle.lfs_tag.specs.LogSeen.{LogSeen, log_seen}
use Rattle.lfs_tag.proofs.Steps.{map_some}
use Rattle.lfs_meta.specs.declared.live_block.LiveBlock.{LiveBlock}
use Rattle.lfs_meta.specs.declared.live_block.LiveBlock.TheVariants.{First, Second, Neither}
use Rattle.lfs_meta.specs.Laws.{IsLive}
use Rattle.lfs_meta.specs.Body.{Pair}
use Rattle.lfs_meta.specs.Entry.{RawEntry, StoredEntry}
use Rattle.lfs_meta.specs.LiveBlock.{live_block, live_log, tags_of}
use Rattle.lfs_meta.specs.Part.{RawPart, StoredPart}
use Rattle.lfs_meta.specs.Replay.{replay}
use Rattle.lfs_meta.specs.Complete.{complete, all_complete, complete_part}
use Rattle.lfs_meta.specs.HeldLaws.{HeldPartsHaveFewEntries}
use Rattle.lfs_meta.proofs.HeldPartLemmas.{block_bytes, same_tags}
use Rattle.lfs_meta.proofs.LiveLemmas.{live-read}
use Rattle.lfs_meta.proofs.CompleteLemmas.{and_then-split}
use Rattle.lfs_meta.proofs.ReplayCounts.{replay-few}

-- ---- blocks

block_few : LogTagsAreFew → (d : Disk) (n : ℕ) (log : LogSeen) (tags : List Item) → IsDisk d → log ≡ log_seen (block_of d n)
    → ◌≡◌ {A = Option (List Item)} (Some log.tags) (Some tags) → 4 * length tags ≤ 65536
block_few few d n log tags disk is read =
    let block : List ℕ = block_of d n in
    let same : (log_seen block).tags ≡ tags = sym (ap (λ (l : LogSeen). l.tags) is) ∙ same_tags log tags read in
    omega (
      arith,
      few block (block_bytes d n disk),
      ap length same,
      length-take d.size (drop (n * d.size) d.bytes),
      disk.geometry.size_fits.1,
    )

live_few : LogTagsAreFew → (d : Disk) (pair : Pair) (live : LiveBlock) (tags : List Item) → IsDisk d
    → IsLive live (block_of d pair.0) (block_of d pair.1)
    → option_map (λ log. log.tags) (live_log live) ≡ Some tags → 4 * length tags ≤ 65536
live_few few d pair (First log) tags disk read is = block_few few d pair.0 log tags disk read.0 is
live_few few d pair (Second log) tags disk read is = block_few few d pair.1 log tags disk read.0 is
live_few few d pair Neither tags disk read is = cc

-- ---- entries

all_complete-length : (es : List RawEntry) (ws : List StoredEntry) → all_complete es ≡ Some ws → length ws ≡ length es
all_complete-length [] ws all = let none : [] ≡ ws = cc in sym (ap length none)
all_complete-length (e ∷ es) ws all =
    let (w, first, rest) = and_then-split (λ (v : StoredEntry). option_map (λ (vs : List StoredEntry). v ∷ vs) (all_complete es))
    (complete e) ws all in
    let (vs, more, is) = map_some (λ (vs : List StoredEntry). w ∷ vs) (all_complete es) ws rest in
    omega (arith, all_complete-length es vs more, ap length is)

-- ---- parts

part-length : (p : RawPart) (s : StoredPart) → complete_part p ≡ Some s → length s.entries ≡ length p.entries
part-length p s is =
    let (ws, all, same) = map_some (λ (es : List StoredEntry). let q : StoredPart =
    record { entries = es; tail = p.tail; delta = p.delta } in q) (all_complete p.entries) s is in
    sym (ap (λ (q : StoredPart). length q.entries) same) ∙ all_complete-length p.entries ws all

pub held_parts_few : LogTagsAreFew → HeldPartsHaveFewEntries
held_parts_few few d pair s disk is =
    let (p, there, complete_is) = and_then-split complete_part (option_and_then replay (tags_of d pair)) s is in
    let (tags, tags_are, replayed) = and_then-split replay (tags_of d pair) p there in
    let count : 4 * length tags ≤ 65536 = live_few few d pair (live_block (block_of d pair.0) (block_of d pair.1)) tags disk
    (live-read (block_of d pair.0) (block_of d pair.1)) tags_are in
    omega (arith, count, replay-few tags p replayed, part-length p s complete_is)
