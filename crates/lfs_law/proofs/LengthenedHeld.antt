-- An image that is lengthened holds what it held.
use Rattle.std.proofs.Common.{◌≡◌, ℕ, ◌<◌, ◌≤◌, refl, sym, ◌∙◌, arith}
use Rattle.std.specs.Prelude.{Contains, sum_by}
use Rattle.std.proofs.lemmas.List.Elements.{All-contains, All-contains_itself, All-weaker}
use Rattle.lfs_block.specs.Disk.{Disk, IsDisk, block_of, resized}
use Rattle.lfs_block.proofs.ResizeLemmas.{block_at-within, resized-block}
use Rattle.lfs_file.specs.Laws.{FoundStay, ContentStays}
use Rattle.lfs_meta.specs.Laws.{PartsDependOnTheirBlocks}
use Rattle.lfs_fs.specs.Alike.{ChainStays, PartStays, StoredLinksStay}
use Rattle.lfs_fs.specs.Directory.{Part, thread}
use Rattle.lfs_fs.specs.Entry.{Entry}
use Rattle.lfs_fs.specs.Reading.{reading_of}
use Rattle.lfs_fs.specs.Sound.{IsSound}
use Rattle.lfs_fs.specs.Stored.{HoldsLinks, IsStored}
use Rattle.lfs_fs.specs.Thread.{links}
use Rattle.lfs_fs.specs.Volume.{Volume}
use Rattle.lfs_fs.proofs.CountLemmas.{element_le}
use Rattle.lfs_law.specs.Lengthened.{LengthenedImagesHold}
use Rattle.lfs_law.proofs.WrittenLemmas.{chain_by, entry_used, pair_used, part_there, part_uses, sum_thread}

-- a block that the image has
block_kept : (d : Disk) (n b : ℕ) → IsDisk d → d.count ≤ n → b < d.count → block_of (resized n d) b ≡ block_of d b
block_kept d n b disk more within = resized-block d n b disk (omega (arith, within, more)) ∙ block_at-within d b within

-- a block that a part of the volume uses
used_within : (d : Disk) (v : Volume) → HoldsLinks (reading_of d) v → IsSound v → (p : Part) → Contains (thread v.directories) p → (b : ℕ)
    → 0 < part_uses b p → b < d.count
used_within d v held sound p there b used =
    let all : part_uses b p ≤ sum_by (part_uses b) (thread v.directories) = element_le (part_uses b) (thread v.directories) p there in
    omega (arith, sound.within b (omega (arith, all, used, sum_thread b v.directories)), held.count)

part_stays : PartsDependOnTheirBlocks → FoundStay → ContentStays → (d : Disk) (v : Volume) (n : ℕ) → HoldsLinks (reading_of d) v → IsDisk d
    → IsSound v → d.count ≤ n
    → (p : Part) → Contains (thread v.directories) p → PartStays (reading_of d) (reading_of (resized n d)) p
part_stays depend found content d v n held disk sound more p there =
    let stays : (b : ℕ) → 0 < part_uses b p → block_of (resized n d) b ≡ block_of d b =
    λ b used. block_kept d n b disk more (used_within d v held sound p there b used) in
    record {
      part = sym (depend d (resized n d) p.pair (sym (stays p.pair.0 (pair_used p).0), sym (stays p.pair.1 (pair_used p).1))).2;
      chains = All-weaker (Contains p.entries) (λ (x : Entry). ChainStays (reading_of d) (reading_of (resized n d)) x.body)
          (λ x inside. chain_by found content d (resized n d) disk x.body refl more (λ b used. stays b (entry_used b p x inside used)))
          p.entries (All-contains_itself p.entries);
    }

pub lengthened_images_hold : PartsDependOnTheirBlocks → FoundStay → ContentStays → StoredLinksStay → LengthenedImagesHold
lengthened_images_hold depend found content stay d v held n disk sound fits more = record {
  size = held.size;
  count = refl;
  each = All-weaker (Contains (links v.directories)) (IsStored (reading_of (resized n d)) held.bytes v.attributes)
      (λ l there. stay (reading_of d) (reading_of (resized n d)) held.bytes v.attributes l
      (part_stays depend found content d v n held disk sound more l.part (part_there v.directories l there))
      (All-contains (IsStored (reading_of d) held.bytes v.attributes) (links v.directories) l held.each there))
      (links v.directories) (All-contains_itself (links v.directories));
}
