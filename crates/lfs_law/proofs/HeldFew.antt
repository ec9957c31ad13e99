-- The parts of a volume that an image holds have few entries.
use Rattle.std.proofs.Common.{ℕ, ◌≡◌, ◌≤◌, Bool, true, false, List, ◌∷◌, length, ap, subst, arith}
use Rattle.std.specs.Prelude.{All, if◌then◌else◌}
use Rattle.std.proofs.lemmas.List.Elements.{All-map, All-weaker}
use Rattle.std.proofs.lemmas.Slice.Zip.{AllZip-long}
use Rattle.lfs_block.specs.Disk.{Disk, IsDisk}
use Rattle.lfs_meta.specs.Attribute.{Attributes}
use Rattle.lfs_meta.specs.Entry.{StoredEntry}
use Rattle.lfs_meta.specs.HeldLaws.{HeldPartsHaveFewEntries}
use Rattle.lfs_fs.specs.Pair.{root, same_pair}
use Rattle.lfs_fs.specs.Directory.{Part}
use Rattle.lfs_fs.specs.Reading.{reading_of}
use Rattle.lfs_fs.specs.Stored.{IsStored, HoldsLinks, HeldAreHeldByLinks, StandsFor}
use Rattle.lfs_fs.specs.Superblock.{superblock_entry}
use Rattle.lfs_fs.specs.Thread.{Link, links}
use Rattle.lfs_law.specs.NeedsSmall.{HeldHaveFewEntries}
use Rattle.lfs_fs.proofs.ChainedLemmas.{parts_of_links}

-- no more than with the superblock's
others_fewer : (bytes : List ℕ) (attributes : Attributes) (others : List StoredEntry) (t : Bool)
    → length others ≤ length (if t then superblock_entry bytes attributes ∷ others else others)
others_fewer bytes attributes others true = omega arith
others_fewer bytes attributes others false = omega arith

stored_few : HeldPartsHaveFewEntries → (d : Disk) (bytes : List ℕ) (attributes : Attributes) (l : Link) → IsDisk d
    → IsStored (reading_of d) bytes attributes l
    → length l.part.entries ≤ 65536
stored_few few d bytes attributes l disk s =
    let all : length s.stored.entries ≤ 65536 = few d l.part.pair s.stored disk s.read in
    let same : length l.part.entries ≡ length s.others = AllZip-long (StandsFor (reading_of d)) s.others l.part.entries s.stands in
    omega (arith, all, ap length s.entries, others_fewer bytes attributes s.others (same_pair l.part.pair root), same)

pub held_have_few_entries : HeldAreHeldByLinks → HeldPartsHaveFewEntries → HeldHaveFewEntries
held_have_few_entries by_links few d v disk holds =
    let held : HoldsLinks (reading_of d) v = by_links (reading_of d) v holds in
    subst (All (λ (p : Part). length p.entries ≤ 65536)) (parts_of_links v.directories)
    (All-map (λ (p : Part). length p.entries ≤ 65536) (λ (l : Link). l.part) (links v.directories)
    (All-weaker (IsStored (reading_of d) held.bytes v.attributes) (λ (l : Link). length l.part.entries ≤ 65536)
    (λ l stored. stored_few few d held.bytes v.attributes l disk stored) (links v.directories) held.each))
