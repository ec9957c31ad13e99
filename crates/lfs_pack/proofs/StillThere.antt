-- The contents of a volume's files are there in an image that leaves its blocks, and those of one that a command leaves.
use Rattle.std.proofs.Common.{◌≡◌, ◌<◌, ◌≤◌, ℕ, List, sym, subst, map, arith}
use Rattle.std.specs.Prelude.{All, Contains, sum_by}
use Rattle.std.proofs.lemmas.List.Elements.{All-contains, All-contains_itself, All-map, All-weaker}
use Rattle.std.proofs.lemmas.List.Folds.{flat_map-map}
use Rattle.lfs_block.specs.Disk.{Disk, IsDisk, block_of}
use Rattle.lfs_file.specs.Laws.{ContentStays, FoundStay}
use Rattle.lfs_meta.specs.Body.{Pair}
use Rattle.lfs_meta.specs.RunLaws.{RunsJoin}
use Rattle.lfs_fs.specs.Directory.{Directory, Part, entries, parts, thread}
use Rattle.lfs_fs.specs.Entry.{Body, Directory_at, Entry}
use Rattle.lfs_fs.specs.Reading.{Reading, reading_of}
use Rattle.lfs_fs.specs.Thread.{Link, links}
use Rattle.lfs_fs.specs.Uses.{entry_uses, part_uses, uses}
use Rattle.lfs_fs.specs.Volume.{Volume}
use Rattle.lfs_fs.proofs.ChainedLemmas.{parts_of_links}
use Rattle.lfs_fs.proofs.CountLemmas.{element_le}
use Rattle.lfs_command.specs.Clean.{cleaned}
use Rattle.lfs_command.specs.Command.{Command}
use Rattle.lfs_command.specs.Cut.{cut}
use Rattle.lfs_command.specs.DirectoryEdit.{each_part}
use Rattle.lfs_command.specs.Edited.{edited}
use Rattle.lfs_command.specs.Planned.{CarriesOut}
use Rattle.lfs_law.specs.OutlineLaws.{IsThere}
use Rattle.lfs_law.proofs.CommandsWritten.{body_stays}
use Rattle.lfs_law.proofs.KnownBodies.{Bodies, OfBodies, OfNew, by_parts, cut_bodies, edited_bodies, link_has}
use Rattle.lfs_law.proofs.WrittenLemmas.{chain_by, part_there, sum_thread}
use Rattle.lfs_pack.specs.NewImages.{AllAreLaid, IsLaidBody}
use Rattle.lfs_pack.specs.Unwritten.{AreThere}
use Rattle.lfs_pack.proofs.LaidBodies.{laid_stays}

-- ---- bodies that are there

-- by parts
parts_have : (P : Body → Type 0) (v : Volume)
    → ((l : Link) → Contains (links v.directories) l → (x : Entry) → Contains l.part.entries x → P x.body)
    → All (λ p. OfBodies P p.entries) (thread v.directories)
parts_have P v has =
    subst (All (λ (p : Part). OfBodies P p.entries)) (parts_of_links v.directories)
    (All-map (λ (p : Part). OfBodies P p.entries) (λ (l : Link). l.part) (links v.directories)
    (All-weaker (Contains (links v.directories)) (λ (l : Link). OfBodies P l.part.entries)
    (λ l inside. All-weaker (Contains l.part.entries) (λ (x : Entry). P x.body) (has l inside) l.part.entries
    (All-contains_itself l.part.entries))
    (links v.directories) (All-contains_itself (links v.directories))))

parts_there : (d : Disk) (v : Volume) → AreThere d v → All (λ p. OfBodies (IsThere (reading_of d)) p.entries) (thread v.directories)
parts_there d v there = parts_have (IsThere (reading_of d)) v there

-- the blocks of a chain are used
chain_used : (v : Volume) (p : Part) → Contains (thread v.directories) p → (x : Entry) → Contains p.entries x → (b : ℕ) → 0 < entry_uses b x
    → 0 < uses b v
chain_used v p there x inside b used =
    let one : entry_uses b x ≤ sum_by (entry_uses b) p.entries = element_le (entry_uses b) p.entries x inside in
    let all : part_uses b p ≤ sum_by (part_uses b) (thread v.directories) = element_le (part_uses b) (thread v.directories) p there in
    omega (arith, one, all, used, sum_thread b v.directories)

-- blocks that the volume uses stay
pub bodies_kept : FoundStay → ContentStays → (d f : Disk) (v : Volume) → IsDisk d → f.size ≡ d.size → d.count ≤ f.count
    → ((b : ℕ) → 0 < uses b v → block_of f b ≡ block_of d b) → AreThere d v → Bodies (IsThere (reading_of f)) v.directories
bodies_kept found content d f v disk size count stays there =
    by_parts (IsThere (reading_of f)) v.directories
    (All-weaker (Contains (thread v.directories)) (λ (p : Part). OfBodies (IsThere (reading_of f)) p.entries) in_part
    (thread v.directories) (All-contains_itself (thread v.directories)))
  where
    was : (p : Part) → Contains (thread v.directories) p → (x : Entry) → Contains p.entries x → IsThere (reading_of d) x.body
    was p at x inside =
        All-contains (λ (y : Entry). IsThere (reading_of d) y.body) p.entries x
        (All-contains (λ (q : Part). OfBodies (IsThere (reading_of d)) q.entries) (thread v.directories) p (parts_there d v there) at) inside

    in_part : (p : Part) → Contains (thread v.directories) p → OfBodies (IsThere (reading_of f)) p.entries
    in_part p at =
        All-weaker (Contains p.entries) (λ (x : Entry). IsThere (reading_of f) x.body)
        (λ x inside. body_stays (reading_of d) (reading_of f) x.body
        (chain_by found content d f disk x.body size count (λ b used. stays b (chain_used v p at x inside b used)))
        (was p at x inside))
        p.entries (All-contains_itself p.entries)

-- so their contents are still there
pub still_there : FoundStay → ContentStays → (d f : Disk) (v : Volume) → IsDisk d → f.size ≡ d.size → d.count ≤ f.count
    → ((b : ℕ) → 0 < uses b v → block_of f b ≡ block_of d b) → AreThere d v → AreThere f v
still_there found content d f v disk size count stays there =
    link_has (IsThere (reading_of f)) v.directories (bodies_kept found content d f v disk size count stays there)

-- what is laid for them too
pub laid_kept : (d f : Disk) (v : Volume) → f.size ≡ d.size → ((b : ℕ) → 0 < uses b v → block_of f b ≡ block_of d b) → AllAreLaid d v
    → AllAreLaid f v
laid_kept d f v size stays all l there x inside =
    laid_stays d f x.body size (λ b used. stays b (chain_used v l.part (part_there v.directories l there) x inside b used))
    (all l there x inside)

-- ---- what a command leaves

-- marks taken off
clean_bodies : (P : Body → Type 0) (ds : List Directory) → Bodies P ds → Bodies P (map (each_part cleaned) ds)
clean_bodies P ds all =
    All-map (λ (d : Directory). OfBodies P (entries d)) (each_part cleaned) ds
    (All-weaker (λ (d : Directory). OfBodies P (entries d)) (λ (d : Directory). OfBodies P (entries (each_part cleaned d)))
    (λ d has. subst (OfBodies P) (sym (flat_map-map (λ (p : Part). p.entries) cleaned (parts d))) has) ds all)

-- what holds of the old bodies and of a file's new contents holds of those that a command leaves
carried_have : (P : Body → Type 0) → RunsJoin Entry → (v : Volume) (c : Command) (w : Volume) (carries : CarriesOut c v w)
    → ((pair : Pair) → P (Directory_at pair)) → OfNew P v c carries.supplies → Bodies P v.directories
    → (l : Link) → Contains (links w.directories) l → (x : Entry) → Contains l.part.entries x → P x.body
carried_have P join v c w carries leads new all =
    link_has P w.directories
    (subst (λ (x : Volume). Bodies P x.directories) (sym carries.is)
    (clean_bodies P (cut carries.chosen (edited v c carries.supplies)).directories
    (cut_bodies join P carries.chosen (edited v c carries.supplies) carries.pairs.enough
    (edited_bodies P v c carries.supplies leads new all))))

-- so of those that are there
pub carried_there : RunsJoin Entry → (r : Reading) (v : Volume) (c : Command) (w : Volume) (carries : CarriesOut c v w)
    → OfNew (IsThere r) v c carries.supplies → Bodies (IsThere r) v.directories
    → (l : Link) → Contains (links w.directories) l → (x : Entry) → Contains l.part.entries x → IsThere r x.body
carried_there join r v c w carries new all = carried_have (IsThere r) join v c w carries (λ pair. tt) new all

-- what is laid for the old files and for a new one is laid for those that a command leaves
pub carried_laid : RunsJoin Entry → (d : Disk) (v : Volume) (c : Command) (w : Volume) (carries : CarriesOut c v w)
    → OfNew (IsLaidBody d) v c carries.supplies → AllAreLaid d v → AllAreLaid d w
carried_laid join d v c w carries new all =
    carried_have (IsLaidBody d) join v c w carries (λ pair. tt) new
    (by_parts (IsLaidBody d) v.directories (parts_have (IsLaidBody d) v all))
