-- An image that is spelled anew along its thread holds what was read in the other one.
use Rattle.std.proofs.Common.{◌≡◌, ℕ, ◌<◌, List, map, refl, ap, sym, ◌∙◌, subst, arith}
use Rattle.std.specs.Prelude.{Contains, ◌==◌, cond}
use Rattle.std.proofs.lemmas.Bool.Decides.{nat_tests}
use Rattle.std.proofs.lemmas.List.Elements.{All-contains, All-contains_itself, All-weaker}
use Rattle.lfs_block.specs.Disk.{Disk, IsDisk, block_of}
use Rattle.lfs_file.specs.Laws.{AgreeOn, ContentStays, FoundStay}
use Rattle.lfs_meta.specs.Body.{Pair}
use Rattle.lfs_fs.specs.Alike.{ChainStays, PairsAreOfParts, PartStays, StoredLinksStay}
use Rattle.lfs_fs.specs.Directory.{Part, thread}
use Rattle.lfs_fs.specs.Entry.{Body, Chain, Directory_at, Entry, Inline}
use Rattle.lfs_fs.specs.Front.{IsFront, pairs_name}
use Rattle.lfs_fs.specs.Holds.{Holds}
use Rattle.lfs_fs.specs.Reading.{Reading, reading_of}
use Rattle.lfs_fs.specs.Sound.{IsSound}
use Rattle.lfs_fs.specs.Stored.{HeldAreHeldByLinks, HeldByLinksAreHeld, HoldsLinks, IsStored}
use Rattle.lfs_fs.specs.Thread.{Link, links}
use Rattle.lfs_fs.specs.Uses.{body_uses, times}
use Rattle.lfs_fs.specs.Volume.{Volume}
use Rattle.lfs_fs.proofs.ContainsLemmas.{contains_mapped}
use Rattle.lfs_fs.proofs.FoldersLemmas.{thread_of_pieces}
use Rattle.lfs_fs.proofs.ThreadLemmas.{links_make_their_directories}
use Rattle.lfs_fs.proofs.CountLemmas.{element_le}
use Rattle.lfs_lower.specs.Anew.{IsSpelledAnew, ReadsBlocks, SpelledAnewHoldWhatIsRead}
use Rattle.lfs_lower.proofs.ChainsOutside.{files_outside}
use Rattle.lfs_lower.proofs.LongestFronts.{AgreeAt, IsLongest, front_alike, front_alike_more, steps_agree, thread_is_longest}

-- laws of the crates below
pub record LawsBelow : Type 0 where
  pub found : FoundStay
  pub content : ContentStays
  pub stay : StoredLinksStay
  pub by_links : HeldAreHeldByLinks
  pub along : HeldByLinksAreHeld
  pub pairs : PairsAreOfParts

-- a disk is read by its blocks
pub reads_itself : (d : Disk) → ReadsBlocks d (reading_of d)
reads_itself d = record { size = refl; count = refl; chain = refl; content = refl }

-- ---- chains stay

-- each block of a chain is used by its body
used_by_chain : (b : ℕ) (bs : List ℕ) → Contains bs b → 0 < times b bs
used_by_chain b bs there =
    let le = element_le (λ (x : ℕ). cond {A = ℕ} (x == b) 1 0) bs b there in
    let one : cond {A = ℕ} (b == b) 1 0 ≡ 1 = grind (arith, nat_tests) in
    omega (arith, le, one)

-- readings of two disks whose blocks are the same where the body has some
chain_stays : LawsBelow → (d e : Disk) (r q : Reading) → IsDisk d → ReadsBlocks d r → ReadsBlocks e q → e.size ≡ d.size → e.count ≡ d.count
    → (body : Body) → ((b : ℕ) → 0 < body_uses b body → block_of e b ≡ block_of d b) → ChainStays r q body
chain_stays laws d e r q disk reads reads_other size count (Inline bytes) same = tt
chain_stays laws d e r q disk reads reads_other size count (Directory_at pair) same = tt
chain_stays laws d e r q disk reads reads_other size count (Chain blocks bytes) same = λ head len is.
    let agree : AgreeOn blocks d e = record {
      size = sym size;
      count = omega (arith, count);
      same = All-weaker (Contains blocks) (λ (b : ℕ). block_of d b ≡ block_of e b)
          (λ b there. sym (same b (used_by_chain b blocks there))) blocks (All-contains_itself blocks);
    } in (
      ap (λ f. f head len) reads_other.chain ∙ laws.found d e head len blocks disk agree (ap (λ f. f head len) (sym reads.chain) ∙ is),
      ap (λ f. f len blocks) reads_other.content ∙ sym (laws.content d e len blocks agree) ∙ ap (λ f. f len blocks) (sym reads.content),
    )

-- ---- a volume is held where its pairs hold the same and all other blocks are the same

-- two readings of two disks agree on pairs, and blocks of none of them are the same
pub record DifferAlong (d e : Disk) (r q : Reading) (ps : List Pair) : Type 0 where
  pub disk : IsDisk d
  pub reads : ReadsBlocks d r
  pub reads_other : ReadsBlocks e q
  pub size : e.size ≡ d.size
  pub count : e.count ≡ d.count
  pub agree : AgreeAt r q ps
  pub others : (b : ℕ) → pairs_name b ps ≡ 0 → block_of e b ≡ block_of d b

part_stays : LawsBelow → (d e : Disk) (r q : Reading) (v : Volume) → IsSound v
    → DifferAlong d e r q (map (λ p. p.pair) (thread v.directories))
    → (p : Part) → Contains (thread v.directories) p → PartStays r q p
part_stays laws d e r q v sound differ p there = record {
  part = differ.agree p.pair (contains_mapped (λ (x : Part). x.pair) (thread v.directories) p there);
  chains = All-weaker (Contains p.entries) (λ (x : Entry). ChainStays r q x.body)
      (λ x inside. chain_stays laws d e r q differ.disk differ.reads differ.reads_other differ.size differ.count x.body
      (λ b used. differ.others b (files_outside v b sound p there x inside used)))
      p.entries (All-contains_itself p.entries);
}

part_there : (v : Volume) (l : Link) → Contains (links v.directories) l → Contains (thread v.directories) l.part
part_there v l there = subst (λ (ps : List Part). Contains ps l.part)
    (sym (thread_of_pieces (links v.directories)) ∙ ap thread (links_make_their_directories v.directories))
    (contains_mapped (λ (x : Link). x.part) (links v.directories) l there)

pub held_along : LawsBelow → (d e : Disk) (r q : Reading) (v : Volume) → IsSound v
    → DifferAlong d e r q (map (λ p. p.pair) (thread v.directories)) → Holds r v → Holds q v
held_along laws d e r q v sound differ h =
    let held : HoldsLinks r v = laws.by_links r v h in
    laws.along q v sound (record {
      size = held.size ∙ differ.reads.size ∙ sym differ.size ∙ sym differ.reads_other.size;
      count = held.count ∙ differ.reads.count ∙ sym differ.count ∙ sym differ.reads_other.count;
      bytes = held.bytes;
      superblock = held.superblock;
      each = All-weaker (Contains (links v.directories)) (IsStored q held.bytes v.attributes)
          (λ l there. laws.stay r q held.bytes v.attributes l
          (part_stays laws d e r q v sound differ l.part (part_there v l there))
          (All-contains (IsStored r held.bytes v.attributes) (links v.directories) l held.each there))
          (links v.directories) (All-contains_itself (links v.directories));
    })

-- ---- the law

module _ (d : Disk) (r : Reading) (e : Disk) (reads : ReadsBlocks d r) (anew : IsSpelledAnew d r e) where
  same_count : e.count ≡ r.count
  same_count = anew.count ∙ sym reads.count

  front_of_other : IsFront (reading_of e) anew.front
  front_of_other = front_alike r (reading_of e) anew.front same_count (steps_agree r (reading_of e) anew.front anew.held) anew.is_front

  longest_of_other : IsLongest (reading_of e) anew.front
  longest_of_other p h = anew.longest p (front_alike_more (reading_of e) r anew.front p (sym same_count)
      (steps_agree (reading_of e) r anew.front (λ x there. sym (anew.held x there))) h)

-- the thread by that reading is the front, and so it is by the other image's
pairs_are_front : LawsBelow → (d : Disk) (r : Reading) (e : Disk) (anew : IsSpelledAnew d r e) (v : Volume) → Holds r v
    → map (λ p. p.pair) (thread v.directories) ≡ anew.front
pairs_are_front laws d r e anew v h = sym (laws.pairs r v h)
    ∙ thread_is_longest r anew.front h.pairs anew.is_front anew.longest h.is_thread

pairs_of_other : LawsBelow → (d : Disk) (r : Reading) (e : Disk) → ReadsBlocks d r → (anew : IsSpelledAnew d r e) (v : Volume)
    → Holds (reading_of e) v → map (λ p. p.pair) (thread v.directories) ≡ anew.front
pairs_of_other laws d r e reads anew v h = sym (laws.pairs (reading_of e) v h)
    ∙ thread_is_longest (reading_of e) anew.front h.pairs (front_of_other d r e reads anew) (longest_of_other d r e reads anew) h.is_thread

pub spelled_anew_hold : LawsBelow → SpelledAnewHoldWhatIsRead
spelled_anew_hold laws d r e v disk reads anew sound = (
  λ h. held_along laws e d (reading_of e) r v sound (record {
    disk = anew.disk;
    reads = reads_itself e;
    reads_other = reads;
    size = sym anew.size;
    count = sym anew.count;
    agree = λ p there. sym (anew.held p (subst (λ (ps : List Pair). Contains ps p) (pairs_of_other laws d r e reads anew v h) there));
    others = λ b none. sym (anew.others b (ap (pairs_name b) (sym (pairs_of_other laws d r e reads anew v h)) ∙ none));
  }) h,
  λ h. held_along laws d e r (reading_of e) v sound (record {
    disk = disk;
    reads = reads;
    reads_other = reads_itself e;
    size = anew.size;
    count = anew.count;
    agree = λ p there. anew.held p (subst (λ (ps : List Pair). Contains ps p) (pairs_are_front laws d r e anew v h) there);
    others = λ b none. anew.others b (ap (pairs_name b) (sym (pairs_are_front laws d r e anew v h)) ∙ none);
  }) h,
)
