-- Blocks lowered, and what lowered pairs hold.
use Rattle.std.proofs.Common.{◌≡◌, inl, inr, ℕ, ◌<◌, Bool, List, length, Option, Some, None, refl, sym, ap, subst, ◌∙◌, arith}
use Rattle.lfs_block.specs.Bytes.{IsBytes}
use Rattle.lfs_block.specs.Disk.{Disk, IsDisk, block_of, erased_block, put}
use Rattle.lfs_block.specs.Geometry.{IsBlockSize}
use Rattle.lfs_block.specs.PatchLaws.{BlockPut, BlockPutOther, PutIsDisk}
use Rattle.lfs_block.proofs.BlockLens.{length-block}
use Rattle.lfs_tag.specs.Commit.{Item}
use Rattle.lfs_tag.specs.Laws.{ErasedBlock, LogIsRead}
use Rattle.lfs_meta.specs.Body.{Pair}
use Rattle.lfs_meta.specs.LiveBlock.{committed, committed_log, is_later, live_tags, revision, stored_part_of}
use Rattle.lfs_meta.proofs.HeldPartLemmas.{block_bytes}
use Rattle.lfs_fs.specs.Gathering.{PairPart}
use Rattle.lfs_pair.specs.Writing.{IsPartBlock}
use Rattle.lfs_pair.proofs.LogLemmas.{erased-uncommitted}
use Rattle.lfs_lower.specs.Alone.{AreOf, IsPlain, IsSame, IsWrittenAlone}
use Rattle.lfs_lower.specs.LaterReading.{later_part_of, live_by}
use Rattle.lfs_lower.specs.Laws.{LivesAreRead, LoweredBlocksAreRead}
use Rattle.lfs_lower.specs.Lowered.{IsBlockLowered, IsLaterLive, IsPairLowered, IsReadFor}
use Rattle.lfs_lower.specs.Spelled.{is_root_block, lowered_block, lowered_tags}
use Rattle.lfs_lower.proofs.LoweredBlocks.{live-is}
use Rattle.lfs_lower.proofs.AloneBlocks.{alone_by, first_of, held_by, others_by, part_by, second_of}

-- ---- a block

pub block_fits : (d : Disk) (n : ℕ) → IsDisk d → n < d.count → IsBlockSize (length (block_of d n))
block_fits d n disk within = subst IsBlockSize (sym (length-block d n disk within)) disk.geometry.size_fits

pub lowered_len : LoweredBlocksAreRead → (d : Disk) (n : ℕ) (new : List ℕ) → IsDisk d → n < d.count
    → new ≡ lowered_block (is_root_block n) (block_of d n) → length new ≡ d.size
lowered_len read d n new disk within is =
    ap length is ∙ (read (is_root_block n) (block_of d n) (block_bytes d n disk) (block_fits d n disk within)).len ∙ length-block d n disk within

pub block_lowered : LoweredBlocksAreRead → BlockPut → BlockPutOther → PutIsDisk → (d e : Disk) (n : ℕ) (new : List ℕ) → IsDisk d
    → n < d.count → new ≡ lowered_block (is_root_block n) (block_of d n) → e ≡ put n new d → IsBlockLowered d e n
block_lowered read this others puts d e n new disk within is put_is =
    let len : length new ≡ d.size = lowered_len read d n new disk within is in
    let bytes : IsBytes new =
    subst IsBytes (sym is) (read (is_root_block n) (block_of d n) (block_bytes d n disk) (block_fits d n disk within)).bytes in
    let all : IsBlockLowered d (put n new d) n = record {
      disk = puts d n new disk within len bytes;
      size = refl;
      count = refl;
      here = this d n new disk within len ∙ is;
      others = λ b other. others d n b new disk within other len;
    } in
    subst (λ (f : Disk). IsBlockLowered d f n) (sym put_is) all

-- ---- a pair

-- the tags of two blocks, as version 2.1 reads those of a pair
abbrev later_by : Pair → List ℕ → List ℕ → Option (List Item)
later_by p first second =
    live_by (is_later (revision second) (revision first)) (lowered_tags (is_root_block p.0) first) (lowered_tags (is_root_block p.1) second)

-- what the lowered blocks of a pair hold
pub lowered_tags_of : LivesAreRead → (d : Disk) (pair : Pair) → IsDisk d → pair.0 < d.count → pair.1 < d.count
    → part_by (live_tags (lowered_block (is_root_block pair.0) (block_of d pair.0)) (lowered_block (is_root_block pair.1) (block_of d pair.1)))
    ≡ later_part_of d pair
lowered_tags_of lives d pair disk first second =
    ap part_by
    (lives (is_root_block pair.0) (is_root_block pair.1) (block_of d pair.0) (block_of d pair.1) (block_bytes d pair.0 disk)
    (block_bytes d pair.1 disk) (block_fits d pair.0 disk first) (block_fits d pair.1 disk second))

-- what version 2.1 reads of a pair depends on its two blocks alone
pub later_same : (d e : Disk) (p : Pair) → IsSame d e p → later_part_of e p ≡ later_part_of d p
later_same d e p same =
    ap (λ (b : List ℕ). part_by (later_by p b (block_of e p.1))) same.0 ∙ ap (λ (b : List ℕ). part_by (later_by p (block_of d p.0) b)) same.1

-- what a lowered pair holds
pub lowered_part : LivesAreRead → (d f : Disk) (pair : Pair) → IsDisk d → pair.0 < d.count → pair.1 < d.count
    → block_of f pair.0 ≡ lowered_block (is_root_block pair.0) (block_of d pair.0)
    → block_of f pair.1 ≡ lowered_block (is_root_block pair.1) (block_of d pair.1) → stored_part_of f pair ≡ later_part_of d pair
lowered_part lives d f pair disk first_within second_within first second =
    ap (λ (b : List ℕ). part_by (live_tags b (block_of f pair.1))) first
    ∙ ap (λ (b : List ℕ). part_by (live_tags (lowered_block (is_root_block pair.0) (block_of d pair.0)) b)) second
    ∙ lowered_tags_of lives d pair disk first_within second_within

-- ---- a pair with one block

-- the live block lowered is read for the pair
pub lowered_for : LoweredBlocksAreRead → ErasedBlock → LogIsRead → (d : Disk) (pair : Pair) (live beside : ℕ) (block : List ℕ) → IsDisk d
    → live < d.count → IsLaterLive d pair live beside → block ≡ lowered_block (is_root_block live) (block_of d live) → IsReadFor d pair block
lowered_for read erased log d pair live beside block disk within is same_block =
    let tags : Option (List Item) = lowered_tags (is_root_block live) (block_of d live) in
    let here : committed block ≡ tags =
    ap committed same_block ∙ (read (is_root_block live) (block_of d live) (block_bytes d live disk) (block_fits d live disk within)).held in
    let none = erased-uncommitted erased log d.size (omega (arith, disk.geometry.size_fits.0)) in
    let same : part_by tags ≡ later_part_of d pair = ap part_by (sym is.tags) in
    record {
      len = lowered_len read d live block disk within same_block;
      before_erased = ap part_by (first_of tags block (erased_block d.size) here none) ∙ same;
      behind_erased = ap part_by (second_of tags block (erased_block d.size) here none) ∙ same;
    }

-- and so is one that is written anew with what version 2.1 reads of the pair
pub anew_for : (d : Disk) (p : PairPart) (number : ℕ) (block : List ℕ) → later_part_of d p.0 ≡ Some p.1 → IsPartBlock d.size number p.1 block
    → IsReadFor d p.0 block
anew_for d p number block read is =
    record { len = is.len; before_erased = is.before_erased ∙ sym read; behind_erased = is.behind_erased ∙ sym read }

-- such a block, beside one that says nothing, lowers the pair
pub alone_lowered : ErasedBlock → LogIsRead → (d e : Disk) (pair : Pair) (live beside : ℕ) (block : List ℕ) → IsDisk d → AreOf pair live beside
    → IsReadFor d pair block → IsWrittenAlone d e live beside block → IsPairLowered d e pair
alone_lowered erased log d e pair live beside block disk of is written = record {
  disk = written.disk;
  size = written.size;
  count = written.count;
  held =
      let none = erased-uncommitted erased log d.size (omega (arith, disk.geometry.size_fits.0)) in
      held_by d e pair live beside block (later_part_of d pair) none of written is.before_erased is.behind_erased;
  alone = inr (alone_by d e pair live beside block of written);
  others = others_by d e pair live beside block of written;
}

-- a pair of which both versions read the same
pub plain_lowered : (d : Disk) (pair : Pair) → IsDisk d → IsPlain d pair.0 → IsPlain d pair.1 → IsPairLowered d d pair
plain_lowered d pair disk first second = record {
  disk = disk;
  size = refl;
  count = refl;
  held =
      let one : List ℕ = block_of d pair.0 in
      let other : List ℕ = block_of d pair.1 in
      let late : Bool = is_later (revision other) (revision one) in
      ap part_by
      (live-is late (committed_log one) (committed_log other)
      ∙ ap (λ (o : Option (List Item)). live_by late o (committed other)) (sym first)
      ∙ ap (live_by late (lowered_tags (is_root_block pair.0) one)) (sym second));
  alone = inl (record { first_plain = first; second_plain = second; same = (refl, refl) });
  others = λ b not_first not_second. refl;
}
