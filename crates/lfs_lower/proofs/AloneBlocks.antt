-- A block written beside an erased one is what its pair holds.
use Rattle.std.proofs.Common.{◌≡◌, ◌≢◌, inl, inr, ℕ, ◌<◌, Bool, true, false, List, length, Option, Some, None, refl, ap, sym, ◌∙◌, subst, arith}
use Rattle.std.specs.Prelude.{option_and_then, if◌then◌else◌}
use Rattle.std.specs.Option.{is_none}
use Rattle.std.proofs.lemmas.Bool.{and_parts}
use Rattle.std.proofs.lemmas.List.{length-replicate}
use Rattle.lfs_block.specs.Bytes.{IsBytes}
use Rattle.lfs_block.specs.Disk.{Disk, IsDisk, block_of, erased_block, put}
use Rattle.lfs_block.specs.PatchLaws.{BlockPut, BlockPutOther, PutIsDisk}
use Rattle.lfs_block.proofs.PutLemmas.{IsBytes-replicate}
use Rattle.lfs_tag.specs.Commit.{Item}
use Rattle.lfs_meta.specs.Body.{Pair}
use Rattle.lfs_meta.specs.Complete.{complete_part}
use Rattle.lfs_meta.specs.LiveBlock.{committed, live_tags, stored_part_of}
use Rattle.lfs_meta.specs.Part.{StoredPart}
use Rattle.lfs_meta.specs.Replay.{replay}
use Rattle.lfs_meta.specs.declared.live_block.LiveBlock.{LiveBlock}
use Rattle.lfs_meta.specs.declared.live_block.LiveBlock.TheVariants.{First, Second, Neither}
use Rattle.lfs_pair.specs.Appending.{number_by}
use Rattle.lfs_pair.specs.Writing.{other_than}
use Rattle.lfs_pair.proofs.LiveAfter.{live_after, live_before, live_neither}
use Rattle.lfs_lower.specs.Alone.{AreOf, IsAlone, IsSame, IsWrittenAlone, SaysNothing, is_silent, left_beside}
use Rattle.lfs_lower.specs.Spelled.{later_committed}

-- ---- the blocks

left_by : (size : ℕ) (block : List ℕ) (t : Bool) → is_silent block ≡ t → left_beside size block ≡ (if t then block else erased_block size)
left_by size block t is = ap (λ (u : Bool). if u then block else erased_block size) is

-- two blocks written, one after the other
pub written_alone : BlockPut → BlockPutOther → PutIsDisk → (d e : Disk) (live beside : ℕ) (block erased : List ℕ) → IsDisk d → live ≢ beside
    → live < d.count → beside < d.count → length block ≡ d.size → IsBytes block → erased ≡ erased_block d.size
    → is_silent (block_of d beside) ≡ false → e ≡ put beside erased (put live block d) → IsWrittenAlone d e live beside block
written_alone this others puts d e live beside block erased disk apart first second len bytes is said put_is =
    let m : Disk = put live block d in
    let m_disk : IsDisk m = puts d live block disk first len bytes in
    let erased_len : length erased ≡ m.size = ap length is ∙ length-replicate {A = ℕ} d.size 255 in
    let all : IsWrittenAlone d (put beside erased m) live beside block = record {
      disk = puts m beside erased m_disk second erased_len (subst IsBytes (sym is) (IsBytes-replicate d.size 255 (omega arith)));
      size = refl;
      count = refl;
      here = others m beside live erased m_disk second apart erased_len ∙ this d live block disk first len;
      there = this m beside erased m_disk second erased_len ∙ is ∙ sym (left_by d.size (block_of d beside) false said);
      others = λ b not_live not_beside. others m beside b erased m_disk second not_beside erased_len ∙ others d live b block disk first not_live len;
    } in
    subst (λ (f : Disk). IsWrittenAlone d f live beside block) (sym put_is) all

-- one block written beside one that says nothing
pub written_one : BlockPut → BlockPutOther → PutIsDisk → (d e : Disk) (live beside : ℕ) (block : List ℕ) → IsDisk d → live ≢ beside
    → live < d.count → length block ≡ d.size → IsBytes block → is_silent (block_of d beside) ≡ true → e ≡ put live block d
    → IsWrittenAlone d e live beside block
written_one this others puts d e live beside block disk apart within len bytes silent put_is =
    let all : IsWrittenAlone d (put live block d) live beside block = record {
      disk = puts d live block disk within len bytes;
      size = refl;
      count = refl;
      here = this d live block disk within len;
      there = others d live beside block disk within (λ same. apart (sym same)) len ∙ sym (left_by d.size (block_of d beside) true silent);
      others = λ b not_live not_beside. others d live b block disk within not_live len;
    } in
    subst (λ (f : Disk). IsWrittenAlone d f live beside block) (sym put_is) all

-- ---- blocks that say nothing

none_by : (o : Option (List Item)) → is_none o ≡ true → o ≡ None
none_by None is = refl
none_by (Some ts) is = cc

silent_none : (block : List ℕ) → is_silent block ≡ true → committed block ≡ None
silent_none block is = none_by (committed block) (and_parts (is_none (committed block)) (is_none (later_committed block)) is).0

-- version 2.0 reads no commit of what is left beside
none_left : (size : ℕ) (block : List ℕ) (t : Bool) → committed (erased_block size) ≡ None → is_silent block ≡ t
    → committed (left_beside size block) ≡ None
none_left size block true none is = ap committed (left_by size block true is) ∙ silent_none block is
none_left size block false none is = ap committed (left_by size block false is) ∙ none

nothing_by : (d e : Disk) (b : ℕ) (t : Bool) → e.size ≡ d.size → block_of e b ≡ left_beside d.size (block_of d b)
    → is_silent (block_of d b) ≡ t → SaysNothing e b
nothing_by d e b true size left is =
    let same : block_of e b ≡ block_of d b = left ∙ left_by d.size (block_of d b) true is in
    inr (ap is_silent same ∙ is)
nothing_by d e b false size left is = inl (left ∙ left_by d.size (block_of d b) false is ∙ ap erased_block (sym size))

-- a block that stays goes on saying nothing
pub nothing_on : (x y : Disk) (b : ℕ) → y.size ≡ x.size → block_of y b ≡ block_of x b → SaysNothing x b → SaysNothing y b
nothing_on x y b size same (inl is) = inl (same ∙ is ∙ ap erased_block (sym size))
nothing_on x y b size same (inr is) = inr (ap is_silent same ∙ is)

pub alone_on : (x y : Disk) (p : Pair) → y.size ≡ x.size → IsSame x y p → IsAlone x p → IsAlone y p
alone_on x y p size same (inl is) = inl (nothing_on x y p.0 size same.0 is)
alone_on x y p size same (inr is) = inr (nothing_on x y p.1 size same.1 is)

-- beside blocks without a commit the same tags are read of a block
pub first_of : (tags : Option (List Item)) (new other : List ℕ) → committed new ≡ tags → committed other ≡ None → live_tags new other ≡ tags
first_of None new other here none = live_neither new other here none
first_of (Some ts) new other here none = live_before new other ts here none

pub second_of : (tags : Option (List Item)) (new other : List ℕ) → committed new ≡ tags → committed other ≡ None → live_tags other new ≡ tags
second_of None new other here none = live_neither other new none here
second_of (Some ts) new other here none = live_after new other ts here none

-- ---- the pair

pub of_places : (live : LiveBlock) (pair : Pair) → AreOf pair (number_by live pair) (other_than live pair)
of_places (First log) pair = inl (refl, refl)
of_places (Second log) pair = inr (refl, refl)
of_places Neither pair = inl (refl, refl)

pub apart_by : (pair : Pair) (live beside : ℕ) → pair.0 ≢ pair.1 → AreOf pair live beside → live ≢ beside
apart_by pair live beside apart (inl is) = λ same. apart (sym is.0 ∙ same ∙ is.1)
apart_by pair live beside apart (inr is) = λ same. apart (sym is.1 ∙ sym same ∙ is.0)

pub live_within : (n : ℕ) (pair : Pair) (live beside : ℕ) → pair.0 < n → pair.1 < n → AreOf pair live beside → live < n
live_within n pair live beside first second (inl is) = subst (λ (b : ℕ). b < n) (sym is.0) first
live_within n pair live beside first second (inr is) = subst (λ (b : ℕ). b < n) (sym is.0) second

pub beside_within : (n : ℕ) (pair : Pair) (live beside : ℕ) → pair.0 < n → pair.1 < n → AreOf pair live beside → beside < n
beside_within n pair live beside first second (inl is) = subst (λ (b : ℕ). b < n) (sym is.1) second
beside_within n pair live beside first second (inr is) = subst (λ (b : ℕ). b < n) (sym is.1) first

-- the part of tags
abbrev pub part_by : Option (List Item) → Option StoredPart
part_by tags = option_and_then complete_part (option_and_then replay tags)

-- what is read of the blocks in either order, the pair holds
pub held_by : (d e : Disk) (pair : Pair) (live beside : ℕ) (block : List ℕ) (o : Option StoredPart) → committed (erased_block d.size) ≡ None
    → AreOf pair live beside → IsWrittenAlone d e live beside block → part_by (live_tags block (erased_block d.size)) ≡ o
    → part_by (live_tags (erased_block d.size) block) ≡ o → stored_part_of e pair ≡ o
held_by d e pair live beside block o none (inl is) h before after =
    let left : List ℕ = left_beside d.size (block_of d beside) in
    let same : live_tags block left ≡ live_tags block (erased_block d.size) =
    first_of (committed block) block left refl (none_left d.size (block_of d beside) (is_silent (block_of d beside)) none refl)
    ∙ sym (first_of (committed block) block (erased_block d.size) refl none) in
    ap (λ (b : List ℕ). part_by (live_tags b (block_of e pair.1))) (ap (block_of e) (sym is.0) ∙ h.here)
    ∙ ap (λ (b : List ℕ). part_by (live_tags block b)) (ap (block_of e) (sym is.1) ∙ h.there) ∙ ap part_by same ∙ before
held_by d e pair live beside block o none (inr is) h before after =
    let left : List ℕ = left_beside d.size (block_of d beside) in
    let same : live_tags left block ≡ live_tags (erased_block d.size) block =
    second_of (committed block) block left refl (none_left d.size (block_of d beside) (is_silent (block_of d beside)) none refl)
    ∙ sym (second_of (committed block) block (erased_block d.size) refl none) in
    ap (λ (b : List ℕ). part_by (live_tags b (block_of e pair.1))) (ap (block_of e) (sym is.1) ∙ h.there)
    ∙ ap (λ (b : List ℕ). part_by (live_tags left b)) (ap (block_of e) (sym is.0) ∙ h.here) ∙ ap part_by same ∙ after

pub alone_by : (d e : Disk) (pair : Pair) (live beside : ℕ) (block : List ℕ) → AreOf pair live beside → IsWrittenAlone d e live beside block
    → IsAlone e pair
alone_by d e pair live beside block (inl is) h =
    inr (subst (SaysNothing e) is.1 (nothing_by d e beside (is_silent (block_of d beside)) h.size h.there refl))
alone_by d e pair live beside block (inr is) h =
    inl (subst (SaysNothing e) is.1 (nothing_by d e beside (is_silent (block_of d beside)) h.size h.there refl))

pub others_by : (d e : Disk) (pair : Pair) (live beside : ℕ) (block : List ℕ) → AreOf pair live beside → IsWrittenAlone d e live beside block
    → (b : ℕ) → b ≢ pair.0 → b ≢ pair.1 → block_of e b ≡ block_of d b
others_by d e pair live beside block (inl is) h b first second = h.others b (λ same. first (same ∙ is.0)) (λ same. second (same ∙ is.1))
others_by d e pair live beside block (inr is) h b first second = h.others b (λ same. second (same ∙ is.0)) (λ same. first (same ∙ is.1))
