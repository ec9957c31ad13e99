-- A block put in the place of a pair's live one.
use Rattle.std.proofs.Common.{◌≡◌, ◌≢◌, ℕ, ◌<◌, List, length, ap, ap₂, sym, ◌∙◌}
use Rattle.lfs_block.specs.Disk.{Disk, IsDisk, block_of, put}
use Rattle.lfs_block.specs.PatchLaws.{BlockPut, BlockPutOther}
use Rattle.lfs_tag.specs.Commit.{Item}
use Rattle.lfs_meta.specs.Body.{Pair}
use Rattle.lfs_meta.specs.declared.live_block.LiveBlock.{LiveBlock}
use Rattle.lfs_meta.specs.declared.live_block.LiveBlock.TheVariants.{First, Second, Neither}
use Rattle.lfs_meta.specs.LiveBlock.{live_log, live_tags, tags_of}
use Rattle.lfs_pair.specs.Appending.{IsAppended, IsLiveLonger, first_with}
use Rattle.lfs_pair.specs.Appending.{live_of, number_by, second_with, some_room}

put-live : BlockPut → BlockPutOther → (live : LiveBlock) (d : Disk) (pair : Pair) (new : List ℕ) → IsDisk d → pair.0 ≢ pair.1
    → pair.0 < d.count → pair.1 < d.count → length new ≡ d.size
    → (block_of (put (number_by live pair) new d) pair.0 ≡ first_with live new (block_of d pair.0))
    × (block_of (put (number_by live pair) new d) pair.1 ≡ second_with live new (block_of d pair.1))
put-live this others (First log) d pair new disk apart first second len =
    (this d pair.0 new disk first len, others d pair.0 pair.1 new disk first (λ e. apart (sym e)) len)
put-live this others (Second log) d pair new disk apart first second len =
    (others d pair.1 pair.0 new disk second apart len, this d pair.1 new disk second len)
put-live this others Neither d pair new disk apart first second len =
    (this d pair.0 new disk first len, others d pair.0 pair.1 new disk first (λ e. apart (sym e)) len)

pub pair-appended : BlockPut → BlockPutOther → (d : Disk) (pair : Pair) (ts : List Item) (n : ℕ) (new : List ℕ) → IsDisk d
    → pair.0 ≢ pair.1 → pair.0 < d.count → pair.1 < d.count → length (block_of d pair.0) ≡ d.size
    → IsLiveLonger ts pair (block_of d pair.0) (block_of d pair.1) n new → IsAppended d pair ts n new
pair-appended this others d pair ts n new disk apart first second size h =
    let len : length new ≡ d.size = h.len ∙ size in
    let there = put-live this others (live_of d pair) d pair new disk apart first second len in
    record {
      room = ap (λ (s : ℕ). some_room s (live_log (live_of d pair)) ts) (sym size) ∙ h.room;
      number = h.number;
      bytes = h.bytes;
      len = len;
      held = ap (λ (m : ℕ). tags_of (put m new d) pair) h.number ∙ ap₂ live_tags there.0 there.1 ∙ h.held;
    }
