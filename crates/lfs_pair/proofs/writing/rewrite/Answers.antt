-- The block that is put is the live one, and its tags are the part.
use Rattle.std.proofs.Common.{◌≡◌, ◌<◌, ◌^◌, ℕ, List, Some, length, sym, ◌∙◌, subst, rules}
use Rattle.lfs_block.specs.Disk.{Disk, put, block_of}
use Rattle.lfs_meta.specs.LiveBlock.{tags_of, stored_part_of}
use Rattle.lfs_meta.specs.Part.{StoredPart}
use Rattle.lfs_pair.specs.Spelling.{part_tags}
use Rattle.lfs_pair.specs.Writing.{stored_part, other_number}
use Rattle.lfs_pair.proofs.LiveAfter.{rewritten-tags, read-back}
use Rattle.lfs_pair.proofs.writing.rewrite.Goals as goal

pub returns : goal.returns
returns g c =
    let d : Disk = g.B.Blocks.disk c.args.blocks.now in
    let p : StoredPart = stored_part c.args.entries.now c.args.tail c.args.delta in
    let new : List ℕ = c.in_ok-bytes.bytes.items in
    let at : ℕ = c.other_block-number.result.0 in
    let live : ℕ = c.other_block-number.result.1 in
    let twelve : length c.args.delta ≡ 12 = search rules in
    let small : live < 2 ^ 32 = search rules in
    let tags : tags_of (put (other_number d c.args.pair) new d) c.args.pair ≡ Some (part_tags p) =
    rewritten-tags c.put_blocks_stand.ensures.block c.put_blocks_stand.ensures.others d c.args.pair new
    (part_tags p) live c.size-size.ensures.disk c.requires.apart c.requires.first c.requires.second
    (c.in_ok-bytes.ensures.written.len ∙ c.size-size.ensures.value) c.in_ok-bytes.ensures.written.held small
    (sym c.other_block-number.ensures.revision) c.in_ok-bytes.ensures.written.numbered in
    let size = c.size-size.ensures.value in
    record {
      number = c.other_block-number.ensures.number;
      bytes = search rules;
      len = c.in_ok-bytes.ensures.written.len ∙ size;
      reads_back =
          subst (λ (n : ℕ). stored_part_of (put n new d) c.args.pair ≡ Some p) (sym c.other_block-number.ensures.number)
          (read-back c.written_parts_replay.ensures.replay c.written_parts_replay.ensures.complete p
          (block_of (put (other_number d c.args.pair) new d) c.args.pair.0)
          (block_of (put (other_number d c.args.pair) new d) c.args.pair.1)
          c.in_ok-bytes.ensures.fits c.requires.few c.requires.tail twelve c.requires.complete tags);
    }
