-- The block is all that was written, and it is read back.
use Rattle.std.proofs.Common.{◌≡◌, ℕ, length, arith, ap, subst, ◌∙◌, rules}
use Rattle.std.specs.Prelude.{replicate}
use Rattle.std.proofs.lemmas.List.{length-replicate}
use Rattle.lfs_block.specs.Bytes.{IsBytes}
use Rattle.lfs_tag.specs.Writing.{items}
use Rattle.lfs_meta.specs.LiveBlock.{committed}
use Rattle.lfs_pair.specs.Writing.{log_written}
use Rattle.lfs_pair.proofs.LogLemmas.{written-committed, written_complete}
use Rattle.lfs_pair.proofs.writing.block_with.Goals as goal

pub returns : goal.returns
returns c =
    let erased : c.in_ok-block.block.items ≡ replicate c.args.size 255 = search rules in
    let old : c.deref_mut.result.now ≡ replicate c.args.size 255 = c.deref_mut.ensures.value ∙ erased in
    let is : c.write_log.new.block ≡ log_written c.args.number (items c.args.edits.now) (replicate c.args.size 255) =
    c.write_log.ensures.written ∙ ap (log_written c.args.number (items c.args.edits.now)) old in
    let now =
    written_complete c.in_ok-block.block.len c.write_log.new.block c.in_ok-block.block.items
    (omega (arith, c.in_ok-block.ensures.len, c.write_log.auto.block, ap length old, length-replicate {A = ℕ} c.args.size 255)) in
    record {
      bytes = now ∙ is;
      len = search rules;
      numbered = search rules;
      held =
          ap committed (now ∙ is)
          ∙ written-committed c.first_commit.ensures c.log_is_read.ensures c.written_length.ensures c.args.number c.args.size
          (items c.args.edits.now)
          c.requires c.write_log.ensures.commit (subst IsBytes is c.write_log.ensures.bytes);
    }
