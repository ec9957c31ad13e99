use Rattle.std.proofs.Common.{◌+◌, ◌++◌, ℕ, List, ap, ◌∙◌, arith}
use Rattle.std.specs.Int.{w32, to_be_bytes}
use Rattle.lfs_block.specs.Disk.{put_at}
use Rattle.lfs_tag.specs.EditData.{data_bytes}
use Rattle.lfs_tag.proofs.Puts.{put_at-then}
use Rattle.lfs_tag.proofs.writing.put_edit.Goals as goal

pub returns-clause-written : goal.returns-clause-written
returns-clause-written c =
    let word : List ℕ = to_be_bytes w32 c.encode.result in
    let bytes : List ℕ = data_bytes c.args.edit.content in
    c.put.ensures
    ∙ ap (λ (b : List ℕ). put_at (c.args.at + 4) b c.put_big_word.new.block) c.as_bytes-bytes.ensures
    ∙ ap (put_at (c.args.at + 4) bytes) c.put_big_word.ensures
    ∙ put_at-then c.args.at (c.args.at + 4) word bytes c.args.block.now (omega arith) (omega (arith, c.requires))
    ∙ ap (λ (w : ℕ). put_at c.args.at (to_be_bytes w32 w ++ bytes) c.args.block.now) c.encode.ensures
