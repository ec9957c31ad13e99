-- What is written is a part's tags, which fit where the weights leave room.
use Rattle.std.proofs.Common.{◌≡◌, ◌≤◌, ap, sym, ◌∙◌, subst, arith, List}
use Rattle.lfs_tag.specs.Commit.{Item}
use Rattle.lfs_tag.specs.Writing.{items, committed_end}
use Rattle.lfs_meta.specs.Part.{StoredPart}
use Rattle.lfs_pair.specs.Spelling.{part_tags}
use Rattle.std.specs.Prelude.{IfOk}
use Rattle.lfs_pair.specs.Writing.{IsWritten}
use Rattle.lfs_pair.proofs.WeighingLemmas.{weights-fit}
use Rattle.lfs_pair.proofs.writing.written.Goals as goal

pub block_with-requires : goal.block_with-requires
block_with-requires c =
    let p : StoredPart = record { entries = c.args.entries.now; tail = c.args.tail; delta = c.args.delta.now } in
    let is : items c.deref.result.now ≡ part_tags p = ap items c.deref.ensures.value ∙ c.in_ok-edits.ensures.tags in
    subst (λ (ts : List Item). committed_end 4 ts ≤ c.args.size) (sym is)
    (weights-fit p c.args.size c.requires.size (omega arith) c.requires.room)

pub returns-clause-written : goal.returns-clause-written
returns-clause-written c =
    let p : StoredPart = record { entries = c.args.entries.now; tail = c.args.tail; delta = c.args.delta.now } in
    let is : items c.deref.result.now ≡ part_tags p = ap items c.deref.ensures.value ∙ c.in_ok-edits.ensures.tags in
    subst (λ (ts : List Item). IfOk c.block_with.result (λ block. IsWritten c.args.size c.args.number ts block.items)) is
    c.block_with.ensures
