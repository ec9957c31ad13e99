use Rattle.std.proofs.Common.{◌≡◌, ◌<◌, ◌+◌, length, drop, get_or, ℕ, List, [], ◌∷◌, ap, sym, subst, ◌∙◌, arith}
use Rattle.std.proofs.lemmas.List.{at_drop_more, at_drop_all}
use Rattle.lfs_tag.specs.declared.edit.Edit.{Edit}
use Rattle.lfs_block.specs.Disk.{put_at}
use Rattle.lfs_tag.specs.Commit.{Item, tags_bytes, last_word}
use Rattle.lfs_tag.specs.Writing.{item_of, items, tags_len}
use Rattle.lfs_tag.proofs.Puts.{EditsLoop, EditsLoop-more, EditsLoop-last}
use Rattle.lfs_tag.proofs.writing.put_edits.Goals as goal

next_edit : (edits : List Edit) (i : ℕ) (edit : Edit) → i < length edits → edit ≡ get_or edits i edit
    → items (drop i edits) ≡ item_of edit ∷ items (drop (i + 1) edits)
next_edit edits i edit lt is = at_drop_more items edits i edit lt ∙ ap (λ (e : Edit). item_of e ∷ items (drop (i + 1) edits)) (sym is)

pub loop-edit-preserved : goal.loop-edit-preserved
loop-edit-preserved c =
    let lt : c.loop-edit.edit-index < length c.args.edits.now = omega arith in
    let split = next_edit c.args.edits.now c.loop-edit.edit-index c.edit-item.result lt c.edit-item.is in
    let before = subst (λ (ts : List Item). EditsLoop c.args.at c.args.prev
    (items c.args.edits.now) c.args.block.now c.loop-edit.place c.loop-edit.last ts c.loop-edit.block) split c.loop-edit.invariant in
    subst (λ (w : ℕ). EditsLoop c.args.at c.args.prev (items c.args.edits.now) c.args.block.now c.put_edit-place.result w
    (items (drop (c.loop-edit.edit-index + 1) c.args.edits.now)) c.put_edit-place.new.block)
    (sym c.word-last.ensures)
    (EditsLoop-more c.args.at c.args.prev (items c.args.edits.now) c.args.block.now c.loop-edit.place c.loop-edit.last
    (item_of c.edit-item.result) (items (drop (c.loop-edit.edit-index + 1) c.args.edits.now)) c.loop-edit.block
    c.put_edit-place.result c.put_edit-place.new.block c.requires before c.put_edit-place.ensures.end c.put_edit-place.ensures.written)

done : (c : goal.After-loop-edit) → (c.loop-edit.block ≡ put_at c.args.at
    (tags_bytes c.args.prev (items c.args.edits.now)) c.args.block.now)
    × (c.loop-edit.place ≡ c.args.at + tags_len (items c.args.edits.now))
    × (c.loop-edit.last ≡ last_word c.args.prev (items c.args.edits.now))
done c =
    let all : items (drop c.loop-edit.edit-index c.args.edits.now) ≡ [] =
    at_drop_all items c.args.edits.now c.loop-edit.edit-index (omega arith) in
    EditsLoop-last c.args.at c.args.prev (items c.args.edits.now) c.args.block.now c.loop-edit.place c.loop-edit.last c.loop-edit.block
    (subst (λ (ts : List Item). EditsLoop c.args.at c.args.prev (items c.args.edits.now) c.args.block.now c.loop-edit.place c.loop-edit.last
    ts c.loop-edit.block) all c.loop-edit.invariant)

pub returns-clause-written : goal.returns-clause-written
returns-clause-written c = (done c).0

pub returns-clause-last : goal.returns-clause-last
returns-clause-last c = (done c).2
