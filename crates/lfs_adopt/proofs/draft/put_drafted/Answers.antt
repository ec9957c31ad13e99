-- One more new block is put, or a block stays.
use Rattle.std.proofs.Common.{arith, ◌<◌, List, ℕ, length, ap, sym, ◌∙◌, subst}
use Rattle.std.specs.Prelude.{None, Some}
use Rattle.std.proofs.lemmas.List.{get_or_read_under}
use Rattle.lfs_block.specs.Disk.{Disk, put}
use Rattle.lfs_block.specs.Medium.{Medium}
use Rattle.lfs_adopt.specs.Draft.{Drafted, IsNewBlock}
use Rattle.lfs_adopt.proofs.Drafts.{each_at, next_put, so_far_count, so_far_size}
use Rattle.lfs_adopt.proofs.draft.put_drafted.Goals as goal
use Rattle.lfs_adopt.proofs.draft.put_drafted.Goals.{in-Some, in_default}

pub write_block-requires-clause-within : goal.write_block-requires-clause-within
write_block-requires-clause-within c =
    let f : Drafted = record { base = c.args.image.now.disk; blocks = c.args.blocks.now } in
    let now = ap (λ (d : Disk). d.count) c.loop-number.invariant.disk ∙ so_far_count f c.loop-number.number in
    omega (arith, c.loop-number-test.true, c.count-number-end.ensures, now)

pub write_block-requires-clause-complete : goal.write_block-requires-clause-complete
write_block-requires-clause-complete c =
    let f : Drafted = record { base = c.args.image.now.disk; blocks = c.args.blocks.now } in
    let now = ap (λ (d : Disk). d.size) c.loop-number.invariant.disk ∙ so_far_size f c.loop-number.number in
    let within : c.loop-number.number < f.base.count = omega (arith, c.loop-number-test.true, c.count-number-end.ensures) in
    let there = get_or_read_under f.blocks c.loop-number.number f.base.count c.index-blocks-number.result None c.index-blocks-number.is within
    (sym c.requires.len) in
    let new : IsNewBlock f.base.size (Some c.in-Some.block) =
    subst (IsNewBlock f.base.size) (sym there ∙ c.in-Some.is)
    (each_at f.base.size f.blocks c.loop-number.number c.requires.each) in
    ap length (c.deref.ensures.value ∙ c.block.view_is) ∙ new.0 ∙ sym now

pub loop-number-preserved : goal.loop-number-preserved
loop-number-preserved c =
    let f : Drafted = record { base = c.args.image.now.disk; blocks = c.args.blocks.now } in
    let n : ℕ = c.loop-number.number in
    let within : n < length f.blocks = omega (arith, c.loop-number-test.true, c.count-number-end.ensures, c.requires.len) in
    let below : n < f.base.count = omega (arith, c.loop-number-test.true, c.count-number-end.ensures) in
    let there = get_or_read_under f.blocks n f.base.count c.index-blocks-number.result None c.index-blocks-number.is below (sym c.requires.len) in
    elim c.match-blocks-number.branch [
      | in-Some w ↦ record {
        disk = ap (λ (m : Medium). m.disk) w.image-is ∙ w.write_block.ensures.disk
            ∙ ap (λ (bytes : List ℕ). put n bytes c.loop-number.image.disk) (w.deref.ensures.value ∙ w.block.view_is)
            ∙ ap (put n w.in-Some.block) c.loop-number.invariant.disk
            ∙ sym (next_put f n (Some w.in-Some.block) within (sym there ∙ w.in-Some.is));
        room = ap (λ (m : Medium). m.room) w.image-is ∙ w.write_block.ensures.room ∙ c.loop-number.invariant.room;
      }
      | in_default w ↦ record {
        disk = ap (λ (m : Medium). m.disk) w.image-is ∙ c.loop-number.invariant.disk
            ∙ sym (next_put f n None within (sym there ∙ w.in_default.is));
        room = ap (λ (m : Medium). m.room) w.image-is ∙ c.loop-number.invariant.room;
      }
    ]
