-- The contents are laid where they don't stand in the entry; else the image is as it was.
use Rattle.std.proofs.Common.{ℕ, ◌<◌, ◌≤◌, length, map, ap, sym, ◌∙◌, arith}
use Rattle.std.proofs.lemmas.List.{length-take-le}
use Rattle.std.proofs.lemmas.Result.{on_ok_weaker}
use Rattle.lfs_command.specs.AskedFor.{named_command}
use Rattle.lfs_command.specs.Supplies.{inline_limit}
use Rattle.lfs_pack.proofs.LaidFor.{enough_at_hand, long_laid, many_blocks, rises_so_far, short_laid}
use Rattle.lfs_pack.proofs.laying.lay_for.Goals as goal

pub slice_bounds-lay_contents-end-in-Put : goal.slice_bounds-lay_contents-end-in-Put
slice_bounds-lay_contents-end-in-Put c =
    let n = c.data_blocks-count.result in
    sym (length-take-le n c.args.blocks.now (enough_at_hand (named_command c.args.command.now) c.args.blocks.now c.args.image.now.disk.size n
    c.requires.enough (λ v same. c.data_blocks-count.ensures v (same ∙ sym c.size-size.ensures.value))))

pub lay_contents-requires-clause-rising : goal.lay_contents-requires-clause-rising
lay_contents-requires-clause-rising c = rises_so_far c.data_blocks-count.result c.args.blocks.now c.requires.rising

pub lay_contents-requires-clause-many : goal.lay_contents-requires-clause-many
lay_contents-requires-clause-many c =
    let n = c.data_blocks-count.result in
    let command = named_command c.args.command.now in
    let long : inline_limit c.args.image.now.disk.size c.in-Put.most < length c.in-Put.bytes.now = omega
    (arith, c.if-bytes-inline_limit.true, c.inline_limit.ensures, ap (λ (n : ℕ). inline_limit n c.in-Put.most) c.size-size.ensures.value) in
    length-take-le n c.args.blocks.now (enough_at_hand command c.args.blocks.now c.args.image.now.disk.size n c.requires.enough
    (λ v same. c.data_blocks-count.ensures v (same ∙ sym c.size-size.ensures.value)))
    ∙ many_blocks command (map (λ n. n.now) c.in-Put.path.items) c.in-Put.bytes.now c.in-Put.most c.args.image.now.disk.size n
    (ap named_command c.in-Put.is) long (λ v same. c.data_blocks-count.ensures v (same ∙ sym c.size-size.ensures.value))

pub returns-in_default : goal.returns-in_default
returns-in_default c =
    let short : length c.in-Put.bytes.now ≤ inline_limit c.args.image.now.disk.size c.in-Put.most = omega
    (arith, c.if-bytes-inline_limit.false, c.inline_limit.ensures, ap (λ (n : ℕ). inline_limit n c.in-Put.most) c.size-size.ensures.value) in
    record {
      laid = λ v s same taken. (short_laid (named_command c.args.command.now) (map (λ n. n.now) c.in-Put.path.items) c.in-Put.bytes.now c.in-Put.most
          c.args.image.now.disk v s c.size-size.ensures.disk (ap named_command c.in-Put.is) short same).laid;
      others = λ v s same taken. (short_laid (named_command c.args.command.now) (map (λ n. n.now) c.in-Put.path.items) c.in-Put.bytes.now c.in-Put.most
          c.args.image.now.disk v s c.size-size.ensures.disk (ap named_command c.in-Put.is) short same).others;
    }

pub returns-in-Put-clause-laid : goal.returns-in-Put-clause-laid
returns-in-Put-clause-laid c =
    let n = c.data_blocks-count.result in
    let command = named_command c.args.command.now in
    let long : inline_limit c.args.image.now.disk.size c.in-Put.most < length c.in-Put.bytes.now = omega
    (arith, c.if-bytes-inline_limit.true, c.inline_limit.ensures, ap (λ (n : ℕ). inline_limit n c.in-Put.most) c.size-size.ensures.value) in
    on_ok_weaker c.lay_contents.result
    (λ laid v s same taken. (long_laid command (map (λ n. n.now) c.in-Put.path.items) c.in-Put.bytes.now c.args.blocks.now c.in-Put.most n
    c.args.image.now.disk c.lay_contents.new.image.disk v s (ap named_command c.in-Put.is) long
    (λ x even. c.data_blocks-count.ensures x (even ∙ sym c.size-size.ensures.value)) same taken laid c.lay_contents.ensures.others).laid)
    c.lay_contents.ensures.laid

pub returns-in-Put-clause-others : goal.returns-in-Put-clause-others
returns-in-Put-clause-others c =
    let n = c.data_blocks-count.result in
    let command = named_command c.args.command.now in
    let long : inline_limit c.args.image.now.disk.size c.in-Put.most < length c.in-Put.bytes.now = omega
    (arith, c.if-bytes-inline_limit.true, c.inline_limit.ensures, ap (λ (n : ℕ). inline_limit n c.in-Put.most) c.size-size.ensures.value) in
    on_ok_weaker c.lay_contents.result
    (λ laid v s same taken. (long_laid command (map (λ n. n.now) c.in-Put.path.items) c.in-Put.bytes.now c.args.blocks.now c.in-Put.most n
    c.args.image.now.disk c.lay_contents.new.image.disk v s (ap named_command c.in-Put.is) long
    (λ x even. c.data_blocks-count.ensures x (even ∙ sym c.size-size.ensures.value)) same taken laid c.lay_contents.ensures.others).others)
    c.lay_contents.ensures.laid
