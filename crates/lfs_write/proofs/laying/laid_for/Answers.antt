-- Contents that don't stand in the entry take the blocks.
use Rattle.std.proofs.Common.{◌≡◌, ◌<◌, ◌∙◌, ℕ, Bool, false, [], length, refl, ap, subst, arith}
use Rattle.std.specs.Prelude.{nat_le, if◌then◌else◌}
use Rattle.std.proofs.lemmas.Bool.Decides.{nat_tests}
use Rattle.lfs_file.specs.Capacity.{least_blocks}
use Rattle.lfs_fs.specs.Volume.{Volume}
use Rattle.lfs_command.specs.AskedFor.{OnNames, named_command}
use Rattle.lfs_command.specs.Need.{data_blocks}
use Rattle.lfs_command.specs.Supplies.{inline_limit}
use Rattle.lfs_write.proofs.laying.laid_for.Goals as goal

pub laid-requires-clause-many : goal.laid-requires-clause-many
laid-requires-clause-many g c =
    let size = (g.B.Blocks.disk c.args.image.now).size in
    let v : Volume = record {
      size = size;
      count = 0;
      limits = record { name = 0; file = 0; attribute = 0 };
      attributes = [];
      directories = [];
    } in
    let len = length c.in-Put.bytes.now in
    let many : length c.args.blocks.now ≡ (if nat_le len (inline_limit size c.in-Put.most) then 0 else least_blocks size len) =
    subst (λ (command : OnNames). length c.args.blocks.now ≡ data_blocks v (named_command command)) c.in-Put.is
    (c.requires.many v refl) in
    let same : inline_limit c.size.result c.in-Put.most ≡ inline_limit size c.in-Put.most = ap (λ (n : ℕ). inline_limit n c.in-Put.most) c.size.ensures.value in
    let more : inline_limit size c.in-Put.most < len = omega (arith, c.if-bytes-inline_limit.true, c.inline_limit.ensures, same) in
    let over : nat_le len (inline_limit size c.in-Put.most) ≡ false = grind (arith, nat_tests) in
    many ∙ ap (λ (t : Bool). if t then 0 else least_blocks size len) over
