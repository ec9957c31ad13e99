use Rattle.std.proofs.Common.{ℕ, ap, length, sym, ◌∙◌}
use Rattle.std.specs.Prelude.{nat_le, if◌then◌else◌}
use Rattle.lfs_file.specs.Capacity.{least_blocks}
use Rattle.lfs_command.specs.AskedFor.{OnNames, named_command}
use Rattle.lfs_command.specs.Need.{data_blocks}
use Rattle.lfs_command.specs.Supplies.{inline_limit}
use Rattle.lfs_command.proofs.made_blocks.data_blocks.Goals as goal

pub returns-in-Put : goal.returns-in-Put
returns-in-Put c = λ v size.
    let len = length c.in-Put.bytes.now in
    c.data_count.ensures
    ∙ ap (λ (n : ℕ). if nat_le len (inline_limit n c.in-Put.most) then 0 else least_blocks n len) (sym size)
    ∙ ap (λ (command : OnNames). data_blocks v (named_command command)) (sym c.in-Put.is)
