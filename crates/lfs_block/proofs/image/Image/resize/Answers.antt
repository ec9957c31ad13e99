-- What is added is erased.
use Rattle.std.proofs.Common.{◌≡◌, ℕ, ◌*◌, ◌-◌, List, ◌++◌, length, replicate, take, ap, ◌∙◌, rules}
use Rattle.lfs_block.specs.Disk.{resized}
use Rattle.lfs_block.specs.Medium.{Medium}
use Rattle.lfs_block.proofs.image.Image.resize.Goals as goal

pub returns-clause-disk : goal.returns-clause-disk
returns-clause-disk c =
    let here = c.self.inside in
    let most : ℕ = c.args.count * here.size in
    let filled : c.resize-filled.new.self.items ≡ take most here.bytes.items ++ replicate (most - length here.bytes.items) 0xff =
    search rules in
    ap (λ (bytes : List ℕ). record { size = here.size; count = c.args.count; bytes = bytes }) filled
    ∙ ap (λ (m : Medium). resized c.args.count m.disk) c.self.view_is
