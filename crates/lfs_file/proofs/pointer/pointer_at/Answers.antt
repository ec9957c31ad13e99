use Rattle.std.proofs.Common.{◌∙◌}
use Rattle.std.proofs.lemmas.List.{take_rest}
use Rattle.lfs_file.proofs.PointerLemmas.{pointer-is}
use Rattle.lfs_file.proofs.pointer.pointer_at.Goals as goal

pub returns : goal.returns
returns c = rw take_rest at c.read_u32.ensures ∙ pointer-is c.args.block.now c.args.i
