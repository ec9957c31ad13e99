-- A name in an image without a zero byte.
use Rattle.std.proofs.Common.{rules}
use Rattle.lfs_extract.proofs.host_names.is_host_name.Goals as goal

pub returns-then-is_name : goal.returns-then-is_name
returns-then-is_name c = search rules
