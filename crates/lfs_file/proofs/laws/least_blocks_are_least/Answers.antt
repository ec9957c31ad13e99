use Rattle.lfs_file.proofs.CapacityLemmas.{least_blocks-is, least_is_one}
use Rattle.lfs_file.proofs.laws.least_blocks_are_least.Goals as goal

pub returns : goal.returns
returns c = record { least = least_blocks-is; one = least_is_one }
