-- Where no byte was taken none is counted.
use Rattle.lfs_sink.proofs.writing.write_some.Goals as goal

pub returns-in-Ok-eq0-clause-count : goal.returns-in-Ok-eq0-clause-count
returns-in-Ok-eq0-clause-count g c = tt
