-- It keeps what the writer said.
use Rattle.std.proofs.Common.{refl}
use Rattle.lfs_sink.proofs.writer_sink.OutSink.write.Goals as goal

pub returns-in-Err-clause-told : goal.returns-in-Err-clause-told
returns-in-Err-clause-told g c = refl
