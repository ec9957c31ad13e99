use Rattle.std.proofs.Common.{ap, ◌∙◌}
use Rattle.lfs_host.specs.MemoryFiles.{files_of}
use Rattle.lfs_host.proofs.memory_host.MemoryHostHost.write.Goals as goal

pub returns-in-Err-clause-files : goal.returns-in-Err-clause-files
returns-in-Err-clause-files g c name apart =
    ap (λ files. files name) c.in-Err.ensures.kept ∙ ap (λ files. files_of files name) c.in_ok-must_work.ensures.files
