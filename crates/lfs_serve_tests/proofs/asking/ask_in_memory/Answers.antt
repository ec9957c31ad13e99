use Rattle.lfs_host.specs.MemoryFiles.{files_of}
use Rattle.std.proofs.lemmas.Option.{same_Some}
use Rattle.lfs_serve_tests.proofs.AskingLemmas.{asking_in_range, asking_keeps}
use Rattle.lfs_serve_tests.proofs.asking.ask_in_memory.Goals as goal

pub served-requires : goal.served-requires
served-requires c = asking_in_range c.args.request.now.operation c.requires

pub returns : goal.returns
returns c = record {
  kept = same_Some (files_of c.served.new.host.files) (files_of c.args.host.now.files)
      (asking_keeps c.args.request.now _ _ c.served.result c.requires c.served.ensures.ended);
}
