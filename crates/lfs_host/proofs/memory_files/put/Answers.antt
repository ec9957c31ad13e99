use Rattle.std.proofs.Common.{string_bytes}
use Rattle.lfs_host.proofs.FileLemmas.{written}
use Rattle.lfs_host.proofs.memory_files.put.Goals as goal

pub returns-clause-written : goal.returns-clause-written
returns-clause-written c =
    let named = written (string_bytes c.in_ok-key.key) c.args.files.now c.insert.new.self c.in_ok-bytes.bytes c.in_ok-insert.ensures.updates in
    rw (c.in_ok-key.ensures.ok, c.in_ok-bytes.ensures.items) at named
