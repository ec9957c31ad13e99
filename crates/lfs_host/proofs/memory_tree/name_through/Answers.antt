use Rattle.std.proofs.Common.{sym, arith}
use Rattle.std.proofs.lemmas.Str.Pattern.{split_once_first}
use Rattle.lfs_host.proofs.MemoryTreeLemmas.{name_is, complete_name}
use Rattle.lfs_host.proofs.memory_tree.name_through.Goals as goal

pub returns-in-Some : goal.returns-in-Some
returns-in-Some c =
    let rest = c.in_ok-rest.rest.now in
    let cut = split_once_first 47 rest c.split_once.result c.split_once.ensures.cases (omega arith) in
    let parts = rw c.in-Some.is at cut in
    name_is c.args.folder.now c.args.file.now rest c.in-Some.name.now c.in_ok-rest.ensures parts.1

pub returns-in-None : goal.returns-in-None
returns-in-None c =
    let rest = c.in_ok-rest.rest.now in
    let cut = split_once_first 47 rest c.split_once.result c.split_once.ensures.cases (omega arith) in
    let complete = rw c.in-None.is at cut in
    name_is c.args.folder.now c.args.file.now rest rest c.in_ok-rest.ensures (sym (complete_name rest complete))
