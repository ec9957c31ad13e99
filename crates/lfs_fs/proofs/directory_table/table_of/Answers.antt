use Rattle.std.proofs.Common.{List, subst}
use Rattle.std.proofs.lemmas.List.{take_all}
use Rattle.std.proofs.lemmas.Result.{err_from_is_err_and}
use Rattle.lfs_fs.specs.Directory.{Directory}
use Rattle.lfs_fs.specs.DirectoryTable.{IsTableOf}
use Rattle.lfs_fs.proofs.DirectoryTableLemmas.{taken_more, table_none}
use Rattle.lfs_fs.proofs.directory_table.table_of.Goals as goal

pub loop-index-init : goal.loop-index-init
loop-index-init c = table_none c.new-table.result.entries c.new-table.ensures.empty

pub loop-index-preserved : goal.loop-index-preserved
loop-index-preserved c =
    taken_more c.args.directories.now c.loop-index.index c.index-directories-index.result c.loop-index.table.entries
    c.insert.new.self.entries c.key.result
    c.loop-index-test.true c.index-directories-index.is c.key.ensures c.in_ok-insert.ensures.updates.0 c.loop-index.invariant

pub returns : goal.returns
returns c = subst (λ (ds : List Directory). IsTableOf ds c.loop-index.table.entries)
    (take_all c.loop-index.index c.args.directories.now c.loop-index-test.false) c.loop-index.invariant

pub returns-in_err-insert : goal.returns-in_err-insert
returns-in_err-insert c = rw (err_from_is_err_and c.from_residual.result c.from_residual.ensures.1).1 tt
