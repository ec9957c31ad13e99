-- UTF-8 or not.
use Rattle.std.proofs.Common.{sym}
use Rattle.lfs_salvage.proofs.WordLemmas.{is_not_own, is_own}
use Rattle.lfs_salvage.proofs.words.own_word.Goals as goal

pub returns-in-Ok : goal.returns-in-Ok
returns-in-Ok c = let h = c.in-Ok.ensures.cases in (is_own c.args.name.now (sym c.if-not-is_host_name.ensures) h.1, h.0)

pub returns-in-Err : goal.returns-in-Err
returns-in-Err c = let h = c.in-Err.ensures.cases in is_not_own c.args.name.now h.0
