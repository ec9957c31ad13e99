use Rattle.std.proofs.Common.{map}
use Rattle.clap.specs.Words.{app_of}
use Rattle.lfs_grammar.proofs.FaultlessCommands.{matched_err, matched_ok}
use Rattle.lfs_grammar.proofs.reading.matched.Goals as goal

pub returns-clause-taken : goal.returns-clause-taken
returns-clause-taken g c =
    let parse = c.try_get_matches_from in
    matched_ok (app_of c.in_ok-command_line.field-0) (map g.W.AsStr.text c.args.words.now) parse.result
    c.in_ok-command_line.ensures.grammar parse.ensures.matches parse.ensures.kinds

pub returns-clause-refused : goal.returns-clause-refused
returns-clause-refused g c =
    let parse = c.try_get_matches_from in
    matched_err (app_of c.in_ok-command_line.field-0) (map g.W.AsStr.text c.args.words.now) parse.result
    c.in_ok-command_line.ensures.grammar parse.ensures.kinds
