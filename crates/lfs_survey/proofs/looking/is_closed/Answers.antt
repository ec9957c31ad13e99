-- Behind the table's end nothing is open.
use Rattle.std.proofs.Common.{true, false, sym, ◌∙◌}
use Rattle.std.proofs.lemmas.Bool.{le-leb}
use Rattle.std.proofs.lemmas.List.{get_or_default, get_or_past}
use Rattle.lfs_survey.proofs.looking.is_closed.Goals as goal

pub returns-then-index-looked : goal.returns-then-index-looked
returns-then-index-looked c =
    le-leb _ _ c.if-index-looked.true ∙ sym (get_or_past c.args.looked.now c.args.block true c.if-index-looked.true)

pub returns-else-index-looked : goal.returns-else-index-looked
returns-else-index-looked c = get_or_default c.args.looked.now c.args.block false true c.if-index-looked.false
