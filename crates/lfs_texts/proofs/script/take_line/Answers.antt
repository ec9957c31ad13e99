-- A line that isn't passed over stands behind the rest, with its words.
use Rattle.std.proofs.Common.{refl, sym, inr}
use Rattle.lfs_texts.proofs.script.take_line.Goals as goal

pub returns-clause-taken : goal.returns-clause-taken
returns-clause-taken c = inr (sym c.if-is_passed_over.ensures, (_, (refl, refl, c.in_ok-words.ensures.words), c.in_ok-push.ensures.items))
