-- All but the last are those in front of it.
use Rattle.std.proofs.Common.{List, map, subst, sym}
use Rattle.lfs_history.specs.Meaning.{OnBytes, step_of}
use Rattle.lfs_change.specs.KeptPast.{AllButLast}
use Rattle.lfs_change.proofs.TakenBackLemmas.{all_but_last}
use Rattle.lfs_change.proofs.kept_past.fronts_keep_past.Goals as goal

pub returns-in-Some : goal.returns-in-Some
returns-in-Some c = λ keep.
    subst (λ (steps : List OnBytes). AllButLast (map step_of steps)) (sym c.in-Some.ensures.cases.0)
    (all_but_last step_of c.in-Some.fronts.now c.in-Some.field-0-0.now (c.keep_past.ensures.0 keep))
