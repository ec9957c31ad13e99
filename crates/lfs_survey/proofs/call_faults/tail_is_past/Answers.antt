-- The pair of a soft tail decides it.
use Rattle.std.proofs.Common.{ap, sym, ◌∙◌}
use Rattle.lfs_meta.specs.Body.{Pair}
use Rattle.lfs_meta.specs.Part.{StoredPart}
use Rattle.lfs_survey.specs.Survey.{found_tail, soft_tail}
use Rattle.lfs_survey.specs.declared.found.Found.TheVariants.{Part}
use Rattle.lfs_survey.proofs.AllPlacesLemmas.{tail_past}
use Rattle.lfs_survey.proofs.call_faults.tail_is_past.Goals as goal

pub returns-in-Soft : goal.returns-in-Soft
returns-in-Soft c =
    tail_past c.args.count c.args.found.now (c.in-Soft.first, c.in-Soft.second) c.is_past.result
    (ap found_tail c.in-Part.is ∙ ap (λ (p : Pair × StoredPart). found_tail (Part p)) (sym c.part.view_is) ∙ ap soft_tail c.in-Soft.is)
    c.is_past.ensures
