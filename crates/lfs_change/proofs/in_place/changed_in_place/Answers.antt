-- What is answered on an image is answered on its bytes.
use Rattle.std.proofs.Common.{map}
use Rattle.lfs_history.specs.Meaning.{step_of}
use Rattle.lfs_change.proofs.ChangeLemmas.{change_answers}
use Rattle.lfs_change.proofs.in_place.changed_in_place.Goals as goal

pub returns-in-Ok-clause-answers : goal.returns-in-Ok-clause-answers
returns-in-Ok-clause-answers c =
    change_answers (map step_of c.args.steps.now) c.args.size c.args.image.items c.args.journal.items c.in-Ok.image.disk
    c.image_changed.result c.in-Ok.ensures.disk c.in-Ok.ensures.size c.in-Ok.ensures.bytes c.image_changed.ensures.answers
