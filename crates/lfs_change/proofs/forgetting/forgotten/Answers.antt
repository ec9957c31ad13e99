-- What is answered on an image is answered on its bytes.
use Rattle.lfs_change.proofs.ForgettingLemmas.{forgetting_answers}
use Rattle.lfs_change.proofs.forgetting.forgotten.Goals as goal

pub returns-in-Ok-clause-answers : goal.returns-in-Ok-clause-answers
returns-in-Ok-clause-answers c =
    forgetting_answers c.args.size c.args.image.items c.args.journal.items c.in-Ok.image.disk c.image_forgotten.result c.in-Ok.ensures.size
    c.in-Ok.ensures.bytes c.image_forgotten.ensures.answers
