-- The image that is read there is judged.
use Rattle.lfs_find.proofs.FoundLemmas.{found_there, image_is}
use Rattle.lfs_find.proofs.judging.found_at.Goals as goal

pub returns-in-Ok-clause-found : goal.returns-in-Ok-clause-found
returns-in-Ok-clause-found c =
    let made = c.in-Ok.ensures in
    let told = c.found_image.ensures in
    found_there c.args.bytes.now c.args.place c.in_ok-image.image.items c.in-Ok.image.disk c.found_image.result c.in_ok-image.ensures
    (image_is c.in-Ok.image.disk c.args.place.size c.in_ok-image.image.items made.disk made.size made.bytes)
    told.place told.verdict
