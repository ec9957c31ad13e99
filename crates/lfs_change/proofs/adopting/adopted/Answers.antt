-- The image that is taken over is mounted.
use Rattle.std.proofs.lemmas.Result.{err_from_is_err_and}
use Rattle.lfs_adopt.specs.Draft.{drafted}
use Rattle.lfs_change.proofs.AdoptingLemmas.{adopts, adopts_none}
use Rattle.lfs_change.proofs.adopting.adopted.Goals as goal

pub returns-in_err-mounted-clause-refused : goal.returns-in_err-mounted-clause-refused
returns-in_err-mounted-clause-refused c =
    let p = err_from_is_err_and c.from_residual-in_err-mounted.result c.from_residual-in_err-mounted.ensures.1 in
    rw (p.1, p.2) (adopts_none c.in_err-mounted.field-0.0 c.args.image.now.disk (drafted c.in_ok-draft.field-0.draft) c.in_ok-draft.ensures.image
    c.in_err-mounted.ensures.refused)

pub returns-clause-adopted : goal.returns-clause-adopted
returns-clause-adopted c =
    let draft = c.in_ok-draft.field-0.draft in
    adopts c.args.image.now.disk draft _ c.in_ok-mounted.mounted c.in_ok-draft.ensures.base c.into_blocks.ensures.blocks
    c.into_blocks.ensures.draft c.in_ok-draft.ensures.image c.in_ok-mounted.ensures.mounted c.in_ok-draft.ensures.changed
