-- The last part decides.
use Rattle.std.proofs.Common.{ap, sym, ◌∙◌}
use Rattle.std.specs.Option.{option_copied}
use Rattle.lfs_fs.specs.Gathering.{PairPart}
use Rattle.lfs_fs.specs.Thread.{is_hard}
use Rattle.lfs_adopt.proofs.Filled.{last_is_hard, none_is_hard}
use Rattle.lfs_adopt.proofs.tidied_parts.ends_hard.Goals as goal

pub returns-in-Some : goal.returns-in-Some
returns-in-Some c =
    c.is_hard.ensures
    ∙ ap (λ (p : PairPart). is_hard p.1.tail) c.part.view_is
    ∙ last_is_hard c.args.parts.now c.in-Some.part.now (sym c.last.ensures.value ∙ ap option_copied c.in-Some.is)

pub returns-in-None : goal.returns-in-None
returns-in-None c = none_is_hard c.args.parts.now (sym c.last.ensures.value ∙ ap option_copied c.in-None.is)
