-- What a command sets parts of stands in front.
use Rattle.std.proofs.Common.{length, map, ap, subst, ◌∙◌, Bor}
use Rattle.lfs_meta.specs.Name.{Name}
use Rattle.lfs_fs.specs.Path.{Path}
use Rattle.lfs_fs.specs.Volume.{Volume}
use Rattle.lfs_draft.specs.Front.{IsFrontOf}
use Rattle.lfs_draft.proofs.FrontLemmas.{any_front, one_front}
use Rattle.lfs_draft.proofs.SaidPaths.{no_path_grows, some_path}
use Rattle.lfs_draft.proofs.front.count_in_front.Goals as goal

pub returns-in-Some : goal.returns-in-Some
returns-in-Some c s clean =
    one_front c.args.outline.now c.args.command.now c.front_of.result c.in_default.not-Rm c.in_default.not-Mv c.in_default.not-Grow
    (subst (λ (path : Path). IsFrontOf c.args.outline.now path c.front_of.result)
    (ap (map (λ (n : Bor Name). n.now)) c.deref.ensures.value ∙ some_path c.args.command.now c.path.result c.in-Some.path c.path.ensures c.in-Some.is)
    c.front_of.ensures) s clean

pub returns-in-None : goal.returns-in-None
returns-in-None c s clean =
    absurd (no_path_grows c.args.command.now c.path.result c.path.ensures c.in-None.is c.in_default.not-Grow)

pub returns-in-Rm : goal.returns-in-Rm
returns-in-Rm c s clean =
    any_front c.args.outline.now c.args.command.now c.len-in-Rm.result
    (c.len-in-Rm.ensures ∙ c.outline.inside.directories.ok.0 ∙ ap (λ (v : Volume). length v.directories) c.outline.view_is) c.in-Rm.is s
