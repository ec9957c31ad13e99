-- Where the directory stands says how many are in front.
use Rattle.std.proofs.Common.{map, ap, sym, ◌∙◌, Bor}
use Rattle.std.specs.List.{position}
use Rattle.lfs_meta.specs.Name.{Name}
use Rattle.lfs_fs.specs.Directory.{begins_at}
use Rattle.lfs_fs.specs.Volume.{Volume}
use Rattle.lfs_draft.proofs.FrontLemmas.{front_at, front_nowhere, front_without}
use Rattle.lfs_draft.proofs.front.front_of.Goals as goal

pub returns-in_default : goal.returns-in_default
returns-in_default c =
    front_without c.args.outline.now (map (λ (n : Bor Name). n.now) c.args.path.now) c.in_default.ensures.none

pub returns-in-Some : goal.returns-in-Some
returns-in-Some c =
    front_at c.args.outline.now (map (λ (n : Bor Name). n.now) c.args.path.now) c.in-Ok.parent.pair c.in-Ok.parent.name.now c.in-Some.at
    c.in-Ok.ensures.parent
    (ap (position (begins_at c.in-Ok.parent.pair)) (sym (c.deref.ensures.value ∙ ap (λ (v : Volume). v.directories) c.outline.view_is))
    ∙ sym c.directory_of.ensures ∙ c.in-Some.is)
    c.requires.once

pub returns-in-None : goal.returns-in-None
returns-in-None c =
    front_nowhere c.args.outline.now (map (λ (n : Bor Name). n.now) c.args.path.now) c.in-Ok.parent.pair c.in-Ok.parent.name.now
    c.in-Ok.ensures.parent
    (ap (position (begins_at c.in-Ok.parent.pair)) (sym (c.deref.ensures.value ∙ ap (λ (v : Volume). v.directories) c.outline.view_is))
    ∙ sym c.directory_of.ensures ∙ c.in-None.is)
