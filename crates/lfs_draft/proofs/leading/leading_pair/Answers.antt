-- The names of the directory rise.
use Rattle.std.proofs.Common.{ap, subst, sym, ◌∙◌}
use Rattle.lfs_fs.specs.Volume.{Volume}
use Rattle.lfs_draft.specs.Editable.{NamesRise}
use Rattle.lfs_draft.proofs.LastNames.{rises_there}
use Rattle.lfs_draft.proofs.leading.leading_pair.Goals as goal

pub pair_in-requires : goal.pair_in-requires
pair_in-requires c =
    rises_there c.in_ok-parent.parent.pair c.deref-2.result.now c.in_ok-directory.directory.now
    (subst NamesRise (sym (c.deref-2.ensures.value ∙ ap (λ (v : Volume). v.directories) c.outline.view_is)) c.requires.order) c.in_ok-directory.ensures
