use Rattle.std.proofs.Common.{List, ap, ◌∙◌}
use Rattle.lfs_fs.specs.Directory.{Directory}
use Rattle.lfs_command.specs.Edited.{set_count}
use Rattle.lfs_draft.proofs.editing.grow.Goals as goal

pub returns : goal.returns
returns c =
    let outline = c.outline.inside in
    ap (λ (ds : List Directory). record {
      size = outline.size;
      count = c.args.count;
      limits = outline.limits;
      attributes = outline.attributes.items;
      directories = ds;
    }) c.touch_first.ensures ∙ ap (set_count c.args.count) c.outline.view_is
