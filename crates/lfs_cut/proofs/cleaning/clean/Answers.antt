-- Directories behind have no marks.
use Rattle.std.proofs.Common.{List, ap, sym, ◌∙◌, subst}
use Rattle.lfs_fs.specs.Directory.{Directory}
use Rattle.lfs_fs.specs.Volume.{Volume}
use Rattle.lfs_command.specs.Clean.{clean}
use Rattle.lfs_cut.specs.Front.{IsCleanFrom}
use Rattle.lfs_cut.proofs.FrontLemmas.{cleaned_in_front}
use Rattle.lfs_cut.proofs.cleaning.clean.Goals as goal

pub returns : goal.returns
returns c =
    let with : List Directory → Volume = λ ds. record {
      size = c.outline.inside.size;
      count = c.outline.inside.count;
      limits = c.outline.inside.limits;
      attributes = c.outline.inside.attributes.items;
      directories = ds;
    } in
    ap with (c.clean_directories.ensures ∙ cleaned_in_front c.args.front c.outline.inside.directories.items
    (subst (λ (v : Volume). IsCleanFrom c.args.front v.directories) (sym c.outline.view_is) c.requires))
    ∙ ap clean c.outline.view_is
