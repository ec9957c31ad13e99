use Rattle.std.proofs.Common.{◌≡◌, subst}
use Rattle.std.specs.Option.{option_map}
use Rattle.lfs_fs.specs.Mounted.{MountedValue}
use Rattle.lfs_fs.specs.Seen.{seen}
use Rattle.lfs_fs.specs.Tree.{entry_at}
use Rattle.lfs_fs.proofs.mounted.Mounted.find.Goals as goal

pub returns : goal.returns
returns c =
    subst (λ (m : MountedValue). option_map (seen m.outline) c.find.result ≡ entry_at m.outline c.args.path.now) c.self.view_is
    c.find.ensures
