-- What the body of an entry of an outline means.
use Rattle.lfs_fs.specs.Entry.{Body, Inline, Chain, Directory_at}
use Rattle.lfs_fs.specs.Outlined.{blank}
use Rattle.lfs_fs.specs.declared.outline_body.OutlineBody.{OutlineBody}
use Rattle.lfs_fs.specs.declared.outline_body.OutlineBody.TheVariants as case

abbrev pub outline_body_held : OutlineBody → Body
outline_body_held (case.Inline bytes) = Inline bytes.items
outline_body_held (case.Chain blocks size) = Chain blocks.items (blank size)
outline_body_held (case.Directory first second) = Directory_at (first, second)
