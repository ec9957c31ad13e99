-- What the body of a row means.
use Rattle.lfs_fs.specs.Entry.{Body, Inline, Chain, Directory_at}
use Rattle.lfs_fs.specs.Outlined.{blank}
use Rattle.lfs_fs.specs.declared.row_body.RowBody.{RowBody}
use Rattle.lfs_fs.specs.declared.row_body.RowBody.TheVariants as case

abbrev pub row_body_held : RowBody → Body
row_body_held (case.Inline bytes) = Inline bytes.now
row_body_held (case.Chain blocks size) = Chain blocks.now (blank size)
row_body_held (case.Directory first second) = Directory_at (first, second)
