-- What a struct of one's own means.
use Rattle.lfs_meta.specs.Body.{StoredBody, Inline, Chain, Directory_at}
use Rattle.lfs_meta.specs.declared.body.Body.{Body}
use Rattle.lfs_meta.specs.declared.body.Body.TheVariants as case

abbrev pub body_held : Body → StoredBody
body_held (case.Inline bytes) = Inline bytes.items
body_held (case.Chain head size) = Chain head size
body_held (case.Directory first second) = Directory_at first second
