-- What a borrowed struct means.
use Rattle.lfs_meta.specs.Body.{StoredBody, Inline, Chain, Directory_at}
use Rattle.lfs_meta.specs.declared.body_ref.BodyRef.{BodyRef}
use Rattle.lfs_meta.specs.declared.body_ref.BodyRef.TheVariants as case

abbrev pub body_seen : BodyRef → StoredBody
body_seen (case.Inline bytes) = Inline bytes.now
body_seen (case.Chain head size) = Chain head size
body_seen (case.Directory first second) = Directory_at first second
