-- The path of the next row is as long as is kept, and one name more.
use Rattle.std.proofs.Common.{◌+◌, refl, subst}
use Rattle.lfs_fs.specs.Listed.{Listed, path_after}
use Rattle.lfs_listing.specs.Below.{names}
use Rattle.lfs_extract.specs.RowsBelow.{IsSharedPrefix}
use Rattle.lfs_extract.specs.declared.shared_prefix.SharedPrefix.{SharedPrefix}
use Rattle.lfs_extract.proofs.PrefixLemmas.{goes_on}
use Rattle.lfs_extract.proofs.shared_prefix.SharedPrefix.behind.Goals as goal

pub returns : goal.returns
returns c = λ path is.
    let g : SharedPrefix = record { length = c.min-kept.result + 1; shared = c.shared_after.result } in
    subst (λ (x : Listed). IsSharedPrefix (names c.args.at.now) (path_after path x.depth x.entry.name) g) c.next.view_is
    (goes_on (names c.args.at.now) path c.args.self g c.min-kept.result c.next.inside.depth c.next.inside.name.now is c.min-kept.ensures
    c.if-next-eq0.false refl c.shared_after.ensures)
