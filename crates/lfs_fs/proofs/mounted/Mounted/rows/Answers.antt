use Rattle.std.proofs.Common.{map, sym, subst, ap, ◌∙◌}
use Rattle.lfs_fs.specs.Listed.{rows_listed}
use Rattle.lfs_fs.specs.Mounted.{MountedValue}
use Rattle.lfs_fs.specs.Placed.{ArePlaces, listed_at}
use Rattle.lfs_fs.proofs.mounted.Mounted.rows.Goals as goal

pub new-requires : goal.new-requires
new-requires c = subst (ArePlaces c.self.inside.outline) (sym c.deref.ensures.value) c.self.invariant.0

pub returns : goal.returns
returns c =
    ap rows_listed (c.new.ensures ∙ ap (map (listed_at c.self.inside.outline)) c.deref.ensures.value)
    ∙ ap (λ (m : MountedValue). m.rows) c.self.view_is
