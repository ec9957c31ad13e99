-- What is made of rows has as many blocks as what it began with.
use Rattle.std.proofs.Common.{◌≡◌, ℕ, List, [], ◌∷◌, ◌++◌, Option, Some, None, refl, ap, ◌∙◌}
use Rattle.std.specs.List.{AllByRecursion}
use Rattle.lfs_meta.specs.Attribute.{Attributes}
use Rattle.lfs_fs.specs.Path.{Path}
use Rattle.lfs_fs.specs.Volume.{Volume}
use Rattle.lfs_command.specs.Command.{Command}
use Rattle.lfs_command.specs.Growth.{count_after}
use Rattle.lfs_law.proofs.CarriedFollow.{CarriedFollow}
use Rattle.lfs_pack.specs.Lead.{Lead}
use Rattle.lfs_pack.specs.Packed.{Packed, commands, making, row_commands, setting}

-- a command leaves as many blocks as there are
unfoldable pub KeepsCount : Command → Type 0
KeepsCount c = (n : ℕ) → count_after c n ≡ n

both_keep : (cs ds : List Command) → AllByRecursion KeepsCount cs → AllByRecursion KeepsCount ds → AllByRecursion KeepsCount (cs ++ ds)
both_keep [] ds first rest = rest
both_keep (c ∷ cs) ds first rest = (first.0, both_keep cs ds first.1 rest)

making_keeps : (p : Path) (bytes : Option (List ℕ)) (most : ℕ) → AllByRecursion KeepsCount (making p bytes most)
unfolding KeepsCount
making_keeps [] bytes most = tt
making_keeps (n ∷ p) None most = (λ m. refl, tt)
making_keeps (n ∷ p) (Some bytes) most = (λ m. refl, tt)

setting_keeps : (p : Path) (attributes : Attributes) → AllByRecursion KeepsCount (setting p attributes)
unfolding KeepsCount
setting_keeps p [] = tt
setting_keeps p (a ∷ more) = (λ m. refl, setting_keeps p more)

pub rows_keep : (rows : List Packed) → AllByRecursion KeepsCount (commands rows)
rows_keep [] = tt
rows_keep (r ∷ rows) =
    both_keep (row_commands r) (commands rows)
    (both_keep (making r.path r.bytes r.most) (setting r.path r.attributes) (making_keeps r.path r.bytes r.most) (setting_keeps r.path r.attributes))
    (rows_keep rows)

-- what such commands lead to has the same size, count and limits
pub kept : CarriedFollow → (cs : List Command) (v w : Volume) → AllByRecursion KeepsCount cs → Lead cs v w
    → (w.size ≡ v.size) × (w.count ≡ v.count) × (w.limits ≡ v.limits)
unfolding KeepsCount
kept follow [] v w keep is = (ap (λ (x : Volume). x.size) is, ap (λ (x : Volume). x.count) is, ap (λ (x : Volume). x.limits) is)
kept follow (c ∷ cs) v w keep (u, does, led) =
    let one = follow c v u does in
    let rest = kept follow cs u w keep.1 led in
    (rest.0 ∙ one.size, rest.1 ∙ one.count ∙ keep.0 v.count, rest.2 ∙ one.limits)
