-- The counts of a change, as they are tested and as they are said.
use Rattle.std.proofs.Common.{◌≡◌, ℕ, ◌≤◌, true, leb, ◌&&◌}
use Rattle.std.proofs.lemmas.Bool.{leb-true, le-leb, and_parts}
use Rattle.lfs_block.specs.Geometry.{IsGeometry, is_geometry}
use Rattle.lfs_block.proofs.GeometryTests.{true_and, geometry_true, geometry_is}
use Rattle.lfs_journal.specs.Reading.{is_growth}

pub growth_true : (size before after : ℕ) → is_growth size before after ≡ true
    → IsGeometry size before × IsGeometry size after × (before ≤ after)
growth_true size before after e =
    let a = and_parts (is_geometry size before && is_geometry size after) (leb before after) e in
    let b = and_parts (is_geometry size before) (is_geometry size after) a.0 in
    (geometry_true size before b.0, geometry_true size after b.1, leb-true _ _ a.1)

pub growth_is : (size before after : ℕ) → IsGeometry size before → IsGeometry size after → before ≤ after
    → is_growth size before after ≡ true
growth_is size before after first second rise =
    true_and _ _ (true_and _ _ (geometry_is size before first) (geometry_is size after second)) (le-leb _ _ rise)
