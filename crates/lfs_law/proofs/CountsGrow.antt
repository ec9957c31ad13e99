-- A command leaves no fewer blocks, and as many as an image may have.
use Rattle.std.proofs.Common.{◌≡◌, ℕ, ◌<◌, nat_lt, not, ◌&&◌, arith, None}
use Rattle.std.proofs.lemmas.Bool.{and_parts, ltb-true}
use Rattle.lfs_block.specs.Geometry.{IsGeometry, is_geometry}
use Rattle.lfs_block.proofs.GeometryTests.{geometry_true}
use Rattle.lfs_fs.specs.Volume.{Volume}
use Rattle.lfs_command.specs.declared.refusal.Refusal.TheVariants.{BadCount}
use Rattle.lfs_command.specs.Command.{Mkdir, Put, Rm, Mv, SetAttr, RmAttr, Grow}
use Rattle.lfs_command.specs.Verdict.{refuse_if}
use Rattle.lfs_law.specs.CountsGrow.{CountsGrow}
use Rattle.lfs_law.proofs.Parents.{first_passes, test_passes, not_false}

pub grows : (v : Volume) (n : ℕ) → refuse_if (not (nat_lt v.count n && is_geometry v.size n)) BadCount ≡ None
    → IsGeometry v.size n × (v.count < n)
grows v n passes =
    let both = and_parts (nat_lt v.count n) (is_geometry v.size n)
    (not_false (nat_lt v.count n && is_geometry v.size n)
    (test_passes (not (nat_lt v.count n && is_geometry v.size n)) BadCount passes)) in
    (geometry_true v.size n both.1, ltb-true v.count n both.0)

pub counts_grow : CountsGrow
counts_grow v (Mkdir p) fits passes = (fits, omega arith)
counts_grow v (Put p bytes most) fits passes = (fits, omega arith)
counts_grow v (Rm p) fits passes = (fits, omega arith)
counts_grow v (Mv p q) fits passes = (fits, omega arith)
counts_grow v (SetAttr p k value) fits passes = (fits, omega arith)
counts_grow v (RmAttr p k) fits passes = (fits, omega arith)
counts_grow v (Grow n) fits passes =
    let more = grows v n (first_passes (refuse_if (not (nat_lt v.count n && is_geometry v.size n)) BadCount) _ passes).0 in
    (more.0, omega (arith, more.1))
