use Rattle.std.proofs.Common.{◌≡◌, arith, ap}
use Rattle.std.specs.Prelude.{count_by, not}
use Rattle.lfs_fs.specs.Entry.{leads}
use Rattle.lfs_fs.specs.Row.{Row}
use Rattle.lfs_fs.specs.Ordered.{file_count_of}
use Rattle.lfs_fs.specs.Mounted.{MountedValue}
use Rattle.lfs_fs.proofs.CountedLemmas.{files_left}
use Rattle.lfs_fs.proofs.mounted.Mounted.files.Goals as goal

pub overflow_sub-result : goal.overflow_sub-result
overflow_sub-result c =
    let m = c.self.inside in
    let left = files_left m.outline m.order.items c.self.invariant.1 in
    omega (arith, left.0, c.directory_count.ensures, c.len.ensures, m.order.ok.0)

pub returns-clause-outline : goal.returns-clause-outline
returns-clause-outline c =
    let m = c.self.inside in
    let left = files_left m.outline m.order.items c.self.invariant.1 in
    let same : file_count_of m.outline ≡ file_count_of c.args.self.now.outline = ap (λ (x : MountedValue). file_count_of x.outline) c.self.view_is in
    omega (arith, left.1, c.directory_count.ensures, c.len.ensures, m.order.ok.0, same)

pub returns-clause-rows : goal.returns-clause-rows
returns-clause-rows c =
    let m = c.self.inside in
    let left = files_left m.outline m.order.items c.self.invariant.1 in
    let same = ap (λ (x : MountedValue). count_by (λ (r : Row). not (leads r.entry)) x.rows) c.self.view_is in
    omega (arith, left.2, c.directory_count.ensures, c.len.ensures, m.order.ok.0, same)
