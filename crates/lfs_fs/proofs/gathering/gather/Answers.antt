-- What is refused has its cause, and what is left is gathered.
use Rattle.std.proofs.Common.{◌≡◌, [], ◌++◌, ℕ, List, length, refl, ap, sym, ◌∙◌, subst, arith}
use Rattle.std.specs.Vec.{with_items}
use Rattle.std.proofs.lemmas.List.{with_items_is}
use Rattle.std.proofs.lemmas.Result.{err_from_is_err_and}
use Rattle.lfs_fs.specs.Directory.{Directory}
use Rattle.lfs_fs.specs.Reading.{reading_of}
use Rattle.lfs_fs.specs.Gathering.{StateCause, as_directory}
use Rattle.lfs_fs.specs.Judged.{SaysLimits, JudgedCause}
use Rattle.lfs_fs.proofs.GatheredLemmas.{Found, gathered}
use Rattle.lfs_fs.proofs.GatherCauseLemmas.{state_refuses, none_refuses, superblock_refuses}
use Rattle.lfs_fs.proofs.JoinedLemmas.{root_taken, root_with_rest}
use Rattle.lfs_fs.proofs.SuperblockFirstLemmas.{good_blames}
use Rattle.lfs_fs.proofs.gathering.gather.Goals as goal

pub returns-in_default-clause-refused : goal.returns-in_default-clause-refused
returns-in_default-clause-refused g c =
    let r = reading_of (g.B.Blocks.disk c.args.blocks.now) in
    let root = c.in_ok-root.ensures.read in
    none_refuses r c.in_ok-root.root.1 (ap r.part (sym root.at) ∙ root.part.read) c.in_default.ensures.none

pub returns-in_err-limits-clause-refused : goal.returns-in_err-limits-clause-refused
returns-in_err-limits-clause-refused g c =
    let d = g.B.Blocks.disk c.args.blocks.now in
    let p = err_from_is_err_and c.from_residual-in_err-limits.result c.from_residual-in_err-limits.ensures.1 in
    let f = c.in_err-limits.field-0.0 in
    let part = c.take_first.new.part in
    let root = root_taken (reading_of d) c.in_ok-root.root part c.in-Some.superblock c.read_root.new.used c.in_ok-root.ensures.read
    c.in-Some.ensures.taken in
    let by_size = subst (λ (n : ℕ). JudgedCause f n c.count-count.result c.in-Some.superblock)
    c.size-size.ensures.value c.in_err-limits.ensures.refused in
    let cause = subst (λ (n : ℕ). JudgedCause f d.size n c.in-Some.superblock) c.count-count.ensures by_size in
    rw (p.1, p.2) (superblock_refuses d f part c.in-Some.superblock part.1.entries [] root cause)

pub returns-in_err-settled-clause-refused : goal.returns-in_err-settled-clause-refused
returns-in_err-settled-clause-refused g c =
    let d = g.B.Blocks.disk c.args.blocks.now in
    let p = err_from_is_err_and c.from_residual-in_err-settled.result c.from_residual-in_err-settled.ensures.1 in
    let f = c.in_err-settled.field-0.0 in
    let part = c.take_first.new.part in
    let limits = c.in_ok-limits.limits in
    let kept = c.in_ok-joined.ensures.kept in
    let root = root_taken (reading_of d) c.in_ok-root.root part c.in-Some.superblock c.read_root.new.used c.in_ok-root.ensures.read
    c.in-Some.ensures.taken in
    let complete = root_with_rest (reading_of d) limits part c.in-Some.superblock c.read_thread.new.used c.in_ok-joined.joined root kept in
    rw (p.1, p.2) (state_refuses d f part c.in-Some.superblock part.1.entries kept.rest complete c.in_ok-limits.ensures.judged.is.kind
    kept.is_thread (subst (StateCause f) kept.state c.in_err-settled.ensures.refused))

pub returns-in_err-settled-clause-first : goal.returns-in_err-settled-clause-first
returns-in_err-settled-clause-first g c =
    let d = g.B.Blocks.disk c.args.blocks.now in
    let p = err_from_is_err_and c.from_residual-in_err-settled.result c.from_residual-in_err-settled.ensures.1 in
    rw (p.1, p.2) (good_blames d c.in_err-settled.field-0.0 c.in_ok-root.ensures.good)

pub returns-clause-gathered : goal.returns-clause-gathered
returns-clause-gathered g c =
    let d = g.B.Blocks.disk c.args.blocks.now in
    let r = reading_of d in
    let e = c.in-Some.superblock in
    let part = c.take_first.new.part in
    let limits = c.in_ok-limits.limits in
    let joined = c.in_ok-joined.joined in
    let kept = c.in_ok-joined.ensures.kept in
    let used = c.read_thread.new.used in
    let root = root_taken r c.in_ok-root.root part e c.read_root.new.used c.in_ok-root.ensures.read c.in-Some.ensures.taken in
    let by_size = subst (λ (n : ℕ). SaysLimits n c.count-count.result limits e) c.size-size.ensures.value c.in_ok-limits.ensures.judged in
    let judged = subst (λ (n : ℕ). SaysLimits d.size n limits e) c.count-count.ensures by_size in
    let directories : List Directory = joined.directories.items ++ as_directory joined.parts.items in
    let found : Found r limits used part e part.1.entries kept.rest directories = record {
      read = root_with_rest r limits part e used joined root kept;
      is_thread = kept.is_thread;
      judged = judged;
      state = sym kept.state ∙ c.in_ok-settled.ensures.settled;
      kept = kept.kept;
    } in
    let len : length used ≡ c.in_ok-used.used.len =
    omega (arith, c.read_thread.auto.used, c.read_root.auto.used, c.as_mut_slice-table.ensures.len) in
    let table : (with_items c.in_ok-used.used used).items ≡ used = with_items_is c.in_ok-used.used used len in
    gathered d used part e part.1.entries kept.rest limits directories _ found table
    (rw (c.size-size.ensures.value, c.count-count.ensures, c.attributes_of.ensures.value, c.in_ok-directories.ensures.directories) refl)

pub returns-in_err-used-clause-gathered : goal.returns-in_err-used-clause-gathered
returns-in_err-used-clause-gathered g c = rw (err_from_is_err_and c.from_residual.result c.from_residual.ensures.1).1 tt

pub returns-in_err-used-clause-good : goal.returns-in_err-used-clause-good
returns-in_err-used-clause-good g c = rw (err_from_is_err_and c.from_residual.result c.from_residual.ensures.1).1 tt

pub returns-in_err-root-clause-gathered : goal.returns-in_err-root-clause-gathered
returns-in_err-root-clause-gathered g c = rw (err_from_is_err_and c.from_residual-in_err-root.result c.from_residual-in_err-root.ensures.1).1 tt

pub returns-in_err-root-clause-good : goal.returns-in_err-root-clause-good
returns-in_err-root-clause-good g c = rw (err_from_is_err_and c.from_residual-in_err-root.result c.from_residual-in_err-root.ensures.1).1 tt

pub returns-in_err-limits-clause-gathered : goal.returns-in_err-limits-clause-gathered
returns-in_err-limits-clause-gathered g c = rw (err_from_is_err_and c.from_residual-in_err-limits.result c.from_residual-in_err-limits.ensures.1).1 tt

pub returns-in_err-limits-clause-good : goal.returns-in_err-limits-clause-good
returns-in_err-limits-clause-good g c = rw (err_from_is_err_and c.from_residual-in_err-limits.result c.from_residual-in_err-limits.ensures.1).1 tt

pub returns-in_err-joined-clause-gathered : goal.returns-in_err-joined-clause-gathered
returns-in_err-joined-clause-gathered g c = rw (err_from_is_err_and c.from_residual-in_err-joined.result c.from_residual-in_err-joined.ensures.1).1 tt

pub returns-in_err-joined-clause-good : goal.returns-in_err-joined-clause-good
returns-in_err-joined-clause-good g c = rw (err_from_is_err_and c.from_residual-in_err-joined.result c.from_residual-in_err-joined.ensures.1).1 tt

pub returns-in_err-settled-clause-gathered : goal.returns-in_err-settled-clause-gathered
returns-in_err-settled-clause-gathered g c = rw (err_from_is_err_and c.from_residual-in_err-settled.result c.from_residual-in_err-settled.ensures.1).1 tt

pub returns-in_err-settled-clause-good : goal.returns-in_err-settled-clause-good
returns-in_err-settled-clause-good g c = rw (err_from_is_err_and c.from_residual-in_err-settled.result c.from_residual-in_err-settled.ensures.1).1 tt

pub returns-in_err-directories-clause-gathered : goal.returns-in_err-directories-clause-gathered
returns-in_err-directories-clause-gathered g c = rw (err_from_is_err_and c.from_residual-in_err-directories.result c.from_residual-in_err-directories.ensures.1).1 tt

pub returns-in_err-directories-clause-good : goal.returns-in_err-directories-clause-good
returns-in_err-directories-clause-good g c = rw (err_from_is_err_and c.from_residual-in_err-directories.result c.from_residual-in_err-directories.ensures.1).1 tt
