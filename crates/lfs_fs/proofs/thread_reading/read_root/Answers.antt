-- The root's first pair is read, or refused; its first entry comes before what it leads to.
use Rattle.std.proofs.Common.{ℕ, List, ap, arith, subst, ◌∙◌}
use Rattle.std.proofs.lemmas.Result.{err_from_is_err_and}
use Rattle.lfs_meta.specs.Entry.{StoredEntry}
use Rattle.lfs_fs.specs.Gathering.{PairPart}
use Rattle.lfs_fs.specs.SuperblockFirst.{FirstRefused, FirstTaken}
use Rattle.lfs_fs.proofs.SuperblockFirstLemmas.{first_refuses, first_taken, root_unread, unread_blames}
use Rattle.lfs_fs.proofs.thread_reading.read_root.Goals as goal

pub read_pair-requires-clause-first : goal.read_pair-requires-clause-first
read_pair-requires-clause-first g c = omega (arith, c.size-size.ensures.disk.geometry.count_fits.0)

pub read_pair-requires-clause-second : goal.read_pair-requires-clause-second
read_pair-requires-clause-second g c = omega (arith, c.size-size.ensures.disk.geometry.count_fits.0)

pub returns-in_err-root-clause-refused : goal.returns-in_err-root-clause-refused
returns-in_err-root-clause-refused g c =
    let d = g.B.Blocks.disk c.args.blocks.now in
    let p = err_from_is_err_and c.from_residual.result c.from_residual.ensures.1 in
    rw (p.1, p.2) (root_unread d c.in_err-root.field-0.0 c.size-size.ensures.disk.geometry.count_fits.0 c.in_err-root.ensures.refused)

pub returns-in_err-root-clause-first : goal.returns-in_err-root-clause-first
returns-in_err-root-clause-first g c =
    let d = g.B.Blocks.disk c.args.blocks.now in
    let p = err_from_is_err_and c.from_residual.result c.from_residual.ensures.1 in
    rw (p.1, p.2) (unread_blames c.unread_pairs_hold_no_part.ensures d c.in_err-root.field-0.0 c.in_err-root.ensures.refused)

pub returns-in_err-first_fits-clause-refused : goal.returns-in_err-first_fits-clause-refused
returns-in_err-first_fits-clause-refused g c =
    let d = g.B.Blocks.disk c.args.blocks.now in
    let p = err_from_is_err_and c.from_residual-in_err-first_fits.result c.from_residual-in_err-first_fits.ensures.1 in
    let f = c.in_err-first_fits.field-0.0 in
    let root = c.in_ok-root.root in
    let same = c.deref.ensures.value ∙ ap (λ (q : PairPart). q.1.entries) c.root.view_is in
    let entries = subst (λ (es : List StoredEntry). FirstRefused f c.size-size.result c.count-count.result es) same
    c.in_err-first_fits.ensures.refused in
    let by_size = subst (λ (n : ℕ). FirstRefused f n c.count-count.result root.1.entries) c.size-size.ensures.value entries in
    let refused = subst (λ (n : ℕ). FirstRefused f d.size n root.1.entries) c.count-count.ensures by_size in
    rw (p.1, p.2) (first_refuses d f root.1 c.in_ok-root.ensures.found refused).0

pub returns-clause-good : goal.returns-clause-good
returns-clause-good g c =
    let d = g.B.Blocks.disk c.args.blocks.now in
    let root = c.in_ok-root.root in
    let same = c.deref.ensures.value ∙ ap (λ (q : PairPart). q.1.entries) c.root.view_is in
    let entries = subst (λ (es : List StoredEntry). FirstTaken c.size-size.result c.count-count.result es) same
    c.in_ok-first_fits.ensures.taken in
    let by_size = subst (λ (n : ℕ). FirstTaken n c.count-count.result root.1.entries) c.size-size.ensures.value entries in
    let taken = subst (λ (n : ℕ). FirstTaken d.size n root.1.entries) c.count-count.ensures by_size in
    first_taken d root.1 c.in_ok-root.ensures.found taken

pub returns-in_err-root-clause-read : goal.returns-in_err-root-clause-read
returns-in_err-root-clause-read g c = rw (err_from_is_err_and c.from_residual.result c.from_residual.ensures.1).1 tt

pub returns-in_err-root-clause-good : goal.returns-in_err-root-clause-good
returns-in_err-root-clause-good g c = rw (err_from_is_err_and c.from_residual.result c.from_residual.ensures.1).1 tt

pub returns-in_err-first_fits-clause-read : goal.returns-in_err-first_fits-clause-read
returns-in_err-first_fits-clause-read g c = rw (err_from_is_err_and c.from_residual-in_err-first_fits.result c.from_residual-in_err-first_fits.ensures.1).1 tt

pub returns-in_err-first_fits-clause-good : goal.returns-in_err-first_fits-clause-good
returns-in_err-first_fits-clause-good g c = rw (err_from_is_err_and c.from_residual-in_err-first_fits.result c.from_residual-in_err-first_fits.ensures.1).1 tt

pub returns-in_err-mark_all-clause-read : goal.returns-in_err-mark_all-clause-read
returns-in_err-mark_all-clause-read g c = rw (err_from_is_err_and c.from_residual-in_err-mark_all.result c.from_residual-in_err-mark_all.ensures.1).1 tt

pub returns-in_err-mark_all-clause-good : goal.returns-in_err-mark_all-clause-good
returns-in_err-mark_all-clause-good g c = rw (err_from_is_err_and c.from_residual-in_err-mark_all.result c.from_residual-in_err-mark_all.ensures.1).1 tt
