use Rattle.std.proofs.Common.{subst, sym}
use Rattle.std.proofs.lemmas.Result.{err_from_is_err_and}
use Rattle.lfs_meta.specs.BodyHeld.{body_held}
use Rattle.lfs_meta.specs.declared.body.Body.{Body}
use Rattle.lfs_fs.specs.Entry.{Chain}
use Rattle.lfs_fs.specs.Outlined.{blank}
use Rattle.lfs_fs.specs.Used.{AddsBlocks}
use Rattle.lfs_fs.specs.Reading.{reading_of}
use Rattle.lfs_fs.specs.Gathering.{KeepsBody}
use Rattle.lfs_fs.proofs.KeepingLemmas.{chain_kept}
use Rattle.lfs_fs.proofs.keeping.kept_body.Goals as goal

pub returns-in_ok-mark_all-in-Chain-clause-kept : goal.returns-in_ok-mark_all-in-Chain-clause-kept
returns-in_ok-mark_all-in-Chain-clause-kept g c =
    let d = g.B.Blocks.disk c.args.blocks.now in
    let blocks = c.in_ok-blocks-in-Chain.blocks.items in
    let adds = subst (AddsBlocks c.args.used.now c.mark_all.new.used) c.deref.ensures.value c.in_ok-mark_all-in-Chain.ensures.marked in
    subst (λ (b : Body). KeepsBody (reading_of d) c.args.used.now c.mark_all.new.used (body_held b) (Chain blocks (blank c.in-Chain.size)))
    (sym c.in-Chain.is)
    (chain_kept d c.args.used.now c.mark_all.new.used c.in-Chain.head c.in-Chain.size blocks c.in_ok-blocks-in-Chain.ensures.computed
    (c.contents_have_their_length.ensures d c.in-Chain.head c.in-Chain.size blocks c.requires.disk c.in_ok-blocks-in-Chain.ensures.found)
    adds)

pub returns-in_err-blocks-in-Chain-clause-fits : goal.returns-in_err-blocks-in-Chain-clause-fits
returns-in_err-blocks-in-Chain-clause-fits g c = rw (err_from_is_err_and c.from_residual.result c.from_residual.ensures.1).1 tt

pub returns-in_err-blocks-in-Chain-clause-kept : goal.returns-in_err-blocks-in-Chain-clause-kept
returns-in_err-blocks-in-Chain-clause-kept g c = rw (err_from_is_err_and c.from_residual.result c.from_residual.ensures.1).1 tt

pub returns-in_err-mark_all-in-Chain-clause-fits : goal.returns-in_err-mark_all-in-Chain-clause-fits
returns-in_err-mark_all-in-Chain-clause-fits g c = rw (err_from_is_err_and c.from_residual-in_err-mark_all-in-Chain.result c.from_residual-in_err-mark_all-in-Chain.ensures.1).1 tt

pub returns-in_err-mark_all-in-Chain-clause-kept : goal.returns-in_err-mark_all-in-Chain-clause-kept
returns-in_err-mark_all-in-Chain-clause-kept g c = rw (err_from_is_err_and c.from_residual-in_err-mark_all-in-Chain.result c.from_residual-in_err-mark_all-in-Chain.ensures.1).1 tt
