-- Place by place, with the chains that are known.
use Rattle.std.proofs.lemmas.Result.{err_from_is_err_and}
use Rattle.lfs_block.specs.Disk.{Disk}
use Rattle.lfs_survey.specs.Faults.{EntryHasNoChain}
use Rattle.lfs_survey.proofs.AllPlacesLemmas.{first_more, first_none, match_not}
use Rattle.lfs_survey.proofs.chain_place.first_without_chain_in.Goals as goal

pub each-preserved : goal.each-preserved
each-preserved g c =
    let d : Disk = g.B.Blocks.disk c.args.blocks.now in
    record {
      none = first_more (EntryHasNoChain d c.args.survey.now.areas.items) c.args.places.now c.each.place-index _ c.each-test.true
          (match_not c.in_ok-has_no_chain.field-0 c.if-branch.false c.in_ok-has_no_chain.ensures.lacks) c.each.invariant.none;
      knows = c.has_no_chain.ensures.knows;
    }

pub returns : goal.returns
returns g c =
    first_none (EntryHasNoChain (g.B.Blocks.disk c.args.blocks.now) c.args.survey.now.areas.items) c.args.places.now c.each.place-index
    c.each-test.false c.each.invariant.none

pub returns-in_err-has_no_chain : goal.returns-in_err-has_no_chain
returns-in_err-has_no_chain g c = rw (err_from_is_err_and c.from_residual.result c.from_residual.ensures.1).1 tt
