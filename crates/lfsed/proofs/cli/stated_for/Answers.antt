-- The image's file is looked at before the other one.
use Rattle.clap.specs.Words.{subcommand_rows_of}
use Rattle.lfs_arguments.specs.Words.{SaysAutoImage, SaysAutoOther}
use Rattle.lfsed.proofs.ReadLemmas.{looks}
use Rattle.lfsed.proofs.cli.stated_for.Goals as goal

pub returns-clause-stated : goal.returns-clause-stated
returns-clause-stated g c =
    let named = subcommand_rows_of c.args.matches.now in
    let old = g.H.Known.known c.args.host.now in
    let looked = g.H.Known.known c.size_in.new.host in
    let new = g.H.Known.known c.size_in-2.new.host in (
      looked,
      looks (SaysAutoImage named) 0 c.auto_image.result old looked c.in_ok-image.image c.auto_image.ensures.some c.auto_image.ensures.none
          c.in_ok-image.ensures.kept c.in_ok-image.ensures.stated,
      looks (SaysAutoOther named) c.in_ok-image.image c.auto_other.result looked new c.in_ok-other.other c.auto_other.ensures.some c.auto_other.ensures.none
          c.in_ok-other.ensures.kept c.in_ok-other.ensures.stated,
    )
