-- What was read last is of the files that are known.
use Rattle.std.specs.Prelude.{◌≡◌}
use Rattle.lfs_host.specs.Scene.{HasClaimed, KeepsAll, KeepsTally}
use Rattle.lfs_exchange.specs.Handing.{HandsImage, HandsJournal}
use Rattle.lfs_exchange.proofs.handing.steady_files.Given as goal

abbrev pub invariant-loop : goal.invariant-loop
invariant-loop g l =
    let known = g.H.Known.known in
    record {
      image : HandsImage l.kind l.place (known l.fn.host).files l.name l.read.0.items;
      journal : HandsJournal l.kind (known l.fn.host).files l.name l.read.1.items;
      tally : HasClaimed (known l.fn.host) l.name → KeepsTally (known l.fn.host) (known l.host);
      kept : KeepsAll (known l.fn.host) (known l.host);
    }
