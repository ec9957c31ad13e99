use Rattle.std.proofs.Common.{map}
use Rattle.lfsed.specs.Words.{ended_with}
use Rattle.lfsed.proofs.ReadLemmas.{ends_as_read}
use Rattle.lfsed.proofs.cli.done.Goals as goal

pub returns-in-Ok : goal.returns-in-Ok
returns-in-Ok g c = record {
  ended = ends_as_read (map g.W.AsStr.text c.args.words.now) c.in-Ok.matches (g.H.Known.known c.args.host.now)
      (g.H.Known.known c.carried.new.host) (ended_with c.carried.result) c.in-Ok.ensures.taken c.carried.ensures.ended;
}
