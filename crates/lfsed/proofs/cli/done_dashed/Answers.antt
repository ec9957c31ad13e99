use Rattle.std.proofs.Common.{◌≡◌, List, map, rules}
use Rattle.clap.specs.Words.{Text}
use Rattle.lfs_grammar.specs.Hyphens.{dashed}
use Rattle.lfsed.specs.Words.{ended_with}
use Rattle.lfsed.proofs.ReadLemmas.{ends_as_dashed, not_taken}
use Rattle.lfsed.proofs.cli.done_dashed.Goals as goal

pub returns-in-Ok : goal.returns-in-Ok
returns-in-Ok g c =
    let words = map g.W.AsStr.text c.args.words.now in
    let read : List Text = map (λ word. word.now) c.as_slice.result.now in
    let is : read ≡ dashed words = search rules in
    record {
      ended = ends_as_dashed words read c.in-Ok.matches (g.H.Known.known c.args.host.now) (g.H.Known.known c.carried.new.host)
          (ended_with c.carried.result) (not_taken words c.args.error c.requires.0 c.requires.1) is c.in-Ok.ensures.taken
          (search rules) c.carried.ensures.ended;
    }
