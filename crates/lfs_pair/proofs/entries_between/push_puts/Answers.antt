-- Each turn leaves fewer fates.
use Rattle.std.proofs.Common.{◌∙◌, ◌+◌, map, drop, arith, refl}
use Rattle.lfs_tag.specs.Writing.{items}
use Rattle.lfs_pair.specs.Difference.{news, puts}
use Rattle.lfs_pair.specs.DifferenceSeen.{fate_seen, forced_seen}
use Rattle.lfs_pair.proofs.IdLemmas.{news-cons, enough-here, enough-later}
use Rattle.lfs_pair.proofs.TurnLemmas.{moved_on, ended}
use Rattle.lfs_pair.proofs.entries_between.push_puts.Goals as goal

pub push_put-requires : goal.push_put-requires
push_put-requires c =
    enough-here news news-cons fate_seen c.args.aligned.now c.loop-fate.fate-index c.fate-item.result c.loop-fate.id c.loop-fate-test.true c.fate-item.is
    c.loop-fate.invariant.few

pub loop-fate-preserved : goal.loop-fate-preserved
loop-fate-preserved c = record {
  pushed =
      c.in_ok-id.ensures.pushed (map fate_seen (drop (c.loop-fate.fate-index + 1) c.args.aligned.now))
      ∙ moved_on (λ fates. puts (forced_seen c.args.forced) c.loop-fate.id (map fate_seen fates)) c.args.aligned.now c.loop-fate.fate-index c.fate-item.result
      (items c.loop-fate.edits.items) _ c.loop-fate-test.true c.fate-item.is c.loop-fate.invariant.pushed;
  few =
      enough-later news news-cons fate_seen c.args.aligned.now c.loop-fate.fate-index c.fate-item.result c.loop-fate.id c.in_ok-id.id
      c.loop-fate-test.true c.fate-item.is c.loop-fate.invariant.few c.in_ok-id.ensures.small;
}

pub returns : goal.returns
unfolding puts
returns c =
    ended (λ fates. puts (forced_seen c.args.forced) c.loop-fate.id (map fate_seen fates)) c.args.aligned.now c.loop-fate.fate-index
    (items c.loop-fate.edits.items) _ refl (omega (arith, c.loop-fate-test.false)) c.loop-fate.invariant.pushed
