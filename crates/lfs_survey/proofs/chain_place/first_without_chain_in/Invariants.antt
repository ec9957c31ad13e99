use Rattle.std.proofs.Common.{take}
use Rattle.std.specs.Prelude.{All}
use Rattle.lfs_survey.specs.Faults.{EntryHasNoChain, KnowsChains}
use Rattle.lfs_survey.proofs.chain_place.first_without_chain_in.Given as goal

abbrev pub invariant-each : goal.invariant-each
invariant-each g l = record {
  none : All (λ p. EntryHasNoChain (g.B.Blocks.disk l.blocks) l.survey.areas.items p → ⊥) (take l.place-index l.places);
  knows : KnowsChains (g.B.Blocks.disk l.blocks) l.known;
}
