-- What stored entries weigh, and what they stand for.
use Rattle.std.proofs.Common.{◌≡◌, ℕ, ◌+◌, List, [], ◌∷◌, length, map, refl, ap, sym, ◌∙◌, arith}
use Rattle.std.specs.Prelude.{Option, Some, None, flat_map}
use Rattle.std.specs.List.{AllZip}
use Rattle.lfs_meta.specs.Body.{StoredBody, Inline, Chain as Stored_chain, Directory_at as Stored_directory}
use Rattle.lfs_meta.specs.Entry.{StoredEntry}
use Rattle.lfs_meta.specs.Body.{body_bytes}
use Rattle.lfs_meta.specs.Weighing.{weight_as_stored as stored_weight}
use Rattle.lfs_meta.proofs.RunLemmas.{runs_match}
use Rattle.lfs_fs.specs.Entry.{Entry}
use Rattle.lfs_fs.specs.Weight.{body_weight, weight}
use Rattle.lfs_fs.specs.Reading.{Reading}
use Rattle.lfs_fs.specs.Held.{chained, resolved_body, resolved}
use Rattle.lfs_fs.proofs.ResolvedLemmas.{stood_for, one_resolved, Resolves, each_resolves, all_resolved}
use Rattle.lfs_fs.specs.StoredWeight.{EntriesWeighAsStored, SuperblocksWeighAsStored, RunsResolve}

chain_weight : (r : Reading) (size : ℕ) (blocks : Option (List ℕ)) → body_weight (chained r size blocks) ≡ 12
chain_weight r size None = refl
chain_weight r size (Some blocks) = refl

bodies_weigh_as_stored : (r : Reading) (b : StoredBody) → 4 + length (body_bytes b) ≡ body_weight (resolved_body r b)
bodies_weigh_as_stored r (Inline bytes) = refl
bodies_weigh_as_stored r (Stored_chain head size) = omega (arith, chain_weight r size (r.chain head size))
bodies_weigh_as_stored r (Stored_directory first second) = omega arith

pub entries_weigh_as_stored : EntriesWeighAsStored
entries_weigh_as_stored r s e is =
    let body : 4 + length (body_bytes s.body) ≡ body_weight (resolved_body r s.body) = bodies_weigh_as_stored r s.body in
    let complete : stored_weight s ≡ weight (stood_for r s) = omega (arith, body) in
    complete ∙ ap weight (sym (one_resolved r s e is))

pub superblocks_weigh_as_stored : SuperblocksWeighAsStored
superblocks_weigh_as_stored bytes attributes len = omega (arith, len)

runs_resolved : (r : Reading) (runs : List (List StoredEntry)) (others : List (List Entry)) → AllZip (AllZip (Resolves r)) runs others
    → map (flat_map (resolved r)) runs ≡ others
runs_resolved r [] [] h = refl
runs_resolved r [] (other ∷ others) h = absurd h
runs_resolved r (run ∷ runs) [] h = absurd h
runs_resolved r (run ∷ runs) (other ∷ others) h = ap (λ x. x ∷ map (flat_map (resolved r)) runs) (all_resolved r run other h.0)
    ∙ ap (λ x. other ∷ x) (runs_resolved r runs others h.1)

pub runs_resolve : RunsResolve
runs_resolve r room weighs number es others =
    runs_resolved r _ _ (runs_match (Resolves r) stored_weight weight room weighs number es (flat_map (resolved r) es)
    (entries_weigh_as_stored r) (each_resolves r es others))
