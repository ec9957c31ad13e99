-- One part more.
use Rattle.std.proofs.Common.{◌≡◌, ◌++◌, [], List, ap, ◌∙◌}
use Rattle.std.specs.Prelude.{flat_map, option_to_list}
use Rattle.lfs_meta.specs.Body.{Pair}
use Rattle.lfs_meta.specs.Entry.{StoredEntry}
use Rattle.lfs_fs.specs.Gathering.{PairPart}
use Rattle.lfs_settle.specs.InStep.{pair_named}
use Rattle.lfs_settle.proofs.NextItems.{next_flat}
use Rattle.lfs_settle.proofs.pairs.pairs_named.Goals as goal

pub loop-part-preserved : goal.loop-part-preserved
loop-part-preserved c =
    let p : PairPart = c.part-item.result in
    let entries : c.deref.result.now ≡ p.1.entries = c.deref.ensures.value ∙ ap (λ (x : PairPart). x.1.entries) c.part.view_is in
    c.in_ok-push_named.ensures
    ∙ ap (λ (es : List StoredEntry). c.loop-part.named.items ++ flat_map (λ (e : StoredEntry). option_to_list (pair_named e.body)) es) entries
    ∙ ap (λ (ps : List Pair). ps ++ flat_map (λ (e : StoredEntry). option_to_list (pair_named e.body)) p.1.entries) c.loop-part.invariant
    ∙ next_flat (λ (x : PairPart). flat_map (λ (e : StoredEntry). option_to_list (pair_named e.body)) x.1.entries) [] c.args.parts.now
    c.loop-part.part-index p c.loop-part-test.true c.part-item.is
