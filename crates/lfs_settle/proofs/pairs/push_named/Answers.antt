-- One entry more.
use Rattle.std.proofs.Common.{◌≡◌, ◌++◌, List, Option, ap, ◌∙◌}
use Rattle.std.specs.Prelude.{option_to_list}
use Rattle.lfs_meta.specs.Body.{Pair}
use Rattle.lfs_meta.specs.Entry.{StoredEntry}
use Rattle.lfs_settle.specs.InStep.{pair_named}
use Rattle.lfs_settle.proofs.NextItems.{next_flat}
use Rattle.lfs_settle.proofs.pairs.push_named.Goals as goal

pub loop-entry-preserved : goal.loop-entry-preserved
loop-entry-preserved c =
    let e : StoredEntry = c.entry-item.result in
    let pair : c.pair_named.result ≡ pair_named e.body = c.pair_named.ensures ∙ ap (λ (x : StoredEntry). pair_named x.body) c.entry.view_is in
    c.in_ok-push_pair.ensures
    ∙ ap (λ (o : Option Pair). c.loop-entry.named.items ++ option_to_list o) pair
    ∙ ap (λ (ps : List Pair). ps ++ option_to_list (pair_named e.body)) c.loop-entry.invariant
    ∙ next_flat (λ (x : StoredEntry). option_to_list (pair_named x.body)) c.args.named.now.items c.args.entries.now c.loop-entry.entry-index e
    c.loop-entry-test.true c.entry-item.is
