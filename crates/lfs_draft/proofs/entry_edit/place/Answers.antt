-- The entry goes in behind those that have no greater name.
use Rattle.std.proofs.Common.{ℕ, Bool, not, List, ap, ◌∙◌, arith}
use Rattle.std.specs.Prelude.{insert}
use Rattle.std.specs.List.{prefix_len}
use Rattle.lfs_fs.specs.Entry.{Entry}
use Rattle.lfs_fs.specs.NameOrder.{precedes}
use Rattle.lfs_draft.proofs.OutlinePlaces.{insert_placed}
use Rattle.lfs_draft.proofs.entry_edit.place.Goals as goal

abbrev stays : List ℕ → Entry → Bool
stays name e = not (precedes name e.name)

pub insert-requires : goal.insert-requires
insert-requires c =
    omega (arith, c.place_of-at.ensures.within, c.deref.ensures.len)

pub returns-clause-placed : goal.returns-clause-placed
returns-clause-placed c =
    c.in_ok-insert.ensures.items
    ∙ ap (λ (at : ℕ). insert c.args.entries.now.items at c.args.entry) (c.place_of-at.ensures.place
    ∙ ap (λ (name : List ℕ). prefix_len (stays name) c.deref.result.now)
    (c.deref-2.ensures.value ∙ ap (λ (e : Entry). e.name) c.entry.view_is)
    ∙ ap (prefix_len (stays c.args.entry.name)) c.deref.ensures.value)
    ∙ insert_placed c.args.entry c.args.entries.now.items
