-- The entry that is there is the one that is copied.
use Rattle.std.proofs.Common.{◌≡◌, Some, ap, ◌∙◌}
use Rattle.std.proofs.lemmas.Option.{none-some, same_Some}
use Rattle.std.proofs.lemmas.Result.{IfOk-weaker}
use Rattle.lfs_fs.specs.Entry.{Entry}
use Rattle.lfs_fs.specs.Tree.{entry_in}
use Rattle.lfs_command.specs.Edited.{renamed}
use Rattle.lfs_draft.proofs.thread_changes.copied.Goals as goal

pub unreachable-requires : goal.unreachable-requires
unreachable-requires c = none-some c.requires.there.0 (c.in-None.ensures ∙ c.requires.there.1)

pub returns : goal.returns
returns c =
    IfOk-weaker c.renamed.result (λ (x : Entry). x ≡ renamed c.args.name.now c.in-Some.entry.now)
    (λ (x : Entry). (e : Entry) → entry_in c.args.directories.now c.args.parent.pair c.args.parent.name.now ≡ Some e → x ≡ renamed c.args.name.now e)
    (λ x is e there. is ∙ ap (renamed c.args.name.now) (same_Some c.in-Some.entry.now e (c.in-Some.ensures ∙ there)))
    c.renamed.ensures
