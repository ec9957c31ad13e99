-- There are no more old entries, and new ones, among the fates than ids. The deletes stand before what comes.
use Rattle.std.proofs.Common.{◌≡◌, List, ◌++◌, append_assoc, ap, ◌∙◌, arith, rules, length, map}
use Rattle.std.proofs.lemmas.Result.{on_ok_weaker}
use Rattle.lfs_tag.specs.Commit.{Item}
use Rattle.lfs_tag.specs.Writing.{items}
use Rattle.lfs_meta.specs.Entry.{StoredEntry}
use Rattle.lfs_pair.specs.Difference.{Fate, Forced, deletes, entries_between, fates, news, olds, puts}
use Rattle.lfs_pair.specs.DifferenceSeen.{fate_seen, forced_seen}
use Rattle.lfs_pair.proofs.FateLemmas.{olds-fates, news-fates}
use Rattle.lfs_pair.proofs.entries_between.push_entries_between.Goals as goal

pub push_deletes-requires : goal.push_deletes-requires
push_deletes-requires c =
    let is : olds (map fate_seen c.as_slice-all.result.now) ≡ c.args.old.now =
    ap (λ fates. olds (map fate_seen fates)) c.as_slice-all.ensures.value ∙ ap olds c.in_ok-aligned.ensures
    ∙ olds-fates c.args.old.now c.args.new.now in
    omega (arith, ap length is, c.requires.old)

pub push_puts-requires : goal.push_puts-requires
push_puts-requires c =
    let is : news (map fate_seen c.as_slice-all.result.now) ≡ c.args.new.now =
    ap (λ fates. news (map fate_seen fates)) c.as_slice-all.ensures.value ∙ ap news c.in_ok-aligned.ensures
    ∙ news-fates c.args.old.now c.args.new.now in
    omega (arith, ap length is, c.requires.new)

entries_put : (forced : Forced) (old new : List StoredEntry) (all : List Fate) (before deleted after : List Item) → all ≡ fates old new
    → deleted ≡ before ++ deletes 0 all → after ≡ deleted ++ puts forced 0 all → after ≡ before ++ entries_between forced old new
entries_put forced old new all before deleted after are first second =
    second ∙ ap (λ (ts : List Item). ts ++ puts forced 0 all) first ∙ append_assoc before (deletes 0 all) (puts forced 0 all)
    ∙ ap (λ (aligned : List Fate). before ++ (deletes 0 aligned ++ puts forced 0 aligned)) are

pub returns : goal.returns
returns c =
    on_ok_weaker c.push_puts.result
    (λ after. entries_put (forced_seen c.args.forced) c.args.old.now c.args.new.now (map fate_seen c.as_slice-all.result.now)
    (items c.args.edits.now.items) (items c.push_deletes.new.edits.items) (items c.push_puts.new.edits.items)
    (ap (map fate_seen) c.as_slice-all.ensures.value ∙ c.in_ok-aligned.ensures) (search rules) after)
    c.push_puts.ensures
