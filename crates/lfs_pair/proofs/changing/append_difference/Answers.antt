-- The tags that are appended are those between the two parts.
use Rattle.std.proofs.Common.{◌≡◌, ◌≤◌, ◌∙◌, List, length, ap, subst, arith, rules}
use Rattle.std.proofs.lemmas.List.Elements.{recursion_from_All}
use Rattle.std.proofs.lemmas.Option.{IfSome_then}
use Rattle.std.proofs.lemmas.Result.{IfOk-weaker}
use Rattle.lfs_block.specs.Disk.{Disk}
use Rattle.lfs_tag.specs.Commit.{Item}
use Rattle.lfs_tag.specs.Writing.{items}
use Rattle.lfs_meta.specs.Fits.{EntryFits}
use Rattle.lfs_meta.specs.Part.{StoredPart}
use Rattle.lfs_pair.specs.Appending.{IsAppended}
use Rattle.lfs_pair.specs.Difference.{Forced, part_between}
use Rattle.lfs_pair.specs.DifferenceSeen.{forced_seen}
use Rattle.lfs_pair.specs.Writing.{stored_part}
use Rattle.lfs_pair.proofs.ChangedPair.{part-appended}
use Rattle.lfs_pair.proofs.changing.append_difference.Goals as goal

pub returns-clause-appended : goal.returns-clause-appended
returns-clause-appended g c =
    let d : Disk = g.B.Blocks.disk c.args.blocks.now in
    let forced : Forced = forced_seen c.args.forced in
    let p : StoredPart = c.args.old.now.1 in
    let q : StoredPart = stored_part c.args.entries.now c.args.tail c.args.delta.now in
    let few : length p.entries ≤ 1023 = search rules in
    let twelve : length q.delta ≡ 12 = search rules in
    let tags : items c.deref.result.now ≡ part_between forced p q = ap items c.deref.ensures.value ∙ c.in_ok-edits.ensures.tags in
    IfOk-weaker c.append.result _ _ (λ found some'. IfSome_then found some' (λ new is.
    part-appended c.parts_become_others.ensures c.written_parts_replay.ensures.complete d c.args.pair forced p q new.0 new.1.items
    c.requires.held (recursion_from_All EntryFits p.entries c.requires.fit)
    (recursion_from_All EntryFits q.entries c.in_ok-edits.ensures.fits) few (omega (arith, c.requires.few)) c.requires.tail twelve
    c.requires.complete (subst (λ (ts : List Item). IsAppended d c.args.pair ts new.0 new.1.items) tags is)))
    c.append.ensures.appended
