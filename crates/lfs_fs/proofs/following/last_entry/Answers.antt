-- The last entry of the last part that has any is the last of all.
use Rattle.std.proofs.Common.{◌≡◌, ◌-◌, suc, [], drop, ap, sym, ◌∙◌, subst, arith}
use Rattle.std.specs.Option.{option_copied}
use Rattle.lfs_fs.specs.Directory.{Part}
use Rattle.lfs_fs.specs.Gathering.{EndsWith, part_entries}
use Rattle.lfs_fs.proofs.GatheringLemmas.{ends_with, last_at}
use Rattle.lfs_fs.proofs.following.last_entry.Goals as goal

pub returns-in-Some-clause-found : goal.returns-in-Some-clause-found
returns-in-Some-clause-found c =
    let part = c.index-parts-index.result in
    let behind : c.parts.index ≡ suc (c.parts.index - 1) = omega (arith, c.parts-test.true) in
    let none = subst (λ n. part_entries (drop n c.args.parts.now) ≡ []) behind c.parts.invariant.1 in
    let entries = c.deref.ensures.value ∙ ap (λ (p : Part). p.entries) c.part.view_is in
    let ends = subst (λ es. EndsWith es c.in-Some.entry.now) entries (ends_with c.deref.result.now c.in-Some.entry.now
    (sym c.last.ensures.value ∙ ap option_copied c.in-Some.is)) in
    last_at c.args.parts.now (c.parts.index - 1) part c.in-Some.entry.now
    (omega (arith, c.parts-test.true, c.parts.invariant.0)) c.index-parts-index.is none ends
