-- Each entry is kept, or refused for its cause.
use Rattle.std.proofs.Common.{◌≡◌, ◌++◌, ◌∷◌, [], List, true, length, ap, ◌∙◌, subst, arith}
use Rattle.std.specs.Prelude.{All}
use Rattle.std.specs.Vec.Iter.{into_iter_items, into_iter_len}
use Rattle.std.proofs.lemmas.Result.{err_from_is_err_and}
use Rattle.lfs_meta.specs.Entry.{StoredEntry}
use Rattle.lfs_meta.specs.Name.{Name}
use Rattle.lfs_fs.specs.NameOrder.{precedes}
use Rattle.lfs_fs.specs.Entry.{Entry}
use Rattle.lfs_fs.specs.Gathering.{EndsAtOrAfter, part_entries}
use Rattle.lfs_fs.specs.Reading.{reading_of}
use Rattle.lfs_fs.proofs.GatheringLemmas.{KeepsTo, keeps_more, next_refuses, next_falls}
use Rattle.lfs_fs.proofs.keeping_parts.kept_entries.Goals as goal

pub returns-in_err-next-clause-refused : goal.returns-in_err-next-clause-refused
returns-in_err-next-clause-refused g c =
    let r = reading_of (g.B.Blocks.disk c.args.blocks.now) in
    let p = err_from_is_err_and c.from_residual-in_err-next.result c.from_residual-in_err-next.ensures.1 in
    let h = subst (KeepsTo r c.args.limits c.args.used.now (part_entries c.args.before.now) c.args.entries.items c.each.used
    c.each.kept.items) c.in-Some.ensures.steps.0 c.each.invariant.keeps in
    rw (p.1, p.2) (next_refuses c.in_err-next.field-0.0 r c.args.limits c.args.used.now
    (part_entries c.args.before.now) c.args.entries.items c.each.used c.each.kept.items c.in-Some.entry
    (into_iter_items c.next.new.self) h c.in_err-next.ensures.refused)

pub each-preserved : goal.each-preserved
each-preserved g c =
    let r = reading_of (g.B.Blocks.disk c.args.blocks.now) in
    let h = subst (KeepsTo r c.args.limits c.args.used.now (part_entries c.args.before.now) c.args.entries.items c.each.used
    c.each.kept.items) c.in-Some.ensures.steps.0 c.each.invariant.keeps in
    let pushed : c.push.new.items.items ≡ c.each.kept.items ++ c.in_ok-next.next ∷ [] = c.in_ok-push.ensures.pushed in
    let each = subst (λ (es : List Entry). All (λ e. precedes e.name c.deref-in-each.result.now ≡ true)
    (part_entries c.args.before.now ++ es)) c.deref.ensures.value c.if-not-comes_last.ensures in
    let name : c.deref-in-each.result.now ≡ c.in_ok-next.next.name = c.deref-in-each.ensures.value
    ∙ ap (λ (e : Entry). e.name) c.next-in-each.view_is in
    let order : All (λ (e : Entry). precedes e.name c.in_ok-next.next.name ≡ true) (part_entries c.args.before.now ++ c.each.kept.items) =
    subst (λ (n : Name). All (λ (e : Entry). precedes e.name n ≡ true) (part_entries c.args.before.now ++ c.each.kept.items))
    name each in
    let more = keeps_more r c.args.limits c.args.used.now (part_entries c.args.before.now) c.args.entries.items c.each.used
    c.kept_entry.new.used c.each.kept.items c.in-Some.entry (into_iter_items c.next.new.self) c.in_ok-next.next h
    c.in_ok-next.ensures.kept order in
    let counted : into_iter_len c.next.new.self ≡ length (into_iter_items c.next.new.self) =
    omega (arith, ap (λ (x : List StoredEntry). length x) c.in-Some.ensures.steps.0, c.in-Some.ensures.steps.1) in
    record { counted = counted; keeps = rw pushed more }

pub returns-then-not-comes_last-clause-refused : goal.returns-then-not-comes_last-clause-refused
returns-then-not-comes_last-clause-refused g c =
    let r = reading_of (g.B.Blocks.disk c.args.blocks.now) in
    let before = part_entries c.args.before.now in
    let h = subst (KeepsTo r c.args.limits c.args.used.now before c.args.entries.items c.each.used c.each.kept.items)
    c.in-Some.ensures.steps.0 c.each.invariant.keeps in
    let name : c.deref-in-each.result.now ≡ c.in_ok-next.next.name = c.deref-in-each.ensures.value
    ∙ ap (λ (e : Entry). e.name) c.next-in-each.view_is in
    let ends = subst (λ (es : List Entry). EndsAtOrAfter (before ++ es) c.deref-in-each.result.now)
    c.deref.ensures.value c.if-not-comes_last.ensures in
    let falls = subst (λ (n : Name). EndsAtOrAfter (before ++ c.each.kept.items) n) name ends in
    next_falls r c.args.limits c.args.used.now before c.args.entries.items c.each.used c.kept_entry.new.used c.each.kept.items
    c.in-Some.entry (into_iter_items c.next.new.self) c.in_ok-next.next h c.in_ok-next.ensures.kept falls

pub returns-in_err-kept-clause-kept : goal.returns-in_err-kept-clause-kept
returns-in_err-kept-clause-kept g c = rw (err_from_is_err_and c.from_residual.result c.from_residual.ensures.1).1 tt

pub returns-in_err-kept-clause-rise : goal.returns-in_err-kept-clause-rise
returns-in_err-kept-clause-rise g c = rw (err_from_is_err_and c.from_residual.result c.from_residual.ensures.1).1 tt

pub returns-in_err-next-clause-kept : goal.returns-in_err-next-clause-kept
returns-in_err-next-clause-kept g c = rw (err_from_is_err_and c.from_residual-in_err-next.result c.from_residual-in_err-next.ensures.1).1 tt

pub returns-in_err-next-clause-rise : goal.returns-in_err-next-clause-rise
returns-in_err-next-clause-rise g c = rw (err_from_is_err_and c.from_residual-in_err-next.result c.from_residual-in_err-next.ensures.1).1 tt

pub returns-in_err-push-clause-kept : goal.returns-in_err-push-clause-kept
returns-in_err-push-clause-kept g c = rw (err_from_is_err_and c.from_residual-in_err-push.result c.from_residual-in_err-push.ensures.1).1 tt

pub returns-in_err-push-clause-rise : goal.returns-in_err-push-clause-rise
returns-in_err-push-clause-rise g c = rw (err_from_is_err_and c.from_residual-in_err-push.result c.from_residual-in_err-push.ensures.1).1 tt
