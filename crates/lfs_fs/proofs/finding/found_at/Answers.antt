use Rattle.std.proofs.Common.{◌≡◌, ◌+◌, List, Some, None, map, drop, get_or, arith, ap, sym, ◌∙◌}
use Rattle.std.specs.Option.{option_map}
use Rattle.std.proofs.lemmas.List.{length-map, get_or-map}
use Rattle.lfs_fs.specs.Entry.{Entry, target}
use Rattle.lfs_fs.specs.Graph.{entry_within}
use Rattle.lfs_fs.specs.Tree.{entry_in, entry_at}
use Rattle.lfs_fs.specs.Seen.{seen}
use Rattle.lfs_meta.specs.Name.{Name}
use Rattle.lfs_fs.proofs.FindLemmas.{nowhere, down_one}
use Rattle.lfs_fs.proofs.finding.found_at.Goals as goal

pub returns-in_err-below : goal.returns-in_err-below
returns-in_err-below c =
    let o = c.args.outline.now in
    let names : List Name = map (λ n. n.items) c.args.names.now in
    let i = c.loop-name.name-index in
    let n : Name = c.name-item.result.items in
    let at : n ≡ get_or names i n = ap (λ v. v.items) c.name-item.is ∙ sym
    (get_or-map (λ v. v.items) c.args.names.now i c.name-item.result n c.loop-name-test.true) in
    let below : None ≡ entry_within target (entry_in o.directories) n (Some (seen o c.loop-name.here)) =
    c.in_err-below.ensures ∙ ap (λ (m : Name). entry_within target (entry_in o.directories) m
    (Some (seen o c.loop-name.here))) c.deref.ensures.value in
    ap (option_map (seen o)) c.from_residual.ensures ∙ sym (nowhere o.directories (drop (i + 1) names))
    ∙ down_one o.directories (Some (seen o c.loop-name.here)) names i n None (entry_at o names)
    (omega (arith, c.loop-name-test.true, length-map c.args.names.now (λ v. v.items))) at below c.loop-name.invariant

pub loop-name-preserved : goal.loop-name-preserved
loop-name-preserved c =
    let o = c.args.outline.now in
    let names : List Name = map (λ n. n.items) c.args.names.now in
    let i = c.loop-name.name-index in
    let n : Name = c.name-item.result.items in
    let at : n ≡ get_or names i n = ap (λ v. v.items) c.name-item.is ∙ sym
    (get_or-map (λ v. v.items) c.args.names.now i c.name-item.result n c.loop-name-test.true) in
    let e : Entry = c.in_ok-below.field-0.now in
    let below : Some e ≡ entry_within target (entry_in o.directories) n (Some (seen o c.loop-name.here)) =
    c.in_ok-below.ensures ∙ ap (λ (m : Name). entry_within target (entry_in o.directories) m
    (Some (seen o c.loop-name.here))) c.deref.ensures.value in
    down_one o.directories (Some (seen o c.loop-name.here)) names i n (Some e) (entry_at o names)
    (omega (arith, c.loop-name-test.true, length-map c.args.names.now (λ v. v.items))) at below c.loop-name.invariant
