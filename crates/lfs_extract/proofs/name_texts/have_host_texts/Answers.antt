-- One name more is a text, or none.
use Rattle.std.proofs.Common.{rules, ◌≡◌, List, [], sym, subst}
use Rattle.lfs_fs.specs.Listed.{Listed, path_after, rows_after, rows_listed}
use Rattle.lfs_fs.specs.Path.{Path}
use Rattle.lfs_listing.specs.Below.{names}
use Rattle.lfs_extract.specs.Extracted.{IsHostText}
use Rattle.lfs_extract.specs.RowsBelow.{IsDeeper, IsSharedPrefix, rows_below}
use Rattle.lfs_extract.proofs.NameLemmas.{IsJudgedOn, judged_none, judged_more, judged_other, judged_all}
use Rattle.lfs_extract.proofs.name_texts.have_host_texts.Goals as goal

pub loop-row-init : goal.loop-row-init
loop-row-init c =
    let same : c.into_iter-row-iterator.result ≡ c.args.rows = search rules in
    let at : Path = names c.args.at.now in (
      [],
      c.new-prefix.ensures at,
      subst (λ (xs : List Listed). IsJudgedOn at [] (rows_below at (rows_after [] xs)) (rows_below at (rows_listed c.args.rows))) (sym same)
          (judged_none at (rows_below at (rows_listed c.args.rows))),
    )

pub returns-then-has_other_name : goal.returns-then-has_other_name
returns-then-has_other_name c =
    let at : Path = names c.args.at.now in
    let q : Path = c.loop-row.invariant.0 in
    let x : Listed = c.in-Some.row in
    let prefix : IsSharedPrefix at (path_after q x.depth x.entry.name) c.behind-prefix.result = c.behind-prefix.ensures q c.loop-row.invariant.1 in
    let found = subst (λ (y : Listed). IsDeeper at (path_after q x.depth x.entry.name) × ¬ IsHostText y.entry.name) c.row.view_is
    (c.if-has_other_name.ensures (path_after q x.depth x.entry.name) prefix) in
    judged_other at q c.loop-row.row-iterator c.next.new.self x (rows_below at (rows_listed c.args.rows)) c.loop-row.invariant.2
    c.in-Some.ensures.steps found.0 found.1

pub loop-row-preserved : goal.loop-row-preserved
loop-row-preserved c =
    let at : Path = names c.args.at.now in
    let q : Path = c.loop-row.invariant.0 in
    let x : Listed = c.in-Some.row in
    let prefix : IsSharedPrefix at (path_after q x.depth x.entry.name) c.behind-prefix.result = c.behind-prefix.ensures q c.loop-row.invariant.1 in
    let text = subst (λ (y : Listed). IsDeeper at (path_after q x.depth x.entry.name) → IsHostText y.entry.name) c.row.view_is
    (c.if-has_other_name.ensures (path_after q x.depth x.entry.name) prefix) in (
      path_after q x.depth x.entry.name,
      prefix,
      judged_more at q c.loop-row.row-iterator c.next.new.self x (rows_below at (rows_listed c.args.rows)) c.loop-row.invariant.2
          c.in-Some.ensures.steps text,
    )

pub returns : goal.returns
returns c =
    judged_all (names c.args.at.now) c.loop-row.invariant.0 c.loop-row.row-iterator (rows_below (names c.args.at.now) (rows_listed c.args.rows))
    c.loop-row.invariant.2 c.in-None.ensures.steps.0
