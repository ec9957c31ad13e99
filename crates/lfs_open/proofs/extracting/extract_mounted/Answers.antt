use Rattle.std.proofs.Common.{◌≡◌, ℕ, Bor, List, Option, ap, map, refl, subst, sym}
use Rattle.std.proofs.lemmas.Result.{err_from_is_err_and}
use Rattle.std.specs.Prelude.{IfErr}
use Rattle.std.specs.Result.{result_err}
use Rattle.lfs_extract.specs.declared.extract_fault.ExtractFault.TheVariants.{CannotWrite}
use Rattle.lfs_extract.specs.Extracted.{Extracts, HasRefusedOne, JudgesNames, all_made}
use Rattle.lfs_extract.specs.RowsBelow.{rows_below}
use Rattle.lfs_fs.specs.Path.{Path}
use Rattle.lfs_fs.specs.Row.{Row}
use Rattle.lfs_host.specs.NewFolder.{Made}
use Rattle.lfs_host.specs.Scene.{Scene}
use Rattle.lfs_request.specs.declared.fault.Fault.{Fault}
use Rattle.lfs_open.specs.Extracting.{EndsMaking, MakesRows}
use Rattle.lfs_open.specs.Salvaging.{IsOther}
use Rattle.lfs_open.proofs.ExtractingLemmas.{fault_blamed, refused_ends, rows_end, there_ends}
use Rattle.lfs_open.proofs.SavingLemmas.{made_other, there_other}
use Rattle.lfs_open.proofs.extracting.extract_mounted.Goals as goal

pub returns-in_err-must_be_missing-in-Ok-clause-made : goal.returns-in_err-must_be_missing-in-Ok-clause-made
returns-in_err-must_be_missing-in-Ok-clause-made g c =
    let p = err_from_is_err_and c.from_residual.result c.from_residual.ensures.1 in
    let old : Scene = g.H.Known.known c.args.host.now in
    let new : Scene = g.H.Known.known c.must_be_missing.new.host in
    rw (p.1, p.2) (there_ends c.args.image.now.disk c.args.path.now (c.args.mounted.now, c.requires, (_, c.in-Ok.ensures.there)) c.args.dir.now
    old.tree old.made new c.in_err-must_be_missing-in-Ok.field-0.0 c.in_err-must_be_missing-in-Ok.ensures.refused c.must_be_missing.ensures.kept.2)

pub returns-in_err-must_be_missing-in-Ok-clause-other : goal.returns-in_err-must_be_missing-in-Ok-clause-other
returns-in_err-must_be_missing-in-Ok-clause-other g c =
    let p = err_from_is_err_and c.from_residual.result c.from_residual.ensures.1 in
    let old : Scene = g.H.Known.known c.args.host.now in
    let new : Scene = g.H.Known.known c.must_be_missing.new.host in
    rw (p.1, p.2) (there_other c.args.dir.now old.tree old.made new c.in_err-must_be_missing-in-Ok.field-0.0 c.in_err-must_be_missing-in-Ok.ensures.refused)

pub returns-in-Err-clause-made : goal.returns-in-Err-clause-made
returns-in-Err-clause-made g c =
    let old : Scene = g.H.Known.known c.args.host.now in
    refused_ends c.args.image.now.disk c.args.path.now c.args.dir.now old.tree old.made old c.in-Err.refusal refl (c.args.mounted.now, c.requires)
    c.in-Err.ensures.refused

pub returns-in_ok-must_be_missing-in-Ok-clause-made : goal.returns-in_ok-must_be_missing-in-Ok-clause-made
returns-in_ok-must_be_missing-in-Ok-clause-made g c =
    let d = c.args.image.now.disk in
    let text = c.args.path.now in
    let dir = c.args.dir.now in
    let old : Scene = g.H.Known.known c.args.host.now in
    let new : Scene = g.H.Known.known c.extract_rows.new.folder in
    let why = result_err c.extract_rows.result in
    let at : Path = map (λ (n : Bor (List ℕ)). n.now) c.in-Ok.at.items in
    let rows = rows_below at c.args.mounted.now.rows in
    let handed : List Row = rows_below (map (λ (n : Bor (List ℕ)). n.now) c.deref.result.now) c.args.mounted.now.rows in
    let same : handed ≡ rows =
    ap (λ (ns : List (Bor (List ℕ))). rows_below (map (λ (n : Bor (List ℕ)). n.now) ns) c.args.mounted.now.rows) c.deref.ensures.value in
    let made : Extracts why old.made new.made (all_made d dir rows) =
    subst (λ (rs : List Row). Extracts why old.made new.made (all_made d dir rs)) same
    (subst (λ (before : Option (List Made)). Extracts why before new.made (all_made d dir handed)) c.must_be_missing.ensures.kept.2 c.extract_rows.ensures.made) in
    let makes : MakesRows d text dir old.tree old.made new.made why = record {
      mounted = c.args.mounted.now;
      mount = c.requires;
      at = at;
      there = c.in-Ok.ensures.there;
      missing = c.in_ok-must_be_missing-in-Ok.ensures.missing;
      made = made;
      names = subst (JudgesNames why) same c.extract_rows.ensures.names;
    } in
    subst (EndsMaking d text dir old.tree old.made new) (sym c.told.ensures) (rows_end d text dir old.tree old.made new why makes
    (fault_blamed c.extract_rows.result new (all_made d dir rows)
    (subst (λ (rs : List Row). IfErr c.extract_rows.result (λ fault. fault ≡ CannotWrite → HasRefusedOne new (all_made d dir rs))) same
    c.extract_rows.ensures.blamed)))

pub returns-in_ok-must_be_missing-in-Ok-clause-other : goal.returns-in_ok-must_be_missing-in-Ok-clause-other
returns-in_ok-must_be_missing-in-Ok-clause-other g c =
    subst (λ (fault : Option Fault). IsOther fault) (sym c.told.ensures) (made_other (result_err c.extract_rows.result))
