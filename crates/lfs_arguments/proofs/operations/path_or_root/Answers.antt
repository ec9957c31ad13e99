use Rattle.std.proofs.Common.{◌∙◌, codes, inl, inr, refl, sym}
use Rattle.clap.specs.Words.{found_of, rows_of}
use Rattle.clap.proofs.WalkLemmas.{first_value-rows}
use Rattle.lfs_arguments.specs.Words.{HasText}
use Rattle.lfs_arguments.proofs.operations.path_or_root.Goals as goal

pub returns-in-Some : goal.returns-in-Some
returns-in-Some c =
    let first = sym (c.in-Some.ensures ∙ first_value-rows (found_of c.args.options.now) (codes "path")) in
    inl (let is : HasText (rows_of (found_of c.args.options.now)) (codes "path") c.as_bytes.result.now = cc in is)

pub returns-in-None : goal.returns-in-None
returns-in-None c = inr (sym (c.in-None.ensures ∙ first_value-rows (found_of c.args.options.now) (codes "path")), refl)
