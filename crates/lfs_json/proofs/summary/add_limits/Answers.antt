use Rattle.std.proofs.Common.{[], ◌∷◌}
use Rattle.std.specs.Prelude.{codes}
use Rattle.lfs_json.specs.Object.{Member, integer}
use Rattle.lfs_json.proofs.AddingLemmas.{adds_first, adds_one}
use Rattle.lfs_json.proofs.summary.add_limits.Goals as goal

pub returns : goal.returns
returns c =
    let name : Member = (codes "name_max", integer c.args.limits.name) in
    let file : Member = (codes "file_max", integer c.args.limits.file) in
    let attribute : Member = (codes "attr_max", integer c.args.limits.attribute) in
    adds_first _ c.add_count.new.line _ name (file ∷ attribute ∷ []) c.in_ok-add_count.ensures
    (adds_first _ c.add_count-2.new.line _ file (attribute ∷ []) c.in_ok-add_count-2.ensures (adds_one _ _ attribute c.in_ok-add_count-3.ensures))
