use Rattle.std.proofs.Common.{ℕ, List, ◌∷◌, ◌++◌, ap, ◌∙◌}
use Rattle.std.specs.Prelude.{codes}
use Rattle.json.specs.Json.{string}
use Rattle.lfs_json.specs.Line.{line_of}
use Rattle.lfs_json.specs.Object.{Member, object_of}
use Rattle.lfs_json.proofs.AddingLemmas.{adds_first, begun_adds}
use Rattle.lfs_json.specs.Summary.{limit_members}
use Rattle.lfs_json.proofs.summary.append_json_limits.Goals as goal

pub returns : goal.returns
returns c =
    let change : Member = (codes "change", string (codes "limits")) in
    let members : List Member = change ∷ limit_members c.args.limits in
    let is = begun_adds c.in_ok-line.line c.add_limits.new.line c.args.text.now.items members c.in_ok-line.ensures.before c.in_ok-line.ensures.tokens
    (adds_first _ c.add_text.new.line _ change (limit_members c.args.limits) c.in_ok-add_text.ensures c.in_ok-add_limits.ensures) in
    c.in_ok-end_line.ensures members is.1 ∙ ap (λ (t : List ℕ). t ++ line_of (object_of members)) is.0
