use Rattle.std.proofs.Common.{ℕ, List, [], ◌∷◌, ◌++◌, ap, ◌∙◌}
use Rattle.std.specs.Prelude.{codes}
use Rattle.json.specs.Json.{string}
use Rattle.lfs_json.specs.Line.{line_of}
use Rattle.lfs_json.specs.Object.{Member, object_of, integer}
use Rattle.lfs_json.proofs.AddingLemmas.{adds_first, adds_one, begun_adds}
use Rattle.lfs_json.proofs.blocks.append_json_free_sum.Goals as goal

pub returns : goal.returns
returns c =
    let free : Member = (codes "kind", string (codes "free")) in
    let sum : Member = (codes "blocks", integer c.args.blocks) in
    let members : List Member = free ∷ sum ∷ [] in
    let is = begun_adds c.in_ok-line.line c.add_number.new.line c.args.text.now.items members c.in_ok-line.ensures.before c.in_ok-line.ensures.tokens
    (adds_first _ c.add_text.new.line _ free (sum ∷ []) c.in_ok-add_text.ensures (adds_one _ _ sum c.in_ok-add_number.ensures)) in
    c.in_ok-end_line.ensures members is.1 ∙ ap (λ (t : List ℕ). t ++ line_of (object_of members)) is.0
