use Rattle.std.proofs.Common.{ℕ, List, [], ◌∷◌, ◌++◌, ap, subst, ◌∙◌}
use Rattle.std.specs.Prelude.{codes}
use Rattle.json.specs.Json.{string}
use Rattle.lfs_json.specs.Line.{line_of}
use Rattle.lfs_json.specs.Object.{Member, object_of, integer}
use Rattle.lfs_json.specs.Written.{Adds, member_tokens}
use Rattle.lfs_json.proofs.AddingLemmas.{adds_first, adds_one, begun_adds}
use Rattle.lfs_json.specs.Steps.{state_word}
use Rattle.lfs_json.proofs.steps.append_json_step.Goals as goal

pub returns : goal.returns
returns c =
    let number : Member = (codes "number", integer c.args.number) in
    let state : Member = (codes "state", string (state_word c.args.done)) in
    let members : List Member = number ∷ state ∷ [] in
    let stated : Adds c.add_number.new.line c.add_text.new.line (member_tokens state) =
    subst (λ (w : List ℕ). Adds c.add_number.new.line c.add_text.new.line (member_tokens (codes "state", string w))) c.state_word.ensures
    c.in_ok-add_text.ensures in
    let is = begun_adds c.in_ok-line.line c.add_text.new.line c.args.text.now.items members c.in_ok-line.ensures.before c.in_ok-line.ensures.tokens
    (adds_first _ c.add_number.new.line _ number (state ∷ []) c.in_ok-add_number.ensures (adds_one _ _ state stated)) in
    c.in_ok-end_line.ensures members is.1 ∙ ap (λ (t : List ℕ). t ++ line_of (object_of members)) is.0
