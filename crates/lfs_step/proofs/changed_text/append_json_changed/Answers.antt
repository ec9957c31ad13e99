-- The object has one member.
use Rattle.std.proofs.Common.{ℕ, List, [], ◌∷◌, ◌++◌, ap, ◌∙◌}
use Rattle.std.specs.Prelude.{codes}
use Rattle.lfs_json.specs.Line.{line_of}
use Rattle.lfs_json.specs.Object.{Member, object_of, integer}
use Rattle.lfs_json.proofs.AddingLemmas.{adds_one, begun_adds}
use Rattle.lfs_step.specs.ChangedText.{line_of_changed}
use Rattle.lfs_step.proofs.changed_text.append_json_changed.Goals as goal

pub returns : goal.returns
returns c =
    let changed : Member = (codes "changed", integer c.from.result) in
    let is = begun_adds c.in_ok-line.line c.add_number.new.line c.args.text.now.items (changed ∷ []) c.in_ok-line.ensures.before c.in_ok-line.ensures.tokens
    (adds_one _ _ changed c.in_ok-add_number.ensures) in
    c.in_ok-end_line.ensures (changed ∷ []) is.1 ∙ ap (λ (t : List ℕ). t ++ line_of (object_of (changed ∷ []))) is.0
    ∙ ap (λ (n : ℕ). c.args.text.now.items ++ line_of_changed n) c.from.ensures
