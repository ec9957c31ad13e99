use Rattle.std.proofs.Common.{ℕ, List, [], ◌∷◌, Bor, ◌++◌, Some, ap, ◌∙◌, map}
use Rattle.std.specs.Prelude.{codes}
use Rattle.lfs_fs.specs.Row.{Row}
use Rattle.lfs_json.specs.Line.{line_of}
use Rattle.lfs_json.specs.Object.{Member, object_of, integer}
use Rattle.lfs_json.proofs.AddingLemmas.{adds_members, adds_one, begun_adds}
use Rattle.lfs_json.specs.Blocks.{user_members}
use Rattle.lfs_json.proofs.blocks.append_json_sum.Goals as goal

pub returns : goal.returns
returns c =
    let row : Row = record { path = map (λ (n : Bor (List ℕ)). n.now) c.args.path.now; entry = c.args.row.now.entry } in
    let sum : Member = (codes "blocks", integer c.args.blocks) in
    let members : List Member = user_members (Some row) ++ sum ∷ [] in
    let is = begun_adds c.in_ok-line.line c.add_number.new.line c.args.text.now.items members c.in_ok-line.ensures.before c.in_ok-line.ensures.tokens
    (adds_members _ c.add_user.new.line _ (user_members (Some row)) (sum ∷ []) c.in_ok-add_user.ensures
    (adds_one _ _ sum c.in_ok-add_number.ensures)) in
    c.in_ok-end_line.ensures members is.1 ∙ ap (λ (t : List ℕ). t ++ line_of (object_of members)) is.0
