use Rattle.std.proofs.Common.{ℕ, List, Bor, [], ◌∷◌, ◌++◌, ap, ◌∙◌, map}
use Rattle.lfs_fs.specs.Entry.{Entry}
use Rattle.lfs_fs.specs.Path.{Path}
use Rattle.lfs_json.specs.Line.{line_of}
use Rattle.lfs_json.specs.Object.{Member, object_of}
use Rattle.lfs_json.proofs.AddingLemmas.{adds_members, adds_one, begun_adds}
use Rattle.lfs_json.specs.Rows.{digest_member, row_members}
use Rattle.lfs_json.proofs.rows.append_json_digested_row.Goals as goal

pub returns : goal.returns
returns c =
    let path : Path = map (λ (n : Bor (List ℕ)). n.now) c.args.path.now in
    let entry : Entry = c.args.row.now.entry in
    let digest : Member = digest_member c.args.digest.now in
    let members : List Member = row_members path entry ++ digest ∷ [] in
    let is = begun_adds c.in_ok-line.line c.add_digits.new.line c.args.text.now.items members c.in_ok-line.ensures.before c.in_ok-line.ensures.tokens
    (adds_members _ c.add_row.new.line _ (row_members path entry) (digest ∷ []) c.in_ok-add_row.ensures
    (adds_one _ c.add_digits.new.line digest c.in_ok-add_digits.ensures)) in
    c.in_ok-end_line.ensures members is.1 ∙ ap (λ (t : List ℕ). t ++ line_of (object_of members)) is.0
