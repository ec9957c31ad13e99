use Rattle.std.proofs.Common.{ℕ, List, Bor, ◌∷◌, ◌++◌, ap, ◌∙◌, map}
use Rattle.lfs_fs.specs.Entry.{Entry}
use Rattle.lfs_fs.specs.Path.{Path}
use Rattle.lfs_json.specs.Line.{line_of}
use Rattle.lfs_json.specs.Object.{Member, object_of}
use Rattle.lfs_json.proofs.AddingLemmas.{adds_first, begun_adds}
use Rattle.lfs_json.specs.Rows.{change_member, row_members}
use Rattle.lfs_json.proofs.changes.append_json_change.Goals as goal

pub returns : goal.returns
returns c =
    let path : Path = map (λ (n : Bor (List ℕ)). n.now) c.args.path.now in
    let entry : Entry = c.args.row.now.entry in
    let change : Member = change_member c.args.change.now in
    let members : List Member = change ∷ row_members path entry in
    let is = begun_adds c.in_ok-line.line c.add_row.new.line c.args.text.now.items members c.in_ok-line.ensures.before c.in_ok-line.ensures.tokens
    (adds_first _ c.add_text.new.line _ change (row_members path entry) c.in_ok-add_text.ensures c.in_ok-add_row.ensures) in
    c.in_ok-end_line.ensures members is.1 ∙ ap (λ (t : List ℕ). t ++ line_of (object_of members)) is.0
