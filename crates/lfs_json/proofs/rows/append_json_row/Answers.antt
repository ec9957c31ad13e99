use Rattle.std.proofs.Common.{ℕ, List, Bor, ◌++◌, ap, ◌∙◌, map}
use Rattle.lfs_fs.specs.Entry.{Entry}
use Rattle.lfs_fs.specs.Path.{Path}
use Rattle.lfs_json.specs.Line.{line_of}
use Rattle.lfs_json.proofs.AddingLemmas.{begun_adds}
use Rattle.lfs_json.specs.Rows.{json_of_row, row_members}
use Rattle.lfs_json.proofs.rows.append_json_row.Goals as goal

pub returns : goal.returns
returns c =
    let path : Path = map (λ (n : Bor (List ℕ)). n.now) c.args.path.now in
    let entry : Entry = c.args.row.now.entry in
    let is = begun_adds c.in_ok-line.line c.add_row.new.line c.args.text.now.items (row_members path entry) c.in_ok-line.ensures.before
    c.in_ok-line.ensures.tokens c.in_ok-add_row.ensures in
    c.in_ok-end_line.ensures (row_members path entry) is.1 ∙ ap (λ (t : List ℕ). t ++ line_of (json_of_row path entry)) is.0
