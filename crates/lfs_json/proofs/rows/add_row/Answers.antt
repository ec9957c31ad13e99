use Rattle.std.proofs.Common.{ℕ, List, Bor, map, subst}
use Rattle.lfs_fs.specs.Entry.{Entry}
use Rattle.lfs_fs.specs.Listed.{Listed}
use Rattle.lfs_fs.specs.Path.{Path}
use Rattle.lfs_json.specs.Written.{Adds, members_tokens}
use Rattle.lfs_json.proofs.AddingLemmas.{adds_members}
use Rattle.lfs_json.specs.Rows.{attribute_members, entry_members}
use Rattle.lfs_json.proofs.rows.add_row.Goals as goal

pub returns : goal.returns
returns c =
    let path : Path = map (λ (n : Bor (List ℕ)). n.now) c.args.path.now in
    let entry : Entry = c.args.row.now.entry in
    let attributes : Adds c.add_entry.new.line c.add_attributes.new.line (members_tokens (attribute_members entry.attributes)) =
    subst (λ (x : Listed). Adds c.add_entry.new.line c.add_attributes.new.line (members_tokens (attribute_members x.entry.attributes)))
    c.row.view_is c.in_ok-add_attributes.ensures in
    adds_members _ c.add_entry.new.line _ (entry_members path entry) (attribute_members entry.attributes) c.in_ok-add_entry.ensures attributes
