-- One row more is copied.
use Rattle.std.proofs.Common.{◌≡◌, ◌∙◌, [], ◌∷◌, ◌++◌, Bor, List, ap, sym, subst, map}
use Rattle.std.proofs.lemmas.List.{map-append}
use Rattle.lfs_fs.specs.Limits.{most_held}
use Rattle.lfs_block.specs.Disk.{Disk}
use Rattle.lfs_meta.specs.Name.{Name}
use Rattle.lfs_fs.specs.Listed.{Listed, path_after, row_after, rows_after, rows_listed}
use Rattle.lfs_fs.specs.Path.{Path}
use Rattle.lfs_fs.specs.Row.{Row}
use Rattle.lfs_pack.specs.RowText.{RowText, shown_text, source_text}
use Rattle.lfs_pack.proofs.CopyingLemmas.{AreLeft, has_blocks, one_more, same_shown}
use Rattle.lfs_pack.proofs.copying.copied_rows.Goals as goal

pub source_row-requires : goal.source_row-requires
source_row-requires g c = has_blocks _ _ _ _ c.next.new.self c.in-Some.row _ c.loop-row.invariant c.in-Some.ensures.steps

pub loop-row-preserved : goal.loop-row-preserved
loop-row-preserved g c =
    let d : Disk = g.B.Blocks.disk c.args.disk.now in
    let q : Path = map (λ (n : Bor Name). n.now) c.loop-row.path.items in
    let x : Listed = c.in-Some.row in
    let before : List RowText = map (source_text most_held) c.loop-row.copied.items in
    let complete : List Row = rows_listed c.args.rows in
    let more : AreLeft d (before ++ shown_text most_held d (row_after q x) ∷ []) (rows_after (path_after q x.depth x.entry.name) c.next.new.self) complete =
    one_more d before q c.loop-row.row-iterator c.next.new.self x complete c.loop-row.invariant c.in-Some.ensures.steps in
    let followed : map (λ (n : Bor Name). n.now) c.follow_row.new.path.items ≡ path_after q x.depth x.entry.name = c.in_ok-follow_row.ensures in
    let path : map (λ (n : Bor Name). n.now) c.deref.result.now ≡ path_after q x.depth x.entry.name =
    ap (map (λ (n : Bor Name). n.now)) c.deref.ensures.value ∙ followed in
    let one : source_text most_held c.in_ok-source_row.field-0 ≡ shown_text most_held d (row_after q x) =
    c.in_ok-source_row.ensures ∙ same_shown d x.entry (map (λ (n : Bor Name). n.now) c.deref.result.now) (path_after q x.depth x.entry.name) path in
    let all : map (source_text most_held) c.push.new.self.items ≡ before ++ shown_text most_held d (row_after q x) ∷ [] =
    ap (map (source_text most_held)) c.in_ok-push.ensures.items ∙ map-append (source_text most_held) c.loop-row.copied.items (c.in_ok-source_row.field-0 ∷ [])
    ∙ ap (λ (t : RowText). before ++ t ∷ []) one in
    subst (λ (t : List RowText). AreLeft d t (rows_after (map (λ (n : Bor Name). n.now) c.follow_row.new.path.items) c.next.new.self) complete) (sym all)
    (subst (λ (p : Path). AreLeft d (before ++ shown_text most_held d (row_after q x) ∷ []) (rows_after p c.next.new.self) complete) (sym followed) more)
