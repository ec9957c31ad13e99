-- The rows of a mounted image can be read.
use Rattle.std.proofs.Common.{◌≡◌, ℕ, List, [], ◌∷◌, Option, Some, None, All, length, ap, sym, subst, ◌∙◌}
use Rattle.std.specs.Prelude.{Contains}
use Rattle.std.specs.Option.{option_map}
use Rattle.std.proofs.lemmas.List.{length-replicate}
use Rattle.std.proofs.lemmas.List.Elements.{All-contains, All-contains_itself, All-head, All-tail, All-weaker}
use Rattle.std.proofs.lemmas.Option.{none-some, same_Some}
use Rattle.lfs_block.specs.Disk.{Disk, IsDisk}
use Rattle.lfs_file.specs.Content.{content}
use Rattle.lfs_meta.specs.Attribute.{Attributes}
use Rattle.lfs_fs.specs.Entry.{Body, Inline, Chain, Directory_at, Entry}
use Rattle.lfs_fs.specs.Mounted.{MountedValue, IsMountOf}
use Rattle.lfs_fs.specs.Outlined.{blank, outlined_body, outlined_entry}
use Rattle.lfs_fs.specs.Row.{Row}
use Rattle.lfs_fs.specs.RowShown.{HasBlocks, RowsShowTheTree, shown_body, shown_node}
use Rattle.lfs_fs.specs.Tree.{File, entry_at, node, node_of}
use Rattle.lfs_fs.specs.Volume.{Volume}
use Rattle.lfs_fs.proofs.OutlinedLemmas.{outlined_at}
use Rattle.lfs_listing.specs.Comparing.{IsReadable, AreComplete}

file_bytes : (c d : List ℕ) (a b : Attributes) → File c a ≡ File d b → c ≡ d
file_bytes c d a b same = cc

complete_body : (d : Disk) (b : Body) (a : Attributes) → node_of b a ≡ shown_body d (outlined_body b) a → HasBlocks d (outlined_body b)
    → IsReadable d (outlined_body b)
complete_body d (Inline bytes) a shows has = tt
complete_body d (Directory_at pair) a shows has = tt
complete_body d (Chain blocks bytes) a shows has =
    let same : bytes ≡ content d (length (blank (length bytes))) blocks = file_bytes bytes (content d (length (blank (length bytes))) blocks) a a shows in
    (has.0, has.1, ap length (sym same) ∙ sym (length-replicate (length bytes) 0))

complete_entry : (d : Disk) (o : Option Entry) (e : Entry) → option_map outlined_entry o ≡ Some e → option_map node o ≡ Some (shown_node d e)
    → HasBlocks d e.body → IsReadable d e.body
complete_entry d None e is shows has = absurd (none-some e is)
complete_entry d (Some x) e is shows has =
    let same : e ≡ outlined_entry x = sym (same_Some (outlined_entry x) e is) in
    let shown : node x ≡ shown_node d (outlined_entry x) =
    same_Some (node x) (shown_node d e) shows ∙ ap (λ (y : Entry). shown_node d y) same in
    subst (λ (y : Entry). IsReadable d y.body) (sym same)
    (complete_body d x.body x.attributes shown (subst (λ (y : Entry). HasBlocks d y.body) same has))

each_complete : (d : Disk) (rows : List Row) → All (λ r. IsReadable d r.entry.body) rows → AreComplete d rows
each_complete d [] all = tt
each_complete d (r ∷ rows) all = (
  All-head (λ (x : Row). IsReadable d x.entry.body) r rows all,
  each_complete d rows (All-tail (λ (x : Row). IsReadable d x.entry.body) r rows all),
)

pub rows_are_complete : RowsShowTheTree → (d : Disk) (m : MountedValue) → IsDisk d → IsMountOf d m → AreComplete d m.rows
rows_are_complete shows d m disk is = each_complete d m.rows
    (All-weaker (Contains m.rows) (λ (r : Row). IsReadable d r.entry.body) (λ r there.
    let here = shows d m is r disk there in
    complete_entry d (entry_at is.volume r.path) r.entry
    (sym (outlined_at is.volume r.path) ∙ ap (λ (v : Volume). entry_at v r.path) (sym is.outline)
    ∙ All-contains (λ (x : Row). entry_at m.outline x.path ≡ Some x.entry) m.rows r is.rows.right there)
    here.0 here.1) m.rows (All-contains_itself m.rows))
