use Rattle.std.proofs.Common.{◌≡◌, List, ℕ, Bor, Option, ap, subst, sym, ◌∙◌}
use Rattle.std.specs.Option.{option_map}
use Rattle.std.specs.Prelude.{bytes_eq}
use Rattle.std.proofs.lemmas.List.{length-replicate}
use Rattle.lfs_block.specs.Disk.{Disk}
use Rattle.lfs_file.specs.Content.{content}
use Rattle.lfs_fs.specs.Entry.{Chain}
use Rattle.lfs_fs.specs.Listed.{Listed}
use Rattle.lfs_fs.specs.Outlined.{blank}
use Rattle.lfs_fs.specs.RowHeld.{row_body_held}
use Rattle.lfs_fs.specs.RowShown.{shown_body, shown_node}
use Rattle.lfs_fs.specs.Tree.{File}
use Rattle.lfs_fs.specs.declared.row_body.RowBody.{RowBody}
use Rattle.lfs_sync.specs.Shown.{wanted_node}
use Rattle.lfs_sync.specs.Synced.{same_held}
use Rattle.lfs_sync.proofs.comparing.same_contents.Goals as goal

-- bytes in an entry are compared as they are
pub returns-in-Inline-Some : goal.returns-in-Inline-Some
returns-in-Inline-Some g c =
    let d : Disk = g.B.Blocks.disk c.args.disk.now in
    let a = c.row.inside.attributes.now in
    let some' = c.in-Inline-Some in
    subst (λ (x : Listed). c.eq.result ≡ same_held (shown_node d x.entry) (wanted_node (option_map (λ b. b.now) c.args.bytes))) c.row.view_is
    (c.eq.ensures
    ∙ ap (λ (o : Option (Bor (List ℕ))). same_held (File some'.contents.now a) (wanted_node (option_map (λ b. b.now) o))) (sym some'.is-1)
    ∙ ap (λ (b : RowBody). same_held (shown_body d (row_body_held b) a) (wanted_node (option_map (λ x. x.now) c.args.bytes))) (sym some'.is-0))

-- those of a chain as they are read
pub returns-in-Chain-Some : goal.returns-in-Chain-Some
returns-in-Chain-Some g c =
    let d : Disk = g.B.Blocks.disk c.args.disk.now in
    let a = c.row.inside.attributes.now in
    let some' = c.in-Chain-Some in
    subst (λ (x : Listed). c.has_contents.result ≡ same_held (shown_node d x.entry) (wanted_node (option_map (λ b. b.now) c.args.bytes)))
    c.row.view_is
    (c.has_contents.ensures
    ∙ ap (λ (n : ℕ). bytes_eq (content d n some'.blocks.now) some'.bytes.now) (sym (length-replicate some'.size 0))
    ∙ ap (λ (o : Option (Bor (List ℕ))). same_held (shown_body d (Chain some'.blocks.now (blank some'.size)) a) (wanted_node (option_map (λ b. b.now) o)))
    (sym some'.is-1)
    ∙ ap (λ (b : RowBody). same_held (shown_body d (row_body_held b) a) (wanted_node (option_map (λ x. x.now) c.args.bytes))) (sym some'.is-0))
