use Rattle.std.proofs.Common.{◌≡◌, ℕ, List, replicate, length, ap, ◌∙◌, false, subst}
use Rattle.lfs_fs.specs.Directory.{Directory}
use Rattle.lfs_fs.specs.DirectoryTable.{IsTableOf}
use Rattle.lfs_fs.specs.Volume.{Volume}
use Rattle.lfs_fs.proofs.WalkingLemmas.{walking_start}
use Rattle.lfs_fs.proofs.order.start.Goals as goal

pub returns : goal.returns
returns c =
    let o = c.args.outline.now in
    let inside : c.outline.inside.directories.items ≡ o.directories = ap (λ (v : Volume). v.directories) c.outline.view_is in
    let table : IsTableOf o.directories c.in_ok-table.table.entries = subst
    (λ (ds : List Directory). IsTableOf ds c.in_ok-table.table.entries) (c.deref.ensures.value ∙ inside) c.in_ok-table.ensures in
    let len : c.len.result ≡ length o.directories = c.len.ensures ∙ c.outline.inside.directories.ok.0 ∙ ap length inside in
    let opened = c.in_ok-opened.ensures.items_if_clones_equal (λ y same. same) ∙ ap (λ (n : ℕ). replicate n false) len in
    rw (c.new.ensures.items, c.in_ok-waiting.ensures, opened) (walking_start o c.in_ok-table.table.entries table c.requires)
