-- The file is made, and memory is refused to keep that it isn't.
use Rattle.std.proofs.Common.{◌≡◌, ◌∙◌, List, ℕ, Option, ap, option_map, subst}
use Rattle.std.proofs.lemmas.Result.{err_from_is_err_and}
use Rattle.lfs_block.specs.Disk.{Disk}
use Rattle.lfs_host.specs.NewFolder.{Made, Makes}
use Rattle.lfs_meta.specs.Entry.{StoredEntry}
use Rattle.lfs_salvage.specs.AreaMade.{entry_made, file_made}
use Rattle.lfs_salvage.specs.Fate.{FileFate, fate, saved_bytes}
use Rattle.lfs_salvage.specs.FateHeld.{fate_held}
use Rattle.lfs_salvage.specs.Word.{word_in}
use Rattle.lfs_salvage.specs.declared.block_use.BlockUse.{BlockUse}
use Rattle.lfs_salvage.proofs.SavedLemmas.{all_first}
use Rattle.lfs_salvage.proofs.saving_entries.save_entry.Goals as goal

pub returns-in_err-keep_nameless-clause-made : goal.returns-in_err-keep_nameless-clause-made
returns-in_err-keep_nameless-clause-made g c =
    let d : Disk = g.B.Blocks.disk c.args.disk.now in
    let old : Option (List Made) = (g.F.Known.known c.args.folder.now).made in
    let new : Option (List Made) = (g.F.Known.known c.make_entry.new.folder).made in
    let above : List ℕ = c.args.above.now in
    let e : StoredEntry = c.args.entry.now in
    let uses : List BlockUse = c.args.salvage.now.uses.items in
    let made = c.in_ok-is_nameless.ensures.made in
    let fate_is : fate_held c.in_ok-body.body ≡ fate d uses e =
    c.in_ok-body.ensures.fate ∙ ap (λ (u : List BlockUse). fate d u e) c.deref.ensures.value in
    let stop =
    all_first old new (entry_made d above c.args.block c.args.parent.entry made.0 uses e)
    (subst (λ (f : FileFate). Makes old new (file_made (option_map (word_in above c.args.block c.args.parent.entry e.name) made.0)
    (saved_bytes d e.body f))) fate_is made.1) in
    let p = err_from_is_err_and c.from_residual-in_err-keep_nameless.result c.from_residual-in_err-keep_nameless.ensures.1 in
    rw (p.1, p.2) (made.0, (stop, tt))
