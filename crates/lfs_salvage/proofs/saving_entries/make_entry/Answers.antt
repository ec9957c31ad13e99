-- The file of an entry is made where it is saved.
use Rattle.std.proofs.Common.{◌≡◌, ◌∙◌, false, List, ℕ, Option, Some, None, ap, option_map, refl, subst}
use Rattle.std.specs.Prelude.{IfOk}
use Rattle.lfs_block.specs.Disk.{Disk}
use Rattle.lfs_extract.specs.Making.{held_bytes}
use Rattle.lfs_extract.proofs.MakingLemmas.{makes_nothing}
use Rattle.lfs_fs.specs.RowHeld.{row_body_held}
use Rattle.lfs_host.specs.NewFolder.{Made, Makes}
use Rattle.lfs_meta.specs.Entry.{StoredEntry}
use Rattle.lfs_salvage.specs.AreaMade.{file_made, is_nameless}
use Rattle.lfs_salvage.specs.Fate.{saved_bytes}
use Rattle.lfs_salvage.specs.FateHeld.{fate_held}
use Rattle.lfs_salvage.specs.Saving.{Saves}
use Rattle.lfs_salvage.specs.Word.{word_in}
use Rattle.lfs_salvage.specs.declared.wording.Wording.TheVariants.{Own}
use Rattle.lfs_salvage.proofs.saving_entries.make_entry.Goals as goal

pub make_named-requires : goal.make_named-requires
make_named-requires g c = record { blocks = c.in-Some.ensures.there (g.B.Blocks.disk c.args.disk.now) c.requires }

pub returns-clause-made : goal.returns-clause-made
returns-clause-made g c =
    let d : Disk = g.B.Blocks.disk c.args.disk.now in
    let above : List ℕ = c.args.above.now in
    let bytes : List ℕ = held_bytes d (row_body_held c.in-Some.row) in
    let made = c.make_named.ensures.made in
    let named : c.deref.result.now ≡ c.args.entry.now.name =
    c.deref.ensures.value ∙ ap (λ (e : StoredEntry). e.name) c.entry.view_is in
    let saved : Some bytes ≡ saved_bytes d c.args.entry.now.body (fate_held c.args.body.now) =
    c.in-Some.ensures.bytes d ∙ ap (λ (e : StoredEntry). saved_bytes d e.body (fate_held c.args.body.now)) c.entry.view_is in (
      made.0,
      subst (λ (m : List Made). Saves c.make_named.result (g.F.Known.known c.args.folder.now).made
          (g.F.Known.known c.make_named.new.folder).made m)
          (ap (λ (n : List ℕ). file_made (option_map (word_in above c.args.block c.args.index n) made.0) (Some bytes)) named
          ∙ ap (λ (o : Option (List ℕ)). file_made (option_map (word_in above c.args.block c.args.index c.args.entry.now.name) made.0) o) saved)
          made.1,
      subst (λ (o : Option (List ℕ)). IfOk c.make_named.result (λ nameless. nameless ≡ is_nameless made.0 o)) saved made.2,
    )

pub returns-in_default-clause-made : goal.returns-in_default-clause-made
returns-in_default-clause-made g c =
    let d : Disk = g.B.Blocks.disk c.args.disk.now in
    let old : Option (List Made) = (g.F.Known.known c.args.folder.now).made in
    let none : None ≡ saved_bytes d c.args.entry.now.body (fate_held c.args.body.now) =
    c.in_default.ensures.bytes d ∙ ap (λ (e : StoredEntry). saved_bytes d e.body (fate_held c.args.body.now)) c.entry.view_is in (
      Some Own,
      subst (λ (o : Option (List ℕ)). Makes old old (file_made (Some (word_in c.args.above.now c.args.block c.args.index c.args.entry.now.name Own)) o))
          none (makes_nothing old),
      subst (λ (o : Option (List ℕ)). false ≡ is_nameless (Some Own) o) none refl,
    )
