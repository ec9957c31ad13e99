-- An explanation ends as it is printed, and so does a list of images. Behind a look at the images' files a request ends as it is served, and words that say none as they
-- are refused, or for want of memory.
use Rattle.std.proofs.Common.{rules, ◌∙◌, Some, ap, inl, inr, sym, subst}
use Rattle.clap.specs.Words.{Text, subcommand_rows_of}
use Rattle.lfs_host.specs.Scene.{KeepsAll, Scene}
use Rattle.lfs_json.specs.declared.form.Form.{Form}
use Rattle.lfsed.specs.Words.{EndsFound}
use Rattle.lfsed.proofs.UsageErrorLemmas.{not_for_memory}
use Rattle.lfsed.proofs.cli.carried.Goals as goal

pub returns-in-Some : goal.returns-in-Some
returns-in-Some g c = record { ended = inl (c.in-Some.faults, c.in-Some.ensures.some, c.explain.ensures.ended) }

pub returns-in-Some-flash_asked : goal.returns-in-Some-flash_asked
returns-in-Some-flash_asked g c =
    let flash = c.in-Some-flash_asked.flash.now in
    let old : Scene = g.H.Known.known c.args.host.now in
    let new : Scene = g.H.Known.known c.find.new.host in
    let ended = subst (λ (form : Form). EndsFound form flash old new c.find.result) c.form_asked-form.ensures c.find.ensures.ended in
    record { ended = inr (inr (inr (flash, c.in-Some-flash_asked.ensures.some, ended))) }

pub returns-in-Ok : goal.returns-in-Ok
returns-in-Ok g c =
    let looked = g.H.Known.known c.stated_for.new.host in
    let served = inl (c.in-Ok.request, c.in-Ok.ensures.some, c.served.ensures.ended) in
    record { ended = inr (inl (c.in_ok-stated.stated, looked, c.in_ok-stated.ensures.stated, served)) }

pub returns-in-Err : goal.returns-in-Err
returns-in-Err g c =
    let named = subcommand_rows_of c.args.matches.now in
    let old : Scene = g.H.Known.known c.args.host.now in
    let looked : Scene = g.H.Known.known c.stated_for.new.host in
    let new : Scene = g.H.Known.known c.used_wrongly.new.host in
    let stated = c.in_ok-stated.stated in
    elim c.in-Err.ensures.refused [
      | inl unsaid ↦
          let (name, rows, is, none) = c.in-Err.ensures.unsaid unsaid c.requires in
          elim none [
            | inl finds ↦
                absurd (c.in_default-flash_asked.ensures.none (search rules) c.requires (rows, is ∙ ap (λ (n : Text). Some (n, rows)) finds))
            | inr explains ↦
                absurd (c.in_default.ensures.none (search rules) (rows, is ∙ ap (λ (n : Text). Some (n, rows)) explains))
          ]
      | inr (inl memory) ↦
          let told = c.used_wrongly.ensures.memory memory in
          record { ended = inr (inr (inl (subst (KeepsAll old) (sym told.0) c.stated_for.ensures.kept, told.1))) }
      | inr (inr missaid) ↦
          let told = c.used_wrongly.ensures.told (not_for_memory named stated c.in-Err.usage_error missaid) in
          record { ended = inr (inl (stated, looked, c.in_ok-stated.ensures.stated, inr (c.in-Err.usage_error, missaid, told))) }
    ]
