-- The areas of the survey, and then those of blocks by themselves.
use Rattle.std.proofs.Common.{◌≡◌, ◌∙◌, List, ℕ, Ok, Err, Option, ap, length, string_bytes, subst, vec_len}
use Rattle.std.proofs.lemmas.Result.{err_from_is_err_and}
use Rattle.lfs_block.specs.Disk.{Disk}
use Rattle.lfs_extract.specs.declared.extract_fault.ExtractFault.TheVariants.{Memory}
use Rattle.lfs_host.specs.NewFolder.{Made, Makes}
use Rattle.lfs_salvage.specs.PartsUsed.{uses_at_first}
use Rattle.lfs_salvage.specs.Saved.{AreLeft, image_made, lost_of, survey_part, survey_uses, uses_first}
use Rattle.lfs_salvage.specs.Saving.{Stops}
use Rattle.lfs_salvage.specs.declared.block_use.BlockUse.{BlockUse}
use Rattle.lfs_salvage.specs.declared.front.Front.{Front}
use Rattle.lfs_salvage.specs.declared.unsaved.Unsaved.{Unsaved}
use Rattle.lfs_salvage.proofs.SavedLemmas.{HasSurvey, all_first, has_survey, part_is_made, stops_left, stops_surveyed, survey_len, complete_saves, complete_unsaved, complete_used}
use Rattle.lfs_salvage.proofs.SavingLemmas.{below_then}
use Rattle.lfs_survey.specs.declared.area.Area.{Area}
use Rattle.lfs_survey.specs.declared.survey.Survey.{Survey}
use Rattle.lfs_salvage.proofs.saving_image.save_image.Goals as goal

pub find_left-requires : goal.find_left-requires
find_left-requires g c = record { len = survey_len (g.C.Blocks.disk c.args.parts.now) c.in_ok-survey.survey c.in_ok-survey.ensures }

pub returns-in_err-save_survey-clause-stopped : goal.returns-in_err-save_survey-clause-stopped
returns-in_err-save_survey-clause-stopped g c =
    let d : Disk = g.B.Blocks.disk c.args.disk.now in
    let e : Disk = g.C.Blocks.disk c.args.parts.now in
    let old : Option (List Made) = (g.F.Known.known c.args.folder.now).made in
    let mid : Option (List Made) = (g.F.Known.known c.save_survey.new.folder).made in
    let dir : List ℕ = c.args.dir.now in
    let lost : List ℕ = c.as_str-lost.result.now in
    let survey : Survey = c.in_ok-survey.survey in
    let areas : List Area = survey.areas.items in
    let uses : List BlockUse = c.in_ok-salvage.salvage.uses.items in
    let text : lost ≡ string_bytes c.in_ok-lost.lost = c.as_str-lost.ensures.value in
    let named : string_bytes c.in_ok-lost.lost ≡ lost_of dir c.deref-2.result.now = c.in_ok-lost.ensures.value in
    let there : lost ≡ lost_of dir areas = text ∙ named ∙ ap (lost_of dir) c.deref-2.ensures.value in
    let first : uses ≡ uses_at_first c.count.result c.deref.result.now = c.in_ok-salvage.ensures.uses in
    let begun : uses ≡ uses_first d areas =
    first ∙ ap (λ (n : ℕ). uses_at_first n c.deref.result.now) c.count.ensures ∙ ap (uses_at_first d.count) c.deref.ensures.value in
    let p = err_from_is_err_and c.from_residual-in_err-save_survey.result c.from_residual-in_err-save_survey.ensures.1 in
    let made = c.in_err-save_survey.ensures.made in
    rw (p.1, p.2) (stops_surveyed d e dir old mid survey c.in_ok-survey.ensures made.0 c.in_err-save_survey.field-0.0
    (subst (λ (m : List Made). Stops c.in_err-save_survey.field-0.0 old mid m)
    (part_is_made d dir lost uses areas c.deref-3.result.now there begun c.deref-3.ensures.value made.0) made.1.0))

pub returns-in_err-lone-clause-stopped : goal.returns-in_err-lone-clause-stopped
returns-in_err-lone-clause-stopped g c =
    let d : Disk = g.B.Blocks.disk c.args.disk.now in
    let e : Disk = g.C.Blocks.disk c.args.parts.now in
    let old : Option (List Made) = (g.F.Known.known c.args.folder.now).made in
    let mid : Option (List Made) = (g.F.Known.known c.save_survey.new.folder).made in
    let dir : List ℕ = c.args.dir.now in
    let lost : List ℕ = c.as_str-lost.result.now in
    let survey : Survey = c.in_ok-survey.survey in
    let areas : List Area = survey.areas.items in
    let uses : List BlockUse = c.in_ok-salvage.salvage.uses.items in
    let text : lost ≡ string_bytes c.in_ok-lost.lost = c.as_str-lost.ensures.value in
    let named : string_bytes c.in_ok-lost.lost ≡ lost_of dir c.deref-2.result.now = c.in_ok-lost.ensures.value in
    let there : lost ≡ lost_of dir areas = text ∙ named ∙ ap (lost_of dir) c.deref-2.ensures.value in
    let first : uses ≡ uses_at_first c.count.result c.deref.result.now = c.in_ok-salvage.ensures.uses in
    let begun : uses ≡ uses_first d areas =
    first ∙ ap (λ (n : ℕ). uses_at_first n c.deref.result.now) c.count.ensures ∙ ap (uses_at_first d.count) c.deref.ensures.value in
    let all = c.in_ok-save_survey.ensures.made in
    let made : Makes old mid (survey_part d dir all.0 areas) =
    subst (λ (m : List Made). Makes old mid m)
    (part_is_made d dir lost uses areas c.deref-3.result.now there begun c.deref-3.ensures.value all.0) all.1.0 in
    let p = err_from_is_err_and c.from_residual-in_err-lone.result c.from_residual-in_err-lone.ensures.1 in
    rw (p.1, p.2) (stops_surveyed d e dir old mid survey c.in_ok-survey.ensures all.0 Memory
    (all_first old mid (survey_part d dir all.0 areas) made))

pub returns-in_err-save_all_lost-clause-stopped : goal.returns-in_err-save_all_lost-clause-stopped
returns-in_err-save_all_lost-clause-stopped g c =
    let d : Disk = g.B.Blocks.disk c.args.disk.now in
    let e : Disk = g.C.Blocks.disk c.args.parts.now in
    let old : Option (List Made) = (g.F.Known.known c.args.folder.now).made in
    let mid : Option (List Made) = (g.F.Known.known c.save_survey.new.folder).made in
    let new : Option (List Made) = (g.F.Known.known c.save_all_lost.new.folder).made in
    let dir : List ℕ = c.args.dir.now in
    let lost : List ℕ = c.as_str-lost.result.now in
    let survey : Survey = c.in_ok-survey.survey in
    let areas : List Area = survey.areas.items in
    let uses : List BlockUse = c.in_ok-salvage.salvage.uses.items in
    let text : lost ≡ string_bytes c.in_ok-lost.lost = c.as_str-lost.ensures.value in
    let named : string_bytes c.in_ok-lost.lost ≡ lost_of dir c.deref-2.result.now = c.in_ok-lost.ensures.value in
    let there : lost ≡ lost_of dir areas = text ∙ named ∙ ap (lost_of dir) c.deref-2.ensures.value in
    let first : uses ≡ uses_at_first c.count.result c.deref.result.now = c.in_ok-salvage.ensures.uses in
    let begun : uses ≡ uses_first d areas =
    first ∙ ap (λ (n : ℕ). uses_at_first n c.deref.result.now) c.count.ensures ∙ ap (uses_at_first d.count) c.deref.ensures.value in
    let used : List BlockUse = c.save_survey.new.salvage.uses.items in
    let told : List Unsaved = c.save_survey.new.salvage.unsaved.items in
    let front : Front = c.save_survey.new.front in
    let all = c.in_ok-save_survey.ensures.made in
    let h : HasSurvey d dir areas old mid used told front =
    has_survey d dir lost uses areas c.deref-3.result.now there begun c.deref-3.ensures.value old mid used
    c.in_ok-salvage.salvage.unsaved.items told front all.0 all.1.0 c.in_ok-save_survey.ensures.uses all.1.1 c.in_ok-salvage.ensures.unsaved
    c.in_ok-save_survey.ensures.front in
    let lone : List Area = c.in_ok-lone.lone.items in
    let left : AreLeft e survey (survey_uses d (uses_first d areas) areas) lone =
    subst (λ (t : List BlockUse). AreLeft e survey t lone) (c.deref-4.ensures.value ∙ h.used) c.in_ok-lone.ensures.left in
    let counted : c.len-first.result ≡ length areas = c.len-first.ensures ∙ ap vec_len c.find_left.ensures.areas ∙ survey.areas.ok.0 in
    let others = c.in_err-save_all_lost.ensures.made in
    let stop : Stops c.in_err-save_all_lost.field-0.0 old new (image_made d dir h.words others.0 areas lone) =
    complete_saves d dir lost areas lone c.deref-5.result.now c.deref-6.result.now old mid used c.mark_areas.new.self.uses.items told front
    c.len-first.result h there counted c.mark_areas.ensures.uses c.deref-5.ensures.value c.deref-6.ensures.value others.0
    (Err c.in_err-save_all_lost.field-0.0) new others.1.0 in
    let p = err_from_is_err_and c.from_residual-in_err-save_all_lost.result c.from_residual-in_err-save_all_lost.ensures.1 in
    rw (p.1, p.2) (stops_left d e dir old new survey c.in_ok-survey.ensures h.words lone others.0 left
    c.in_err-save_all_lost.field-0.0 stop)

pub returns-in_err-save_all_lost-clause-below : goal.returns-in_err-save_all_lost-clause-below
returns-in_err-save_all_lost-clause-below g c =
    below_then c.args.dir.now (g.F.Known.known c.args.folder.now).made (g.F.Known.known c.save_survey.new.folder).made
    (g.F.Known.known c.save_all_lost.new.folder).made c.save_survey.ensures.below c.save_all_lost.ensures.below

pub returns-in_err-append-clause-stopped : goal.returns-in_err-append-clause-stopped
returns-in_err-append-clause-stopped g c =
    let d : Disk = g.B.Blocks.disk c.args.disk.now in
    let e : Disk = g.C.Blocks.disk c.args.parts.now in
    let old : Option (List Made) = (g.F.Known.known c.args.folder.now).made in
    let mid : Option (List Made) = (g.F.Known.known c.save_survey.new.folder).made in
    let new : Option (List Made) = (g.F.Known.known c.save_all_lost.new.folder).made in
    let dir : List ℕ = c.args.dir.now in
    let lost : List ℕ = c.as_str-lost.result.now in
    let survey : Survey = c.in_ok-survey.survey in
    let areas : List Area = survey.areas.items in
    let uses : List BlockUse = c.in_ok-salvage.salvage.uses.items in
    let text : lost ≡ string_bytes c.in_ok-lost.lost = c.as_str-lost.ensures.value in
    let named : string_bytes c.in_ok-lost.lost ≡ lost_of dir c.deref-2.result.now = c.in_ok-lost.ensures.value in
    let there : lost ≡ lost_of dir areas = text ∙ named ∙ ap (lost_of dir) c.deref-2.ensures.value in
    let first : uses ≡ uses_at_first c.count.result c.deref.result.now = c.in_ok-salvage.ensures.uses in
    let begun : uses ≡ uses_first d areas =
    first ∙ ap (λ (n : ℕ). uses_at_first n c.deref.result.now) c.count.ensures ∙ ap (uses_at_first d.count) c.deref.ensures.value in
    let used : List BlockUse = c.save_survey.new.salvage.uses.items in
    let told : List Unsaved = c.save_survey.new.salvage.unsaved.items in
    let front : Front = c.save_survey.new.front in
    let all = c.in_ok-save_survey.ensures.made in
    let h : HasSurvey d dir areas old mid used told front =
    has_survey d dir lost uses areas c.deref-3.result.now there begun c.deref-3.ensures.value old mid used
    c.in_ok-salvage.salvage.unsaved.items told front all.0 all.1.0 c.in_ok-save_survey.ensures.uses all.1.1 c.in_ok-salvage.ensures.unsaved
    c.in_ok-save_survey.ensures.front in
    let lone : List Area = c.in_ok-lone.lone.items in
    let left : AreLeft e survey (survey_uses d (uses_first d areas) areas) lone =
    subst (λ (t : List BlockUse). AreLeft e survey t lone) (c.deref-4.ensures.value ∙ h.used) c.in_ok-lone.ensures.left in
    let counted : c.len-first.result ≡ length areas = c.len-first.ensures ∙ ap vec_len c.find_left.ensures.areas ∙ survey.areas.ok.0 in
    let others = c.in_ok-save_all_lost.ensures.made in
    let made : Makes old new (image_made d dir h.words others.0 areas lone) =
    complete_saves d dir lost areas lone c.deref-5.result.now c.deref-6.result.now old mid used c.mark_areas.new.self.uses.items told front
    c.len-first.result h there counted c.mark_areas.ensures.uses c.deref-5.ensures.value c.deref-6.ensures.value others.0 (Ok tt) new
    others.1.0 in
    let p = err_from_is_err_and c.from_residual-in_err-append.result c.from_residual-in_err-append.ensures.1 in
    rw (p.1, p.2) (stops_left d e dir old new survey c.in_ok-survey.ensures h.words lone others.0 left Memory
    (all_first old new (image_made d dir h.words others.0 areas lone) made))

pub returns-in_err-append-clause-below : goal.returns-in_err-append-clause-below
returns-in_err-append-clause-below g c =
    below_then c.args.dir.now (g.F.Known.known c.args.folder.now).made (g.F.Known.known c.save_survey.new.folder).made
    (g.F.Known.known c.save_all_lost.new.folder).made c.save_survey.ensures.below c.save_all_lost.ensures.below

pub returns-clause-saved : goal.returns-clause-saved
returns-clause-saved g c =
    let d : Disk = g.B.Blocks.disk c.args.disk.now in
    let e : Disk = g.C.Blocks.disk c.args.parts.now in
    let old : Option (List Made) = (g.F.Known.known c.args.folder.now).made in
    let mid : Option (List Made) = (g.F.Known.known c.save_survey.new.folder).made in
    let new : Option (List Made) = (g.F.Known.known c.save_all_lost.new.folder).made in
    let dir : List ℕ = c.args.dir.now in
    let lost : List ℕ = c.as_str-lost.result.now in
    let survey : Survey = c.in_ok-survey.survey in
    let areas : List Area = survey.areas.items in
    let uses : List BlockUse = c.in_ok-salvage.salvage.uses.items in
    let text : lost ≡ string_bytes c.in_ok-lost.lost = c.as_str-lost.ensures.value in
    let named : string_bytes c.in_ok-lost.lost ≡ lost_of dir c.deref-2.result.now = c.in_ok-lost.ensures.value in
    let there : lost ≡ lost_of dir areas = text ∙ named ∙ ap (lost_of dir) c.deref-2.ensures.value in
    let first : uses ≡ uses_at_first c.count.result c.deref.result.now = c.in_ok-salvage.ensures.uses in
    let begun : uses ≡ uses_first d areas =
    first ∙ ap (λ (n : ℕ). uses_at_first n c.deref.result.now) c.count.ensures ∙ ap (uses_at_first d.count) c.deref.ensures.value in
    let used : List BlockUse = c.save_survey.new.salvage.uses.items in
    let told : List Unsaved = c.save_survey.new.salvage.unsaved.items in
    let front : Front = c.save_survey.new.front in
    let all = c.in_ok-save_survey.ensures.made in
    let h : HasSurvey d dir areas old mid used told front =
    has_survey d dir lost uses areas c.deref-3.result.now there begun c.deref-3.ensures.value old mid used
    c.in_ok-salvage.salvage.unsaved.items told front all.0 all.1.0 c.in_ok-save_survey.ensures.uses all.1.1 c.in_ok-salvage.ensures.unsaved
    c.in_ok-save_survey.ensures.front in
    let lone : List Area = c.in_ok-lone.lone.items in
    let left : AreLeft e survey (survey_uses d (uses_first d areas) areas) lone =
    subst (λ (t : List BlockUse). AreLeft e survey t lone) (c.deref-4.ensures.value ∙ h.used) c.in_ok-lone.ensures.left in
    let counted : c.len-first.result ≡ length areas = c.len-first.ensures ∙ ap vec_len c.find_left.ensures.areas ∙ survey.areas.ok.0 in
    let between : List BlockUse = c.mark_areas.new.self.uses.items in
    let others = c.in_ok-save_all_lost.ensures.made in
    record {
      survey = survey;
      lone = lone;
      words = h.words;
      others = others.0;
      is = record {
        surveyed = c.in_ok-survey.ensures;
        left = left;
        areas = rw c.find_left.ensures.areas at c.in_ok-append.ensures.items;
        uses = complete_used d dir lost areas lone c.deref-5.result.now c.deref-6.result.now old mid used between told front
            c.len-first.result h there counted c.mark_areas.ensures.uses c.deref-5.ensures.value c.deref-6.ensures.value
            c.save_all_lost.new.salvage.uses.items c.in_ok-save_all_lost.ensures.uses;
        unsaved = complete_unsaved d dir lost areas lone c.deref-5.result.now c.deref-6.result.now old mid used between told front
            c.len-first.result h there counted c.mark_areas.ensures.uses c.deref-5.ensures.value c.deref-6.ensures.value others.0
            c.save_all_lost.new.salvage.unsaved.items (rw c.mark_areas.ensures.unsaved at others.1.1);
      };
      made = complete_saves d dir lost areas lone c.deref-5.result.now c.deref-6.result.now old mid used between told front
          c.len-first.result h there counted c.mark_areas.ensures.uses c.deref-5.ensures.value c.deref-6.ensures.value others.0 (Ok tt) new
          others.1.0;
    }

pub returns-clause-below : goal.returns-clause-below
returns-clause-below g c =
    below_then c.args.dir.now (g.F.Known.known c.args.folder.now).made (g.F.Known.known c.save_survey.new.folder).made
    (g.F.Known.known c.save_all_lost.new.folder).made c.save_survey.ensures.below c.save_all_lost.ensures.below
