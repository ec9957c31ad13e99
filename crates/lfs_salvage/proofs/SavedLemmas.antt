-- What is saved of all of an image.
use Rattle.std.proofs.Common.{◌≡◌, inl, inr, ℕ, Bool, false, List, [], ◌∷◌, ◌++◌, Option, append-nil, append_assoc, ap, length, refl, sym, subst, Result, ◌∙◌}
use Rattle.std.specs.Prelude.{OnOk}
use Rattle.std.proofs.lemmas.List.{length-replicate}
use Rattle.std.proofs.lemmas.Result.{on_ok_weaker}
use Rattle.lfs_block.specs.Disk.{Disk}
use Rattle.lfs_extract.specs.declared.extract_fault.ExtractFault.{ExtractFault}
use Rattle.lfs_extract.specs.declared.extract_fault.ExtractFault.TheVariants.{CannotWrite, HostName, Memory}
use Rattle.lfs_host.specs.NewFolder.{Made, Makes}
use Rattle.lfs_salvage.specs.AllMade.{all_lost_made, all_lost_unsaved, all_lost_uses, front_behind_all}
use Rattle.lfs_salvage.specs.AreaMade.{area_made, area_unsaved, area_uses}
use Rattle.lfs_salvage.specs.CallWords.{CallWords}
use Rattle.lfs_salvage.specs.Lost.{front_behind_root}
use Rattle.lfs_salvage.specs.PartsUsed.{areas_uses}
use Rattle.lfs_salvage.specs.Saved.{AreLeft, StopsSaving, image_made, image_unsaved, image_uses, lost_of, survey_front, survey_made, survey_part, survey_unsaved, survey_uses, uses_between, uses_first}
use Rattle.lfs_salvage.specs.Saving.{MakesFirst, Saves, Stops}
use Rattle.lfs_salvage.specs.declared.block_use.BlockUse.{BlockUse}
use Rattle.lfs_salvage.specs.declared.front.Front.{Front}
use Rattle.lfs_salvage.specs.declared.unsaved.Unsaved.{Unsaved}
use Rattle.lfs_salvage.proofs.SavingLemmas.{then_saves}
use Rattle.lfs_survey.proofs.AreaLemmas.{after_len}
use Rattle.lfs_survey.specs.Survey.{IsSurvey, behind_area, behind_areas, unlooked}
use Rattle.lfs_survey.specs.declared.area.Area.{Area}
use Rattle.lfs_survey.specs.declared.survey.Survey.{Survey}

-- ---- the table of what was looked at

behind_len : (looked : List Bool) (areas : List Area) → length (behind_areas looked areas) ≡ length looked
behind_len looked [] = refl
behind_len looked (a ∷ more) = behind_len (behind_area looked a) more ∙ after_len looked a.calls.items a.found.items

-- a survey says of each block whether it was looked at
pub survey_len : (e : Disk) (s : Survey) → IsSurvey e s → length s.looked.items ≡ e.count
survey_len e s is = ap length is.looked ∙ behind_len (unlooked e) s.areas.items ∙ length-replicate e.count false

-- ---- the root's area, and those behind it

module _ (d : Disk) (uses mid : List BlockUse) (areas : List Area) (root : Area) (later : List Area) (all : areas ≡ root ∷ later) where
  pub survey_is_made : (dir lost : List ℕ) (front : Front) (first : List CallWords) (others : List (List CallWords))
      → front ≡ front_behind_root root.found.items → mid ≡ area_uses d 0 uses root
      → area_made d dir 0 first uses root ++ all_lost_made d dir lost front 1 others mid later
      ≡ survey_made d dir lost (first ∷ others) uses areas
  survey_is_made dir lost front first others lacks used =
      ap (λ (f : Front). area_made d dir 0 first uses root ++ all_lost_made d dir lost f 1 others mid later) lacks
      ∙ ap (λ (t : List BlockUse). area_made d dir 0 first uses root
      ++ all_lost_made d dir lost (front_behind_root root.found.items) 1 others t later) used
      ∙ sym (ap (survey_made d dir lost (first ∷ others) uses) all)

  pub survey_is_used : mid ≡ area_uses d 0 uses root → all_lost_uses d 1 mid later ≡ survey_uses d uses areas
  survey_is_used used = ap (λ (t : List BlockUse). all_lost_uses d 1 t later) used ∙ sym (ap (survey_uses d uses) all)

  pub survey_is_unsaved : (first : List CallWords) (others : List (List CallWords)) → mid ≡ area_uses d 0 uses root
      → area_unsaved d 0 first uses root ++ all_lost_unsaved d 1 others mid later ≡ survey_unsaved d (first ∷ others) uses areas
  survey_is_unsaved first others used =
      ap (λ (t : List BlockUse). area_unsaved d 0 first uses root ++ all_lost_unsaved d 1 others t later) used
      ∙ sym (ap (survey_unsaved d (first ∷ others) uses) all)

pub survey_is_front : (areas : List Area) (root : Area) (later : List Area) (front : Front) → areas ≡ root ∷ later
    → front ≡ front_behind_root root.found.items → front_behind_all front later ≡ survey_front areas
survey_is_front areas root later front all lacks = ap (λ (f : Front). front_behind_all f later) lacks ∙ sym (ap survey_front all)

-- one list behind another one, of entries that aren't saved
pub told_then : (before told new first second complete : List Unsaved) → told ≡ before ++ first → new ≡ told ++ second
    → first ++ second ≡ complete → new ≡ before ++ complete
told_then before told new first second complete one other all =
    other ∙ ap (λ (us : List Unsaved). us ++ second) one ∙ append_assoc before first second ∙ ap (λ (us : List Unsaved). before ++ us) all

-- of what succeeds
pub told_as : {T : Type 0} (result : Result T ExtractFault) (before told first second : List Unsaved) → first ≡ second
    → OnOk result (told ≡ before ++ first) → OnOk result (told ≡ before ++ second)
told_as result before told first second is tells = on_ok_weaker result (λ same. same ∙ ap (λ (us : List Unsaved). before ++ us) is) tells

pub told_on : {T : Type 0} (result : Result T ExtractFault) (before told new first second complete : List Unsaved) → told ≡ before ++ first
    → first ++ second ≡ complete → OnOk result (new ≡ told ++ second) → OnOk result (new ≡ before ++ complete)
told_on result before told new first second complete one all tells =
    on_ok_weaker result (λ other. told_then before told new first second complete one other all) tells

-- ---- the areas of the survey are saved

-- what is made of them, what blocks are used for then, what isn't saved, and which folders lack
pub record HasSurvey (d : Disk) (dir : List ℕ) (areas : List Area) (old mid : Option (List Made)) (uses : List BlockUse)
    (told : List Unsaved) (front : Front) : Type 0 where
  pub words : List (List CallWords)
  pub made : Makes old mid (survey_part d dir words areas)
  pub used : uses ≡ survey_uses d (uses_first d areas) areas
  pub unsaved : told ≡ survey_unsaved d words (uses_first d areas) areas
  pub lacks : front ≡ survey_front areas

-- by what the code has for the areas, for the folder of what no path leads to and for what blocks are used for at first
module _ (d : Disk) (dir lost : List ℕ) (uses : List BlockUse) (areas slice : List Area) (there : lost ≡ lost_of dir areas)
    (begun : uses ≡ uses_first d areas) (are : slice ≡ areas) where
  pub part_is_made : (words : List (List CallWords)) → survey_made d dir lost words uses slice ≡ survey_part d dir words areas
  part_is_made words =
      ap (λ (l : List ℕ). survey_made d dir l words uses slice) there
      ∙ ap (λ (t : List BlockUse). survey_made d dir (lost_of dir areas) words t slice) begun
      ∙ ap (survey_made d dir (lost_of dir areas) words (uses_first d areas)) are

  pub has_survey : (old mid : Option (List Made)) (after : List BlockUse) (before told : List Unsaved) (front : Front)
      (words : List (List CallWords)) → Makes old mid (survey_made d dir lost words uses slice) → after ≡ survey_uses d uses slice
      → told ≡ before ++ survey_unsaved d words uses slice → before ≡ [] → front ≡ survey_front slice
      → HasSurvey d dir areas old mid after told front
  has_survey old mid after before told front words made used unsaved none lacks = record {
    words = words;
    made = subst (λ (m : List Made). Makes old mid m) (part_is_made words) made;
    used = used ∙ ap (λ (t : List BlockUse). survey_uses d t slice) begun ∙ ap (survey_uses d (uses_first d areas)) are;
    unsaved = unsaved ∙ ap (λ (us : List Unsaved). us ++ survey_unsaved d words uses slice) none
        ∙ ap (λ (t : List BlockUse). survey_unsaved d words t slice) begun ∙ ap (survey_unsaved d words (uses_first d areas)) are;
    lacks = lacks ∙ ap survey_front are;
  }

-- ---- and then those of blocks by themselves

module _ (d : Disk) (dir lost : List ℕ) (areas lone marked slice : List Area) (old mid : Option (List Made)) (uses between : List BlockUse)
    (told : List Unsaved) (front : Front) (first : ℕ) (h : HasSurvey d dir areas old mid uses told front) (there : lost ≡ lost_of dir areas)
    (counted : first ≡ length areas) (marks : between ≡ areas_uses uses first marked) (are_marked : marked ≡ lone)
    (are : slice ≡ lone) where
  between_is : between ≡ uses_between d areas lone
  between_is =
      marks ∙ ap (λ (t : List BlockUse). areas_uses t first marked) h.used
      ∙ ap (λ (n : ℕ). areas_uses (survey_uses d (uses_first d areas) areas) n marked) counted
      ∙ ap (areas_uses (survey_uses d (uses_first d areas) areas) (length areas)) are_marked

  abbrev left_made : List (List CallWords) → List Made
  left_made others = all_lost_made d dir (lost_of dir areas) (survey_front areas) (length areas) others (uses_between d areas lone) lone

  left_is : (others : List (List CallWords)) → all_lost_made d dir lost front first others between slice ≡ left_made others
  left_is others =
      ap (λ (l : List ℕ). all_lost_made d dir l front first others between slice) there
      ∙ ap (λ (f : Front). all_lost_made d dir (lost_of dir areas) f first others between slice) h.lacks
      ∙ ap (λ (n : ℕ). all_lost_made d dir (lost_of dir areas) (survey_front areas) n others between slice) counted
      ∙ ap (λ (t : List BlockUse). all_lost_made d dir (lost_of dir areas) (survey_front areas) (length areas) others t slice) between_is
      ∙ ap (all_lost_made d dir (lost_of dir areas) (survey_front areas) (length areas) others (uses_between d areas lone)) are

  pub complete_saves : (others : List (List CallWords)) (result : Result (Unit {0}) ExtractFault) (new : Option (List Made))
      → Saves result mid new (all_lost_made d dir lost front first others between slice)
      → Saves result old new (image_made d dir h.words others areas lone)
  complete_saves others result new saves =
      then_saves result old mid new (survey_part d dir h.words areas) (left_made others) h.made
      (subst (λ (m : List Made). Saves result mid new m) (left_is others) saves)

  pub complete_used : (after : List BlockUse) → after ≡ all_lost_uses d first between slice → after ≡ image_uses d areas lone
  complete_used after used =
      used ∙ ap (λ (n : ℕ). all_lost_uses d n between slice) counted
      ∙ ap (λ (t : List BlockUse). all_lost_uses d (length areas) t slice) between_is
      ∙ ap (all_lost_uses d (length areas) (uses_between d areas lone)) are

  pub complete_unsaved : (others : List (List CallWords)) (more : List Unsaved) → more ≡ told ++ all_lost_unsaved d first others between slice
      → more ≡ image_unsaved d h.words others areas lone
  complete_unsaved others more unsaved =
      unsaved ∙ ap (λ (us : List Unsaved). us ++ all_lost_unsaved d first others between slice) h.unsaved
      ∙ ap (λ (us : List Unsaved). survey_unsaved d h.words (uses_first d areas) areas ++ us)
      (ap (λ (n : ℕ). all_lost_unsaved d n others between slice) counted
      ∙ ap (λ (t : List BlockUse). all_lost_unsaved d (length areas) others t slice) between_is
      ∙ ap (all_lost_unsaved d (length areas) others (uses_between d areas lone)) are)

-- ---- where it ends

module _ (d e : Disk) (dir : List ℕ) (old new : Option (List Made)) (survey : Survey) (is : IsSurvey e survey)
    (words : List (List CallWords)) where
  -- among the areas of the survey
  pub stops_surveyed : (fault : ExtractFault) → Stops fault old new (survey_part d dir words survey.areas.items)
      → StopsSaving d e dir old new fault
  stops_surveyed CannotWrite stop = record { survey = survey; surveyed = is; words = words; stops = inl stop }
  stops_surveyed Memory stop = inr (record { survey = survey; surveyed = is; words = words; stops = inl stop })
  stops_surveyed HostName stop = stop

  -- or behind them
  pub stops_left : (lone : List Area) (others : List (List CallWords))
      → AreLeft e survey (survey_uses d (uses_first d survey.areas.items) survey.areas.items) lone → (fault : ExtractFault)
      → Stops fault old new (image_made d dir words others survey.areas.items lone) → StopsSaving d e dir old new fault
  stops_left lone others left CannotWrite stop =
      record { survey = survey; surveyed = is; words = words; stops = inr (lone, others, left, stop) }
  stops_left lone others left Memory stop =
      inr (record { survey = survey; surveyed = is; words = words; stops = inr (lone, others, left, stop) })
  stops_left lone others left HostName stop = stop

-- all is made, and then memory is refused
pub all_first : (old new : Option (List Made)) (complete : List Made) → Makes old new complete → MakesFirst old new complete
all_first old new complete made = record { prefix = complete; rest = []; split = append-nil complete; made = made }
