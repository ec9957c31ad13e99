-- How saving ends what can be read of an image that doesn't mount.
use Rattle.std.proofs.Common.{◌≡◌, ◌⊎◌, ◌∙◌, ℕ, Bool, true, false, List, Option, Some, None, ap, inl, inr, option_map, refl, subst, sym}
use Rattle.std.specs.Prelude.{if◌then◌else◌}
use Rattle.lfs_block.specs.Disk.{Disk}
use Rattle.lfs_block.specs.declared.mount_fault.MountFault.{MountFault}
use Rattle.lfs_block.specs.declared.mount_fault.MountFault.TheVariants.{BlockTwice, Orphan}
use Rattle.lfs_extract.specs.declared.extract_fault.ExtractFault.{ExtractFault}
use Rattle.lfs_extract.specs.declared.extract_fault.ExtractFault.TheVariants.{Memory, HostName, CannotWrite}
use Rattle.lfs_exchange.specs.Handing.{IsUnreadBy}
use Rattle.lfs_host.specs.HostTree.{HostTree, IsKind}
use Rattle.lfs_host.specs.NewFolder.{Made}
use Rattle.lfs_host.specs.HostCall.{Looking}
use Rattle.lfs_host.specs.Scene.{Scene}
use Rattle.lfs_salvage.specs.Below.{HasRefusedBelow}
use Rattle.lfs_host.specs.declared.host_kind.HostKind.TheVariants.{Missing}
use Rattle.lfs_request.specs.declared.fault.Fault.{Fault}
use Rattle.lfs_request.specs.declared.fault.Fault.TheVariants as fault
use Rattle.lfs_request.specs.declared.fault.Fault.TheVariants.{DamagedCommit, Mount, Refused, CannotRead, HostEntry}
use Rattle.lfs_salvage.specs.Saved.{SavesAll, StopsSaving}
use Rattle.lfs_salvage.specs.Losses.{has_loss}
use Rattle.lfs_salvage.specs.declared.saved.Saved.{Saved}
use Rattle.lfs_survey.specs.Damaged.{has_older}
use Rattle.lfs_open.specs.Extracting.{FindsFolder, fault_of_extracting}
use Rattle.lfs_open.specs.Salvaging.{EndsNamed, EndsSaving, IsOther, misses, named_end}

-- ---- faults that aren't that an image doesn't mount

-- how making a folder ends
pub made_other : (why : Option ExtractFault) → IsOther (option_map fault_of_extracting why)
made_other None = tt
made_other (Some Memory) = tt
made_other (Some HostName) = tt
made_other (Some CannotWrite) = tt

module _ (dir : List ℕ) (tree : Option HostTree) (old : Option (List Made)) (new : Scene) where
  -- what isn't read
  unread_other : (fault : Fault) → IsUnreadBy (Looking dir) new fault → IsOther (Some fault)
  unread_other (Mount fault) unread = unread
  unread_other _ unread = tt

  -- or is there under the folder's name
  pub there_other : (fault : Fault) → IsUnreadBy (Looking dir) new fault ⊎ ((fault ≡ HostEntry) × FindsFolder dir tree old new.made) → IsOther (Some fault)
  there_other fault (inl unread) = unread_other fault unread
  there_other fault (inr (is, finds)) = subst (λ (f : Fault). IsOther (Some f)) (sym is) tt

-- ---- saving

-- what was made before is as it was
pub saved_from : (d e : Disk) (dir : List ℕ) (mid old new : Option (List Made)) (s : Saved) → mid ≡ old → SavesAll d e dir mid new s
    → SavesAll d e dir old new s
saved_from d e dir mid old new s same saves = subst (λ (made : Option (List Made)). SavesAll d e dir made new s) same saves

module _ (d e : Disk) (cause : MountFault) (dir : List ℕ) (tree : Option HostTree) (old : Option (List Made)) (new : Scene) where
  -- what isn't missing ends it, and nothing is made
  pub there_unsaved : (fault : Fault) → IsUnreadBy (Looking dir) new fault ⊎ ((fault ≡ HostEntry) × FindsFolder dir tree old new.made) → new.made ≡ old
      → EndsSaving d e cause dir tree old new (Some fault)
  there_unsaved CannotRead (inl unread) same = (unread, same)
  there_unsaved (Refused refusal) (inl unread) same = (unread, inl same)
  there_unsaved _ (inl unread) same = absurd unread
  there_unsaved fault (inr (is, finds)) same = subst (λ (f : Fault). EndsSaving d e cause dir tree old new (Some f)) (sym is) finds

  -- what keeps a folder from being made ends it
  stopped_so : (fault : ExtractFault) → IsKind tree dir Missing → StopsSaving d e dir old new.made fault → (fault ≡ CannotWrite → HasRefusedBelow new dir)
      → EndsSaving d e cause dir tree old new (Some (fault_of_extracting fault))
  stopped_so Memory missing stops blamed = (refl, inr (missing, stops))
  stopped_so HostName missing stops blamed = absurd stops
  stopped_so CannotWrite missing stops blamed = (blamed refl, missing, stops)

  pub saving_stopped : (mid : Option (List Made)) (fault : ExtractFault) (told : Fault) → mid ≡ old → told ≡ fault_of_extracting fault
      → IsKind tree dir Missing → StopsSaving d e dir mid new.made fault → (fault ≡ CannotWrite → HasRefusedBelow new dir)
      → EndsSaving d e cause dir tree old new (Some told)
  saving_stopped mid fault told same is missing stops blamed =
      let so = subst (λ (made : Option (List Made)). StopsSaving d e dir made new.made fault) same stops in
      subst (λ (f : Fault). EndsSaving d e cause dir tree old new (Some f)) (sym is) (stopped_so fault missing so blamed)

  -- what ends it is told
  pub saving_told : (ended : Option Fault) (fault : Fault) → ended ≡ Some fault → EndsSaving d e cause dir tree old new (Some fault)
      → EndsSaving d e cause dir tree old new ended
  saving_told ended fault is ends = subst (EndsSaving d e cause dir tree old new) (sym is) ends

  -- all is saved, and something is missed or not
  pub all_saved : (s : Saved) (ended : Option Fault) → IsKind tree dir Missing → SavesAll d e dir old new.made s
      → ended ≡ (if misses d s then Some (Mount cause) else None) → EndsSaving d e cause dir tree old new ended
  all_saved s ended missing saves is = go (misses d s) refl is
    where
      go : (b : Bool) → misses d s ≡ b → ended ≡ (if b then Some (Mount cause) else None) → EndsSaving d e cause dir tree old new ended
      go true missed is =
          subst (EndsSaving d e cause dir tree old new) (sym is)
          (refl, record { missing = missing; what = s; saved = saves; missed_is = missed })
      go false missed is =
          subst (EndsSaving d e cause dir tree old new) (sym is)
          (record { missing = missing; what = s; saved = saves; missed_is = missed })

-- ---- saving what can be read of an image that mounts, of which a host may not have each name

abbrev end_by : Bool → Option Fault
end_by older = if older then Some DamagedCommit else None

module _ (d e : Disk) (dir : List ℕ) (tree : Option HostTree) (old : Option (List Made)) (new : Scene) where
  -- what keeps it from being saved ends it
  pub named_stopped : (ended : Option Fault) (why : Fault) → ended ≡ Some why
      → ((cause : MountFault) → EndsSaving d e cause dir tree old new (Some why)) → EndsNamed d e dir tree old new ended
  named_stopped ended why is ends = subst (EndsNamed d e dir tree old new) (sym is) (go why ends)
    where
      go : (f : Fault) → ((cause : MountFault) → EndsSaving d e cause dir tree old new (Some f)) → EndsNamed d e dir tree old new (Some f)
      go (Mount found) at =
          let one : found ≡ Orphan = (at Orphan).0 in
          let other : found ≡ BlockTwice = (at BlockTwice).0 in
          let same : Orphan ≡ BlockTwice = sym one ∙ other in absurd (cc)
      go DamagedCommit at = absurd (at Orphan)
      go fault.HostName at = absurd (at Orphan)
      go _ at = at Orphan

  -- it is saved, and something is lost, or an older state of a pair is found, or neither
  pub named_saved : (s : Saved) (ended : Option Fault) → IsKind tree dir Missing → SavesAll d e dir old new.made s → ended ≡ named_end d s
      → EndsNamed d e dir tree old new ended
  named_saved s ended missing saves is = go (has_loss s) (has_older true d s.areas.items) refl refl
    where
      go : (lost older : Bool) → has_loss s ≡ lost → has_older true d s.areas.items ≡ older → EndsNamed d e dir tree old new ended
      go true older loss found =
          let ends : named_end d s ≡ Some fault.HostName =
          ap (λ (t : Bool). if t then Some fault.HostName else end_by (has_older true d s.areas.items)) loss in
          subst (EndsNamed d e dir tree old new) (sym (is ∙ ends)) (record { missing = missing; what = s; saved = saves; ends = ends })
      go false true loss found =
          let ends : named_end d s ≡ Some DamagedCommit =
          ap (λ (t : Bool). if t then Some fault.HostName else end_by (has_older true d s.areas.items)) loss ∙ ap end_by found in
          subst (EndsNamed d e dir tree old new) (sym (is ∙ ends)) (record { missing = missing; what = s; saved = saves; ends = ends })
      go false false loss found =
          let ends : named_end d s ≡ None =
          ap (λ (t : Bool). if t then Some fault.HostName else end_by (has_older true d s.areas.items)) loss ∙ ap end_by found in
          subst (EndsNamed d e dir tree old new) (sym (is ∙ ends)) (record { missing = missing; what = s; saved = saves; ends = ends })
