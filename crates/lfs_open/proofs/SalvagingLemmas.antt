-- How salvaging an image ends, whether it mounts or not.
use Rattle.std.proofs.Common.{◌≡◌, ℕ, Bool, true, false, List, [], Option, Some, None, inl, inr, refl, subst, sym}
use Rattle.std.specs.Prelude.{if◌then◌else◌}
use Rattle.lfs_block.specs.Disk.{Disk, IsDisk}
use Rattle.lfs_block.proofs.BytesLemmas.{image_of_disk}
use Rattle.lfs_command.specs.declared.refusal.Refusal.TheVariants.{Memory}
use Rattle.lfs_fs.specs.Path.{path_text}
use Rattle.lfs_host.specs.Files.{ReadsFrom}
use Rattle.lfs_host.specs.HostTree.{HostTree}
use Rattle.lfs_host.specs.NewFolder.{Made}
use Rattle.lfs_host.specs.Scene.{KeepsScene, Scene}
use Rattle.lfs_request.specs.View.{start_of}
use Rattle.lfs_request.specs.declared.fault.Fault.{Fault}
use Rattle.lfs_request.specs.declared.fault.Fault.TheVariants.{Image, Mount, DamagedCommit, Refused}
use Rattle.lfs_request.specs.declared.view.View.{View}
use Rattle.lfs_exchange.specs.Handing.{IsNotTakenUp, most_image}
use Rattle.lfs_exchange.specs.declared.step_kind.StepKind.TheVariants.{Asks}
use Rattle.lfs_open.specs.Extracting.{EndsMaking}
use Rattle.lfs_open.specs.ReadBy.{IsReadFrom}
use Rattle.lfs_open.specs.Salvaging.{AreOwn, EndsImage, EndsSalvage, EndsSalvaged, EndsWhole, Finds, IsOther}

module _ (dir : List ℕ) (tree : Option HostTree) (old : Option (List Made)) (new : Scene) where
  -- ---- an image that mounts

  module _ (i d e : Disk) where
    -- memory is wanting before a folder is made of it
    pub whole_without_memory : (ended : Option Fault) → new.made ≡ old → ended ≡ Some (Refused Memory) → EndsWhole i d e dir tree old new ended
    whole_without_memory ended same told = subst (EndsWhole i d e dir tree old new) (sym told) (inr (refl, inl same))

    -- something else ends it
    pub whole_stopped : (ended : Option Fault) (fault : Fault) → ended ≡ Some fault → IsOther (Some fault)
        → EndsMaking i (path_text []) dir tree old new (Some fault) → EndsWhole i d e dir tree old new ended
    whole_stopped ended fault told other ends = subst (EndsWhole i d e dir tree old new) (sym told) (go fault other ends)
      where
        go : (f : Fault) → IsOther (Some f) → EndsMaking i (path_text []) dir tree old new (Some f) → EndsWhole i d e dir tree old new (Some f)
        go (Mount why) other at = absurd other
        go DamagedCommit other at = absurd at
        go _ other at = at

    -- a folder is made of it, and an older state of a pair is found or not
    pub whole_made : (found : Bool) (ended : Option Fault) → ended ≡ (if found then Some DamagedCommit else None) → Finds d e false found false
        → EndsMaking i (path_text []) dir tree old new None → EndsWhole i d e dir tree old new ended
    whole_made true ended told finds ends = subst (EndsWhole i d e dir tree old new) (sym told) (finds, ends)
    whole_made false ended told finds ends = subst (EndsWhole i d e dir tree old new) (sym told) (finds, ends)

  -- ---- bytes

  -- how it ends of the bytes that an image has
  pub ends_of_bytes : (own : List ℕ) (i : Disk) (size : ℕ) (bytes : List ℕ) (ended : Option Fault) → i.size ≡ size → i.bytes ≡ bytes
      → EndsSalvaged i.size own i.bytes dir tree old new ended → EndsSalvaged size own bytes dir tree old new ended
  ends_of_bytes own i size bytes ended size_is bytes_are ends =
      subst (λ (n : ℕ). EndsSalvaged n own bytes dir tree old new ended) size_is
      (subst (λ (l : List ℕ). EndsSalvaged i.size own l dir tree old new ended) bytes_are ends)

  module _ (i : Disk) (is : IsDisk i) (own : List ℕ) where
    -- memory is wanting for the image with each block lowered
    pub own_without_memory : (ended : Option Fault) → new.made ≡ old → ended ≡ Some (Refused Memory)
        → EndsSalvaged i.size own i.bytes dir tree old new ended
    own_without_memory ended same told =
        subst (EndsSalvaged i.size own i.bytes dir tree old new) (sym told)
        (subst (λ (x : Disk). IsDisk x) (sym (image_of_disk i is)) is, inl (refl, same))

    -- it ends as of an image
    pub own_ends : (d e : Disk) (ended : Option Fault) → AreOwn i.size own i.bytes d e → EndsImage i d e dir tree old new ended
        → EndsSalvaged i.size own i.bytes dir tree old new ended
    own_ends d e (Some (Image fault)) are ends =
        absurd (elim ends as (λ _. ⊥) [
          | inl none ↦ none
          | inr other ↦ elim other as (λ _. ⊥) [
            | inl named ↦ named.2
            | inr more ↦ elim more as (λ _. ⊥) [ inl lost ↦ lost.3 | inr caused ↦ caused.3 ]
          ]
        ])
    own_ends d e ended are ends =
        let same = sym (image_of_disk i is) in
        (subst (λ (x : Disk). IsDisk x) same is, inr (d, e, are, subst (λ (x : Disk). EndsImage x d e dir tree old new ended) same ends))

-- ---- an image's file

-- nothing is saved of one that isn't read
pub file_unsaved : (view : View) (size : ℕ) (name dir : List ℕ) (old new : Scene) (ended : Option Fault) (fault : Fault)
    → KeepsScene old new → new.made ≡ old.made → ended ≡ Some fault → IsNotTakenUp Asks new name fault → EndsSalvage view size name dir old new ended
file_unsaved view size name dir old new ended fault keeps made_is is unread = (keeps, inl (made_is, (fault, is, unread)))

-- what is saved of its bytes
pub file_salvaged : (view : View) (size : ℕ) (name dir bytes image : List ℕ) (old mid new : Scene) (ended : Option Fault)
    → ReadsFrom old.files name (start_of view) most_image bytes → mid.tree ≡ old.tree → mid.made ≡ old.made → KeepsScene old new
    → IsReadFrom view.offset true size bytes image
    → EndsSalvaged size bytes image dir mid.tree mid.made new ended → EndsSalvage view size name dir old new ended
file_salvaged view size name dir bytes image old mid new ended reads tree_is made_is keeps read ends =
    let by_tree = subst (λ (t : Option HostTree). EndsSalvaged size bytes image dir t mid.made new ended) tree_is ends in
    let by_made = subst (λ (o : Option (List Made)). EndsSalvaged size bytes image dir old.tree o new ended) made_is by_tree in
    (keeps, inr (bytes, reads, (image, read, by_made)))
