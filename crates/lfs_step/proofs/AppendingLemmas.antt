-- What is told of the images around one.
use Rattle.std.proofs.Common.{◌≡◌, ℕ, ◌+◌, List, [], ◌∷◌, ◌++◌, ap, sym, ◌∙◌, subst, append_assoc, append-nil}
use Rattle.std.specs.List.{AllZip}
use Rattle.lfs_block.specs.Disk.{Disk}
use Rattle.lfs_block.specs.Patch.{ChangeSet}
use Rattle.lfs_fs.specs.Mounted.{MountedValue, IsMountOf}
use Rattle.lfs_history.specs.declared.open_fault.OpenFault.{OpenFault}
use Rattle.lfs_session.specs.Opened.{RefusesMount, RefusesMounts}
use Rattle.lfs_session.proofs.OpeningLemmas.{first_refused, later_refused}
use Rattle.lfs_json.specs.declared.form.Form.{Form}
use Rattle.lfs_listing.specs.Difference.{difference}
use Rattle.lfs_step.specs.Between.{AppendsChanges, AppendsLater, images_at, images_behind}
use Rattle.lfs_step.specs.Log.{change_line, log_behind, history_text_from}

-- nothing is told behind the last image
pub appends_none : (form : Form) (d : Disk) (m : MountedValue) (ps : List ChangeSet) (at done : ℕ) (old : List ℕ) → images_behind d ps at ≡ []
    → AppendsLater form d m ps at done old old
appends_none form d m ps at done old none = record {
  mounts = [];
  are = subst (λ (es : List Disk). AllZip IsMountOf es []) (sym none) tt;
  text = sym (append-nil old) ∙ ap (λ (es : List Disk). old ++ log_behind form (at + 1) done d m es []) (sym none);
}

-- a change is told, and then those behind it
pub appends_next : (form : Form) (d e : Disk) (m k : MountedValue) (ps : List ChangeSet) (i j done : ℕ) (old mid new : List ℕ) → j ≡ i + 1
    → images_behind d ps i ≡ e ∷ images_behind e ps j → IsMountOf e k
    → mid ≡ old ++ change_line form (i + 1) done ++ difference form d m.rows e k.rows
    → AppendsLater form e k ps j done mid new → AppendsLater form d m ps i done old new
appends_next form d e m k ps i j done old mid new next later mounts line told =
    let es = images_behind e ps j in
    let rest = log_behind form (j + 1) done e k es told.mounts in
    let change = change_line form (i + 1) done in
    let differs = difference form d m.rows e k.rows in
    let both : mid ≡ old ++ (change ++ differs) = line ∙ append_assoc old change differs in
    record {
      mounts = k ∷ told.mounts;
      are = subst (λ (ds : List Disk). AllZip IsMountOf ds (k ∷ told.mounts)) (sym later) (mounts, told.are);
      text = told.text ∙ ap (λ (xs : List ℕ). xs ++ rest) both ∙ append_assoc old (change ++ differs) rest
          ∙ ap (λ (n : ℕ). old ++ (change ++ differs ++ log_behind form (n + 1) done e k es told.mounts)) next
          ∙ ap (λ (ds : List Disk). old ++ log_behind form (i + 1) done d m ds (k ∷ told.mounts)) (sym later);
    }

-- all are told from the oldest image on
pub appends_first : (form : Form) (d : Disk) (m : MountedValue) (ps : List ChangeSet) (at done : ℕ) (old new : List ℕ) → at ≡ 0 → IsMountOf d m
    → AppendsLater form d m ps 0 done old new → AppendsChanges form d ps at done old new
appends_first form d m ps at done old new first mounts told =
    subst (λ (n : ℕ). AppendsChanges form d ps n done old new) (sym first)
    (record { mounts = m ∷ told.mounts; are = (mounts, told.are); text = told.text })

-- and so they are from the image before a change
pub appends_back : (form : Form) (d e : Disk) (ps : List ChangeSet) (i j done : ℕ) (old new : List ℕ) → images_at e ps i ≡ images_at d ps j
    → AppendsChanges form e ps i done old new → AppendsChanges form d ps j done old new
appends_back form d e ps i j done old new images told = record {
  mounts = told.mounts;
  are = subst (λ (es : List Disk). AllZip IsMountOf es told.mounts) images told.are;
  text = told.text ∙ ap (λ (es : List Disk). old ++ history_text_from form 1 done es told.mounts) images;
}

-- the image after a change isn't mounted, or one behind it
pub next_refused : (fault : OpenFault) (d e : Disk) (ps : List ChangeSet) (i j : ℕ) → images_behind d ps i ≡ e ∷ images_behind e ps j
    → RefusesMount fault e → RefusesMounts fault (images_behind d ps i)
next_refused fault d e ps i j later h = subst (RefusesMounts fault) (sym later) (first_refused fault e (images_behind e ps j) h)

pub behind_refused : (fault : OpenFault) (d e : Disk) (ps : List ChangeSet) (i j : ℕ) → images_behind d ps i ≡ e ∷ images_behind e ps j
    → RefusesMounts fault (images_behind e ps j) → RefusesMounts fault (images_behind d ps i)
behind_refused fault d e ps i j later h = subst (RefusesMounts fault) (sym later) (later_refused fault e (images_behind e ps j) h)

-- one behind the oldest image isn't mounted
pub first_image_refused : (fault : OpenFault) (d : Disk) (ps : List ChangeSet) (at : ℕ) → at ≡ 0 → RefusesMounts fault (images_behind d ps 0)
    → RefusesMounts fault (images_at d ps at)
first_image_refused fault d ps at first h =
    subst (λ (n : ℕ). RefusesMounts fault (images_at d ps n)) (sym first) (later_refused fault d (images_behind d ps 0) h)
