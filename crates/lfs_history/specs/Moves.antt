-- How a history goes on to another (own).
use Rattle.std.specs.Prelude.{◌≡◌, ℕ, zero, suc, ◌-◌, List, [], ◌∷◌, ◌++◌, length, take, drop, Option, None, Some}
use Rattle.lfs_block.specs.Disk.{Disk}
use Rattle.lfs_block.specs.Patch.{ChangeSet, applied}
use Rattle.lfs_history.specs.History.{History, fresh_history}

-- the nearest images of the past, as many as are kept; all of them where no number is said
abbrev pub kept_images : Option ℕ → List Disk → List Disk
kept_images None ds = ds
kept_images (Some keep) ds = take keep ds

-- how many of so many changes are dropped, so that as many are left as are kept
abbrev pub dropped : Option ℕ → ℕ → ℕ
dropped None many = 0
dropped (Some keep) many = many - keep

-- the latest changes, as many as are kept
abbrev pub kept_changes : Option ℕ → List ChangeSet → List ChangeSet
kept_changes keep ps = drop (dropped keep (length ps)) ps

-- how many are kept beside the latest
abbrev pub but_one : Option ℕ → Option ℕ
but_one None = None
but_one (Some keep) = Some (keep - 1)

-- a change is made, what was undone is dropped, and so is all of the past but what is kept
pub record Pushes (p : ChangeSet) (keep : Option ℕ) (old new : History) : Type 0 where
  pub past : new.past ≡ kept_images keep (old.present ∷ old.past)
  pub present : new.present ≡ applied p old.present
  pub future : new.future ≡ []
  pub done : new.done ≡ kept_changes keep (old.done ++ p ∷ [])
  pub undone : new.undone ≡ []

-- the nearest image of the past is the present again, and the present is the nearest of the future
pub record Undoes (old new : History) : Type 0 where
  pub past : old.past ≡ new.present ∷ new.past
  pub future : new.future ≡ old.present ∷ old.future
  pub change : ChangeSet
  pub done : old.done ≡ new.done ++ change ∷ []
  pub undone : new.undone ≡ change ∷ old.undone

-- the reverse
abbrev pub Redoes : History → History → Type 0
Redoes old new = Undoes new old

-- a move that is made so many times, one after another
abbrev pub Repeats : (History → History → Type 0) → ℕ → History → History → Type 0
Repeats move zero old new = new ≡ old
Repeats move (suc n) old new = (mid : History) × move old mid × Repeats move n mid new

-- the present stays, and all else is dropped
abbrev pub Forgets : History → History → Type 0
Forgets old new = new ≡ fresh_history old.present
