-- The text of a history: its changes from the oldest on, and what each of them does to the tree (own).
use Rattle.std.specs.Prelude.{◌≡◌, ℕ, ◌+◌, nat_le, List, [], ◌∷◌, ◌++◌, if◌then◌else◌, length, codes}
use Rattle.std.specs.Fmt.{decimal}
use Rattle.std.specs.List.{AllZip}
use Rattle.lfs_block.specs.Disk.{Disk}
use Rattle.lfs_fs.specs.Mounted.{MountedValue, IsMountOf}
use Rattle.lfs_history.specs.History.{History}
use Rattle.lfs_history.specs.Laws.{images}
use Rattle.lfs_json.specs.Line.{line_of}
use Rattle.lfs_json.specs.Steps.{json_of_step}
use Rattle.lfs_json.specs.declared.form.Form.{Form}
use Rattle.lfs_json.specs.declared.form.Form.TheVariants.{Text, Json}
use Rattle.lfs_listing.specs.Difference.{difference}

-- the line of a change, in a form: its number, from the oldest on, and whether it is one of those that are done
abbrev pub change_line : Form → ℕ → ℕ → List ℕ
change_line Text number done = codes "change " ++ decimal number ++ (if nat_le number done then codes ", done\n" else codes ", undone\n")
change_line Json number done = line_of (json_of_step number (nat_le number done))

-- The text of the changes behind an image, from a number on, where the first so many of all are done, and where it and the images
-- behind it mount to these: the line of each change, and what differs between the trees before it and after it.
abbrev pub log_behind : Form → ℕ → ℕ → Disk → MountedValue → List Disk → List MountedValue → List ℕ
log_behind form number done d m (e ∷ es) (k ∷ ks) =
    change_line form number done ++ difference form d m.rows e k.rows ++ log_behind form (number + 1) done e k es ks
log_behind form number done d m _ _ = []

-- the text of the changes between images, from a number on
abbrev pub history_text_from : Form → ℕ → ℕ → List Disk → List MountedValue → List ℕ
history_text_from form number done (d ∷ ds) (m ∷ ms) = log_behind form number done d m ds ms
history_text_from form number done _ _ = []

-- the text of a history, in a form: each of its images mounts, and between each two of them stands a change
pub record IsHistoryLog (form : Form) (h : History) (text : List ℕ) : Type 0 where
  pub mounts : List MountedValue
  pub are : AllZip IsMountOf (images h) mounts
  pub text_is : text ≡ history_text_from form 1 (length h.done) (images h) mounts
