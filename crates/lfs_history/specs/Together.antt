-- Several commands as one change (own).
use Rattle.std.specs.Prelude.{◌≡◌, ℕ, ◌+◌, List, [], ◌∷◌, ◌++◌, Option, length}
use Rattle.std.specs.List.{AllZip}
use Rattle.lfs_block.specs.Disk.{Disk}
use Rattle.lfs_block.specs.Patch.{ChangeSet, applied}
use Rattle.lfs_journal.specs.Joined.{applied_all, together}
use Rattle.lfs_fs.specs.Path.{Path}
use Rattle.lfs_fs.specs.Volume.{Volume}
use Rattle.lfs_fs.specs.Tree.{Node}
use Rattle.lfs_fs.specs.Reading.{reading_of}
use Rattle.lfs_fs.specs.Holds.{Holds}
use Rattle.lfs_fs.specs.Mounts.{Mounts}
use Rattle.lfs_command.specs.declared.refusal.Refusal.{Refusal}
use Rattle.lfs_command.specs.Command.{Command, Asked, Spells}
use Rattle.lfs_command.specs.Need.{need}
use Rattle.lfs_command.specs.Equation.{equation}
use Rattle.lfs_command.specs.Accepted.{Follows}
use Rattle.lfs_command.specs.Planned.{Plans, RefusesPlan}
use Rattle.lfs_history.specs.History.{History}
use Rattle.lfs_history.specs.Moves.{Pushes}
use Rattle.lfs_history.specs.Place.{HasPlace, IsFull}

-- ---- on an image

-- each of the patches carries its command out, on the image to which those before it lead
abbrev pub PlansAll : Disk → List Asked → List ChangeSet → Type 0
PlansAll d [] [] = Unit {0}
PlansAll d (a ∷ asked) (p ∷ ps) = Plans d a p × PlansAll (applied p d) asked ps
PlansAll d [] (p ∷ ps) = ⊥
PlansAll d (a ∷ asked) [] = ⊥

-- one patch carries them out: that of the first, and those behind it
pub record PlansTogether (d : Disk) (asked : List Asked) (r : ChangeSet) : Type 0 where
  pub first : ChangeSet
  pub later : List ChangeSet
  pub plans : PlansAll d asked (first ∷ later)
  pub is : r ≡ together first later

-- the first that is refused, with its place: those before it lead to the image on which it is
pub record RefusesTogether (d : Disk) (asked : List Asked) (at : ℕ) (r : Refusal) : Type 0 where
  pub before : List Asked
  pub next : Asked
  pub behind : List Asked
  pub are : asked ≡ before ++ next ∷ behind
  pub place : length before ≡ at
  pub changes : List ChangeSet
  pub plans : PlansAll d before changes
  pub refused : RefusesPlan (applied_all changes d) next r

-- how many blocks the commands need, and two more each
abbrev pub needs : (d : Disk) (asked : List Asked) (ps : List ChangeSet) → PlansAll d asked ps → ℕ
needs d [] [] plans = 0
needs d (a ∷ asked) (p ∷ ps) plans = need plans.0.volume plans.0.command + 2 + needs (applied p d) asked ps plans.1
needs d [] (p ∷ ps) plans = 0
needs d (a ∷ asked) [] plans = 0

-- ---- on a history

-- there is room for one change, which carries all of them out
pub record DoesSome (asked : List Asked) (keep : Option ℕ) (old new : History) : Type 0 where
  pub room : HasPlace keep old
  pub change : ChangeSet
  pub plans : PlansTogether old.present asked change
  pub pushes : Pushes change keep old new

-- of no command nothing is done
abbrev pub DoesTogether : List Asked → Option ℕ → History → History → Type 0
DoesTogether [] keep old new = new ≡ old
DoesTogether (a ∷ asked) keep old new = DoesSome (a ∷ asked) keep old new

-- there is no room for one; no command needs any
abbrev pub IsFullFor : List Asked → Option ℕ → History → Type 0
IsFullFor [] keep h = ⊥
IsFullFor (a ∷ asked) keep h = IsFull keep h

-- ---- on the tree

-- the equations, one after another
abbrev pub equations : List Command → (Path → Option Node) → Path → Option Node
equations [] tree = tree
equations (c ∷ cs) tree = equations cs (equation c tree)

abbrev pub FollowsAll : Volume → List Command → Volume → Type 0
FollowsAll v [] w = w ≡ v
FollowsAll v (c ∷ cs) w = (u : Volume) × Follows v c u × FollowsAll u cs w

-- the image holds a volume that the commands lead to, whose tree is what their equations make
pub record AreCarriedOut (asked : List Asked) (e : Disk) (v : Volume) (t : Path → Option Node) : Type 0 where
  pub commands : List Command
  pub spell : AllZip Spells asked commands
  pub volume : Volume
  pub holds : Holds (reading_of e) volume
  pub follow : FollowsAll v commands volume
  pub mounts : Mounts e (equations commands t)
