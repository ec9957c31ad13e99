-- Which of its words an entry gets in a folder (own).
use Rattle.std.specs.Prelude.{◌≡◌, [], ◌∷◌, ℕ, List, Option, Some, None, option_map}
use Rattle.lfs_host.specs.HostCall.{BeginningFile, HostCall, MakingFolder}
use Rattle.lfs_host.specs.NewFolder.{FileMade, FolderMade, Made, Makes}
use Rattle.lfs_host.specs.Scene.{HasRefused, KeepsRefusals, Scene}
use Rattle.lfs_salvage.specs.declared.thing.Thing.{Thing}
use Rattle.lfs_salvage.specs.declared.thing.Thing.TheVariants as thing
use Rattle.lfs_salvage.specs.declared.wording.Wording.{Wording}
use Rattle.lfs_salvage.specs.declared.wording.Wording.TheVariants.{Own, Numbered, Alone}

-- what is made under a name: a folder, or a file that is begun
abbrev pub thing_made : Thing → List ℕ → Made
thing_made thing.Folder name = FolderMade name
thing_made thing.File name = FileMade name []

-- the call that makes it
abbrev pub thing_call : Thing → List ℕ → HostCall
thing_call thing.Folder name = MakingFolder name
thing_call thing.File name = BeginningFile name

-- it is made under a name, or nothing is
abbrev pub named_made : Thing → Option (List ℕ) → List Made
named_made what None = []
named_made what (Some name) = thing_made what name ∷ []

-- ---- one name

-- something is made under a name, or the host has refused that
abbrev pub TriesName : Thing → List ℕ → Option (List ℕ) → Scene → Scene → Type 0
TriesName what name (Some got) old new =
    (got ≡ name) × Makes old.made new.made (thing_made what name ∷ []) × KeepsRefusals old new
TriesName what name None old new = HasRefused new (thing_call what name) × (new.made ≡ old.made) × KeepsRefusals old new

-- ---- three names

-- the host has refused the words before this one, or if there is none all of them
abbrev pub HasRefusedBefore : Scene → (Wording → HostCall) → Option Wording → Type 0
HasRefusedBefore scene call (Some Own) = Unit {0}
HasRefusedBefore scene call (Some Numbered) = HasRefused scene (call Own)
HasRefusedBefore scene call (Some Alone) = HasRefused scene (call Own) × HasRefused scene (call Numbered)
HasRefusedBefore scene call None = HasRefused scene (call Own) × HasRefused scene (call Numbered) × HasRefused scene (call Alone)

-- of three names the first one that the host can have, or none
pub record GetsFirst (what : Thing) (names : Wording → List ℕ) (name : Option (List ℕ)) (old new : Scene) : Type 0 where
  pub word : Option Wording
  pub is : name ≡ option_map names word
  pub refused : HasRefusedBefore new (λ w. thing_call what (names w)) word
  pub made : Makes old.made new.made (named_made what name)
