-- The rows say what a folder has: a file `/d` and a directory `/e`.
use Rattle.std.proofs.Common.{◌≡◌, ℕ, List, [], ◌∷◌, All, true, refl}
use Rattle.std.proofs.lemmas.List.Elements.{All-cons, All-nil}
use Rattle.lfs_meta.specs.Laws.{NamesAreDecided}
use Rattle.lfs_meta.specs.Name.{IsName, is_name}
use Rattle.lfs_fs.specs.Path.{Path}
use Rattle.lfs_fs.specs.Row.{path_precedes}
use Rattle.lfs_fs.specs.Tree.{Dir, File}
use Rattle.lfs_sync.specs.Shown.{Shown}
use Rattle.lfs_change_tests.proofs.syncing.folder_is_planned.Goals as goal

abbrev root : Shown
root = record { path = []; node = Dir [] }

abbrev file : Shown
file = record { path = (100 ∷ []) ∷ []; node = File (120 ∷ []) [] }

abbrev directory : Shown
directory = record { path = (101 ∷ []) ∷ []; node = Dir [] }

abbrev Behind : Path → Shown → Type 0
Behind p s = path_precedes p s.path ≡ true

one_name : NamesAreDecided → (b : ℕ) → is_name (b ∷ []) ≡ true → All IsName ((b ∷ []) ∷ [])
one_name law b is = All-cons IsName (b ∷ []) [] ((law (b ∷ [])).0 is) (All-nil IsName)

pub sync_plan-requires-clause-rows : goal.sync_plan-requires-clause-rows
sync_plan-requires-clause-rows c =
    let law = c.names_are_decided.ensures in (
      root ∷ file ∷ directory ∷ [],
      record {
        each = (
          record { path = (All-nil IsName, refl); node = refl },
          (record { path = (one_name law 100 refl, refl); node = refl }, (record { path = (one_name law 101 refl, refl); node = refl }, tt)),
        );
        rise = (
          All-cons (Behind []) file (directory ∷ []) refl (All-cons (Behind []) directory [] refl (All-nil (Behind []))),
          (All-cons (Behind file.path) directory [] refl (All-nil (Behind file.path)), (All-nil (Behind directory.path), tt)),
        );
      },
    )
