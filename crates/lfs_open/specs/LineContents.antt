-- What the lines of a script put, of which each file is read once (own).
use Rattle.std.specs.BTreeMap.{get_by}
use Rattle.std.specs.Cmp.Lexicographic.{slice_cmp}
use Rattle.std.specs.Global.{Vec}
use Rattle.std.specs.Ordering.{nat_cmp}
use Rattle.std.specs.Prelude.{◌≡◌, ◌<◌, ◌++◌, ℕ, List, [], Option, Some, length, map, slice_index_or}
use Rattle.lfs_fs.specs.Limits.{most_file}
use Rattle.lfs_host.specs.Files.{Files, ReadsFile}
use Rattle.lfs_open.specs.declared.line_contents.FilesRead.{FilesRead}

-- what stands at a place of what was read
abbrev pub content_at : List (Vec ℕ) → ℕ → List ℕ
content_at read k = slice_index_or (map (λ b. b.items) read) k []

-- what stands at places
abbrev pub contents_by : List (Vec ℕ) → List ℕ → List (List ℕ)
contents_by read places = map (content_at read) places

-- more was read
abbrev pub Lengthens : List (Vec ℕ) → List (Vec ℕ) → Type 0
Lengthens old new = (more : List (Vec ℕ)) × (new ≡ old ++ more)

-- a file was read, and its contents stand here
abbrev pub StandsAt : Option Files → List (Vec ℕ) → List ℕ → ℕ → Type 0
StandsAt files read name k = (k < length read) × ReadsFile files name most_file (content_at read k)

-- files that were read, with where the contents of each stand; nothing stands first
pub record AreFilesRead (files : Option Files) (known : FilesRead) : Type 0 where
  pub some : 0 < length known.read.items
  pub none : content_at known.read.items 0 ≡ []
  pub each : (name : List ℕ) (k : ℕ) → get_by (λ n. slice_cmp nat_cmp name n.now) known.places ≡ Some k → StandsAt files known.read.items name k
