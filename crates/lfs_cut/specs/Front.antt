-- Directories in front, which alone have parts that a command set (own).
use Rattle.std.specs.Prelude.{ℕ, ◌≡◌, false, List, All, drop}
use Rattle.lfs_fs.specs.Directory.{Directory, thread}

-- no part of the directories behind so many is set
abbrev pub IsCleanFrom : ℕ → List Directory → Type 0
IsCleanFrom n ds = All (λ p. p.dirty ≡ false) (thread (drop n ds))
