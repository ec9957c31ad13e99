-- The bytes that a command brings (own).
use Rattle.std.specs.Prelude.{ℕ, List}
use Rattle.lfs_history.specs.declared.source.Source.{Source}
use Rattle.lfs_history.specs.declared.source.Source.TheVariants.{Input, File, Said}

-- those that are said, or those that were read of a source
abbrev pub bytes_given : List ℕ → Source → List ℕ
bytes_given read (Said bytes) = bytes.items
bytes_given read source = read
