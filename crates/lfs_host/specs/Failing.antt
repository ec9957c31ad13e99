-- Which call of a host fails (own).
use Rattle.std.specs.Prelude.{◌==◌, ◌-◌, Bool, false, if◌then◌else◌}
use Rattle.lfs_host.specs.declared.failing.Failing.{Failing}
use Rattle.lfs_host.specs.declared.failing.Failing.TheVariants.{Never, Behind}

-- whether the next call fails: none is left before the one that is to
abbrev pub fails_next : Failing → Bool
fails_next Never = false
fails_next (Behind others) = others == 0

-- which call fails of those behind the next one
abbrev pub behind_next : Failing → Failing
behind_next Never = Never
behind_next (Behind others) = if others == 0 then Never else Behind (others - 1)
