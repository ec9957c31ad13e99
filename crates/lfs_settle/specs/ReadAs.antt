-- Bytes as they are read, in one of two manners (own).
use Rattle.std.specs.Prelude.{ℕ, ◌≡◌, Bool, true, false, List}
use Rattle.lfs_settle.specs.ByDevice.{IsReadByDevice}

-- as a device does, if that is asked for, and else as they are
abbrev pub IsReadAs : Bool → ℕ → List ℕ → List ℕ → Type 0
IsReadAs true size old new = IsReadByDevice size old new
IsReadAs false size old new = new ≡ old
