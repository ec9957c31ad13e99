-- Blocks that tests are made of (own).
use Rattle.std.specs.Prelude.{ℕ, ◌-◌, List, ◌++◌, length, replicate, take}

-- a block of this size that begins so, and is erased behind that
abbrev pub erased_behind : ℕ → List ℕ → List ℕ
erased_behind size front = take size front ++ replicate (size - length front) 0xff
