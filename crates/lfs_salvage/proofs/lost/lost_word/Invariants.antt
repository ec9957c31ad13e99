use Rattle.std.proofs.Common.{◌≡◌, ◌++◌, replicate, string_bytes}
use Rattle.lfs_salvage.specs.Lost.{lost_name}
use Rattle.lfs_salvage.proofs.lost.lost_word.Given as goal

-- the tildes so far
abbrev pub invariant-loop : goal.invariant-loop
invariant-loop l = string_bytes l.word ≡ lost_name ++ replicate l.counter 126
