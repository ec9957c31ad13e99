use Rattle.std.proofs.Common.{◌≡◌, take}
use Rattle.lfs_json.proofs.PathLemmas.{slashed}
use Rattle.lfs_json.proofs.paths.text_of.Given as goal

-- the names so far
abbrev pub invariant-loop-name : goal.invariant-loop-name
invariant-loop-name l = l.text.items ≡ slashed (take l.name-index l.path)
