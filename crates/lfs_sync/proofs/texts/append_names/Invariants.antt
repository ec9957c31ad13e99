use Rattle.std.proofs.Common.{◌≡◌, ◌++◌, ◌∷◌, take, map, flat_map}
use Rattle.lfs_sync.proofs.texts.append_names.Given as goal

-- the names so far
abbrev pub invariant-loop-name : goal.invariant-loop-name
invariant-loop-name l = l.text.items ≡ l.initial.text.items ++ flat_map (λ m. 47 ∷ m) (map (λ n. n.now) (take l.name-index l.names))
