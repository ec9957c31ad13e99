use Rattle.std.proofs.Common.{◌≡◌, ◌++◌, ◌∷◌, take, map, flat_map, string_bytes}
use Rattle.lfs_extract.proofs.host_path.host_name.Given as goal

-- the names so far
abbrev pub invariant-loop-part : goal.invariant-loop-part
invariant-loop-part l = string_bytes l.name ≡ l.dir ++ flat_map (λ m. 47 ∷ m) (map (λ n. n.now) (take l.part-index l.path))
