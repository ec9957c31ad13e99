use Rattle.std.proofs.Common.{◌≡◌, ◌++◌, ◌∷◌, take, map, flat_map}
use Rattle.lfs_listing.specs.Listing.{shown_byte}
use Rattle.lfs_listing.proofs.paths.append_path.Given as goal

-- the names so far
abbrev pub invariant-loop-name : goal.invariant-loop-name
invariant-loop-name l = l.text.items
    ≡ l.initial.text.items ++ flat_map shown_byte (flat_map (λ m. 47 ∷ m) (map (λ n. n.now) (take l.name-index l.path)))
