-- The blocks that parts are in (own).
use Rattle.std.specs.Prelude.{ℕ, ◌+◌, List, [], ◌∷◌, replicate, slice_set}
use Rattle.lfs_salvage.specs.declared.block_use.BlockUse.{BlockUse}
use Rattle.lfs_salvage.specs.declared.block_use.BlockUse.TheVariants as use_of
use Rattle.lfs_survey.specs.declared.area.Area.{Area}
use Rattle.lfs_survey.specs.declared.found.Found.{Found}
use Rattle.lfs_survey.specs.declared.found.Found.TheVariants.{Part, Refused}

-- the blocks of a part that is found at a call of an area are its
abbrev pub uses_by_part : List BlockUse → ℕ → ℕ → Found → List BlockUse
uses_by_part uses area call (Part p) = slice_set (slice_set uses p.0.0 (use_of.Part area call)) p.0.1 (use_of.Part area call)
uses_by_part uses area call (Refused fault) = uses

-- and so are those of all that is found, of which the first has this number
abbrev pub parts_uses : List BlockUse → ℕ → ℕ → List Found → List BlockUse
parts_uses uses area call [] = uses
parts_uses uses area call (f ∷ fs) = parts_uses (uses_by_part uses area call f) area (call + 1) fs

-- in areas, of which the first has this number
abbrev pub areas_uses : List BlockUse → ℕ → List Area → List BlockUse
areas_uses uses area [] = uses
areas_uses uses area (a ∷ more) = areas_uses (parts_uses uses area 0 a.found.items) (area + 1) more

-- of so many blocks those of all parts of the areas are theirs, and all others are free
abbrev pub uses_at_first : ℕ → List Area → List BlockUse
uses_at_first count areas = areas_uses (replicate count use_of.Free) 0 areas
