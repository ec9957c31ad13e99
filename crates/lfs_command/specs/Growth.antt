-- How many blocks an image has once a command is carried out (own).
use Rattle.std.specs.Prelude.{ℕ}
use Rattle.lfs_fs.specs.Volume.{Volume}
use Rattle.lfs_command.specs.Command.{Command, Grow}

-- the number of blocks after a command
abbrev pub count_after : Command → ℕ → ℕ
count_after (Grow n) count = n
count_after _ count = count

-- The volume that a command is carried out on: with as many blocks as there are then, of which nothing uses the added ones.
abbrev pub grown : Command → Volume → Volume
grown c v = record {
  size = v.size;
  count = count_after c v.count;
  limits = v.limits;
  attributes = v.attributes;
  directories = v.directories;
}
