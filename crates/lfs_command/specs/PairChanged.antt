-- Which block of a pair is written where its part is set, and with what (own).
use Rattle.std.specs.Prelude.{◌≡◌, ℕ, ◌==◌, Bool, true, false, List, Some, Contains, if◌then◌else◌}
use Rattle.lfs_block.specs.Disk.{Disk, block_of}
use Rattle.lfs_meta.specs.declared.tail.Tail.{Tail}
use Rattle.lfs_meta.specs.declared.tail.Tail.TheVariants.{End, Soft, Hard}
use Rattle.lfs_meta.specs.Body.{Pair}
use Rattle.lfs_meta.specs.LiveBlock.{stored_part_of}
use Rattle.lfs_meta.specs.Part.{StoredPart}
use Rattle.lfs_pair.specs.Appending.{changed_block, changed_number, rewritten_block}
use Rattle.lfs_pair.specs.Difference.{Forced, Nothing, Struct, Value}
use Rattle.lfs_pair.specs.Writing.{other_number}
use Rattle.lfs_fs.specs.Thread.{Link, links}
use Rattle.lfs_fs.specs.Volume.{Volume}
use Rattle.lfs_command.specs.Command.{Command, Put, SetAttr}
use Rattle.lfs_command.specs.Parent.{last_name}
use Rattle.lfs_command.specs.Need.{is_new_to}

-- what a command writes even where it stays the same: the struct of the file that is put, the value that is set
abbrev pub forced_by : Command → Forced
forced_by (Put p bytes most) = Struct (last_name p)
forced_by (SetAttr p k value) = Value (last_name p) k
forced_by _ = Nothing

-- a part was cut where its directory goes on behind it in a new pair
abbrev pub is_cut_by : (Pair → Bool) → Tail → Bool
is_cut_by is_new End = false
is_cut_by is_new (Soft first second) = false
is_cut_by is_new (Hard first second) = is_new (first, second)

-- The block that carries a pair to a part, and its number: where the part was cut, the one that isn't live, rewritten; else the live one
-- with a commit appended, where there is room for it, or the other one rewritten.
abbrev pub pair_number : Disk → Bool → Forced → Pair → StoredPart → ℕ
pair_number d true forced pair q = other_number d pair
pair_number d false forced pair q = changed_number d pair forced q

abbrev pub pair_block : Disk → Bool → Forced → Pair → StoredPart → List ℕ
pair_block d true forced pair q = rewritten_block d pair q
pair_block d false forced pair q = changed_block d pair forced q

-- the other block of a pair
abbrev pub beside : Pair → ℕ → ℕ
beside pair n = if pair.0 == n then pair.1 else pair.0

-- In the image e, which was d, a pair holds a part by the block that carries it there, and its other block stays.
pub record IsPairChanged (d e : Disk) (is_cut : Bool) (forced : Forced) (pair : Pair) : Type 0 where
  pub part : StoredPart
  pub holds : stored_part_of e pair ≡ Some part
  pub here : block_of e (pair_number d is_cut forced pair part) ≡ pair_block d is_cut forced pair part
  pub there : block_of e (beside pair (pair_number d is_cut forced pair part)) ≡ block_of d (beside pair (pair_number d is_cut forced pair part))

-- each pair of v whose part is set in w is changed so
abbrev pub ChangesPairs : Forced → Volume → Volume → Disk → Disk → Type 0
ChangesPairs forced v w d e = (l : Link) → Contains (links w.directories) l → l.part.dirty ≡ true → is_new_to v l.part.pair ≡ false
    → IsPairChanged d e (is_cut_by (is_new_to v) l.tail) forced l.part.pair
