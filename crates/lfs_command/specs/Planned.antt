-- What is planned for a command that is asked for, and why none is (own).
use Rattle.std.specs.Prelude.{ℕ, ◌≡◌, ◌+◌, List, [], ◌∷◌, true, false, Some, All, Contains, length, map, nat_le, take}
use Rattle.std.specs.List.{Any}
use Rattle.lfs_block.specs.Disk.{Disk, block_of, resized}
use Rattle.lfs_block.specs.Patch.{ChangeSet, IsGrowth, AgreesOld, applied}
use Rattle.lfs_file.specs.Laying.{laid}
use Rattle.lfs_meta.specs.Body.{Pair}
use Rattle.lfs_fs.specs.Directory.{Part, thread}
use Rattle.lfs_fs.specs.Volume.{Volume}
use Rattle.lfs_fs.specs.Free.{free_blocks}
use Rattle.lfs_fs.specs.Uses.{times}
use Rattle.lfs_fs.specs.Sound.{IsSound}
use Rattle.lfs_fs.specs.Reading.{reading_of}
use Rattle.lfs_fs.specs.Holds.{Holds}
use Rattle.lfs_command.specs.declared.refusal.Refusal.{Refusal}
use Rattle.lfs_command.specs.declared.refusal.Refusal.TheVariants.{BadPath, Memory}
use Rattle.lfs_command.specs.Command.{Command, Asked, Spells, SpellsNone, Put}
use Rattle.lfs_command.specs.Growth.{count_after, grown}
use Rattle.lfs_command.specs.Supplies.{Supplies, inline_limit, supply_uses}
use Rattle.lfs_command.specs.Edited.{edited}
use Rattle.lfs_command.specs.Cut.{cut, new_pair_uses}
use Rattle.lfs_command.specs.Need.{need, data_blocks, is_new_to, changed_parts}
use Rattle.lfs_command.specs.Ordered.{TakesInOrder}
use Rattle.lfs_command.specs.Verdict.{verdict}
use Rattle.lfs_command.specs.Clean.{clean}
use Rattle.lfs_command.specs.Accepted.{IsAccepted, AreChosen}
use Rattle.lfs_command.specs.Freed.{free_after}
use Rattle.lfs_command.specs.PairChanged.{ChangesPairs, forced_by}
use Rattle.lfs_command.specs.PartWritten.{numbers_of, FirstIsFilled}

-- one of the numbers is a block of the part's pair
abbrev pub HasOneOf : List ℕ → Part → Type 0
HasOneOf numbers p = Any (Contains numbers) (p.pair.0 ∷ p.pair.1 ∷ [])

-- the blocks that are written: the least free ones, of which those are that the command adds, as many as it needs, and one of each
-- part's pair that it changes
pub record IsFrugal (v : Volume) (c : Command) (s : Supplies) (numbers : List ℕ) : Type 0 where
  pub free : All (Contains numbers) (take (need v c) (free_blocks (grown c v)))
  pub changed : All (HasOneOf numbers) (changed_parts v (edited v c s))
  pub len : length numbers ≡ need v c + length (changed_parts v (edited v c s))

-- the blocks that a command takes are the least free ones
abbrev pub TakesLeast : Volume → Command → Supplies → (Part → List Pair) → Type 0
TakesLeast v c s chosen = (n : ℕ) → supply_uses v c s n + new_pair_uses chosen (edited v c s) n ≡ times n (take (need v c) (free_blocks (grown c v)))

-- in an image each part that is set in w whose pair v hasn't stands alone in the first block of its pair, beside an erased one
abbrev pub FillsNewPairs : Volume → Volume → Disk → Type 0
FillsNewPairs v w d = (p : Part) → Contains (thread w.directories) p → p.dirty ≡ true → is_new_to v p.pair ≡ true
    → FirstIsFilled d.size (block_of d p.pair.0) (block_of d p.pair.1)

-- where a command puts a file's contents into blocks, an image has in these what is laid there: all is erased behind the contents
abbrev pub HasLaid : Volume → Command → Supplies → Disk → Type 0
HasLaid v (Put p bytes most) s d = nat_le (length bytes) (inline_limit v.size most) ≡ false → map (block_of d) s.blocks ≡ laid d.size bytes s.blocks
HasLaid v _ s d = Unit {0}

-- An accepted command takes the least free blocks of a volume in order, and leaves another one.
pub record CarriesOut (c : Command) (v w : Volume) : Type 0 where
  pub supplies : Supplies
  pub blocks : length supplies.blocks ≡ data_blocks v c
  pub accepted : IsAccepted v c supplies
  pub chosen : Part → List Pair
  pub pairs : AreChosen v c supplies chosen
  pub ordered : TakesInOrder v c supplies chosen
  pub is : w ≡ clean (cut chosen (edited v c supplies))

-- A patch of an image carries out a command that is asked for: the command leads from the volume that the image holds to the one
-- that the patched image holds, and the patch stands in the image, whose count becomes the command's. It names the blocks that the
-- command takes; what is free then are the blocks that were, without them, and those of what was removed or replaced. What is new
-- stands alone in the first blocks of new pairs, the second ones of which are erased, and in new blocks of contents, erased behind
-- these; a pair that was there is changed by a commit appended to its live block, where there is room for it, and else by its other
-- block rewritten.
pub record Plans (d : Disk) (asked : Asked) (p : ChangeSet) : Type 0 where
  pub volume : Volume
  pub holds : Holds (reading_of d) volume
  pub command : Command
  pub spells : Spells asked command
  pub next : Volume
  pub carried : CarriesOut command volume next
  pub patch : IsGrowth p
  pub stands : AgreesOld p d
  pub count : p.after ≡ count_after command p.before
  pub after : Holds (reading_of (applied p d)) next
  pub laid : HasLaid volume command carried.supplies (applied p d)
  pub filled : FillsNewPairs volume (cut carried.chosen (edited volume command carried.supplies)) (applied p d)
  pub changed : ChangesPairs (forced_by command) volume (cut carried.chosen (edited volume command carried.supplies)) (resized p.after d) (applied p d)
  pub frugal : IsFrugal volume command carried.supplies (numbers_of p)
  pub free : free_blocks next ≡ free_after volume command carried.supplies carried.chosen

-- A command that is asked for is refused on the sound volume that an image holds.
pub record RefusesCommand (d : Disk) (asked : Asked) (r : Refusal) : Type 0 where
  pub volume : Volume
  pub holds : Holds (reading_of d) volume
  pub sound : IsSound volume
  pub command : Command
  pub spells : Spells asked command
  pub refused : verdict volume command ≡ Some r

-- why nothing is planned: a text that spells no path, the verdict, or want of memory
abbrev pub RefusesPlan : Disk → Asked → Refusal → Type 0
RefusesPlan d asked BadPath = SpellsNone asked
RefusesPlan d asked Memory = Unit {0}
RefusesPlan d asked r = RefusesCommand d asked r
