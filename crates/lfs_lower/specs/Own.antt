-- As many bytes of an image as its superblock states (own).
use Rattle.std.specs.Prelude.{ℕ, ◌*◌, ◌≡◌, ◌⊎◌, List, take, Option, Some, None, option_and_then}
use Rattle.std.specs.Option.{option_map_or}
use Rattle.lfs_block.specs.Disk.{Disk, IsDisk, image_of}
use Rattle.lfs_block.specs.ImageFault.{IsNoImage}
use Rattle.lfs_block.specs.declared.image_fault.ImageFault.{ImageFault}
use Rattle.lfs_meta.specs.Body.{StoredBody, Inline, Chain, Directory_at}
use Rattle.lfs_meta.specs.Entry.{StoredEntry}
use Rattle.lfs_fs.specs.Pair.{root}
use Rattle.lfs_fs.specs.Reading.{Reading, reading_of}
use Rattle.lfs_fs.specs.Superblock.{word_at}
use Rattle.lfs_lower.specs.OneSuperblock.{superblock_at, superblock_in}

-- the number of blocks that the struct of a superblock states
abbrev pub count_of_struct : StoredBody → Option ℕ
count_of_struct (Inline bytes) = Some (word_at bytes 2)
count_of_struct (Chain head size) = None
count_of_struct (Directory_at first second) = None

-- the number of blocks that the superblock states with which entries begin
abbrev pub count_in : List StoredEntry → Option ℕ
count_in es = option_and_then (λ e. count_of_struct e.body) (superblock_in es)

-- the number of blocks that the superblock of the root's first pair states; none where that pair begins with none
abbrev pub count_stated : Reading → Option ℕ
count_stated r = option_and_then (λ e. count_of_struct e.body) (superblock_at r root)

-- as many of an image's bytes as its superblock states; all of them where it has none, or states more
abbrev pub own_part : Disk → List ℕ
own_part d = option_map_or (λ count. take (count * d.size) d.bytes) (count_stated (reading_of d)) d.bytes

-- the same of bytes, of which those that are no image stay
abbrev pub IsOwnPart : ℕ → List ℕ → List ℕ → Type 0
IsOwnPart size bytes own =
    (IsDisk (image_of size bytes) × (own ≡ own_part (image_of size bytes))) ⊎ ((fault : ImageFault) × IsNoImage fault size bytes × (own ≡ bytes))
