-- What the tags of a log tell of its image: what its superblock states, and where it goes on (SPEC.md, "0x0ff superblock", "0x6xx tail").
use Rattle.std.specs.Prelude.{ℕ, ◌==◌, ◌&&◌, ◌||◌, not, Bool, true, false, List, [], ◌∷◌, drop, Option, Some, None, option_map, bytes_eq, if◌then◌else◌}
use Rattle.std.specs.Int.{w32, from_le_bytes}
use Rattle.lfs_tag.specs.Commit.{Item, Commit}
use Rattle.lfs_tag.specs.Tag.{id_of, main_kind}
use Rattle.lfs_fs.specs.Superblock.{littlefs}
use Rattle.lfs_lower.specs.declared.told.Superblock.{Superblock}
use Rattle.lfs_lower.specs.declared.told.Told.{Told}
use Rattle.lfs_lower.specs.declared.seen_block.Stated.{Stated}

-- before the first tag
abbrev pub told_nothing : Told
told_nothing = record { superblock = None; is_named = false; next = None; is_alone = true }

-- the words of a superblock's struct: the disk version, the size of a block and the number of blocks, and three others
abbrev pub superblock_told : List ℕ → Superblock
superblock_told content = record {
  version = from_le_bytes w32 content;
  size = from_le_bytes w32 (drop 4 content);
  count = from_le_bytes w32 (drop 8 content);
}

-- the tag is about entry 0 or about none, and no name
abbrev pub is_beside : ℕ → Bool
is_beside word = (id_of word == 0 || id_of word == 0x3ff) && not (main_kind word == 0)

-- another name, or a tag of another entry
abbrev pub told_other : Told → ℕ → Told
told_other so_far word = record {
  superblock = so_far.superblock;
  is_named = so_far.is_named;
  next = so_far.next;
  is_alone = so_far.is_alone && is_beside word;
}

-- a tail
abbrev pub told_tail : Told → Option (ℕ × ℕ) → Told
told_tail so_far next = record { superblock = so_far.superblock; is_named = so_far.is_named; next = next; is_alone = so_far.is_alone }

-- What a tag tells, after others: an inline struct of 24 bytes of entry 0 is a superblock's, and so is the name of 8 bytes of type 0x0ff;
-- a hard tail goes on in the pair that it names. The entry is alone while no other has a tag.
abbrev pub told_by : Told → Item → Told
told_by so_far t =
    if t.word == 0x20100018 then record {
      superblock = Some (superblock_told t.content);
      is_named = so_far.is_named;
      next = so_far.next;
      is_alone = so_far.is_alone;
    }
    else if t.word == 0x0ff00008 then record {
      superblock = so_far.superblock;
      is_named = bytes_eq t.content littlefs;
      next = so_far.next;
      is_alone = so_far.is_alone;
    }
    else if t.word == 0x601ffc08 then told_tail so_far (Some (from_le_bytes w32 t.content, from_le_bytes w32 (drop 4 t.content)))
    else if main_kind t.word == 6 then told_tail so_far None
    else told_other so_far t.word

-- tags, one after another
abbrev pub told_after : Told → List Item → Told
told_after so_far [] = so_far
told_after so_far (t ∷ ts) = told_after (told_by so_far t) ts

-- whether there are commits, and what their tags tell
abbrev pub stated_behind : Bool → Told → List Commit → Stated
stated_behind is_there so_far [] = record { is_there = is_there; told = so_far }
stated_behind is_there so_far (c ∷ cs) = stated_behind true (told_after so_far c.tags) cs

abbrev pub stated_in : List Commit → Stated
stated_in commits = stated_behind false told_nothing commits

-- the disk version that a superblock's struct states, whatever its name is
abbrev pub version_told : Told → Option ℕ
version_told t = option_map (λ s. s.version) t.superblock
