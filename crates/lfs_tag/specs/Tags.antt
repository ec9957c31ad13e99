-- The tags of a log, as they are handed out (own).
use Rattle.std.specs.Prelude.{ℕ, List}
use Rattle.lfs_tag.specs.declared.tag.Tag.{Tag}
use Rattle.lfs_tag.specs.Tag.{word_of}
use Rattle.lfs_tag.specs.Commit.{Item}

-- a tag with its data
abbrev pub item_with : Tag → List ℕ → Item
item_with tag content = record { word = word_of tag; content = content }
