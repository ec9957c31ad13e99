-- Writing: the commit that a list of tags is written as (own, within what SPEC.md, "0x5xx CRC", leaves open).
use Rattle.std.specs.Prelude.{ℕ, ◌+◌, ◌-◌, ◌*◌, ◌/◌, ◌==◌, List, [], length, take, map, replicate, sum_by, if◌then◌else◌}
use Rattle.lfs_tag.specs.declared.edit.Edit.{Edit}
use Rattle.lfs_tag.specs.EditData.{data_bytes}
use Rattle.lfs_tag.specs.Tags.{item_with}
use Rattle.lfs_tag.specs.Commit.{Item, Commit}

-- what an edit writes
abbrev pub item_of : Edit → Item
item_of edit = item_with edit.tag (data_bytes edit.content)

abbrev pub items : List Edit → List Item
items edits = map item_of edits

-- the number of bytes of tags with their data
abbrev pub tags_len : List Item → ℕ
tags_len ts = sum_by (λ t. 4 + length t.content) ts

-- where a commit ends that is written at a place of its block: its tags, the word of the checksum's tag and the checksum,
-- up to the next multiple of 16
abbrev pub committed_end : ℕ → List Item → ℕ
committed_end at ts = (at + tags_len ts + 8 + 15) / 16 * 16

-- the commit that tags are written as: it is closed by a tag of type 0x500 and id 0x3ff, and padded with 0xff
abbrev pub commit_of : ℕ → List Item → Commit
commit_of at ts = record {
  tags = ts;
  closing = 0x500ffc00 + (committed_end at ts - (at + tags_len ts + 4));
  padding = replicate (committed_end at ts - (at + tags_len ts + 8)) 0xff;
}

-- what the checksum of a commit at a place of its block covers beside the commit: in a block's first commit, the revision
abbrev pub lead_at : ℕ → List ℕ → List ℕ
lead_at at block = if at == 4 then take 4 block else []
