-- The fields of a tag's word, from the top: a valid bit that is 0, 11 bits of type, 10 of id and 10 of length
-- (SPEC.md, "Metadata tags").
use Rattle.std.specs.Prelude.{ℕ, ◌+◌, ◌*◌, ◌/◌, ◌%◌, ◌^◌, ◌==◌, if◌then◌else◌}
use Rattle.lfs_tag.specs.declared.tag.Tag.{Tag}

-- the type
abbrev pub type_of : ℕ → ℕ
type_of word = word / 2 ^ 20 % 2 ^ 11

-- the upper 3 bits of the type
abbrev pub main_kind : ℕ → ℕ
main_kind word = type_of word / 2 ^ 8

-- the lower 8 bits of the type
abbrev pub chunk_of : ℕ → ℕ
chunk_of word = type_of word % 2 ^ 8

-- the entry that the tag is about
abbrev pub id_of : ℕ → ℕ
id_of word = word / 2 ^ 10 % 2 ^ 10

-- the length, where 0x3ff marks a deleted tag
abbrev pub len_of : ℕ → ℕ
len_of word = word % 2 ^ 10

-- the number of bytes that follow the tag: a deleted tag has none
abbrev pub data_len : ℕ → ℕ
data_len word = if len_of word == 0x3ff then 0 else len_of word

-- the word of a tag
abbrev pub word_of : Tag → ℕ
word_of tag = tag.kind * 2 ^ 20 + tag.id * 2 ^ 10 + tag.len
