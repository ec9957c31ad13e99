-- The fields of a written tag.
use Rattle.std.proofs.Common.{◌≡◌, ℕ, ◌+◌, ◌*◌, ◌<◌, ◌^◌, List, length, refl, arith}
use Rattle.lfs_tag.specs.Commit.{Item}
use Rattle.lfs_tag.specs.Tag.{type_of, id_of, len_of}
use Rattle.lfs_meta.specs.declared.kind.Kind.{Kind}
use Rattle.lfs_meta.specs.declared.kind.Kind.TheVariants.{File, Dir, Super}
use Rattle.lfs_meta.specs.Body.{StoredBody, Inline, Chain, Directory_at}
use Rattle.lfs_meta.specs.Replay.{kind_named}
use Rattle.lfs_pair.specs.Spelling.{name_kind, body_kind, tag_item}

-- the word of a tag with these fields
abbrev pub word : ℕ → ℕ → ℕ → ℕ
word kind id len = kind * 2 ^ 20 + id * 2 ^ 10 + len

pub kind_of-word : (kind id len : ℕ) → kind < 2048 → id < 1024 → len < 1024 → type_of (word kind id len) ≡ kind
kind_of-word kind id len hk hi hl = omega arith

pub id_of-word : (kind id len : ℕ) → id < 1024 → len < 1024 → id_of (word kind id len) ≡ id
id_of-word kind id len hi hl = omega arith

pub len_of-word : (kind id len : ℕ) → len < 1024 → len_of (word kind id len) ≡ len
len_of-word kind id len hl = omega arith

-- a tag whose word has these fields
pub record HasFields (t : Item) (kind id len : ℕ) : Type 0 where
  pub kind_is : type_of t.word ≡ kind
  pub id_is : id_of t.word ≡ id
  pub len_is : len_of t.word ≡ len

pub item-fields : (kind id : ℕ) (bytes : List ℕ) → kind < 2048 → id < 1024 → length bytes < 1024
    → HasFields (tag_item kind id bytes) kind id (length bytes)
item-fields kind id bytes hk hi hl = record {
  kind_is = kind_of-word kind id (length bytes) hk hi hl;
  id_is = id_of-word kind id (length bytes) hi hl;
  len_is = len_of-word kind id (length bytes) hl;
}

pub name_kind-small : (k : Kind) → name_kind k < 2048
name_kind-small File = omega arith
name_kind-small Dir = omega arith
name_kind-small Super = omega arith

pub name_kind-named : (k : Kind) → kind_named (name_kind k) ≡ k
name_kind-named File = refl
name_kind-named Dir = refl
name_kind-named Super = refl

pub body_kind-small : (b : StoredBody) → body_kind b < 2048
body_kind-small (Inline bytes) = omega arith
body_kind-small (Chain head size) = omega arith
body_kind-small (Directory_at first second) = omega arith
