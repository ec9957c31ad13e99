-- What a tag does, by its type, and which tags are refused (SPEC.md, "Metadata types"; the rules on ids and lengths
-- are own).
use Rattle.std.specs.Prelude.{ℕ, ◌/◌, ◌^◌, ◌==◌, ◌&&◌, ◌||◌, not, nat_lt, nat_le, Bool, List, Option, Some, None, if◌then◌else◌}
use Rattle.std.specs.List.{list_all}
use Rattle.lfs_tag.specs.Tag.{type_of, id_of, len_of}
use Rattle.lfs_tag.specs.Commit.{Item}
use Rattle.lfs_meta.specs.declared.action.Action.{Action}
use Rattle.lfs_meta.specs.declared.action.Action.TheVariants.{Create, Delete, SetName, SetBody, SetAttribute, SetTail, SetDelta}

unfoldable pub action_of : ℕ → Option Action
action_of kind =
    if kind == 0x401 then Some Create
    else if kind == 0x4ff then Some Delete
    else if (kind == 0x001) || (kind == 0x002) || (kind == 0x0ff) then Some SetName
    else if (kind == 0x200) || (kind == 0x201) || (kind == 0x202) then Some SetBody
    else if kind / 2 ^ 8 == 3 then Some SetAttribute
    else if (kind == 0x600) || (kind == 0x601) then Some SetTail
    else if kind == 0x7ff then Some SetDelta
    else None

-- marked deleted
abbrev pub is_deleted : Item → Bool
is_deleted t = len_of t.word == 0x3ff

-- null block pointers
abbrev pub is_null : List ℕ → Bool
is_null bytes = list_all (λ b. b == 0xff) bytes

-- what a tag of an action may not be, where there are `count` entries
unfoldable pub is_bad : Action → Item → ℕ → Bool
is_bad Create t count = nat_lt count (id_of t.word) || (id_of t.word == 0x3ff) || not (len_of t.word == 0)
is_bad Delete t count = nat_le count (id_of t.word) || not (len_of t.word == 0)
is_bad SetName t count = (id_of t.word == 0x3ff) || is_deleted t
is_bad SetBody t count = nat_le count (id_of t.word) || is_deleted t || (not (type_of t.word == 0x201) && not (len_of t.word == 8))
is_bad SetAttribute t count = nat_le count (id_of t.word)
is_bad SetTail t count = not (len_of t.word == 8) || ((type_of t.word == 0x601) && is_null t.content)
is_bad SetDelta t count = not (len_of t.word == 12)
