-- Objects and arrays by their lists (own).
use Rattle.std.specs.Prelude.{ℕ, List, [], ◌∷◌, if◌then◌else◌, decimal}
use Rattle.std.specs.Str.{is_utf8}
use Rattle.hex.specs.Hex.{encode_lower}
use Rattle.json.specs.Json.{Json, number, string, array, object, Items, no_items, item, Members, no_members, member}

-- a name with its value
abbrev pub Member : Type 0
Member = List ℕ × Json

abbrev pub members_of : List Member → Members
members_of [] = no_members
members_of (m ∷ ms) = member m.0 m.1 (members_of ms)

-- the object with these members, in this order
abbrev pub object_of : List Member → Json
object_of ms = object (members_of ms)

abbrev pub items_of : List Json → Items
items_of [] = no_items
items_of (j ∷ js) = item j (items_of js)

-- the array of these values
abbrev pub array_of : List Json → Json
array_of js = array (items_of js)

-- a whole number
abbrev pub integer : ℕ → Json
integer n = number (decimal n)

-- bytes in hexadecimal digits
abbrev pub digits : List ℕ → Json
digits bytes = string (encode_lower bytes)

-- bytes under a name as they are, where they are UTF-8, or under another name in hexadecimal digits
abbrev pub bytes_member : List ℕ → List ℕ → List ℕ → Member
bytes_member name digits_name bytes = if is_utf8 bytes then (name, string bytes) else (digits_name, digits bytes)
