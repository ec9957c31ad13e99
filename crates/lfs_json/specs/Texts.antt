-- What every line is (own).
use Rattle.std.specs.Prelude.{◌≡◌, ℕ, ◌^◌, ◌<◌, ◌≤◌, List, All, Some, ⊤, decimal}
use Rattle.std.specs.Str.{IsUtf8}
use Rattle.json.specs.Json.{Json, null, boolean, number, string, array, object, Items, no_items, item, Members, no_members, member, document, max_depth}
use Rattle.json.specs.Tree.{depth}
use Rattle.lfs_json.specs.Line.{spelling}

-- the digits of a whole number that eight bytes hold
abbrev pub IsInteger : List ℕ → Type 0
IsInteger s = (n : ℕ) × (n < 2 ^ 64) × (s ≡ decimal n)

-- each name and string is UTF-8, and each number whole
abbrev mutual
  pub HasTexts : Json → Type 0
  HasTexts null = ⊤
  HasTexts (boolean b) = ⊤
  HasTexts (number s) = IsInteger s
  HasTexts (string s) = IsUtf8 s
  HasTexts (array js) = ItemsHaveTexts js
  HasTexts (object ms) = MembersHaveTexts ms

  pub ItemsHaveTexts : Items → Type 0
  ItemsHaveTexts no_items = ⊤
  ItemsHaveTexts (item j js) = HasTexts j × ItemsHaveTexts js

  pub MembersHaveTexts : Members → Type 0
  MembersHaveTexts no_members = ⊤
  MembersHaveTexts (member k j ms) = IsUtf8 k × (HasTexts j × MembersHaveTexts ms)

-- the law: a spelling is UTF-8
abbrev pub SpellingsAreUtf8 : Type 0
SpellingsAreUtf8 = (j : Json) → HasTexts j → IsUtf8 (spelling j)

-- the law: it has no control character, so no end of a line
abbrev pub SpellingsAreOneLine : Type 0
SpellingsAreOneLine = (j : Json) → HasTexts j → All (λ b. 32 ≤ b) (spelling j)

-- the law: what it spells is read back from it
abbrev pub SpellingsReadBack : Type 0
SpellingsReadBack = (j : Json) → HasTexts j → depth j ≤ max_depth → document (spelling j) ≡ Some j
