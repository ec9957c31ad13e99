-- The line of a value (own).
use Rattle.std.specs.Prelude.{ℕ, List, [], ◌∷◌, ◌++◌}
use Rattle.json.specs.Json.{Json}
use Rattle.json.specs.Print.{print}
use Rattle.json.specs.Tree.{json_tokens}

-- a value as text, without spaces
abbrev pub spelling : Json → List ℕ
spelling j = print (json_tokens j)

-- with a line feed behind it
abbrev pub line_of : Json → List ℕ
line_of j = spelling j ++ 10 ∷ []
