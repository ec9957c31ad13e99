-- What is said of the blocks that change where an image is taken over (own).
use Rattle.std.specs.Prelude.{ℕ, List, [], ◌∷◌, ◌++◌, codes, flat_map}
use Rattle.std.specs.Fmt.{decimal}
use Rattle.lfs_json.specs.Line.{line_of}
use Rattle.lfs_json.specs.Object.{object_of, integer}
use Rattle.lfs_json.specs.declared.form.Form.{Form}
use Rattle.lfs_json.specs.declared.form.Form.TheVariants.{Text, Json as As_json}

-- numbers after a first one: the last one stands after `and`
abbrev pub others_listed : List ℕ → List ℕ
others_listed [] = []
others_listed (b ∷ []) = codes " and " ++ decimal b
others_listed (b ∷ c ∷ bs) = codes ", " ++ decimal b ++ others_listed (c ∷ bs)

-- one line on blocks
abbrev pub changed_line : List ℕ → List ℕ
changed_line [] = codes "no block changed\n"
changed_line (b ∷ []) = codes "block " ++ decimal b ++ codes " changed\n"
changed_line (b ∷ c ∷ bs) = codes "blocks " ++ decimal b ++ others_listed (c ∷ bs) ++ codes " changed\n"

-- the line of a block as an object
abbrev pub line_of_changed : ℕ → List ℕ
line_of_changed b = line_of (object_of ((codes "changed", integer b) ∷ []))

-- the same in a form: in JSON each block has a line
abbrev pub changed_text : Form → List ℕ → List ℕ
changed_text Text bs = changed_line bs
changed_text As_json bs = flat_map line_of_changed bs
