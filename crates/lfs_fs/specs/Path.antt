-- Paths, and the text that spells them (own).
use Rattle.std.specs.Prelude.{◌≡◌, ℕ, List, [], ◌∷◌, All, flat_map}
use Rattle.lfs_meta.specs.Name.{Name, IsName}

-- the names from the root on; the root has none
abbrev pub Path : Type 0
Path = List Name

-- a slash before each name; the root is one slash
abbrev pub path_text : Path → List ℕ
path_text [] = 47 ∷ []
path_text (n ∷ ns) = flat_map (λ m. 47 ∷ m) (n ∷ ns)

-- the text spells the path, each part of which is a name
abbrev pub IsPathText : List ℕ → Path → Type 0
IsPathText text path = All IsName path × (text ≡ path_text path)

-- the text spells no path
abbrev pub IsNoPath : List ℕ → Type 0
IsNoPath text = (path : Path) → IsPathText text path → ⊥

-- the law: a text spells one path at most
abbrev pub TextsSpellOnePath : Type 0
TextsSpellOnePath = (text : List ℕ) (p q : Path) → IsPathText text p → IsPathText text q → p ≡ q
