-- User attributes: values under kinds of one byte (SPEC.md, "0x3xx user attribute").
use Rattle.std.specs.Prelude.{ℕ, ◌==◌, not, nat_lt, List, [], ◌∷◌, if◌then◌else◌}
use Rattle.std.specs.List.{filter}

-- kinds with their values, the kinds strictly rising
abbrev pub Attributes : Type 0
Attributes = List (ℕ × List ℕ)

-- an element put among others that rise by a key: in the place of the one that has its key, else before the first greater
unfoldable pub put_by : {A : Type 0} → (A → ℕ) → A → List A → List A
put_by key new [] = new ∷ []
put_by key new (a ∷ more) =
    if nat_lt (key new) (key a) then new ∷ a ∷ more
    else if key new == key a then new ∷ more
    else a ∷ put_by key new more

-- the value of a kind set
abbrev pub set_attribute : ℕ → List ℕ → Attributes → Attributes
set_attribute kind value attributes = put_by (λ a. a.0) (kind, value) attributes

-- the value of a kind taken out
abbrev pub remove_attribute : ℕ → Attributes → Attributes
remove_attribute kind attributes = filter (λ a. not (kind == a.0)) attributes
