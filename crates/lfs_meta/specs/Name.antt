-- Names of files and directories (SPEC.md, "0x0xx name"; which names are taken is own).
use Rattle.std.specs.Prelude.{◌≢◌, ℕ, ◌<◌, ◌==◌, ◌&&◌, not, nat_lt, Bool, List, [], ◌∷◌, length, All, bytes_eq}
use Rattle.std.specs.List.{list_all}

abbrev pub Name : Type 0
Name = List ℕ

-- a name has a byte, holds no slash, and isn't `.` or `..`
pub record IsName (n : Name) : Type 0 where
  pub some' : 0 < length n
  pub no_slash : All (λ b. b ≢ 47) n
  pub no_dot : n ≢ 46 ∷ []
  pub no_dots : n ≢ 46 ∷ 46 ∷ []

-- whether it is one
abbrev pub is_name : Name → Bool
is_name n = nat_lt 0 (length n) && list_all (λ b. not (b == 47)) n && not (bytes_eq n (46 ∷ [])) && not (bytes_eq n (46 ∷ 46 ∷ []))
