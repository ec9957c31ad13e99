-- Paths that lie strictly below others, by the names that they begin with.
use Rattle.std.proofs.Common.{◌≡◌, ◌<◌, ◌≤◌, Bool, true, false, nat_lt, List, [], ◌∷◌, Option, None, length, map, refl, sym, ◌∙◌, arith}
use Rattle.std.proofs.Common.{Bor}
use Rattle.std.specs.Prelude.{bytes_eq, if◌then◌else◌, ◌&&◌}
use Rattle.std.specs.List.{starts_with}
use Rattle.std.specs.Option.{option_map, unwrap_or}
use Rattle.std.proofs.lemmas.Bool.Decides.{nat_tests}
use Rattle.lfs_meta.specs.Name.{Name}
use Rattle.lfs_fs.specs.Path.{Path}
use Rattle.lfs_command.specs.PathMap.{below}
use Rattle.lfs_command.specs.Verdict.{lies_below}

-- the names that are borrowed
abbrev path_of : List (Bor Name) → Path
path_of ns = map (λ (n : Bor Name). n.now) ns

-- a name is another
abbrev same_name : Bor Name → Bor Name → Bool
same_name n m = bytes_eq n.now m.now

-- something is left
abbrev is_left : Option Path → Bool
is_left o = unwrap_or (option_map (λ (r : Path). nat_lt 0 (length r)) o) false

-- no path of as few names lies strictly below another
none_below : (p q : List (Bor Name)) → length q ≤ length p → lies_below (path_of p) (path_of q) ≡ false
none_below [] [] short = refl
none_below [] (m ∷ q) short = absurd (omega arith)
none_below (n ∷ p) [] short = refl
none_below (n ∷ p) (m ∷ q) short = by (bytes_eq n.now m.now) (none_below p q (omega arith))
  where
    rest : Option Path
    rest = below (path_of p) (path_of q)

    by : (t : Bool) → is_left rest ≡ false → is_left (if t then rest else None) ≡ false
    by true later = later
    by false later = refl

pub not_below : (p q : List (Bor Name)) → length q ≤ length p → nat_lt (length p) (length q) ≡ lies_below (path_of p) (path_of q)
not_below p q short = let no : nat_lt (length p) (length q) ≡ false = grind (arith, nat_tests) in no ∙ sym (none_below p q short)

-- a longer path lies below one where it begins with its names
pub begins_below : (p q : List (Bor Name)) → length p < length q → starts_with same_name q p ≡ lies_below (path_of p) (path_of q)
begins_below [] [] longer = absurd (omega arith)
begins_below [] (m ∷ q) longer = grind (arith, nat_tests)
begins_below (n ∷ p) [] longer = absurd (omega arith)
begins_below (n ∷ p) (m ∷ q) longer = by (bytes_eq n.now m.now) (begins_below p q (omega arith))
  where
    rest : Option Path
    rest = below (path_of p) (path_of q)

    by : (t : Bool) → starts_with same_name q p ≡ is_left rest → (t && starts_with same_name q p) ≡ is_left (if t then rest else None)
    by true later = later
    by false later = refl
