-- Directories without an entry, part by part, and by their place.
use Rattle.std.proofs.Common.{◌≡◌, ◌==◌, ℕ, Bool, List, [], ◌∷◌, ◌++◌, Option, Some, None, true, nat_lt, length, refl, ap, ◌∙◌, arith}
use Rattle.std.specs.Prelude.{◌&&◌, find, flat_map, slice_get, slice_index_or}
use Rattle.std.specs.List.{list_all, position, position_or_len}
use Rattle.std.specs.Option.{option_map, unwrap_or}
use Rattle.std.proofs.lemmas.Bool.Decides.{nat_tests}
use Rattle.std.proofs.lemmas.List.Folds.{find_at}
use Rattle.std.proofs.lemmas.List.Quantifiers.{position-Some}
use Rattle.std.proofs.lemmas.Option.{cond_some, slice_get-get_or}
use Rattle.lfs_meta.specs.Body.{Pair}
use Rattle.lfs_fs.specs.Directory.{Directory, Part, begins_at, entries}
use Rattle.lfs_fs.specs.Entry.{Entry}
use Rattle.lfs_fs.specs.Volume.{Volume}
use Rattle.lfs_command.specs.Verdict.{is_bare}
use Rattle.lfs_draft.proofs.OneIndex.{nowhere}

-- parts have no entry together where each has none
none_in_all : (ps : List Part) → list_all (λ p. length p.entries == 0) ps ≡ (length (flat_map (λ p. p.entries) ps) == 0)
none_in_all [] = refl
none_in_all (p ∷ ps) = by p.entries (none_in_all ps)
  where
    by : (es : List Entry) → list_all (λ p. length p.entries == 0) ps ≡ (length (flat_map (λ p. p.entries) ps) == 0)
        → ((length es == 0) && list_all (λ p. length p.entries == 0) ps) ≡ (length (es ++ flat_map (λ p. p.entries) ps) == 0)
    by [] later = later
    by (e ∷ es) later = grind (arith, nat_tests)

-- a directory has no entry where its first part has none, and no other has one
pub none_behind_first : (d : Directory) → (length d.first.entries == 0) ≡ true
    → list_all (λ p. length p.entries == 0) d.more ≡ (length (entries d) == 0)
none_behind_first d first = by d.first.entries first (none_in_all d.more)
  where
    by : (es : List Entry) → (length es == 0) ≡ true → list_all (λ p. length p.entries == 0) d.more
        ≡ (length (flat_map (λ p. p.entries) d.more) == 0)
        → list_all (λ p. length p.entries == 0) d.more ≡ (length (es ++ flat_map (λ p. p.entries) d.more) == 0)
    by [] none later = later
    by (e ∷ es) none later = absurd (grind (arith, nat_tests))

-- ---- the directory of a pair, by its place

found_at : {X : Type 0} (t : X → Bool) (xs : List X) (i : ℕ) (d : X) → position t xs ≡ Some i → find t xs ≡ Some (slice_index_or xs i d)
found_at t xs i d is =
    let at = cond_some (nat_lt (position_or_len t xs) (length xs)) (position_or_len t xs) i is in
    find_at t xs ∙ ap (slice_get xs) at.1 ∙ slice_get-get_or xs i d (position-Some t xs i d is).0

-- a directory that may be there has no entry
abbrev has_none : Option Directory → Bool
has_none o = unwrap_or (option_map (λ (d : Directory). length (entries d) == 0) o) true

pub bare_at : (v : Volume) (k : Pair) (i : ℕ) (d : Directory) → position (begins_at k) v.directories ≡ Some i
    → is_bare v (Some k) ≡ (length (entries (slice_index_or v.directories i d)) == 0)
bare_at v k i d is = ap has_none (found_at (begins_at k) v.directories i d is)

pub bare_nowhere : (v : Volume) (k : Pair) → position (begins_at k) v.directories ≡ None → is_bare v (Some k) ≡ true
bare_nowhere v k is = ap has_none (nowhere (begins_at k) v.directories is)
