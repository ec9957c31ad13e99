-- Entries found by name, part by part, and along a path.
use Rattle.std.proofs.Common.{◌≡◌, ℕ, ◌+◌, ◌<◌, Bool, List, [], ◌∷◌, Option, Some, None, refl, ap, sym, ◌∙◌, drop, length, get_or}
use Rattle.std.specs.Prelude.{find}
use Rattle.std.specs.Option.{option_or}
use Rattle.std.proofs.lemmas.List.Concat.{flat_map-cons}
use Rattle.std.proofs.lemmas.List.Folds.{find-append}
use Rattle.lfs_meta.specs.Name.{Name}
use Rattle.lfs_fs.specs.Graph.{entry_within, walk}
use Rattle.lfs_fs.specs.Entry.{Entry, target}
use Rattle.lfs_fs.specs.Directory.{Part, Directory}
use Rattle.lfs_fs.specs.Tree.{entry_in}
use Rattle.lfs_fs.proofs.ItemLemmas.{drop_at}
use Rattle.lfs_fs.specs.Gathering.{part_entries}

-- ---- the entries of parts

in_parts : (test : Entry → Bool) (p : Part) (ps : List Part) → find test (part_entries (p ∷ ps))
    ≡ option_or (find test p.entries) (find test (part_entries ps))
in_parts test p ps = ap (find test) (flat_map-cons (λ (q : Part). q.entries) p ps) ∙ find-append test p.entries (part_entries ps)

-- what the next part has
pub found_next : (test : Entry → Bool) (ps : List Part) (i : ℕ) (p : Part) (e : Entry) → i < length ps → p ≡ get_or ps i p
    → Some e ≡ find test p.entries
    → find test (part_entries (drop i ps)) ≡ find test (part_entries ps) → Some e ≡ find test (part_entries ps)
found_next test ps i p e within at is same =
    ap (λ o. option_or o (find test (part_entries (drop (i + 1) ps)))) is ∙ sym (in_parts test p (drop (i + 1) ps))
    ∙ ap (λ (qs : List Part). find test (part_entries qs)) (sym (drop_at ps i p within at)) ∙ same

-- what the next part hasn't
pub missed_next : (test : Entry → Bool) (ps : List Part) (i : ℕ) (p : Part) → i < length ps → p ≡ get_or ps i p → None ≡ find test p.entries
    → find test (part_entries (drop i ps)) ≡ find test (part_entries ps)
    → find test (part_entries (drop (i + 1) ps)) ≡ find test (part_entries ps)
missed_next test ps i p within at is same =
    ap (λ o. option_or o (find test (part_entries (drop (i + 1) ps)))) is ∙ sym (in_parts test p (drop (i + 1) ps))
    ∙ ap (λ (qs : List Part). find test (part_entries qs)) (sym (drop_at ps i p within at)) ∙ same

pub found_first : (test : Entry → Bool) (p : Part) (ps : List Part) (e : Entry) → Some e ≡ find test p.entries
    → Some e ≡ find test (part_entries (p ∷ ps))
found_first test p ps e is = ap (λ o. option_or o (find test (part_entries ps))) is ∙ sym (in_parts test p ps)

pub missed_first : (test : Entry → Bool) (p : Part) (ps : List Part) → None ≡ find test p.entries
    → find test (part_entries ps) ≡ find test (part_entries (p ∷ ps))
missed_first test p ps is = ap (λ o. option_or o (find test (part_entries ps))) is ∙ sym (in_parts test p ps)

-- ---- along a path

pub nowhere : (ds : List Directory) (ns : List Name) → walk target (entry_in ds) None ns ≡ None
nowhere ds [] = refl
nowhere ds (n ∷ ns) = nowhere ds ns

-- one name further down
pub down_one : (ds : List Directory) (here : Option Entry) (names : List Name) (i : ℕ) (n : Name) (below complete : Option Entry)
    → i < length names → n ≡ get_or names i n → below ≡ entry_within target (entry_in ds) n here
    → walk target (entry_in ds) here (drop i names) ≡ complete → walk target (entry_in ds) below (drop (i + 1) names) ≡ complete
down_one ds here names i n below complete within at is same =
    ap (λ o. walk target (entry_in ds) o (drop (i + 1) names)) is ∙ ap (λ ns. walk target (entry_in ds) here ns)
    (sym (drop_at names i n within at)) ∙ same
