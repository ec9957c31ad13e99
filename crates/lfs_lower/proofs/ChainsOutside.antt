-- The chains of a sound volume lie outside of the pairs of its thread.
use Rattle.std.proofs.Common.{◌≡◌, ℕ, ◌+◌, ◌≤◌, ◌<◌, List, [], ◌∷◌, map, refl, ap, ◌∙◌, arith}
use Rattle.std.specs.Prelude.{Contains, flat_map, sum_by}
use Rattle.std.proofs.lemmas.List.{map-append}
use Rattle.std.proofs.lemmas.List.Concat.{flat_map-cons}
use Rattle.std.proofs.lemmas.List.Sums.{sum_by-append, sum_by-cons}
use Rattle.lfs_fs.specs.Entry.{Entry}
use Rattle.lfs_fs.specs.Directory.{Part, Directory, parts, thread}
use Rattle.lfs_fs.specs.Front.{pair_names, pairs_name}
use Rattle.lfs_fs.specs.Sound.{IsSound}
use Rattle.lfs_fs.specs.Uses.{directory_uses, entry_uses, pair_uses}
use Rattle.lfs_fs.specs.Volume.{Volume}
use Rattle.lfs_fs.proofs.CountLemmas.{element_le}

-- how often a part's files use a block
abbrev files_use : ℕ → Part → ℕ
files_use b p = sum_by (entry_uses b) p.entries

pairs_of_parts : (b : ℕ) (ps : List Part) → pairs_name b (map (λ p. p.pair) ps) ≡ sum_by (pair_uses b) ps
pairs_of_parts b [] = refl
pairs_of_parts b (p ∷ ps) =
    omega (
      arith,
      sum_by-cons (pair_names b) p.pair (map (λ (x : Part). x.pair) ps),
      sum_by-cons (pair_uses b) p ps,
      pairs_of_parts b ps,
    )

files_of_parts : (b : ℕ) (ps : List Part) → sum_by (entry_uses b) (flat_map (λ p. p.entries) ps) ≡ sum_by (files_use b) ps
files_of_parts b [] = refl
files_of_parts b (p ∷ ps) =
    let later : List Entry = flat_map (λ (x : Part). x.entries) ps in
    omega (
      arith,
      ap (sum_by (entry_uses b)) (flat_map-cons (λ (x : Part). x.entries) p ps),
      sum_by-append (entry_uses b) p.entries later,
      sum_by-cons (files_use b) p ps,
      files_of_parts b ps,
    )

-- what directories use is what the pairs and the files of their parts do
uses_split : (b : ℕ) (ds : List Directory) → sum_by (directory_uses b) ds
    ≡ pairs_name b (map (λ p. p.pair) (thread ds)) + sum_by (files_use b) (thread ds)
uses_split b [] = refl
uses_split b (d ∷ ds) =
    let here : pairs_name b (map (λ (p : Part). p.pair) (thread (d ∷ ds))) ≡ pairs_name b (map (λ (p : Part). p.pair) (parts d))
    + pairs_name b (map (λ (p : Part). p.pair) (thread ds)) =
    ap (λ (ps : List Part). pairs_name b (map (λ (p : Part). p.pair) ps)) (flat_map-cons parts d ds)
    ∙ ap (sum_by (pair_names b)) (map-append (λ (p : Part). p.pair) (parts d) (thread ds))
    ∙ sum_by-append (pair_names b) (map (λ (p : Part). p.pair) (parts d)) (map (λ (p : Part). p.pair) (thread ds)) in
    let files : sum_by (files_use b) (thread (d ∷ ds)) ≡ sum_by (files_use b) (parts d) + sum_by (files_use b) (thread ds) =
    ap (sum_by (files_use b)) (flat_map-cons parts d ds) ∙ sum_by-append (files_use b) (parts d) (thread ds) in
    let rest = uses_split b ds in
    let named = pairs_of_parts b (parts d) in
    let used = files_of_parts b (parts d) in
    omega (arith, sum_by-cons (directory_uses b) d ds, here, files, rest, named, used)

-- a block of a file is none of a pair
pub files_outside : (v : Volume) (b : ℕ) → IsSound v → (p : Part) → Contains (thread v.directories) p → (e : Entry) → Contains p.entries e
    → 0 < entry_uses b e → pairs_name b (map (λ q. q.pair) (thread v.directories)) ≡ 0
files_outside v b sound p there e inside used =
    let file : entry_uses b e ≤ files_use b p = element_le (entry_uses b) p.entries e inside in
    let part : files_use b p ≤ sum_by (files_use b) (thread v.directories) = element_le (files_use b) (thread v.directories) p there in
    let all = uses_split b v.directories in
    let once = sound.once b in
    omega arith
