-- The outline of a volume whose parts are cut is the cut outline.
use Rattle.std.proofs.Common.{◌≡◌, ℕ, ◌+◌, Bool, true, false, List, [], ◌∷◌, ◌++◌, refl, ap, sym, ◌∙◌, map}
use Rattle.std.specs.Prelude.{if◌then◌else◌, flat_map}
use Rattle.std.proofs.lemmas.List.{map-append}
use Rattle.lfs_meta.specs.Body.{Pair}
use Rattle.lfs_meta.specs.Runs.{onto, run_takes, runs_after, first_run, later_runs}
use Rattle.lfs_fs.specs.Entry.{Entry}
use Rattle.lfs_fs.specs.Weight.{weight, superblock_weight}
use Rattle.lfs_fs.specs.Directory.{Part, Directory}
use Rattle.lfs_fs.specs.Volume.{Volume}
use Rattle.lfs_fs.specs.Outlined.{outlined_entry, outlined_part, outlined_directory, outlined_directories, outlined}
use Rattle.lfs_command.specs.Edited.{with_directories}
use Rattle.lfs_command.specs.Cut.{room, is_first, runs, more_parts, cut_head, cut_tail, cut_directory}
use Rattle.lfs_law.specs.CutOutline.{for_parts, CutsOutline}
use Rattle.lfs_law.proofs.Cuts.{cut_part, head_by, tail_by}
use Rattle.lfs_law.proofs.OutlineEntries.{cons_same, outlined_entries, weight_same}
use Rattle.lfs_law.proofs.OutlineDirectories.{outlined_parts}

-- ---- runs

abbrev pub outlined_runs : List (List Entry) → List (List Entry)
outlined_runs = map outlined_entries

onto_outlined : (e : Entry) (rs : List (List Entry)) → onto (outlined_entry e) (outlined_runs rs) ≡ outlined_runs (onto e rs)
unfolding onto
onto_outlined e [] = refl
onto_outlined e (run ∷ rs) = refl

runs_by : (space taken number : ℕ) (e : Entry) (es : List Entry) (t : Bool)
    → runs_after weight space (taken + weight e) (number + 1) (outlined_entries es)
    ≡ outlined_runs (runs_after weight space (taken + weight e) (number + 1) es)
    → runs_after weight space (weight e) 1 (outlined_entries es) ≡ outlined_runs (runs_after weight space (weight e) 1 es)
    → (if t then onto (outlined_entry e) (runs_after weight space (taken + weight e) (number + 1) (outlined_entries es)) else []
    ∷ onto (outlined_entry e)
    (runs_after weight space (weight e) 1 (outlined_entries es)))
    ≡ outlined_runs (if t then onto e (runs_after weight space (taken + weight e) (number + 1) es) else []
    ∷ onto e (runs_after weight space (weight e) 1 es))
runs_by space taken number e es true here later =
    ap (onto (outlined_entry e)) here ∙ onto_outlined e (runs_after weight space (taken + weight e) (number + 1) es)
runs_by space taken number e es false here later =
    ap (λ (rs : List (List Entry)). [] ∷ onto (outlined_entry e) rs) later
    ∙ ap (λ (rs : List (List Entry)). [] ∷ rs) (onto_outlined e (runs_after weight space (weight e) 1 es))

runs_after_outlined : (space taken number : ℕ) (es : List Entry) → runs_after weight space taken number (outlined_entries es)
    ≡ outlined_runs (runs_after weight space taken number es)
unfolding runs_after
runs_after_outlined space taken number [] = refl
runs_after_outlined space taken number (e ∷ es) =
    ap (λ (w : ℕ). if run_takes space taken number w then onto (outlined_entry e)
    (runs_after weight space (taken + w) (number + 1) (outlined_entries es))
    else [] ∷ onto (outlined_entry e) (runs_after weight space w 1 (outlined_entries es))) (weight_same e)
    ∙ runs_by space taken number e es (run_takes space taken number (weight e))
    (runs_after_outlined space (taken + weight e) (number + 1) es) (runs_after_outlined space (weight e) 1 es)

runs_at : (v : Volume) (es : List Entry) (t : Bool)
    → (if t then runs_after weight (room v) (superblock_weight v.attributes) 1 (outlined_entries es) else runs_after weight (room v) 0 0
    (outlined_entries es))
    ≡ outlined_runs (if t then runs_after weight (room v) (superblock_weight v.attributes) 1 es else runs_after weight (room v) 0 0 es)
runs_at v es true = runs_after_outlined (room v) (superblock_weight v.attributes) 1 es
runs_at v es false = runs_after_outlined (room v) 0 0 es

pub runs_outlined : (v : Volume) (p : Part) → runs (outlined v) (outlined_part p) ≡ outlined_runs (runs v p)
runs_outlined v p = runs_at v p.entries (is_first p)

pub first_outlined : (rs : List (List Entry)) → first_run (outlined_runs rs) ≡ outlined_entries (first_run rs)
first_outlined [] = refl
first_outlined (run ∷ rs) = refl

pub later_outlined : (rs : List (List Entry)) → later_runs (outlined_runs rs) ≡ outlined_runs (later_runs rs)
later_outlined [] = refl
later_outlined (run ∷ rs) = refl

-- ---- parts

more_outlined : (pairs : List Pair) (rs : List (List Entry)) → more_parts pairs (outlined_runs rs) ≡ outlined_parts (more_parts pairs rs)
more_outlined pairs [] = refl
more_outlined [] (run ∷ rs) = refl
more_outlined (pair ∷ pairs) (run ∷ rs) = ap (λ (ps : List Part). record {
  pair = pair;
  entries = outlined_entries run;
  delta = 0;
  dirty = true;
} ∷ ps) (more_outlined pairs rs)

head_outlined : (v : Volume) (p : Part) (t : Bool) → head_by (outlined v) (outlined_part p) t ≡ outlined_part (head_by v p t)
head_outlined v p true =
    ap (λ (es : List Entry). record { pair = p.pair; entries = es; delta = p.delta; dirty = true })
    (ap first_run (runs_outlined v p) ∙ first_outlined (runs v p))
head_outlined v p false = refl

tail_outlined : (chosen : Part → List Pair) (v : Volume) (p : Part) (t : Bool)
    → tail_by chosen (outlined v) (outlined_part p) t ≡ outlined_parts (tail_by (for_parts chosen) v p t)
tail_outlined chosen v p true =
    ap (more_parts (chosen (outlined_part p))) (ap later_runs (runs_outlined v p) ∙ later_outlined (runs v p))
    ∙ more_outlined (chosen (outlined_part p)) (later_runs (runs v p))
tail_outlined chosen v p false = refl

part_outlined : (chosen : Part → List Pair) (v : Volume) (p : Part) → cut_part chosen (outlined v) (outlined_part p)
    ≡ outlined_parts (cut_part (for_parts chosen) v p)
part_outlined chosen v p =
    cons_same (cut_head (outlined v) (outlined_part p)) (outlined_part (cut_head v p)) (cut_tail chosen (outlined v) (outlined_part p))
    (outlined_parts (cut_tail (for_parts chosen) v p))
    (head_outlined v p p.dirty) (tail_outlined chosen v p p.dirty)

parts_outlined : (chosen : Part → List Pair) (v : Volume) (ps : List Part)
    → flat_map (cut_part chosen (outlined v)) (outlined_parts ps) ≡ outlined_parts (flat_map (cut_part (for_parts chosen) v) ps)
parts_outlined chosen v [] = refl
parts_outlined chosen v (p ∷ ps) =
    ap (λ (qs : List Part). qs ++ flat_map (cut_part chosen (outlined v)) (outlined_parts ps)) (part_outlined chosen v p)
    ∙ ap (λ (qs : List Part). outlined_parts (cut_part (for_parts chosen) v p) ++ qs) (parts_outlined chosen v ps)
    ∙ sym (map-append outlined_part (cut_part (for_parts chosen) v p) (flat_map (cut_part (for_parts chosen) v) ps))

-- ---- directories

directory_outlined : (chosen : Part → List Pair) (v : Volume) (d : Directory)
    → cut_directory chosen (outlined v) (outlined_directory d) ≡ outlined_directory (cut_directory (for_parts chosen) v d)
directory_outlined chosen v d =
    ap (λ (p : Part). record {
      first = p;
      more = cut_tail chosen (outlined v) (outlined_part d.first)
          ++ flat_map (cut_part chosen (outlined v)) (outlined_parts d.more);
    })
    (head_outlined v d.first d.first.dirty)
    ∙ ap (λ (ps : List Part). record { first = outlined_part (cut_head v d.first); more = ps })
    (ap (λ (ps : List Part). ps ++ flat_map (cut_part chosen (outlined v)) (outlined_parts d.more))
    (tail_outlined chosen v d.first d.first.dirty)
    ∙ ap (λ (ps : List Part). outlined_parts (cut_tail (for_parts chosen) v d.first) ++ ps) (parts_outlined chosen v d.more)
    ∙ sym (map-append outlined_part (cut_tail (for_parts chosen) v d.first) (flat_map (cut_part (for_parts chosen) v) d.more)))

directories_outlined : (chosen : Part → List Pair) (v : Volume) (ds : List Directory)
    → map (cut_directory chosen (outlined v)) (outlined_directories ds) ≡ outlined_directories (map (cut_directory (for_parts chosen) v) ds)
directories_outlined chosen v [] = refl
directories_outlined chosen v (d ∷ ds) =
    cons_same (cut_directory chosen (outlined v) (outlined_directory d)) (outlined_directory (cut_directory (for_parts chosen) v d))
    (map (cut_directory chosen (outlined v)) (outlined_directories ds)) (outlined_directories (map (cut_directory (for_parts chosen) v) ds))
    (directory_outlined chosen v d) (directories_outlined chosen v ds)

pub cuts_outline : CutsOutline
cuts_outline chosen v = ap (with_directories (outlined v)) (sym (directories_outlined chosen v v.directories))
