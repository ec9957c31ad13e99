-- Parts and directories that are cut where they stand.
use Rattle.std.proofs.Common.{◌≡◌, ℕ, Bool, true, false, List, [], ◌∷◌, ◌++◌, length, map, refl, ap, sym, ◌∙◌, subst, arith, append-nil}
use Rattle.std.specs.Prelude.{All, flat_map, if◌then◌else◌}
use Rattle.std.specs.List.{list_any}
use Rattle.std.proofs.lemmas.Bool.{or_parts}
use Rattle.std.proofs.lemmas.List.Concat.{flat_map-cons}
use Rattle.std.proofs.lemmas.List.Elements.{All-head, All-tail}
use Rattle.lfs_meta.specs.Body.{Pair}
use Rattle.lfs_meta.specs.RunLaws.{RunsJoin}
use Rattle.lfs_meta.specs.Runs.{first_run, later_runs}
use Rattle.lfs_fs.specs.Pair.{same_pair}
use Rattle.lfs_fs.specs.Entry.{Entry}
use Rattle.lfs_fs.specs.Directory.{Part, Directory, parts, thread}
use Rattle.lfs_fs.specs.Volume.{Volume}
use Rattle.lfs_command.specs.Edited.{with_directories}
use Rattle.lfs_command.specs.Cut.{HasEnough, cut, cut_directory, cut_head, cut_tail, more_parts, runs}
use Rattle.lfs_law.specs.PartsCut.{runs_by}
use Rattle.lfs_law.proofs.Cuts.{All-left, All-right, joined}
use Rattle.lfs_cut.specs.Chosen.{PairRow, chosen_for}
use Rattle.lfs_cut.specs.CutParts.{with_first_run, head_by, tail_by, cut_all, directory_by}

-- the pair alone decides which row is found
pub same_choice : (rows : List PairRow) (p q : Part) → p.pair ≡ q.pair → chosen_for rows p ≡ chosen_for rows q
same_choice [] p q same = refl
same_choice (r ∷ rows) p q same =
    ap (λ (k : Pair). if same_pair k r.0 then r.1 else chosen_for rows p) same
    ∙ ap (λ (qs : List Pair). if same_pair q.pair r.0 then r.1 else qs) (same_choice rows p q same)

-- ---- parts that are not set

head_stays : (bytes superblock : ℕ) (p : Part) → p.dirty ≡ false → head_by bytes superblock p ≡ p
head_stays bytes superblock p is = rw is refl

no_tail : (bytes superblock : ℕ) (rows : List PairRow) (p : Part) → p.dirty ≡ false → tail_by bytes superblock rows p ≡ []
no_tail bytes superblock rows p is = rw is refl

all_stay : (bytes superblock : ℕ) (rows : List PairRow) (ps : List Part) → list_any (λ p. p.dirty) ps ≡ false
    → cut_all bytes superblock rows ps ≡ ps
all_stay bytes superblock rows [] none = refl
all_stay bytes superblock rows (p ∷ ps) none =
    let both = or_parts p.dirty (list_any (λ q. q.dirty) ps) none in
    ap (λ (q : Part). q ∷ (tail_by bytes superblock rows p ++ cut_all bytes superblock rows ps)) (head_stays bytes superblock p both.0)
    ∙ ap (λ (qs : List Part). p ∷ (qs ++ cut_all bytes superblock rows ps)) (no_tail bytes superblock rows p both.0)
    ∙ ap (λ (qs : List Part). p ∷ qs) (all_stay bytes superblock rows ps both.1)

pub none_set : (bytes superblock : ℕ) (rows : List PairRow) (d : Directory) → list_any (λ p. p.dirty) (parts d) ≡ false
    → d ≡ directory_by bytes superblock rows d
none_set bytes superblock rows d none =
    let both = or_parts d.first.dirty (list_any (λ q. q.dirty) d.more) none in
    sym (ap (λ (p : Part). record { first = p; more = tail_by bytes superblock rows d.first ++ cut_all bytes superblock rows d.more })
    (head_stays bytes superblock d.first both.0)
    ∙ ap (λ (qs : List Part). record { first = d.first; more = qs ++ cut_all bytes superblock rows d.more })
    (no_tail bytes superblock rows d.first both.0)
    ∙ ap (λ (qs : List Part). record { first = d.first; more = qs }) (all_stay bytes superblock rows d.more both.1))

-- ---- the new parts of a part that keeps its first run

pub tail_made : (bytes superblock : ℕ) (rows : List PairRow) (p q : Part) (pairs : List Pair) (others : List (List Entry))
    (made : List Part)
    → p.dirty ≡ true → q ≡ with_first_run bytes superblock p
    → others ≡ later_runs (runs_by bytes superblock p) → pairs ≡ chosen_for rows q → made ≡ more_parts pairs others
    → made ≡ tail_by bytes superblock rows p
tail_made bytes superblock rows p q pairs others made set first later are is =
    is ∙ ap (λ (qs : List Pair). more_parts qs others) (are ∙ same_choice rows q p (ap (λ (x : Part). x.pair) first))
    ∙ ap (more_parts (chosen_for rows p)) later
    ∙ sym (ap (λ (t : Bool). if t then more_parts (chosen_for rows p) (later_runs (runs_by bytes superblock p)) else []) set)

-- ---- parts that have one run

no_more : {X : Type 0} (xs : List X) → 0 ≡ length xs → xs ≡ []
no_more [] none = refl
no_more (x ∷ xs) none = absurd (omega (arith, none))

first_and_later : (rs : List (List Entry)) → first_run rs ++ flat_map (λ run. run) (later_runs rs) ≡ flat_map (λ run. run) rs
first_and_later [] = refl
first_and_later (run ∷ rs) = sym (flat_map-cons (λ (x : List Entry). x) run rs)

-- the first run has all entries, where there is no other
first_is_all : RunsJoin Entry → (v : Volume) (p : Part) → 0 ≡ length (later_runs (runs v p)) → first_run (runs v p) ≡ p.entries
first_is_all join v p none =
    sym (append-nil (first_run (runs v p)))
    ∙ ap (λ (rs : List (List Entry)). first_run (runs v p) ++ flat_map (λ run. run) rs) (sym (no_more (later_runs (runs v p)) none))
    ∙ first_and_later (runs v p) ∙ joined join v p

head_complete : RunsJoin Entry → (v : Volume) (p : Part) (t : Bool) → p.dirty ≡ t → HasEnough (chosen_for []) v p → cut_head v p ≡ p
head_complete join v p true set enough =
    ap (λ (t : Bool). if t then record { pair = p.pair; entries = first_run (runs v p); delta = p.delta; dirty = true } else p) set
    ∙ ap (λ (es : List Entry). record { pair = p.pair; entries = es; delta = p.delta; dirty = true }) (first_is_all join v p (enough set))
    ∙ ap (λ (t : Bool). record { pair = p.pair; entries = p.entries; delta = p.delta; dirty = t }) (sym set)
head_complete join v p false unset enough =
    ap (λ (t : Bool). if t then record { pair = p.pair; entries = first_run (runs v p); delta = p.delta; dirty = true } else p) unset

tail_none : (v : Volume) (p : Part) (t : Bool) → p.dirty ≡ t → HasEnough (chosen_for []) v p → cut_tail (chosen_for []) v p ≡ []
tail_none v p true set enough =
    ap (λ (t : Bool). if t then more_parts [] (later_runs (runs v p)) else []) set
    ∙ ap (more_parts []) (no_more (later_runs (runs v p)) (enough set))
tail_none v p false unset enough = ap (λ (t : Bool). if t then more_parts [] (later_runs (runs v p)) else []) unset

parts_complete : RunsJoin Entry → (v : Volume) (ps : List Part) → All (HasEnough (chosen_for []) v) ps
    → flat_map (λ p. cut_head v p ∷ cut_tail (chosen_for []) v p) ps ≡ ps
parts_complete join v [] all = refl
parts_complete join v (p ∷ ps) all =
    let here = All-head (HasEnough (chosen_for []) v) p ps all in
    let rest : List Part = flat_map (λ q. cut_head v q ∷ cut_tail (chosen_for []) v q) ps in
    flat_map-cons (λ q. cut_head v q ∷ cut_tail (chosen_for []) v q) p ps
    ∙ ap (λ (q : Part). q ∷ (cut_tail (chosen_for []) v p ++ rest)) (head_complete join v p p.dirty refl here)
    ∙ ap (λ (qs : List Part). p ∷ (qs ++ rest)) (tail_none v p p.dirty refl here)
    ∙ ap (λ (qs : List Part). p ∷ qs) (parts_complete join v ps (All-tail (HasEnough (chosen_for []) v) p ps all))

-- where no pairs are needed nothing is cut
pub nothing_cut : RunsJoin Entry → (v : Volume) (ds : List Directory) → All (HasEnough (chosen_for []) v) (thread ds)
    → ds ≡ map (cut_directory (chosen_for []) v) ds
nothing_cut join v [] all = refl
nothing_cut join v (d ∷ ds) all =
    let here = All-left (HasEnough (chosen_for []) v) (parts d) (thread ds) all in
    let first = All-head (HasEnough (chosen_for []) v) d.first d.more here in
    let more : List Part = flat_map (λ q. cut_head v q ∷ cut_tail (chosen_for []) v q) d.more in
    sym (ap (λ (q : Part). record { first = q; more = cut_tail (chosen_for []) v d.first ++ more } ∷ map (cut_directory (chosen_for []) v) ds)
    (head_complete join v d.first d.first.dirty refl first)
    ∙ ap (λ (qs : List Part). record { first = d.first; more = qs ++ more } ∷ map (cut_directory (chosen_for []) v) ds)
    (tail_none v d.first d.first.dirty refl first)
    ∙ ap (λ (qs : List Part). record { first = d.first; more = qs } ∷ map (cut_directory (chosen_for []) v) ds)
    (parts_complete join v d.more (All-tail (HasEnough (chosen_for []) v) d.first d.more here))
    ∙ ap (λ (es : List Directory). d ∷ es)
    (sym (nothing_cut join v ds (All-right (HasEnough (chosen_for []) v) (parts d) (thread ds) all))))

pub nothing_to_cut : RunsJoin Entry → (o : Volume) (rows : List PairRow) → rows ≡ [] → All (HasEnough (chosen_for rows) o) (thread o.directories)
    → o ≡ cut (chosen_for rows) o
nothing_to_cut join o rows none enough =
    subst (λ (rs : List PairRow). All (HasEnough (chosen_for rs) o) (thread o.directories) → o ≡ cut (chosen_for rs) o) (sym none)
    (λ complete. ap (with_directories o) (nothing_cut join o o.directories complete)) enough
