-- The text of the blocks of an image, from the ends of its rows' lines.
use Rattle.std.proofs.Common.{◌≡◌, ℕ, ◌+◌, ◌<◌, Bool, true, false, List, [], ◌∷◌, ◌++◌, Option, Some, None, flat_map, length, map, refl, ap, sym, ◌∙◌}
use Rattle.std.proofs.Common.{arith, cond, suc}
use Rattle.std.specs.Prelude.{nat_eq, slice_get}
use Rattle.std.specs.List.{AllByRecursion, list_any, position_from, range_with_len}
use Rattle.std.specs.Option.{option_eq}
use Rattle.std.proofs.lemmas.Option.{get_or_from_slice_get, none-some, same_Some, slice_get_within}
use Rattle.std.proofs.lemmas.List.{get_or-map}
use Rattle.lfs_fs.specs.Directory.{Directory}
use Rattle.lfs_fs.specs.Entry.{Body, Inline, Chain, Directory_at}
use Rattle.lfs_fs.specs.Row.{Row}
use Rattle.lfs_fs.specs.Volume.{Volume}
use Rattle.lfs_json.specs.declared.form.Form.{Form}
use Rattle.lfs_json.specs.declared.form.Form.TheVariants.{Text, Json}
use Rattle.lfs_listing.specs.BlockMap.{BlockRun, block_map, block_line, block_users, body_blocks, has_block, put_before, runs_from, user, user_row}
use Rattle.lfs_listing.specs.Using.{may_have_blocks, part_line, part_of_user, row_part, run_line, user_part}
use Rattle.lfs_json.proofs.BlockLemmas.{run_line_is}

-- ---- runs are of the users that there are

abbrev AllOf : (Option ℕ → Type 0) → List BlockRun → Type 0
AllOf P runs = AllByRecursion (λ run. P run.user) runs

put_all_by : (P : Option ℕ → Type 0) (t : Bool) (b : ℕ) (u : Option ℕ) (run : BlockRun) (runs : List BlockRun) → P u → P run.user → AllOf P runs
    → AllOf P (cond t (record { first = b; last = run.last; user = u } ∷ runs) (record { first = b; last = b; user = u } ∷ run ∷ runs))
put_all_by P true b u run runs here first h = (here, h)
put_all_by P false b u run runs here first h = (here, (first, h))

put_all : (P : Option ℕ → Type 0) (b : ℕ) (u : Option ℕ) (runs : List BlockRun) → P u → AllOf P runs → AllOf P (put_before b u runs)
put_all P b u [] here h = (here, tt)
put_all P b u (run ∷ runs) here h = put_all_by P (option_eq nat_eq run.user u) b u run runs here h.0 h.1

runs_all : (P : Option ℕ → Type 0) (b : ℕ) (us : List (Option ℕ)) → AllByRecursion P us → AllOf P (runs_from b us)
runs_all P b [] h = tt
runs_all P b (u ∷ us) h = put_all P b u (runs_from (b + 1) us) h.0 (runs_all P (b + 1) us h.1)

lines_agree : (form : Form) (f g : Option ℕ → List ℕ) (runs : List BlockRun) → AllOf (λ u. f u ≡ g u) runs
    → flat_map (run_line form f) runs ≡ flat_map (run_line form g) runs
lines_agree form f g [] h = refl
lines_agree form f g (run ∷ runs) h =
    ap (λ (xs : List ℕ). part_line form run.first run.last xs ++ flat_map (run_line form f) runs) h.0
    ∙ ap (λ (xs : List ℕ). run_line form g run ++ xs) (lines_agree form f g runs h.1)

-- a line with what is said of its user is the run's
line_agrees : (form : Form) (rows : List Row) (run : BlockRun) → run_line form (λ u. user_part form (user_row rows u)) run ≡ block_line form rows run
line_agrees Text rows run = refl
line_agrees Json rows run = sym (run_line_is (user_row rows run.user) run.first run.last)

blocks_agree : (form : Form) (rows : List Row) (runs : List BlockRun)
    → flat_map (run_line form (λ u. user_part form (user_row rows u))) runs ≡ flat_map (block_line form rows) runs
blocks_agree form rows [] = refl
blocks_agree form rows (run ∷ runs) =
    ap (λ (xs : List ℕ). xs ++ flat_map (run_line form (λ u. user_part form (user_row rows u))) runs) (line_agrees form rows run)
    ∙ ap (λ (xs : List ℕ). block_line form rows run ++ xs) (blocks_agree form rows runs)

-- ---- a user's row has blocks

none_inline : (ds : List Directory) (b : ℕ) (body : Body) → list_any (λ x. nat_eq x b) (body_blocks ds body) ≡ true → may_have_blocks body ≡ true
none_inline ds b (Inline bytes) has = absurd (cc)
none_inline ds b (Chain blocks bytes) has = refl
none_inline ds b (Directory_at pair) has = refl

-- what is said of a user is said of its row
abbrev PartsAlike : Form → List Row → Option ℕ → Type 0
PartsAlike form rows u = part_of_user form (map (row_part form) rows) u ≡ user_part form (user_row rows u)

-- the row that is found passes
found_by : (t : Bool) (p : Row → Bool) (n : ℕ) (r : Row) (rs : List Row) (k : ℕ) → p r ≡ t
    → cond t (Some n) (position_from p (n + 1) rs) ≡ Some k
    → (position_from p (n + 1) rs ≡ Some k → (i : ℕ) × (x : Row) × (k ≡ n + 1 + i) × (slice_get rs i ≡ Some x) × (p x ≡ true))
    → (i : ℕ) × (x : Row) × (k ≡ n + i) × (slice_get (r ∷ rs) i ≡ Some x) × (p x ≡ true)
found_by true p n r rs k passes is rest = let same : n ≡ k = same_Some n k is in (0, r, omega (arith, same), refl, passes)
found_by false p n r rs k fails is rest = let h = rest is in (suc h.0, h.1, omega (arith, h.2), h.3, h.4)

pub found_from : (p : Row → Bool) (n : ℕ) (rows : List Row) (k : ℕ) → position_from p n rows ≡ Some k
    → (i : ℕ) × (x : Row) × (k ≡ n + i) × (slice_get rows i ≡ Some x) × (p x ≡ true)
found_from p n [] k is = absurd (none-some k is)
found_from p n (r ∷ rs) k is = found_by (p r) p n r rs k refl is (found_from p (n + 1) rs k)

pub user_found : (v : Volume) (rows : List Row) (b k : ℕ) → user v rows b ≡ Some k
    → (x : Row) × (slice_get rows k ≡ Some x) × (has_block v.directories b x ≡ true)
user_found v rows b k is =
    let h = found_from (has_block v.directories b) 0 rows k is in
    let same : h.0 ≡ k = omega (arith, h.2) in
    (h.1, ap (slice_get rows) (sym same) ∙ h.3, h.4)

parts_by : (form : Form) (v : Volume) (rows : List Row) (b : ℕ) (o : Option ℕ) → user v rows b ≡ o → PartsAlike form rows o
parts_by form v rows b None is = refl
parts_by form v rows b (Some k) is =
    let h = user_found v rows b k is in
    let within : k < length rows = slice_get_within rows k h.0 h.1 in
    let may : may_have_blocks h.0.entry.body ≡ true = none_inline v.directories b h.0.entry.body h.2 in
    get_or-map (row_part form) rows k h.0 [] within ∙ ap (row_part form) (get_or_from_slice_get rows k h.0 h.0 h.1)
    ∙ ap (λ (t : Bool). cond t (user_part form (Some h.0)) []) may
    ∙ ap (user_part form) (sym h.1)

all_mapped : (P : Option ℕ → Type 0) (f : ℕ → Option ℕ) (xs : List ℕ) → ((x : ℕ) → P (f x)) → AllByRecursion P (map f xs)
all_mapped P f [] h = tt
all_mapped P f (x ∷ xs) h = (h x, all_mapped P f xs h)

-- the lines of the runs are the text
pub map_text : (form : Form) (v : Volume) (rows : List Row) (us : List (Option ℕ)) (parts : List (List ℕ)) → us ≡ block_users v rows
    → parts ≡ map (row_part form) rows → flat_map (run_line form (part_of_user form parts)) (runs_from 0 us) ≡ block_map form v rows
map_text form v rows us parts users' parts' =
    let said : Option ℕ → List ℕ = λ u. user_part form (user_row rows u) in
    ap (λ (xs : List (Option ℕ)). flat_map (run_line form (part_of_user form parts)) (runs_from 0 xs)) users'
    ∙ ap (λ (ps : List (List ℕ)). flat_map (run_line form (part_of_user form ps)) (runs_from 0 (block_users v rows))) parts'
    ∙ lines_agree form (part_of_user form (map (row_part form) rows)) said (runs_from 0 (block_users v rows))
    (runs_all (PartsAlike form rows) 0 (block_users v rows) (all_mapped (PartsAlike form rows) (user v rows) (range_with_len 0 v.count) (λ b.
    parts_by form v rows b (user v rows b) refl)))
    ∙ blocks_agree form rows (runs_from 0 (block_users v rows))
