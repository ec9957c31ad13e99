-- How many blocks rows take with those below them, by their paths.
use Rattle.std.proofs.Common.{◌≡◌, ℕ, ◌+◌, ◌<◌, ◌≤◌, Bool, true, false, List, [], ◌∷◌, ◌++◌, Option, Some, None, cond, drop, flat_map, get_or, length, map, refl, ap, sym, subst, ◌∙◌}
use Rattle.std.proofs.Common.{arith, append_assoc, append-nil, zero, suc}
use Rattle.std.specs.Prelude.{IfSome, count_by, nat_lt, slice_get, slice_index}
use Rattle.std.specs.List.{All, Contains, range_with_len}
use Rattle.std.specs.Option.{option_map_or}
use Rattle.std.proofs.lemmas.Bool.Decides.{nat_tests}
use Rattle.std.proofs.lemmas.Option.{get_or_from_slice_get, none-some, same_Some, slice_get-get_or, slice_get_within}
use Rattle.std.proofs.lemmas.List.{ext_get_or, get_or-map, length-map}
use Rattle.std.proofs.lemmas.List.Elements.{All-contains, All-head, All-tail, All-weaker, All-map}
use Rattle.lfs_fs.specs.Listed.{Listed, path_after, row_after, rows_after, rows_listed}
use Rattle.lfs_fs.specs.Path.{Path}
use Rattle.lfs_fs.specs.Row.{Row, RowsRise, path_precedes}
use Rattle.lfs_fs.specs.Volume.{Volume}
use Rattle.lfs_listing.specs.BlockMap.{block_users, user}
use Rattle.lfs_json.specs.declared.form.Form.{Form}
use Rattle.lfs_listing.specs.BlockSums.{is_within, sum_line, taken, uses_within}
use Rattle.lfs_listing.specs.Summing.{AreCounts, deeper_sum, depth_sum, sum_lines, weigh}
use Rattle.lfs_listing.proofs.BlockMapLemmas.{user_found}
use Rattle.lfs_listing.proofs.BufferLemmas.{IsUnderWay, more_waits}
use Rattle.lfs_listing.proofs.WithinLemmas.{above_not_within, before_not_within, behind_not_within, within_itself, within_next}

-- how many names a row's path has
abbrev pub deep : Row → ℕ
deep r = length r.path

-- the counts of rows at a path or below it
abbrev within_sum : Path → List Row → List ℕ → ℕ
within_sum p [] cs = 0
within_sum p (r ∷ rs) [] = 0
within_sum p (r ∷ rs) (c ∷ cs) = cond (is_within p r.path) c 0 + within_sum p rs cs

-- ---- from one row on

none_by : (b : Bool) (c n : ℕ) → b ≡ false → n ≡ 0 → cond b c 0 + n ≡ 0
none_by true c n out none = absurd (let bad : true ≡ false = out in cc)
none_by false c n out none = omega arith

none_within : (p : Path) (rows : List Row) (cs : List ℕ) → All (λ r. is_within p r.path ≡ false) rows → within_sum p rows cs ≡ 0
none_within p [] cs out = refl
none_within p (r ∷ rs) [] out = refl
none_within p (r ∷ rs) (c ∷ cs) out =
    none_by (is_within p r.path) c (within_sum p rs cs) (All-head (λ (s : Row). is_within p s.path ≡ false) r rs out)
    (none_within p rs cs (All-tail (λ (s : Row). is_within p s.path ≡ false) r rs out))

goes_by : (t b : Bool) (c m n : ℕ) → t ≡ true → b ≡ true → m ≡ n → cond t c 0 + m ≡ cond b (c + n) 0
goes_by true true c m n is deeper same = omega arith
goes_by true false c m n is deeper same = absurd (let bad : false ≡ true = deeper in cc)
goes_by false b c m n is deeper same = absurd (let bad : false ≡ true = is in cc)

stops_by : (t b : Bool) (c m n : ℕ) → t ≡ false → b ≡ false → m ≡ 0 → cond t c 0 + m ≡ cond b (c + n) 0
stops_by true b c m n out above none = absurd (let bad : true ≡ false = out in cc)
stops_by false true c m n out above none = absurd (let bad : true ≡ false = above in cc)
stops_by false false c m n out above none = omega arith

-- the rows below a path are the deeper ones right behind it
below_by : (b : Bool) (p q : Path) (x : Listed) (xs : List Listed) (c : ℕ) (cs : List ℕ) → nat_lt (length p) (length (path_after q x.depth x.entry.name)) ≡ b
    → is_within p q ≡ true → All (λ s. path_precedes p s.path ≡ true) (rows_after q (x ∷ xs)) → RowsRise (rows_after q (x ∷ xs))
    → (is_within p (path_after q x.depth x.entry.name) ≡ true → within_sum p (rows_after (path_after q x.depth x.entry.name) xs) cs
    ≡ deeper_sum (length p) (map deep (rows_after (path_after q x.depth x.entry.name) xs)) cs)
    → within_sum p (rows_after q (x ∷ xs)) (c ∷ cs) ≡ deeper_sum (length p) (map deep (rows_after q (x ∷ xs))) (c ∷ cs)
below_by true p q x xs c cs is inside before rise rest =
    let next : Path = path_after q x.depth x.entry.name in
    let deeper : length p < length next = grind (arith, nat_tests) in
    let within = within_next p q x.depth x.entry.name inside deeper in
    goes_by (is_within p next) (nat_lt (length p) (length next)) c (within_sum p (rows_after next xs) cs)
    (deeper_sum (length p) (map deep (rows_after next xs)) cs) within is (rest within)
below_by false p q x xs c cs is inside before rise rest =
    let next : Path = path_after q x.depth x.entry.name in
    let above : length next ≤ length p = grind (arith, nat_tests) in
    let first : path_precedes p next ≡ true = All-head (λ (s : Row). path_precedes p s.path ≡ true) (row_after q x) (rows_after next xs) before in
    let out : is_within p next ≡ false = above_not_within p next first above in
    let later : All (λ (s : Row). is_within p s.path ≡ false) (rows_after next xs) =
    All-weaker (λ (s : Row). path_precedes next s.path ≡ true) (λ (s : Row). is_within p s.path ≡ false)
    (λ s behind. behind_not_within p next s.path first behind out) (rows_after next xs) rise.0 in
    stops_by (is_within p next) (nat_lt (length p) (length next)) c (within_sum p (rows_after next xs) cs)
    (deeper_sum (length p) (map deep (rows_after next xs)) cs) out is (none_within p (rows_after next xs) cs later)

below : (p q : Path) (xs : List Listed) (cs : List ℕ) → is_within p q ≡ true → All (λ s. path_precedes p s.path ≡ true) (rows_after q xs)
    → RowsRise (rows_after q xs) → within_sum p (rows_after q xs) cs ≡ deeper_sum (length p) (map deep (rows_after q xs)) cs
below p q [] cs inside before rise = refl
below p q (x ∷ xs) [] inside before rise = refl
below p q (x ∷ xs) (c ∷ cs) inside before rise =
    let next : Path = path_after q x.depth x.entry.name in
    below_by (nat_lt (length p) (length next)) p q x xs c cs refl inside before rise (λ within.
    below p next xs cs within (All-tail (λ (s : Row). path_precedes p s.path ≡ true) (row_after q x) (rows_after next xs) before) rise.1)

-- ---- of all rows

here_by : (b : Bool) (c m n : ℕ) → b ≡ true → m ≡ n → cond b c 0 + m ≡ c + n
here_by true c m n is same = omega arith
here_by false c m n is same = absurd (let bad : false ≡ true = is in cc)

before_by : (b : Bool) (c m n : ℕ) → b ≡ false → m ≡ n → cond b c 0 + m ≡ n
before_by true c m n out same = absurd (let bad : true ≡ false = out in cc)
before_by false c m n out same = omega arith

pub row_sum : (q : Path) (xs : List Listed) (cs : List ℕ) (i : ℕ) (r : Row) → RowsRise (rows_after q xs) → slice_get (rows_after q xs) i ≡ Some r
    → length cs ≡ length (rows_after q xs) → within_sum r.path (rows_after q xs) cs ≡ depth_sum (map deep (rows_after q xs)) cs i
row_sum q [] cs i r rise at same = absurd (none-some r at)
row_sum q (x ∷ xs) [] i r rise at same = absurd (omega arith)
row_sum q (x ∷ xs) (c ∷ cs) zero r rise at same =
    let first : row_after q x ≡ r = same_Some (row_after q x) r at in
    let next : Path = path_after q x.depth x.entry.name in
    ap (λ (s : Row). within_sum s.path (rows_after q (x ∷ xs)) (c ∷ cs)) (sym first)
    ∙ here_by (is_within next next) c (within_sum next (rows_after next xs) cs) (deeper_sum (length next) (map deep (rows_after next xs)) cs)
    (within_itself next) (below next next xs cs (within_itself next) rise.0 rise.1)
row_sum q (x ∷ xs) (c ∷ cs) (suc i) r rise at same =
    let next : Path = path_after q x.depth x.entry.name in
    let rows : List Row = rows_after next xs in
    let there : slice_get rows i ≡ Some r = at in
    let inside : Contains rows r = (i, slice_get_within rows i r there, get_or_from_slice_get rows i r r there) in
    let before : path_precedes next r.path ≡ true = All-contains (λ (s : Row). path_precedes next s.path ≡ true) rows r rise.0 inside in
    let step : suc i + 1 ≡ suc (i + 1) = omega arith in
    before_by (is_within r.path next) c (within_sum r.path rows cs) (depth_sum (map deep rows) cs i) (before_not_within r.path next before)
    (row_sum next xs cs i r rise.1 there (omega arith))
    ∙ ap (λ (k : ℕ). slice_index cs i + deeper_sum (slice_index (map deep rows) i) (drop k (length next ∷ map deep rows)) (drop k (c ∷ cs)))
    (sym step)

-- ---- counts of blocks by their rows

-- a row's number passes where its path is below one
abbrev passes : List Row → Path → ℕ → Bool
passes rows p i = option_map_or (λ r. is_within p r.path) (slice_get rows i) false

weigh_within : (f : ℕ → Bool) (number : ℕ) (p : Path) (rows : List Row) (cs : List ℕ) → length cs ≡ length rows
    → ((i : ℕ) → f (number + i) ≡ passes rows p i) → weigh f number cs ≡ within_sum p rows cs
weigh_within f number p [] [] same agree = refl
weigh_within f number p [] (c ∷ cs) same agree = absurd (omega arith)
weigh_within f number p (r ∷ rows) [] same agree = absurd (omega arith)
weigh_within f number p (r ∷ rows) (c ∷ cs) same agree =
    let here : number + 0 ≡ number = omega arith in
    let first : f number ≡ is_within p r.path = ap f (sym here) ∙ agree 0 in
    ap (λ (b : Bool). cond b c 0 + weigh f (number + 1) cs) first
    ∙ ap (λ (n : ℕ). cond (is_within p r.path) c 0 + n) (weigh_within f (number + 1) p rows cs (omega arith) (λ i.
    let there : number + 1 + i ≡ number + suc i = omega arith in
    ap f there ∙ agree (suc i)))

uses_by : (rows : List Row) (p : Path) (u : Option ℕ) → option_map_or (passes rows p) u false ≡ uses_within rows p u
uses_by rows p None = refl
uses_by rows p (Some i) = refl

zero_add : (i : ℕ) → 0 + i ≡ i
zero_add i = omega arith

-- what a row takes with those below it, by depths and by paths
pub row_takes : (v : Volume) (listed : List Listed) (rows : List Row) (us : List (Option ℕ)) (cs : List ℕ) (i : ℕ) (r : Row)
    → rows_listed listed ≡ rows → RowsRise rows → us ≡ block_users v rows → AreCounts us (length rows) cs → slice_get rows i ≡ Some r
    → depth_sum (map deep rows) cs i ≡ taken v rows r.path
row_takes v listed rows us cs i r is rise users' counts at =
    let by_paths : within_sum r.path rows cs ≡ depth_sum (map deep rows) cs i =
    subst (λ (rs : List Row). RowsRise rs → slice_get rs i ≡ Some r → length cs ≡ length rs → within_sum r.path rs cs ≡ depth_sum (map deep rs) cs i)
    is (row_sum [] listed cs i r) rise at counts.len in
    sym by_paths
    ∙ sym (weigh_within (passes rows r.path) 0 r.path rows cs counts.len (λ k. ap (passes rows r.path) (zero_add k)))
    ∙ counts.are (passes rows r.path)
    ∙ ap (λ (f : Option ℕ → Bool). count_by f us) (λ k u. uses_by rows r.path u k)
    ∙ ap (count_by (uses_within rows r.path)) users'

-- ---- the lines

pub lines_of_rows : (form : Form) (f : Row → ℕ) (rows : List Row) → sum_lines form rows (map f rows) ≡ flat_map (λ r. sum_line form (Some r) (f r)) rows
lines_of_rows form f [] = refl
lines_of_rows form f (r ∷ rs) = ap (λ (xs : List ℕ). sum_line form (Some r) (f r) ++ xs) (lines_of_rows form f rs)

-- each row takes what its path does
pub sums_are_taken : (v : Volume) (listed : List Listed) (rows : List Row) (us : List (Option ℕ)) (cs sums : List ℕ)
    → rows_listed listed ≡ rows → RowsRise rows → us ≡ block_users v rows → AreCounts us (length rows) cs → length sums ≡ length rows
    → ((i : ℕ) → i < length rows → slice_index sums i ≡ depth_sum (map deep rows) cs i) → sums ≡ map (λ r. taken v rows r.path) rows
sums_are_taken v listed rows us cs sums is rise users' counts len each =
    ext_get_or 0 _ _ (len ∙ sym (length-map rows (λ (r : Row). taken v rows r.path))) λ i within.
    let inside : i < length rows = omega (arith, len, within) in
    row_at v listed rows us cs sums i inside is rise users' counts each
  where
    row_at : (v : Volume) (listed : List Listed) (rows : List Row) (us : List (Option ℕ)) (cs sums : List ℕ) (i : ℕ) → i < length rows
        → rows_listed listed ≡ rows → RowsRise rows → us ≡ block_users v rows → AreCounts us (length rows) cs
        → ((k : ℕ) → k < length rows → slice_index sums k ≡ depth_sum (map deep rows) cs k)
        → get_or sums i 0 ≡ get_or (map (λ r. taken v rows r.path) rows) i 0
    row_at v listed [] us cs sums i within is rise users' counts each = absurd (omega arith)
    row_at v listed (d ∷ ds) us cs sums i within is rise users' counts each =
        let rows : List Row = d ∷ ds in
        let r : Row = get_or rows i d in
        let at : slice_get rows i ≡ Some r = slice_get-get_or rows i d within in
        each i within ∙ row_takes v listed rows us cs i r is rise users' counts at
        ∙ sym (get_or-map (λ (x : Row). taken v rows x.path) rows i d 0 within)

within_by : (v : Volume) (rows : List Row) (b : ℕ) (o : Option ℕ) → user v rows b ≡ o → IfSome o (λ row. row < length rows)
within_by v rows b None is = tt
within_by v rows b (Some k) is = let h = user_found v rows b k is in slice_get_within rows k h.0 h.1

-- each block has one of the rows or none
pub users_within : (v : Volume) (rows : List Row) (us : List (Option ℕ)) → us ≡ block_users v rows
    → All (λ u. IfSome u (λ row. row < length rows)) us
users_within v rows us is =
    let P : Option ℕ → Type 0 = λ (u : Option ℕ). IfSome u (λ row. row < length rows) in
    subst (All P) (sym is) (All-map P (user v rows) (range_with_len 0 v.count) (λ k d within. within_by v rows (get_or (range_with_len 0 v.count) k d)
    (user v rows (get_or (range_with_len 0 v.count) k d)) refl))

-- ---- the lines, row by row

-- the line of one more row waits
pub sum_waits : (form : Form) (old new : Option (List ℕ)) (q : Path) (left later : List Listed) (x : Listed) (sums rest waits longer last complete : List ℕ) (n : ℕ)
    → IsUnderWay old new waits (sum_lines form (rows_after q left) sums ++ last) complete → left ≡ x ∷ later
    → longer ≡ waits ++ sum_line form (Some (row_after q x)) n → n ≡ slice_index sums 0 → rest ≡ drop 1 sums
    → IsUnderWay old new longer (sum_lines form (rows_after (path_after q x.depth x.entry.name) later) rest ++ last) complete
sum_waits form old new q left later x sums rest waits longer last complete n h first line number others =
    let next : Path = path_after q x.depth x.entry.name in
    let words : List ℕ = sum_line form (Some (row_after q x)) n in
    let more : List ℕ = sum_lines form (rows_after next later) rest in
    let all : sum_lines form (rows_after q left) sums ++ last ≡ words ++ (more ++ last) =
    ap (λ (xs : List Listed). sum_lines form (rows_after q xs) sums ++ last) first
    ∙ ap (λ (k : ℕ). (sum_line form (Some (row_after q x)) k ++ sum_lines form (rows_after next later) (drop 1 sums)) ++ last) (sym number)
    ∙ ap (λ (ns : List ℕ). (words ++ sum_lines form (rows_after next later) ns) ++ last) (sym others)
    ∙ append_assoc words more last in
    more_waits old new waits words (more ++ last) longer complete (subst (λ (xs : List ℕ). IsUnderWay old new waits xs complete) all h) line

-- the last line waits
pub last_waits : (form : Form) (old new : Option (List ℕ)) (q : Path) (left : List Listed) (sums waits longer last complete : List ℕ)
    → IsUnderWay old new waits (sum_lines form (rows_after q left) sums ++ last) complete → left ≡ [] → longer ≡ waits ++ last
    → IsUnderWay old new longer [] complete
last_waits form old new q left sums waits longer last complete h none line =
    more_waits old new waits last [] longer complete
    (subst (λ (xs : List ℕ). IsUnderWay old new waits xs complete)
    (ap (λ (xs : List Listed). sum_lines form (rows_after q xs) sums ++ last) none ∙ sym (append-nil last)) h) line
