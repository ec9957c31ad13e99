-- Which rows have blocks, found row by row.
use Rattle.std.proofs.Common.{◌≡◌, ◌≢◌, ℕ, ◌+◌, ◌<◌, ◌==◌, ◌||◌, Bool, true, false, List, [], ◌∷◌, Option, Some, None, refl, ap, sym, ◌∙◌, arith}
use Rattle.std.proofs.Common.{cond, fold, get_or, length, set, length-set, get_or-set_same, get_or-set_other, inl, inr, replicate, ◌++◌, append-nil, flat_map, take}
use Rattle.std.specs.Prelude.{is_none}
use Rattle.std.specs.List.{list_any, position_from}
use Rattle.std.specs.Option.{option_or}
use Rattle.std.proofs.lemmas.Bool.{cases_lt}
use Rattle.std.proofs.lemmas.Bool.Decides.{nat_tests}
use Rattle.std.proofs.lemmas.List.{ext_get_or, get_or-replicate, get_or_default, get_or_past, length-replicate, take_more}
use Rattle.std.proofs.lemmas.List.Concat.{flat_map-append}
use Rattle.std.proofs.lemmas.List.Sums.{fold-append}
use Rattle.std.proofs.lemmas.List.FromFn.{get_or-map-range_with_len, length-map-range_with_len}
use Rattle.lfs_fs.specs.Directory.{Directory, Part}
use Rattle.lfs_fs.specs.Row.{Row}
use Rattle.lfs_fs.specs.Volume.{Volume}
use Rattle.lfs_listing.specs.BlockMap.{body_blocks, has_block, blocks_of_part, user, block_users}
use Rattle.lfs_listing.specs.Using.{give, given_body, given_rows}

-- ---- a block

length_by : (b : Bool) (us : List (Option ℕ)) (x : ℕ) (v : Option ℕ) → length (cond b (set us x v) us) ≡ length us
length_by true us x v = length-set us x v
length_by false us x v = refl

length_given : (n : ℕ) (us : List (Option ℕ)) (x : ℕ) → length (give n us x) ≡ length us
length_given n us x = length_by (is_none (get_or us x (Some 0))) us x (Some n)

or_none : (o : Option ℕ) → option_or o None ≡ o
or_none None = refl
or_none (Some n) = refl

or_by : (t : Bool) (o : Option ℕ) (n m : ℕ) → (t ≡ true → o ≡ Some m) → o ≡ option_or o (cond t (Some n) None)
or_by true o n m is = is refl ∙ ap (λ (p : Option ℕ). option_or p (Some n)) (sym (is refl))
or_by false o n m is = sym (or_none o)

at_by : (t : Bool) (us : List (Option ℕ)) (n x b : ℕ) → (t ≡ true → x ≡ b) → (t ≡ false → x ≢ b) → x < length us → get_or us x None ≡ None
    → get_or (set us x (Some n)) b None ≡ option_or (get_or us b None) (cond t (Some n) None)
at_by true us n x b same other within none =
    let is : x ≡ b = same refl in
    ap (λ (i : ℕ). get_or (set us x (Some n)) i None) (sym is) ∙ get_or-set_same us x (Some n) None within
    ∙ ap (λ (p : Option ℕ). option_or p (Some n)) (sym none ∙ ap (λ (i : ℕ). get_or us i None) is)
at_by false us n x b same other within none =
    get_or-set_other us x b (Some n) None (λ is. other refl (sym is)) ∙ sym (or_none (get_or us b None))

given_by : (o : Option ℕ) (us : List (Option ℕ)) (n x b : ℕ) → get_or us x (Some 0) ≡ o → b < length us
    → get_or (cond (is_none o) (set us x (Some n)) us) b None ≡ option_or (get_or us b None) (cond (x == b) (Some n) None)
given_by (Some m) us n x b is within = or_by (x == b) (get_or us b None) n m (λ same.
    let equal : x ≡ b = grind (arith, nat_tests) in
    get_or_default us b None (Some 0) within ∙ ap (λ (i : ℕ). get_or us i (Some 0)) (sym equal) ∙ is)
given_by None us n x b is within = elim (cases_lt x (length us)) [
  | inl inside ↦ at_by (x == b) us n x b (λ t. grind (arith, nat_tests)) (λ t. grind (arith, nat_tests)) inside
      (get_or_default us x None (Some 0) inside ∙ is)
  | inr past ↦ absurd (let bad : Some 0 ≡ None = sym (get_or_past us x (Some 0) past) ∙ is in cc)
]

give_at : (n : ℕ) (us : List (Option ℕ)) (x b : ℕ) → b < length us
    → get_or (give n us x) b None ≡ option_or (get_or us b None) (cond (x == b) (Some n) None)
give_at n us x b within = given_by (get_or us x (Some 0)) us n x b refl within

-- ---- blocks

either : (t u : Bool) (o : Option ℕ) (n : ℕ) → option_or (option_or o (cond t (Some n) None)) (cond u (Some n) None)
    ≡ option_or o (cond (t || u) (Some n) None)
either true u None n = refl
either false u None n = refl
either true u (Some m) n = refl
either false u (Some m) n = refl

length_fold : (n : ℕ) (us : List (Option ℕ)) (xs : List ℕ) → length (fold (give n) us xs) ≡ length us
length_fold n us [] = refl
length_fold n us (x ∷ xs) = length_fold n (give n us x) xs ∙ length_given n us x

fold_at : (n : ℕ) (us : List (Option ℕ)) (xs : List ℕ) (b : ℕ) → b < length us
    → get_or (fold (give n) us xs) b None ≡ option_or (get_or us b None) (cond (list_any (λ x. x == b) xs) (Some n) None)
fold_at n us [] b within = sym (or_none (get_or us b None))
fold_at n us (x ∷ xs) b within =
    let inside : b < length (give n us x) = omega (arith, length_given n us x) in
    fold_at n (give n us x) xs b inside
    ∙ ap (λ (o : Option ℕ). option_or o (cond (list_any (λ x. x == b) xs) (Some n) None)) (give_at n us x b within)
    ∙ either (x == b) (list_any (λ x. x == b) xs) (get_or us b None) n

-- the blocks of one more part
pub parts_more : (n : ℕ) (old mid new : List (Option ℕ)) (ps : List Part) (i : ℕ) (p : Part) → i < length ps → p ≡ get_or ps i p
    → mid ≡ fold (give n) old (flat_map blocks_of_part (take i ps)) → new ≡ fold (give n) mid (blocks_of_part p)
    → new ≡ fold (give n) old (flat_map blocks_of_part (take (i + 1) ps))
parts_more n old mid new ps i p within at is more =
    let complete : take (i + 1) ps ≡ take i ps ++ p ∷ [] = take_more ps i p within ∙ ap (λ (q : Part). take i ps ++ q ∷ []) (sym at) in
    let blocks : flat_map blocks_of_part (take (i + 1) ps) ≡ flat_map blocks_of_part (take i ps) ++ blocks_of_part p =
    ap (flat_map blocks_of_part) complete ∙ flat_map-append blocks_of_part (take i ps) (p ∷ [])
    ∙ ap (λ (xs : List ℕ). flat_map blocks_of_part (take i ps) ++ xs) (append-nil (blocks_of_part p)) in
    more ∙ ap (λ (us : List (Option ℕ)). fold (give n) us (blocks_of_part p)) is
    ∙ sym (fold-append (give n) old (flat_map blocks_of_part (take i ps)) (blocks_of_part p))
    ∙ ap (fold (give n) old) (sym blocks)

-- ---- rows

then_later : (t : Bool) (o p : Option ℕ) (n : ℕ) → option_or (option_or o (cond t (Some n) None)) p ≡ option_or o (cond t (Some n) p)
then_later true None p n = refl
then_later false None p n = refl
then_later true (Some m) p n = refl
then_later false (Some m) p n = refl

length_rows : (ds : List Directory) (n : ℕ) (us : List (Option ℕ)) (rows : List Row) → length (given_rows ds n us rows) ≡ length us
length_rows ds n us [] = refl
length_rows ds n us (r ∷ rs) =
    length_rows ds (n + 1) (given_body ds n us r.entry.body) rs ∙ length_fold n us (body_blocks ds r.entry.body)

rows_at : (ds : List Directory) (n : ℕ) (us : List (Option ℕ)) (rows : List Row) (b : ℕ) → b < length us
    → get_or (given_rows ds n us rows) b None ≡ option_or (get_or us b None) (position_from (has_block ds b) n rows)
rows_at ds n us [] b within = sym (or_none (get_or us b None))
rows_at ds n us (r ∷ rs) b within =
    let new = given_body ds n us r.entry.body in
    let inside : b < length new = omega (arith, length_fold n us (body_blocks ds r.entry.body)) in
    rows_at ds (n + 1) new rs b inside
    ∙ ap (λ (o : Option ℕ). option_or o (position_from (has_block ds b) (n + 1) rs)) (fold_at n us (body_blocks ds r.entry.body) b within)
    ∙ then_later (has_block ds b r) (get_or us b None) (position_from (has_block ds b) (n + 1) rs) n

-- the rows of all blocks are their users
pub given_users : (v : Volume) (rows : List Row) → given_rows v.directories 0 (replicate v.count None) rows ≡ block_users v rows
given_users v rows =
    let none : List (Option ℕ) = replicate v.count None in
    let long : length none ≡ v.count = length-replicate v.count None in
    let len : length (given_rows v.directories 0 none rows) ≡ v.count = length_rows v.directories 0 none rows ∙ long in
    ext_get_or None _ _ (len ∙ sym (length-map-range_with_len (user v rows) 0 v.count)) λ b within.
    rows_at v.directories 0 none rows b (omega arith)
    ∙ ap (λ (o : Option ℕ). option_or o (user v rows b)) (get_or-replicate v.count b None None (omega arith))
    ∙ sym (get_or-map-range_with_len (user v rows) 0 v.count b b None (omega arith) (omega arith))
