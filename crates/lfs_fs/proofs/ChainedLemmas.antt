-- Threads whose tails name the next pair.
use Rattle.std.proofs.Common.{◌≡◌, ℕ, ◌+◌, ◌≤◌, Bool, true, false, List, [], ◌∷◌, ◌++◌, Option, Some, None, map, refl, ap, sym, ◌∙◌, arith}
use Rattle.std.specs.Prelude.{All, sum_by, if◌then◌else◌}
use Rattle.std.proofs.lemmas.List.Elements.{All-head, All-tail}
use Rattle.std.proofs.lemmas.List.{map-append}
use Rattle.std.proofs.lemmas.List.Sums.{sum_by-cons, sum_by-append}
use Rattle.lfs_meta.specs.declared.tail.Tail.{Tail}
use Rattle.lfs_meta.specs.declared.tail.Tail.TheVariants.{End, Soft, Hard}
use Rattle.lfs_meta.specs.Body.{Pair}
use Rattle.lfs_fs.specs.Directory.{Part, Directory, parts, thread}
use Rattle.lfs_fs.specs.Uses.{pair_uses, directory_uses}
use Rattle.lfs_fs.specs.Thread.{Link, is_hard, next, joined_to, pieces, soft_to, hard_to, links_of, tail_to, links}
use Rattle.lfs_fs.specs.Front.{Follow, after, pair_names, pairs_name}

-- the pair of the first link
abbrev pub first_pair : List Link → Option Pair
first_pair [] = None
first_pair (l ∷ ls) = Some l.part.pair

-- each tail names the pair of the next link, and the last one none
abbrev pub Chained : List Link → Type 0
Chained [] = Unit {0}
Chained (l ∷ ls) = (next l.tail ≡ first_pair ls) × Chained ls

-- ---- the links of directories are chained

first_of_directory : (p : Part) (ps : List Part) (tail : Tail) (rest : List Link) → first_pair (links_of p ps tail ++ rest) ≡ Some p.pair
first_of_directory p [] tail rest = refl
first_of_directory p (q ∷ ps) tail rest = refl

chained_directory : (p : Part) (ps : List Part) (tail : Tail) (rest : List Link) → next tail ≡ first_pair rest → Chained rest
    → Chained (links_of p ps tail ++ rest)
chained_directory p [] tail rest is chained = (is, chained)
chained_directory p (q ∷ ps) tail rest is chained = (sym (first_of_directory q ps tail rest), chained_directory q ps tail rest is chained)

-- the pair of the first part
abbrev pub begins_with : List Directory → Option Pair
begins_with [] = None
begins_with (d ∷ ds) = Some d.first.pair

pub first_of_links : (ds : List Directory) → first_pair (links ds) ≡ begins_with ds
first_of_links [] = refl
first_of_links (d ∷ ds) = first_of_directory d.first d.more (tail_to ds) (links ds)

next_is_tail : (ds : List Directory) → next (tail_to ds) ≡ begins_with ds
next_is_tail [] = refl
next_is_tail (d ∷ ds) = refl

pub links_chained : (ds : List Directory) → Chained (links ds)
links_chained [] = tt
links_chained (d ∷ ds) = chained_directory d.first d.more (tail_to ds) (links ds) (next_is_tail ds ∙ sym (first_of_links ds))
    (links_chained ds)

-- ---- chained links are those of their directories

begins_by : (hard : Bool) (p : Part) (ds : List Directory) → begins_with
    (if hard then joined_to p ds else record { first = p; more = [] } ∷ ds) ≡ Some p.pair
begins_by true p [] = refl
begins_by true p (d ∷ ds) = refl
begins_by false p ds = refl

pieces_begin : (ls : List Link) → begins_with (pieces ls) ≡ first_pair ls
pieces_begin [] = refl
pieces_begin (l ∷ ls) = begins_by (is_hard l.tail) l.part (pieces ls)

tail_to_some : (ds : List Directory) (p : Pair) → begins_with ds ≡ Some p → tail_to ds ≡ soft_to p
tail_to_some [] p is = cc
tail_to_some (d ∷ ds) p is = let same : d.first.pair ≡ p = cc in ap soft_to same

links_joined : (part : Part) (ds : List Directory) (p : Pair) → begins_with ds ≡ Some p
    → links (joined_to part ds) ≡ record { part = part; tail = hard_to p } ∷ links ds
links_joined part [] p is = cc
links_joined part (d ∷ ds) p is = let same : d.first.pair ≡ p = cc in
    ap (λ (q : Pair). record { part = part; tail = hard_to q } ∷ links (d ∷ ds)) same

links_before : (part : Part) (tail : Tail) (ds : List Directory) → next tail ≡ begins_with ds
    → links (if is_hard tail then joined_to part ds else record { first = part; more = [] } ∷ ds)
    ≡ record { part = part; tail = tail } ∷ links ds
links_before part End [] is = refl
links_before part End (d ∷ ds) is = cc
links_before part (Soft first second) ds is = ap (λ (t : Tail). record { part = part; tail = t } ∷ links ds)
    (tail_to_some ds (first, second) (sym is))
links_before part (Hard first second) ds is = links_joined part ds (first, second) (sym is)

pub links_of_pieces : (ls : List Link) → Chained ls → links (pieces ls) ≡ ls
links_of_pieces [] chained = refl
links_of_pieces (l ∷ ls) chained = links_before l.part l.tail (pieces ls) (chained.0 ∙ sym (pieces_begin ls))
    ∙ ap (λ x. l ∷ x) (links_of_pieces ls chained.1)

-- ---- the pairs of links follow one another

abbrev pub pair_of : Link → Pair
pair_of l = l.part.pair

-- each link's tail is what follows its pair
abbrev pub IsStep : (Pair → Option Pair) → Link → Type 0
IsStep step l = step (pair_of l) ≡ next l.tail

pub pairs_follow : (step : Pair → Option Pair) (from : Option Pair) (ls : List Link) → from ≡ first_pair ls → Chained ls
    → All (IsStep step) ls → Follow step from (map pair_of ls) × (after step from (map pair_of ls) ≡ None)
pairs_follow step from [] is chained steps = (tt, is)
pairs_follow step from (l ∷ ls) is chained steps =
    let rest = pairs_follow step (step (pair_of l)) ls (All-head (IsStep step) l ls steps ∙ chained.0) chained.1
    (All-tail (IsStep step) l ls steps) in
    ((is, rest.0), rest.1)

-- ---- a volume uses the blocks of the pairs of its links

named_by_directory : (b : ℕ) (p : Part) (ps : List Part) (tail : Tail)
    → sum_by (pair_names b) (map pair_of (links_of p ps tail)) ≡ sum_by (pair_uses b) (p ∷ ps)
named_by_directory b p [] tail = refl
named_by_directory b p (q ∷ ps) tail =
    let rest : sum_by (pair_names b) (map pair_of (links_of q ps tail)) ≡ sum_by (pair_uses b) (q ∷ ps) = named_by_directory b q ps tail in
    omega (arith, rest, sum_by-cons (pair_names b) p.pair (map pair_of (links_of q ps tail)), sum_by-cons (pair_uses b) p (q ∷ ps))

pub pairs_used : (b : ℕ) (ds : List Directory) → pairs_name b (map pair_of (links ds)) ≤ sum_by (directory_uses b) ds
pairs_used b [] = omega arith
pairs_used b (d ∷ ds) =
    let here : sum_by (pair_names b) (map pair_of (links_of d.first d.more (tail_to ds))) ≡ sum_by (pair_uses b) (parts d) =
    named_by_directory b d.first d.more (tail_to ds) in
    let rest : sum_by (pair_names b) (map pair_of (links ds)) ≤ sum_by (directory_uses b) ds = pairs_used b ds in
    let both : sum_by (pair_names b) (map pair_of (links (d ∷ ds))) ≡ sum_by (pair_names b)
    (map pair_of (links_of d.first d.more (tail_to ds))) + sum_by (pair_names b) (map pair_of (links ds)) =
    ap (sum_by (pair_names b)) (map-append pair_of (links_of d.first d.more (tail_to ds)) (links ds))
    ∙ sum_by-append (pair_names b) (map pair_of (links_of d.first d.more (tail_to ds))) (map pair_of (links ds)) in
    omega (arith, here, rest, both, sum_by-cons (directory_uses b) d ds)

-- ---- the pairs of links are those of the parts

pairs_of_directory : (p : Part) (ps : List Part) (tail : Tail) → map pair_of (links_of p ps tail) ≡ map (λ (x : Part). x.pair) (p ∷ ps)
pairs_of_directory p [] tail = refl
pairs_of_directory p (q ∷ ps) tail = ap (λ (x : List Pair). p.pair ∷ x) (pairs_of_directory q ps tail)

pub pairs_of_parts : (ds : List Directory) → map pair_of (links ds) ≡ map (λ (x : Part). x.pair) (thread ds)
pairs_of_parts [] = refl
pairs_of_parts (d ∷ ds) =
    map-append pair_of (links_of d.first d.more (tail_to ds)) (links ds)
    ∙ ap (λ (x : List Pair). x ++ map pair_of (links ds)) (pairs_of_directory d.first d.more (tail_to ds))
    ∙ ap (λ (x : List Pair). map (λ (p : Part). p.pair) (parts d) ++ x) (pairs_of_parts ds)
    ∙ sym (map-append (λ (p : Part). p.pair) (parts d) (thread ds))

-- ---- the parts of links

pub part_of_links : (p : Part) (ps : List Part) (tail : Tail) → map (λ (l : Link). l.part) (links_of p ps tail) ≡ p ∷ ps
part_of_links p [] tail = refl
part_of_links p (q ∷ ps) tail = ap (λ (qs : List Part). p ∷ qs) (part_of_links q ps tail)

pub parts_of_links : (ds : List Directory) → map (λ (l : Link). l.part) (links ds) ≡ thread ds
parts_of_links [] = refl
parts_of_links (d ∷ ds) =
    map-append (λ (l : Link). l.part) (links_of d.first d.more (tail_to ds)) (links ds)
    ∙ ap (λ (qs : List Part). qs ++ map (λ (l : Link). l.part) (links ds)) (part_of_links d.first d.more (tail_to ds))
    ∙ ap (λ (qs : List Part). parts d ++ qs) (parts_of_links ds)
