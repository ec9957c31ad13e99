-- Cutting writes the parts that are set and new ones, and nothing else.
use Rattle.std.proofs.Common.{◌≡◌, Bool, true, false, List, [], ◌∷◌, ◌++◌, refl, ap, sym, ◌∙◌, subst}
use Rattle.std.specs.Prelude.{All, Contains, flat_map}
use Rattle.std.proofs.lemmas.List.Elements.{All-head, All-tail, All-cons, All-nil}
use Rattle.std.proofs.lemmas.List.Concat.{flat_map-cons}
use mathlib.Core.Logic.{inl, inr}
use Rattle.lfs_meta.specs.declared.tail.Tail.{Tail}
use Rattle.lfs_meta.specs.Body.{Pair}
use Rattle.lfs_fs.specs.Entry.{Entry}
use Rattle.lfs_fs.specs.Directory.{Part, parts}
use Rattle.lfs_fs.specs.Volume.{Volume}
use Rattle.lfs_fs.specs.Thread.{Link, links_of, hard_to}
use Rattle.lfs_meta.specs.Runs.{later_runs}
use Rattle.lfs_fs.proofs.ContainsLemmas.{contains_first, contains_later}
use Rattle.lfs_command.specs.Cut.{runs, more_parts, cut_directory, cut}
use Rattle.lfs_command.specs.Kept.{IsKept, KeepLinks}
use Rattle.lfs_law.proofs.Cuts.{cut_part, cut_parts, head_by, tail_by, head_pair_by}
use Rattle.lfs_law.proofs.KeptLinks.{weaker, map_kept}

-- the links of a list of parts
abbrev links_in : List Part → Tail → List Link
links_in [] tail = []
links_in (p ∷ ps) tail = links_of p ps tail

-- the tail in front of a list of parts
abbrev tail_before : List Part → Tail → Tail
tail_before [] tail = tail
tail_before (p ∷ ps) tail = hard_to p.pair

in_front : (old : List Link) (p : Part) (ps : List Part) (tail : Tail) → IsKept old (record { part = p; tail = tail_before ps tail })
    → All (IsKept old) (links_in ps tail)
    → All (IsKept old) (links_of p ps tail)
in_front old p [] tail here rest = All-cons (IsKept old) (record { part = p; tail = tail }) [] here rest
in_front old p (q ∷ ps) tail here rest = All-cons (IsKept old) (record { part = p; tail = hard_to q.pair }) (links_of q ps tail) here rest

sets_in_front : (old : List Link) (ps qs : List Part) (tail : Tail) → All (λ p. p.dirty ≡ true) ps → All (IsKept old) (links_in qs tail)
    → All (IsKept old) (links_in (ps ++ qs) tail)
sets_in_front old [] qs tail sets rest = rest
sets_in_front old (p ∷ ps) qs tail sets rest =
    in_front old p (ps ++ qs) tail (inl (All-head (λ (q : Part). q.dirty ≡ true) p ps sets))
    (sets_in_front old ps qs tail (All-tail (λ (q : Part). q.dirty ≡ true) p ps sets) rest)

first_link : (p : Part) (ps : List Part) (tail : Tail) → Contains (links_of p ps tail) (record { part = p; tail = tail_before ps tail })
first_link p [] tail = contains_first (record { part = p; tail = tail }) []
first_link p (q ∷ ps) tail = contains_first (record { part = p; tail = hard_to q.pair }) (links_of q ps tail)

later_links : (p : Part) (ps : List Part) (tail : Tail) (l : Link) → Contains (links_in ps tail) l → Contains (links_of p ps tail) l
later_links p [] tail l there = contains_later (record { part = p; tail = tail }) [] l there
later_links p (q ∷ ps) tail l there = contains_later (record { part = p; tail = hard_to q.pair }) (links_of q ps tail) l there

new_parts_set : (pairs : List Pair) (rs : List (List Entry)) → All (λ p. p.dirty ≡ true) (more_parts pairs rs)
new_parts_set pairs [] = All-nil (λ (p : Part). p.dirty ≡ true)
new_parts_set [] (run ∷ rs) = All-nil (λ (p : Part). p.dirty ≡ true)
new_parts_set (pair ∷ pairs) (run ∷ rs) = All-cons (λ (p : Part). p.dirty ≡ true)
    (record { pair = pair; entries = run; delta = 0; dirty = true }) (more_parts pairs rs) refl (new_parts_set pairs rs)

tail_same : (chosen : Part → List Pair) (v : Volume) (ps : List Part) (tail : Tail)
    → tail_before (flat_map (cut_part chosen v) ps) tail ≡ tail_before ps tail
tail_same chosen v [] tail = refl
tail_same chosen v (p ∷ ps) tail = ap (λ qs. tail_before qs tail) (flat_map-cons (cut_part chosen v) p ps)
    ∙ ap hard_to (head_pair_by v p p.dirty)

part_kept : (chosen : Part → List Pair) (v : Volume) (p : Part) (ps : List Part) (tail : Tail) (set : Bool)
    → All (IsKept (links_in ps tail)) (links_in (flat_map (cut_part chosen v) ps) tail)
    → All (IsKept (links_of p ps tail)) (links_in ((head_by v p set ∷ tail_by chosen v p set) ++ flat_map (cut_part chosen v) ps) tail)
part_kept chosen v p ps tail true rest =
    sets_in_front (links_of p ps tail) (head_by v p true ∷ tail_by chosen v p true) (flat_map (cut_part chosen v) ps) tail
    (All-cons (λ (q : Part). q.dirty ≡ true) (head_by v p true) (tail_by chosen v p true) refl
    (new_parts_set (chosen p) (later_runs (runs v p))))
    (weaker (links_in ps tail) (links_of p ps tail) (later_links p ps tail) (links_in (flat_map (cut_part chosen v) ps) tail) rest)
part_kept chosen v p ps tail false rest =
    in_front (links_of p ps tail) p (flat_map (cut_part chosen v) ps) tail
    (inr (subst (λ (t : Tail). Contains (links_of p ps tail) (record { part = p; tail = t })) (sym (tail_same chosen v ps tail))
    (first_link p ps tail)))
    (weaker (links_in ps tail) (links_of p ps tail) (later_links p ps tail) (links_in (flat_map (cut_part chosen v) ps) tail) rest)

parts_kept : (chosen : Part → List Pair) (v : Volume) (ps : List Part) (tail : Tail)
    → All (IsKept (links_in ps tail)) (links_in (flat_map (cut_part chosen v) ps) tail)
parts_kept chosen v [] tail = All-nil (IsKept [])
parts_kept chosen v (p ∷ ps) tail =
    subst (λ (qs : List Part). All (IsKept (links_of p ps tail)) (links_in qs tail)) (sym (flat_map-cons (cut_part chosen v) p ps))
    (part_kept chosen v p ps tail p.dirty (parts_kept chosen v ps tail))

pub cut_kept : (chosen : Part → List Pair) (v : Volume) → KeepLinks v.directories (cut chosen v).directories
cut_kept chosen v =
    map_kept (cut_directory chosen v) (λ d. head_pair_by v d.first d.first.dirty)
    (λ d tail. subst (λ (qs : List Part). All (IsKept (links_of d.first d.more tail)) (links_in qs tail)) (sym (cut_parts chosen v d))
    (parts_kept chosen v (parts d) tail))
    v.directories
