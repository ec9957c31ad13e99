-- A volume is cut part by part, and its thread link by link.
use Rattle.std.proofs.Common.{◌≡◌, Bool, true, false, List, [], ◌∷◌, ◌++◌, refl, ap, sym, ◌∙◌, map, append-nil}
use Rattle.std.specs.Prelude.{flat_map, if◌then◌else◌}
use Rattle.std.proofs.lemmas.Grind.{flat_map-append}
use Rattle.lfs_meta.specs.declared.tail.Tail.{Tail}
use Rattle.lfs_meta.specs.Body.{Pair}
use Rattle.lfs_fs.specs.Weight.{superblock_weight}
use Rattle.lfs_fs.specs.Directory.{Part, Directory, parts}
use Rattle.lfs_fs.specs.Thread.{Link, links_of, links, tail_to, hard_to, soft_to}
use Rattle.lfs_fs.specs.Volume.{Volume}
use Rattle.lfs_command.specs.Cut.{room, cut_head, cut_tail, cut_directory}
use Rattle.lfs_law.specs.PartsCut.{parts_cut, cut_link, DirectoriesAreCutByPart, LinksAreCutByLink}
use Rattle.lfs_law.proofs.Cuts.{cut_part, cut_parts, head_by, tail_by, head_pair_by}

-- ---- parts

part_by : (chosen : Part → List Pair) (v : Volume) (p : Part) (t : Bool) → p.dirty ≡ t
    → head_by v p t ∷ tail_by chosen v p t ≡ (if t then head_by v p true ∷ tail_by chosen v p true else p ∷ [])
part_by chosen v p true is = refl
part_by chosen v p false is = refl

part_cut : (chosen : Part → List Pair) (v : Volume) (p : Part) → cut_part chosen v p
    ≡ parts_cut (room v) (superblock_weight v.attributes) (chosen p) p
part_cut chosen v p = part_by chosen v p p.dirty refl

all_cut : (chosen : Part → List Pair) (v : Volume) (ps : List Part) → flat_map (cut_part chosen v) ps
    ≡ flat_map (λ p. parts_cut (room v) (superblock_weight v.attributes) (chosen p) p) ps
all_cut chosen v [] = refl
all_cut chosen v (p ∷ ps) =
    ap (λ (qs : List Part). qs ++ flat_map (cut_part chosen v) ps) (part_cut chosen v p)
    ∙ ap (λ (qs : List Part). parts_cut (room v) (superblock_weight v.attributes) (chosen p) p ++ qs) (all_cut chosen v ps)

pub directories_are_cut_by_part : DirectoriesAreCutByPart
directories_are_cut_by_part chosen v d = cut_parts chosen v d ∙ all_cut chosen v (parts d)

-- ---- links

-- the links of parts, and of those behind them
links_joined : (p : Part) (ps : List Part) (q : Part) (qs : List Part) (tail : Tail)
    → links_of p (ps ++ q ∷ qs) tail ≡ links_of p ps (hard_to q.pair) ++ links_of q qs tail
links_joined p [] q qs tail = refl
links_joined p (r ∷ ps) q qs tail = ap (λ (ls : List Link). record { part = p; tail = hard_to r.pair } ∷ ls) (links_joined r ps q qs tail)

links_of_cut : (chosen : Part → List Pair) (v : Volume) (p : Part) (ps : List Part) (tail : Tail)
    → links_of (cut_head v p) (cut_tail chosen v p ++ flat_map (cut_part chosen v) ps) tail
    ≡ flat_map (cut_link chosen v) (links_of p ps tail)
links_of_cut chosen v p [] tail =
    ap (λ (qs : List Part). links_of (cut_head v p) qs tail) (append-nil (cut_tail chosen v p))
    ∙ sym (append-nil (links_of (cut_head v p) (cut_tail chosen v p) tail))
links_of_cut chosen v p (q ∷ ps) tail =
    links_joined (cut_head v p) (cut_tail chosen v p) (cut_head v q) (cut_tail chosen v q ++ flat_map (cut_part chosen v) ps) tail
    ∙ ap (λ (k : Pair). links_of (cut_head v p) (cut_tail chosen v p) (hard_to k)
    ++ links_of (cut_head v q) (cut_tail chosen v q ++ flat_map (cut_part chosen v) ps) tail) (head_pair_by v q q.dirty)
    ∙ ap (λ (ls : List Link). links_of (cut_head v p) (cut_tail chosen v p) (hard_to q.pair) ++ ls) (links_of_cut chosen v q ps tail)

tail_cut : (chosen : Part → List Pair) (v : Volume) (ds : List Directory) → tail_to (map (cut_directory chosen v) ds) ≡ tail_to ds
tail_cut chosen v [] = refl
tail_cut chosen v (d ∷ ds) = ap soft_to (head_pair_by v d.first d.first.dirty)

pub links_are_cut_by_link : LinksAreCutByLink
links_are_cut_by_link chosen v [] = refl
links_are_cut_by_link chosen v (d ∷ ds) =
    ap (λ (t : Tail). links_of (cut_head v d.first) (cut_tail chosen v d.first ++ flat_map (cut_part chosen v) d.more) t
    ++ links (map (cut_directory chosen v) ds)) (tail_cut chosen v ds)
    ∙ ap (λ (ls : List Link). ls ++ links (map (cut_directory chosen v) ds)) (links_of_cut chosen v d.first d.more (tail_to ds))
    ∙ ap (λ (ls : List Link). flat_map (cut_link chosen v) (links_of d.first d.more (tail_to ds)) ++ ls) (links_are_cut_by_link chosen v ds)
    ∙ sym (flat_map-append (cut_link chosen v) (links_of d.first d.more (tail_to ds)) (links ds))
