-- The directories of tidied parts have, one by one, the first pairs and the entries that they had.
use Rattle.std.proofs.Common.{◌≡◌, Bool, true, false, List, [], ◌∷◌, ◌++◌, map, refl, ap, sym, ◌∙◌, subst}
use Rattle.std.specs.Prelude.{◌&&◌, flat_map}
use Rattle.std.proofs.lemmas.Bool.{and_parts}
use Rattle.lfs_fs.specs.Directory.{Directory, Part, entries}
use Rattle.lfs_fs.specs.Entry.{Entry}
use Rattle.lfs_fs.specs.Gathering.{PairPart, link_from}
use Rattle.lfs_fs.specs.Held.{resolved}
use Rattle.lfs_fs.specs.Reading.{Reading}
use Rattle.lfs_fs.specs.Thread.{is_hard, pieces}
use Rattle.lfs_fs.proofs.FoldersLemmas.{cut_here}
use Rattle.lfs_adopt.specs.Tidied.{is_empty, tidied_parts, with_tail_of, without_emptied}
use Rattle.lfs_adopt.proofs.AlikeVolumes.{AreAlike}
use Rattle.lfs_adopt.proofs.Filled.{all_stay, filled_by, none_of_empty, share_by, tidied_is_filled}

-- ---- parts that are put before directories

-- a part with the pair and the entries of another one
cut_alike : (hard : Bool) (x y : Part) (ds es : List Directory) → y.pair ≡ x.pair → y.entries ≡ x.entries → AreAlike ds es
    → AreAlike (cut_here hard x ds) (cut_here hard y es)
cut_alike true x y [] [] pair held alike = (record { first = pair; held = ap (λ (zs : List Entry). zs ++ []) held }, tt)
cut_alike true x y [] (e ∷ es) pair held alike = absurd alike
cut_alike true x y (d ∷ ds) [] pair held alike = absurd alike
cut_alike true x y (d ∷ ds) (e ∷ es) pair held alike = (
  record {
    first = pair;
    held = ap (λ (zs : List Entry). zs ++ entries e) held ∙ ap (λ (zs : List Entry). x.entries ++ zs) alike.0.held;
  },
  alike.1,
)
cut_alike false x y ds es pair held alike = (record { first = pair; held = ap (λ (zs : List Entry). zs ++ []) held }, alike)

-- An empty part that a hard tail leads to leaves.
gone_alike : (hard : Bool) (x y : Part) (ds es : List Directory) → y.entries ≡ [] → AreAlike (cut_here hard x ds) es
    → AreAlike (cut_here true x (cut_here hard y ds)) es
gone_alike true x y [] [] none alike = absurd alike
gone_alike true x y [] (e ∷ es) none alike = (
  record {
    first = alike.0.first;
    held = alike.0.held ∙ ap (λ (zs : List Entry). x.entries ++ (zs ++ [])) (sym none);
  },
  alike.1,
)
gone_alike true x y (d ∷ ds) [] none alike = absurd alike
gone_alike true x y (d ∷ ds) (e ∷ es) none alike = (
  record {
    first = alike.0.first;
    held = alike.0.held ∙ ap (λ (zs : List Entry). x.entries ++ (zs ++ entries d)) (sym none);
  },
  alike.1,
)
gone_alike false x y ds [] none alike = absurd alike
gone_alike false x y ds (e ∷ es) none alike = (
  record {
    first = alike.0.first;
    held = alike.0.held ∙ ap (λ (zs : List Entry). x.entries ++ (zs ++ [])) (sym none);
  },
  alike.1,
)

-- ---- the directories of parts

-- the directories that parts make
abbrev pub made : Reading → List PairPart → List Directory
made r ps = pieces (map (link_from r) ps)

-- a part as the volume has it
abbrev part_as : Reading → PairPart → Part
part_as r p = (link_from r p).part

module _ (r : Reading) (keep : Bool) where
  alike_by : (leaves hard : Bool) (p q : PairPart) (qs : List PairPart) → is_hard p.1.tail ≡ hard
      → (hard && is_empty q.1.entries) ≡ leaves
      → AreAlike (made r (with_tail_of q p ∷ qs)) (made r (map (share_by keep) (without_emptied (with_tail_of q p) qs)))
      → AreAlike (made r (q ∷ qs)) (made r (map (share_by keep) (without_emptied q qs)))
      → AreAlike (made r (p ∷ q ∷ qs)) (made r (map (share_by keep) (filled_by leaves p q qs)))
  alike_by true hard p q qs tail is gone stays =
      let both = and_parts hard (is_empty q.1.entries) is in
      subst (λ (t : Bool). AreAlike (cut_here t (part_as r p) (made r (q ∷ qs)))
      (made r (map (share_by keep) (without_emptied (with_tail_of q p) qs)))) (sym (tail ∙ both.0))
      (gone_alike (is_hard q.1.tail) (part_as r p) (part_as r q) (made r qs)
      (made r (map (share_by keep) (without_emptied (with_tail_of q p) qs)))
      (ap (flat_map (resolved r)) (none_of_empty q.1.entries both.1)) gone)
  alike_by false hard p q qs tail is gone stays =
      cut_alike (is_hard p.1.tail) (part_as r p) (part_as r (share_by keep p)) (made r (q ∷ qs))
      (made r (map (share_by keep) (without_emptied q qs))) refl refl stays

  filled_alike : (p : PairPart) (qs : List PairPart) → AreAlike (made r (p ∷ qs)) (made r (map (share_by keep) (without_emptied p qs)))
  filled_alike p [] = cut_alike (is_hard p.1.tail) (part_as r p) (part_as r (share_by keep p)) [] [] refl refl tt
  filled_alike p (q ∷ qs) =
      alike_by (is_hard p.1.tail && is_empty q.1.entries) (is_hard p.1.tail) p q qs refl refl (filled_alike (with_tail_of q p) qs)
      (filled_alike q qs)

pub tidied_alike : (r : Reading) (ts : List PairPart) → AreAlike (made r ts) (made r (tidied_parts ts))
tidied_alike r [] = tt
tidied_alike r (p ∷ ps) =
    subst (λ (xs : List PairPart). AreAlike (made r (p ∷ ps)) (made r xs)) (sym (tidied_is_filled p ps))
    (filled_alike r (all_stay p ps) p ps)
