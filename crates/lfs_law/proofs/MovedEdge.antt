-- What stands at each path after one edge of a sound volume is taken out and put in elsewhere.
use Rattle.std.proofs.Common.{◌≡◌, [], ◌∷◌, ◌++◌, Option, Some, None, ap, sym, ◌∙◌, append_assoc, append-nil, inl, inr}
use Rattle.std.specs.Option.{option_map}
use Rattle.std.proofs.lemmas.Option.{none-some, same_Some}
use Rattle.lfs_meta.specs.Name.{Name}
use Rattle.lfs_meta.specs.Body.{Pair}
use Rattle.lfs_fs.specs.Path.{Path}
use Rattle.lfs_fs.specs.Graph.{entry_within, walk}
use Rattle.lfs_fs.specs.Entry.{Entry, target}
use Rattle.lfs_fs.specs.Volume.{Volume}
use Rattle.lfs_fs.specs.Tree.{entry_in, top, entry_at, Node, node, tree, Reached}
use Rattle.lfs_fs.specs.Sound.{IsSound}
use Rattle.lfs_fs.proofs.EntryAtLemmas.{by_last_name, walk-append}
use Rattle.lfs_command.specs.PathMap.{below, moved}
use Rattle.lfs_law.proofs.Walks.{walk-snoc, walk-none, step_alike, step_same, snoc_same}
use Rattle.lfs_law.proofs.OnePath.{one_path}
use Rattle.lfs_law.proofs.PathMapLemmas.{longer, below_front, below_none, below_self, below_longer, below_cases, moved_to, moved_away}
use Rattle.lfs_law.proofs.PathMapLemmas.{moved_other}
use Rattle.lfs_law.proofs.OneEdge.{top_same, entry_under}

-- w is v with the entry under n in k, where front leads, gone from there and put under m into j, where back leads
pub record MovedEdge (v w : Volume) (front back : Path) (k j : Pair) (n m : Name) (old new : Entry) : Type 0 where
  pub sound : IsSound v
  pub holder : Entry
  pub holder_at : entry_at v front ≡ Some holder
  pub holder_leads : target holder ≡ Some k
  pub taker : Entry
  pub taker_at : entry_at v back ≡ Some taker
  pub taker_leads : target taker ≡ Some j
  pub from : entry_at v (front ++ n ∷ []) ≡ Some old
  pub to : entry_at v (back ++ m ∷ []) ≡ None
  pub outside : below (front ++ n ∷ []) (back ++ m ∷ []) ≡ None
  pub attributes : w.attributes ≡ v.attributes
  pub gone : entry_in w.directories k n ≡ None
  pub came : entry_in w.directories j m ≡ Some new
  pub leads : target new ≡ target old
  pub shows : node new ≡ node old
  pub others : (i : Pair) (l : Name) → ((i ≡ k) × (l ≡ n) → ⊥) → ((i ≡ j) × (l ≡ m) → ⊥)
      → entry_in w.directories i l ≡ entry_in v.directories i l

-- ---- in the volume before

-- nothing stands below an empty path
nothing_below : (v : Volume) (at rest : Path) → entry_at v at ≡ None → entry_at v (at ++ rest) ≡ None
nothing_below v at rest empty =
    walk-append target (entry_in v.directories) (Some (top v)) at rest
    ∙ ap (λ (o : Option Entry). walk target (entry_in v.directories) o rest) empty
    ∙ walk-none target (entry_in v.directories) rest

-- where something stands is not at or below an empty path
not_below_empty : (v : Volume) (at p : Path) (e : Entry) → entry_at v at ≡ None → entry_at v p ≡ Some e → below at p ≡ None
not_below_empty v at p e empty here = elim (below_cases at p) [
  | inl none ↦ none
  | inr some ↦ absurd (none-some e (sym (nothing_below v at some.0 empty) ∙ ap (entry_at v) (sym some.1) ∙ here))
]

from_place : {v w : Volume} {front back : Path} {k j : Pair} {n m : Name} {old new : Entry} → MovedEdge v w front back k j n m old new
    → (p : Path) (e : Entry) (i : Pair) → entry_at v p ≡ Some e → target e ≡ Some i → i ≡ k → p ≡ front
from_place {v} {w} {front} {back} {k} {j} {n} {m} {old} {new} c p e i here leads same =
    one_path v c.sound p front e c.holder k here c.holder_at (leads ∙ ap Some same) c.holder_leads

to_place : {v w : Volume} {front back : Path} {k j : Pair} {n m : Name} {old new : Entry} → MovedEdge v w front back k j n m old new
    → (p : Path) (e : Entry) (i : Pair) → entry_at v p ≡ Some e → target e ≡ Some i → i ≡ j → p ≡ back
to_place {v} {w} {front} {back} {k} {j} {n} {m} {old} {new} c p e i here leads same =
    one_path v c.sound p back e c.taker j here c.taker_at (leads ∙ ap Some same) c.taker_leads

-- ---- paths at and below neither

pub moved_elsewhere : {v w : Volume} {front back : Path} {k j : Pair} {n m : Name} {old new : Entry}
    → MovedEdge v w front back k j n m old new
    → (p : Path) → below (front ++ n ∷ []) p ≡ None → below (back ++ m ∷ []) p ≡ None → entry_at w p ≡ entry_at v p
moved_elsewhere {v} {w} {front} {back} {k} {j} {n} {m} {old} {new} c =
    by_last_name (λ (p : Path). below (front ++ n ∷ []) p ≡ None → below (back ++ m ∷ []) p ≡ None → entry_at w p ≡ entry_at v p)
    (λ _ _. top_same v w c.attributes)
    (λ p l before not_from not_to. snoc_same target (entry_in v.directories) (entry_in w.directories) (Some (top v)) (Some (top w)) p p l
    (before (below_front (front ++ n ∷ []) p (l ∷ []) not_from) (below_front (back ++ m ∷ []) p (l ∷ []) not_to))
    (λ e i here leads. c.others i l
    (λ both. last_not p l front n not_from (from_place c p e i here leads both.0) both.1)
    (λ both. last_not p l back m not_to (to_place c p e i here leads both.0) both.1)))
  where
    last_not : (p : Path) (l : Name) (at : Path) (n : Name) → below (at ++ n ∷ []) (p ++ l ∷ []) ≡ None → p ≡ at → l ≡ n → ⊥
    last_not p l at n outside same names =
        none-some [] (sym outside ∙ ap (λ (q : Path). below (at ++ n ∷ []) (q ++ l ∷ [])) same
        ∙ ap (λ (x : Name). below (at ++ n ∷ []) (at ++ x ∷ [])) names ∙ below_self (at ++ n ∷ []))

-- ---- the old path

nothing_at_old : {v w : Volume} {front back : Path} {k j : Pair} {n m : Name} {old new : Entry} → MovedEdge v w front back k j n m old new
    → entry_at w (front ++ n ∷ []) ≡ None
nothing_at_old {v} {w} {front} {back} {k} {j} {n} {m} {old} {new} c =
    entry_under w front c.holder k n (moved_elsewhere c front (below_longer front n)
    (not_below_empty v (back ++ m ∷ []) front c.holder c.to c.holder_at) ∙ c.holder_at) c.holder_leads
    ∙ c.gone

-- nothing is left at or below it
pub moved_from : {v w : Volume} {front back : Path} {k j : Pair} {n m : Name} {old new : Entry} → MovedEdge v w front back k j n m old new
    → (rest : Path) → entry_at w ((front ++ n ∷ []) ++ rest) ≡ None
moved_from {v} {w} {front} {back} {k} {j} {n} {m} {old} {new} c rest = nothing_below w (front ++ n ∷ []) rest (nothing_at_old c)

-- ---- the new path

pub moved_here : {v w : Volume} {front back : Path} {k j : Pair} {n m : Name} {old new : Entry} → MovedEdge v w front back k j n m old new
    → entry_at w (back ++ m ∷ []) ≡ Some new
moved_here {v} {w} {front} {back} {k} {j} {n} {m} {old} {new} c =
    entry_under w back c.taker j m (moved_elsewhere c back (below_front (front ++ n ∷ []) back (m ∷ []) c.outside) (below_longer back m)
    ∙ c.taker_at) c.taker_leads
    ∙ c.came

-- neither of the two edges lies below the old path
edge_below : {v w : Volume} {front back : Path} {k j : Pair} {n m : Name} {old new : Entry} → MovedEdge v w front back k j n m old new
    → (rest : Path) (l : Name) (e : Entry) (i : Pair) → entry_at v ((front ++ n ∷ []) ++ rest) ≡ Some e → target e ≡ Some i
    → entry_in w.directories i l ≡ entry_in v.directories i l
edge_below {v} {w} {front} {back} {k} {j} {n} {m} {old} {new} c rest l e i here leads = c.others i l
    (λ both. longer front n rest (sym (append_assoc front (n ∷ []) rest) ∙ from_place c ((front ++ n ∷ []) ++ rest) e i here leads both.0))
    (λ both. below_none (front ++ n ∷ []) (back ++ m ∷ []) (rest ++ m ∷ []) c.outside
    (ap (λ (q : Path). q ++ m ∷ []) (sym (to_place c ((front ++ n ∷ []) ++ rest) e i here leads both.0))
    ∙ append_assoc (front ++ n ∷ []) rest (m ∷ [])))

-- what stood below the old path stands below the new one
pub moved_below : {v w : Volume} {front back : Path} {k j : Pair} {n m : Name} {old new : Entry} → MovedEdge v w front back k j n m old new
    → (l : Name) (rest : Path) → entry_at w ((back ++ m ∷ []) ++ l ∷ rest) ≡ entry_at v ((front ++ n ∷ []) ++ l ∷ rest)
moved_below {v} {w} {front} {back} {k} {j} {n} {m} {old} {new} c l = by_last_name
    (λ (rest : Path). entry_at w ((back ++ m ∷ []) ++ l ∷ rest) ≡ entry_at v ((front ++ n ∷ []) ++ l ∷ rest)) first more
  where
    from_here : entry_at v ((front ++ n ∷ []) ++ []) ≡ Some old
    from_here = ap (entry_at v) (append-nil (front ++ n ∷ [])) ∙ c.from

    first : entry_at w ((back ++ m ∷ []) ++ l ∷ []) ≡ entry_at v ((front ++ n ∷ []) ++ l ∷ [])
    first =
        walk-snoc target (entry_in w.directories) (Some (top w)) (back ++ m ∷ []) l
        ∙ ap (entry_within target (entry_in w.directories) l) (moved_here c)
        ∙ step_alike target (entry_in w.directories) l (Some new) (Some old) c.leads
        ∙ step_same target (entry_in v.directories) (entry_in w.directories) l (Some old)
        (λ e i here leads. edge_below c [] l e i (from_here ∙ here) leads)
        ∙ ap (entry_within target (entry_in v.directories) l) (sym c.from)
        ∙ sym (walk-snoc target (entry_in v.directories) (Some (top v)) (front ++ n ∷ []) l)

    more : (rest : Path) (x : Name) → entry_at w ((back ++ m ∷ []) ++ l ∷ rest) ≡ entry_at v ((front ++ n ∷ []) ++ l ∷ rest)
        → entry_at w ((back ++ m ∷ []) ++ l ∷ (rest ++ x ∷ [])) ≡ entry_at v ((front ++ n ∷ []) ++ l ∷ (rest ++ x ∷ []))
    more rest x before =
        ap (entry_at w) (sym (append_assoc (back ++ m ∷ []) (l ∷ rest) (x ∷ [])))
        ∙ snoc_same target (entry_in v.directories) (entry_in w.directories) (Some (top v)) (Some (top w)) ((back ++ m ∷ []) ++ l ∷ rest)
        ((front ++ n ∷ []) ++ l ∷ rest) x before
        (λ e i here leads. edge_below c (l ∷ rest) x e i here leads)
        ∙ ap (entry_at v) (append_assoc (front ++ n ∷ []) (l ∷ rest) (x ∷ []))

-- ---- the tree and the directories

-- at the new path and below it
tree_to : {v w : Volume} {front back : Path} {k j : Pair} {n m : Name} {old new : Entry} → MovedEdge v w front back k j n m old new
    → (rest : Path) → tree w ((back ++ m ∷ []) ++ rest) ≡ tree v ((front ++ n ∷ []) ++ rest)
tree_to {v} {w} {front} {back} {k} {j} {n} {m} {old} {new} c [] =
    ap (tree w) (append-nil (back ++ m ∷ []))
    ∙ ap (option_map node) (moved_here c)
    ∙ ap (λ (x : Node). Some x) c.shows
    ∙ ap (option_map node) (sym c.from)
    ∙ ap (tree v) (sym (append-nil (front ++ n ∷ [])))
tree_to {v} {w} {front} {back} {k} {j} {n} {m} {old} {new} c (l ∷ rest) = ap (option_map node) (moved_below c l rest)

pub tree_moved : {v w : Volume} {front back : Path} {k j : Pair} {n m : Name} {old new : Entry} → MovedEdge v w front back k j n m old new
    → (p : Path) → tree w p ≡ moved (front ++ n ∷ []) (back ++ m ∷ []) (tree v) p
tree_moved {v} {w} {front} {back} {k} {j} {n} {m} {old} {new} c p = elim (below_cases (back ++ m ∷ []) p) [
  | inr at ↦
      ap (tree w) at.1
      ∙ tree_to c at.0
      ∙ sym (moved_to (front ++ n ∷ []) (back ++ m ∷ []) at.0 (tree v))
      ∙ ap (moved (front ++ n ∷ []) (back ++ m ∷ []) (tree v)) (sym at.1)
  | inl not_to ↦ (elim (below_cases (front ++ n ∷ []) p) [
    | inr at ↦
        ap (tree w) at.1
        ∙ ap (option_map node) (moved_from c at.0)
        ∙ sym (moved_away (front ++ n ∷ []) (back ++ m ∷ []) at.0 (tree v) (ap (below (back ++ m ∷ [])) (sym at.1) ∙ not_to))
        ∙ ap (moved (front ++ n ∷ []) (back ++ m ∷ []) (tree v)) (sym at.1)
    | inl not_from ↦
        ap (option_map node) (moved_elsewhere c p not_from not_to)
        ∙ sym (moved_other (front ++ n ∷ []) (back ++ m ∷ []) p (tree v) not_to not_from)
  ])
]

reached_to : {v w : Volume} {front back : Path} {k j : Pair} {n m : Name} {old new : Entry} → MovedEdge v w front back k j n m old new
    → (i : Pair) (rest : Path) (e : Entry) → entry_at v ((front ++ n ∷ []) ++ rest) ≡ Some e → target e ≡ Some i → Reached w i
reached_to {v} {w} {front} {back} {k} {j} {n} {m} {old} {new} c i [] e here leads =
    let same : old ≡ e = same_Some old e (sym c.from ∙ ap (entry_at v) (sym (append-nil (front ++ n ∷ []))) ∙ here) in
    (back ++ m ∷ [], new, moved_here c, c.leads ∙ ap target same ∙ leads)
reached_to {v} {w} {front} {back} {k} {j} {n} {m} {old} {new} c i (l ∷ rest) e here leads =
    ((back ++ m ∷ []) ++ l ∷ rest, e, moved_below c l rest ∙ here, leads)

pub reached_moved : {v w : Volume} {front back : Path} {k j : Pair} {n m : Name} {old new : Entry}
    → MovedEdge v w front back k j n m old new
    → (i : Pair) → Reached v i → Reached w i
reached_moved {v} {w} {front} {back} {k} {j} {n} {m} {old} {new} c i (p, e, here, leads) = elim (below_cases (front ++ n ∷ []) p) [
  | inr at ↦ reached_to c i at.0 e (ap (entry_at v) (sym at.1) ∙ here) leads
  | inl not_from ↦
      (p, e, moved_elsewhere c p not_from (not_below_empty v (back ++ m ∷ []) p e c.to here) ∙ here, leads)
]
