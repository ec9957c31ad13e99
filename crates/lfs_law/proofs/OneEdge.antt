-- What stands at each path after one edge of a sound volume is replaced.
use Rattle.std.proofs.Common.{◌≡◌, [], ◌∷◌, ◌++◌, Option, Some, None, ap, sym, ◌∙◌, inl, inr}
use Rattle.std.specs.Option.{option_and_then, option_map}
use Rattle.std.proofs.lemmas.Option.{none-some, option_and_then_some}
use Rattle.lfs_meta.specs.Name.{Name}
use Rattle.lfs_meta.specs.Attribute.{Attributes}
use Rattle.lfs_meta.specs.Body.{Pair}
use Rattle.lfs_fs.specs.Path.{Path}
use Rattle.lfs_fs.specs.Graph.{entry_within}
use Rattle.lfs_fs.specs.Pair.{root}
use Rattle.lfs_fs.specs.Entry.{Directory_at, Entry, target}
use Rattle.lfs_fs.specs.Volume.{Volume}
use Rattle.lfs_fs.specs.Tree.{entry_in, top, entry_at, node, tree, Reached}
use Rattle.lfs_fs.specs.Sound.{IsSound}
use Rattle.lfs_fs.proofs.EntryAtLemmas.{by_last_name}
use Rattle.lfs_command.specs.PathMap.{below, put_at_path}
use Rattle.lfs_law.proofs.Walks.{walk-snoc, step_alike, step_same, snoc_same}
use Rattle.lfs_law.proofs.OnePath.{one_path}
use Rattle.lfs_law.proofs.PathMapLemmas.{same_path_or_not, longer, no_names, below_front, below_self, below_longer, put_at_there}
use Rattle.lfs_law.proofs.PathMapLemmas.{put_at_other, put_at_mapped}

-- w is v but for the edge from k under n, which is x; front leads to k
pub record OneEdge (v w : Volume) (front : Path) (k : Pair) (n : Name) (x : Option Entry) : Type 0 where
  pub sound : IsSound v
  pub holder : Entry
  pub holder_at : entry_at v front ≡ Some holder
  pub holder_leads : target holder ≡ Some k
  pub attributes : w.attributes ≡ v.attributes
  pub edge : entry_in w.directories k n ≡ x
  pub others : (j : Pair) (m : Name) → ((j ≡ k) × (m ≡ n) → ⊥) → entry_in w.directories j m ≡ entry_in v.directories j m

-- the same entries stand right below x in w, and below old in v
abbrev pub Alike : Volume → Volume → Option Entry → Option Entry → Type 0
Alike v w old x = (m : Name) → entry_within target (entry_in w.directories) m x ≡ entry_within target (entry_in v.directories) m old

abbrev topped : Attributes → Entry
topped a = record { name = []; body = Directory_at root; attributes = a }

pub top_same : (v w : Volume) → w.attributes ≡ v.attributes → Some (top w) ≡ Some (top v)
top_same v w same = ap (λ (a : Attributes). Some (topped a)) same

-- the entry under a name in the place that a path leads to
pub entry_under : (v : Volume) (front : Path) (holder : Entry) (k : Pair) (n : Name) → entry_at v front ≡ Some holder
    → target holder ≡ Some k
    → entry_at v (front ++ n ∷ []) ≡ entry_in v.directories k n
entry_under v front holder k n here leads =
    walk-snoc target (entry_in v.directories) (Some (top v)) front n
    ∙ ap (entry_within target (entry_in v.directories) n) here
    ∙ ap (option_and_then (λ (j : Pair). entry_in v.directories j n)) leads

-- the place of the edge has one path
one_place : {v w : Volume} {front : Path} {k : Pair} {n : Name} {x : Option Entry} → OneEdge v w front k n x
    → (p : Path) (e : Entry) (j : Pair) → entry_at v p ≡ Some e → target e ≡ Some j → j ≡ k → p ≡ front
one_place {v} {w} {front} {k} {n} {x} c p e j here leads same = one_path v c.sound p front e c.holder k here c.holder_at
    (leads ∙ ap Some same) c.holder_leads

-- one name more, along another edge
more_same : {v w : Volume} {front : Path} {k : Pair} {n : Name} {x : Option Entry} → OneEdge v w front k n x
    → (p : Path) (m : Name) → entry_at w p ≡ entry_at v p → (p ++ m ∷ [] ≡ front ++ n ∷ [] → ⊥)
    → entry_at w (p ++ m ∷ []) ≡ entry_at v (p ++ m ∷ [])
more_same {v} {w} {front} {k} {n} {x} c p m same elsewhere =
    snoc_same target (entry_in v.directories) (entry_in w.directories) (Some (top v)) (Some (top w)) p p m same
    (λ e j here leads. c.others j m (λ both. elsewhere (ap (λ (q : Path). q ++ m ∷ []) (one_place c p e j here leads both.0)
    ∙ ap (λ (l : Name). front ++ l ∷ []) both.1)))

-- what doesn't lie at or below the edge stays
pub entries_elsewhere : {v w : Volume} {front : Path} {k : Pair} {n : Name} {x : Option Entry} → OneEdge v w front k n x
    → (p : Path) → below (front ++ n ∷ []) p ≡ None → entry_at w p ≡ entry_at v p
entries_elsewhere {v} {w} {front} {k} {n} {x} c = by_last_name (λ (p : Path). below (front ++ n ∷ []) p ≡ None
    → entry_at w p ≡ entry_at v p)
    (λ _. top_same v w c.attributes)
    (λ p m before outside. more_same c p m (before (below_front (front ++ n ∷ []) p (m ∷ []) outside))
    (λ is. none-some [] (sym outside ∙ ap (below (front ++ n ∷ [])) is ∙ below_self (front ++ n ∷ []))))

-- the edge
pub entry_replaced : {v w : Volume} {front : Path} {k : Pair} {n : Name} {x : Option Entry} → OneEdge v w front k n x
    → entry_at w (front ++ n ∷ []) ≡ x
entry_replaced {v} {w} {front} {k} {n} {x} c =
    entry_under w front c.holder k n (entries_elsewhere c front (below_longer front n) ∙ c.holder_at) c.holder_leads ∙ c.edge

-- what the volume after has at each path, where the same entries stand right below the edge
pub entries_after : {v w : Volume} {front : Path} {k : Pair} {n : Name} {x : Option Entry} → OneEdge v w front k n x
    → Alike v w (entry_at v (front ++ n ∷ [])) x → (p : Path) → entry_at w p ≡ put_at_path (front ++ n ∷ []) x (entry_at v) p
entries_after {v} {w} {front} {k} {n} {x} c alike = by_last_name (λ (p : Path). entry_at w p ≡ put_at_path (front ++ n ∷ []) x (entry_at v) p)
    (top_same v w c.attributes ∙ sym (put_at_other (front ++ n ∷ []) x (entry_at v) [] (no_names front n [])))
    more
  where
    more : (p : Path) (m : Name) → entry_at w p ≡ put_at_path (front ++ n ∷ []) x (entry_at v) p
        → entry_at w (p ++ m ∷ []) ≡ put_at_path (front ++ n ∷ []) x (entry_at v) (p ++ m ∷ [])
    more p m before = elim (same_path_or_not (front ++ n ∷ []) (p ++ m ∷ [])) [
      | inl is ↦ ap (entry_at w) (sym is) ∙ entry_replaced c ∙ sym (put_at_there (front ++ n ∷ []) x (entry_at v))
          ∙ ap (put_at_path (front ++ n ∷ []) x (entry_at v)) is
      | inr different ↦ (elim (same_path_or_not (front ++ n ∷ []) p) [
        | inl is ↦
            walk-snoc target (entry_in w.directories) (Some (top w)) p m
            ∙ ap (entry_within target (entry_in w.directories) m) (before ∙ ap (put_at_path (front ++ n ∷ []) x (entry_at v)) (sym is)
            ∙ put_at_there (front ++ n ∷ []) x (entry_at v))
            ∙ alike m
            ∙ ap (λ (q : Path). entry_within target (entry_in v.directories) m (entry_at v q)) is
            ∙ sym (walk-snoc target (entry_in v.directories) (Some (top v)) p m)
            ∙ sym (put_at_other (front ++ n ∷ []) x (entry_at v) (p ++ m ∷ []) different)
        | inr apart ↦
            more_same c p m (before ∙ put_at_other (front ++ n ∷ []) x (entry_at v) p apart) (λ is. different (sym is))
            ∙ sym (put_at_other (front ++ n ∷ []) x (entry_at v) (p ++ m ∷ []) different)
      ])
    ]

pub tree_after : {v w : Volume} {front : Path} {k : Pair} {n : Name} {x : Option Entry} → OneEdge v w front k n x
    → Alike v w (entry_at v (front ++ n ∷ [])) x → (p : Path) → tree w p ≡ put_at_path (front ++ n ∷ []) (option_map node x) (tree v) p
tree_after {v} {w} {front} {k} {n} {x} c alike p =
    ap (option_map node) (entries_after c alike p) ∙ put_at_mapped node (front ++ n ∷ []) x (entry_at v) p

-- ---- where the same entries stand right below the edge

-- where both lead to the same place, or neither leads anywhere
pub alike_from_targets : {v w : Volume} {front : Path} {k : Pair} {n : Name} {x : Option Entry} → OneEdge v w front k n x
    → option_and_then target x ≡ option_and_then target (entry_at v (front ++ n ∷ [])) → Alike v w (entry_at v (front ++ n ∷ [])) x
alike_from_targets {v} {w} {front} {k} {n} {x} c same m =
    step_alike target (entry_in w.directories) m x (entry_at v (front ++ n ∷ [])) same
    ∙ step_same target (entry_in v.directories) (entry_in w.directories) m (entry_at v (front ++ n ∷ []))
    (λ e j here leads. c.others j m (λ both. longer front n [] (one_place c (front ++ n ∷ []) e j here leads both.0)))

-- ---- which directories are reached

pub reached_by_edge : {v w : Volume} {front : Path} {k : Pair} {n : Name} {x : Option Entry} → OneEdge v w front k n x
    → (j : Pair) → option_and_then target x ≡ Some j → Reached w j
reached_by_edge {v} {w} {front} {k} {n} {x} c j leads = option_and_then_some target x j leads
    (λ e is to. (front ++ n ∷ [], e, entry_replaced c ∙ is, to))

pub reached_after : {v w : Volume} {front : Path} {k : Pair} {n : Name} {x : Option Entry} → OneEdge v w front k n x
    → Alike v w (entry_at v (front ++ n ∷ [])) x → (j : Pair) → Reached v j
    → (option_and_then target (entry_at v (front ++ n ∷ [])) ≡ Some j → option_and_then target x ≡ Some j) → Reached w j
reached_after {v} {w} {front} {k} {n} {x} c alike j (p, e, here, leads) kept = elim (same_path_or_not (front ++ n ∷ []) p) [
  | inl is ↦ reached_by_edge c j (kept (ap (λ (q : Path). option_and_then target (entry_at v q)) is ∙ ap (option_and_then target) here
      ∙ leads))
  | inr apart ↦ (p, e, entries_after c alike p ∙ put_at_other (front ++ n ∷ []) x (entry_at v) p apart ∙ here, leads)
]
