-- Walks go by pairs, and so do their refusals.
use Rattle.std.proofs.Common.{◌≡◌, List, [], ◌∷◌, ◌++◌, refl, ap, ◌∙◌, Option, Some, None}
use Rattle.std.specs.Option.{option_and_then, option_map}
use Rattle.lfs_meta.specs.Name.{Name}
use Rattle.lfs_meta.specs.Attribute.{Attributes}
use Rattle.lfs_meta.specs.Body.{Pair}
use Rattle.lfs_fs.specs.Graph.{entry_within, walk}
use Rattle.lfs_fs.specs.Path.{Path}
use Rattle.lfs_fs.specs.Pair.{root, unordered}
use Rattle.lfs_fs.specs.Entry.{Body, Inline, Chain, Directory_at, Entry, body_target, target}
use Rattle.lfs_fs.specs.Directory.{Directory}
use Rattle.lfs_fs.specs.Volume.{Volume}
use Rattle.lfs_fs.specs.Tree.{entry_in, entry_at, top, node, node_of, tree}
use Rattle.lfs_command.specs.declared.refusal.Refusal.{Refusal}
use Rattle.lfs_command.specs.Parent.{split_last}
use Rattle.lfs_command.specs.Verdict.{walk_refusal_at, walk_refusal}
use Rattle.lfs_law.specs.PairWalk.{pair_at, directory_name, WalksGoByPairs}
use Rattle.lfs_law.specs.WalkRefusal.{goes_on, refuses_at, walk_from, walk_all, WalksAreRefusedByPairs}
use Rattle.lfs_law.proofs.OneEdge.{entry_under}
use Rattle.lfs_law.proofs.OutlinesFollow.{parent_in, parent_split}
use Rattle.lfs_law.proofs.Walks.{walk-snoc, step_by_target}

-- ---- which directory a path leads to

some_again : {X : Type 0} (o : Option X) → o ≡ option_and_then (λ x. Some x) o
some_again None = refl
some_again (Some x) = refl

step_by : (ds : List Directory) (n : Name) (ns : Path) (o : Option Pair)
    → option_and_then (λ j. pair_at ds j ns) (option_and_then target (option_and_then (λ k. entry_in ds k n) o))
    ≡ option_and_then (λ k. pair_at ds k (n ∷ ns)) o
step_by ds n ns None = refl
step_by ds n ns (Some k) = refl

leads_from : (ds : List Directory) (here : Option Entry) (path : Path)
    → option_and_then target (walk target (entry_in ds) here path) ≡ option_and_then (λ k. pair_at ds k path) (option_and_then target here)
leads_from ds here [] = some_again (option_and_then target here)
leads_from ds here (n ∷ ns) =
    leads_from ds (entry_within target (entry_in ds) n here) ns
    ∙ ap (λ (o : Option Entry). option_and_then (λ j. pair_at ds j ns) (option_and_then target o))
    (step_by_target target (entry_in ds) n here)
    ∙ step_by ds n ns (option_and_then target here)

leads_to : (v : Volume) (path : Path) → option_and_then target (entry_at v path) ≡ pair_at v.directories root path
leads_to v path = leads_from v.directories (Some (top v)) path

last_at : (v : Volume) (path : Path) (n : Name) → entry_at v (path ++ n ∷ [])
    ≡ option_and_then (λ k. entry_in v.directories k n) (pair_at v.directories root path)
last_at v path n =
    walk-snoc target (entry_in v.directories) (Some (top v)) path n
    ∙ step_by_target target (entry_in v.directories) n (entry_at v path)
    ∙ ap (option_and_then (λ (k : Pair). entry_in v.directories k n)) (leads_to v path)

abbrev pub with_name : Name → Option Pair → Option (Pair × Name)
with_name n o = option_map (λ (k : Pair). (k, n)) o

parent_leads : (n : Name) (o : Option Entry) → parent_in n o ≡ with_name n (option_and_then target o)
parent_leads n None = refl
parent_leads n (Some e) = refl

parent_by : (v : Volume) (o : Option (Path × Name)) → parent_split v o ≡ option_and_then (directory_name v.directories) o
parent_by v None = refl
parent_by v (Some s) = parent_leads s.1 (entry_at v s.0) ∙ ap (with_name s.1) (leads_to v s.0)

pub walks_go_by_pairs : WalksGoByPairs
walks_go_by_pairs v = record { leads = leads_to v; last = last_at v; parent = λ path. parent_by v (split_last path) }

-- ---- why a walk is refused

-- a directory is there
front_is : (v : Volume) (front : Path) (b : Body) (n : Name) (a : Attributes) (k : Pair) (rest : Option Refusal)
    → entry_at v front ≡ Some (record { name = n; body = b; attributes = a }) → body_target b ≡ Some k
    → walk_refusal_at (tree v front) rest ≡ rest
front_is v front (Inline bytes) n a k rest at leads = cc
front_is v front (Chain blocks bytes) n a k rest at leads = cc
front_is v front (Directory_at pair) n a k rest at leads = ap (λ (o : Option Entry). walk_refusal_at (option_map node o) rest) at

walk_by_pairs : (v : Volume) (front : Path) (e : Entry) (k : Pair) (path : Path) → entry_at v front ≡ Some e → target e ≡ Some k
    → walk_refusal (tree v) front path ≡ walk_from v.directories k path
walk_by_pairs v front e k [] at leads = refl
walk_by_pairs v front e k (n ∷ []) at leads = front_is v front e.body e.name e.attributes k None at leads
walk_by_pairs v front e k (n ∷ m ∷ ns) at leads =
    front_is v front e.body e.name e.attributes k (walk_refusal (tree v) (front ++ n ∷ []) (m ∷ ns)) at leads
    ∙ by (entry_in v.directories k n) (entry_under v front e k n at leads)
    (λ f j there led. walk_by_pairs v (front ++ n ∷ []) f j (m ∷ ns) there led)
  where
    rest : Option Refusal
    rest = walk_refusal (tree v) ((front ++ n ∷ []) ++ m ∷ []) ns

    refused_by : (o : Option Entry) → entry_at v (front ++ n ∷ []) ≡ o → walk_refusal (tree v) (front ++ n ∷ []) (m ∷ ns)
        ≡ walk_refusal_at (option_map node o) rest
    refused_by o at = ap (λ (x : Option Entry). walk_refusal_at (option_map node x) rest) at

    by_body : (f : Entry) (b : Body) → f.body ≡ b → entry_at v (front ++ n ∷ []) ≡ Some f
        → ((j : Pair) → target f ≡ Some j → walk_refusal (tree v) (front ++ n ∷ []) (m ∷ ns) ≡ walk_from v.directories j (m ∷ ns))
        → walk_refusal (tree v) (front ++ n ∷ []) (m ∷ ns) ≡ goes_on (λ j. walk_from v.directories j (m ∷ ns)) (body_target b)
    by_body f (Inline bytes) is at later = refused_by (Some f) at ∙ ap (λ (b : Body). walk_refusal_at (Some (node_of b f.attributes)) rest)
        is
    by_body f (Chain blocks bytes) is at later = refused_by (Some f) at
        ∙ ap (λ (b : Body). walk_refusal_at (Some (node_of b f.attributes)) rest) is
    by_body f (Directory_at pair) is at later = later (unordered pair) (ap body_target is)

    by : (o : Option Entry) → entry_at v (front ++ n ∷ []) ≡ o
        → ((f : Entry) (j : Pair) → entry_at v (front ++ n ∷ []) ≡ Some f → target f ≡ Some j
        → walk_refusal (tree v) (front ++ n ∷ []) (m ∷ ns) ≡ walk_from v.directories j (m ∷ ns))
        → walk_refusal (tree v) (front ++ n ∷ []) (m ∷ ns) ≡ refuses_at (λ j. walk_from v.directories j (m ∷ ns)) o
    by None is later = refused_by None is
    by (Some f) is later = by_body f f.body refl is (λ j led. later f j is led)

from_root : (v : Volume) (path : Path) → walk_refusal (tree v) [] path ≡ walk_from v.directories root path
from_root v path = walk_by_pairs v [] (top v) root path refl refl

-- the last name aside
all_from : (ds : List Directory) (k : Pair) (path : Path) (n : Name) → walk_from ds k (path ++ n ∷ []) ≡ walk_all ds k path
all_from ds k [] n = refl
all_from ds k (m ∷ []) n = by (entry_in ds k m)
  where
    led : (o : Option Pair) → goes_on (λ j. walk_from ds j (n ∷ [])) o ≡ goes_on (λ j. walk_all ds j []) o
    led None = refl
    led (Some j) = refl

    by : (o : Option Entry) → refuses_at (λ j. walk_from ds j (n ∷ [])) o ≡ refuses_at (λ j. walk_all ds j []) o
    by None = refl
    by (Some e) = led (target e)
all_from ds k (m ∷ l ∷ path) n = by (entry_in ds k m) (λ j. all_from ds j (l ∷ path) n)
  where
    led : (o : Option Pair) → ((j : Pair) → walk_from ds j (l ∷ path ++ n ∷ []) ≡ walk_all ds j (l ∷ path))
        → goes_on (λ j. walk_from ds j (l ∷ path ++ n ∷ [])) o ≡ goes_on (λ j. walk_all ds j (l ∷ path)) o
    led None later = refl
    led (Some j) later = later j

    by : (o : Option Entry) → ((j : Pair) → walk_from ds j (l ∷ path ++ n ∷ []) ≡ walk_all ds j (l ∷ path))
        → refuses_at (λ j. walk_from ds j (l ∷ path ++ n ∷ [])) o ≡ refuses_at (λ j. walk_all ds j (l ∷ path)) o
    by None later = refl
    by (Some e) later = led (target e) later

pub walks_are_refused_by_pairs : WalksAreRefusedByPairs
walks_are_refused_by_pairs v = record {
  walk = from_root v;
  all = λ path n. from_root v (path ++ n ∷ [])
      ∙ all_from v.directories root path n;
}
