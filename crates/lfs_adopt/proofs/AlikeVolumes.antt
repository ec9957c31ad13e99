-- A volume whose directories have, one by one, the first pairs and the entries of those of a sound volume.
use Rattle.std.proofs.Common.{◌≡◌, ℕ, ◌+◌, ◌≤◌, ◌<◌, Bool, true, false, cond, List, [], ◌∷◌, Option, Some, None, refl, ap, sym, ◌∙◌}
use Rattle.std.proofs.Common.{subst, arith}
use Rattle.std.specs.Prelude.{All, find, if◌then◌else◌, sum_by}
use Rattle.std.specs.List.{AllZip}
use Rattle.std.specs.Option.{option_and_then, option_map}
use Rattle.std.proofs.lemmas.List.Elements.{All-cons, All-head, All-nil, All-tail, All-weaker}
use Rattle.std.proofs.lemmas.List.Sums.{sum_by-cons}
use Rattle.lfs_meta.specs.Attribute.{Attributes}
use Rattle.lfs_meta.specs.Body.{Pair}
use Rattle.lfs_meta.specs.Name.{Name}
use Rattle.lfs_fs.specs.Directory.{Directory, begins_at, entries, key, thread}
use Rattle.lfs_fs.specs.Entry.{Directory_at, Entry, is_named, target}
use Rattle.lfs_fs.specs.Graph.{entry_within, walk}
use Rattle.lfs_fs.specs.Named.{leads_to, names_of}
use Rattle.lfs_fs.specs.Pair.{root, same_pair, unordered}
use Rattle.lfs_fs.specs.Path.{Path}
use Rattle.lfs_fs.specs.Sound.{AreAttributes, IsProper, IsSound, Rise, StartsAtRoot}
use Rattle.lfs_fs.specs.State.{delta_of}
use Rattle.lfs_fs.specs.Tree.{Reached, entry_at, entry_in, node, top, tree}
use Rattle.lfs_fs.specs.Uses.{uses}
use Rattle.lfs_fs.specs.Volume.{Volume}
use Rattle.lfs_fs.specs.declared.limits.Limits.{Limits}

-- ---- directories

-- a directory has the first pair and the entries of another one
pub record IsAlike (d e : Directory) : Type 0 where
  pub first : e.first.pair ≡ d.first.pair
  pub held : entries e ≡ entries d

-- and so directories, one by one
abbrev pub AreAlike : List Directory → List Directory → Type 0
AreAlike ds es = AllZip IsAlike ds es

begins_alike : (k : Pair) (d e : Directory) → IsAlike d e → begins_at k e ≡ begins_at k d
begins_alike k d e alike = ap (λ (p : Pair). same_pair k (unordered p)) alike.first

-- ---- what stands at paths

-- the entry under a name in the first of directories, or in a later one
abbrev edge_by : Bool → Directory → List Directory → Pair → Name → Option Entry
edge_by here d ds k n = option_and_then (λ x. find (is_named n) (entries x)) (if here then Some d else find (begins_at k) ds)

edge_alike : (here : Bool) (d e : Directory) (ds es : List Directory) (k : Pair) (n : Name) → IsAlike d e
    → entry_in es k n ≡ entry_in ds k n → edge_by here e es k n ≡ edge_by here d ds k n
edge_alike true d e ds es k n alike rest = ap (find (is_named n)) alike.held
edge_alike false d e ds es k n alike rest = rest

edges_alike : (ds es : List Directory) → AreAlike ds es → (k : Pair) (n : Name) → entry_in es k n ≡ entry_in ds k n
edges_alike [] [] alike k n = refl
edges_alike [] (e ∷ es) alike k n = absurd alike
edges_alike (d ∷ ds) [] alike k n = absurd alike
edges_alike (d ∷ ds) (e ∷ es) alike k n =
    ap (λ (here : Bool). edge_by here e es k n) (begins_alike k d e alike.0)
    ∙ edge_alike (begins_at k d) d e ds es k n alike.0 (edges_alike ds es alike.1 k n)

led_alike : (edge other : Pair → Name → Option Entry) → ((k : Pair) (n : Name) → other k n ≡ edge k n) → (n : Name) (o : Option Pair)
    → option_and_then (λ k. other k n) o ≡ option_and_then (λ k. edge k n) o
led_alike edge other same n None = refl
led_alike edge other same n (Some k) = same k n

walk_alike : (edge other : Pair → Name → Option Entry) → ((k : Pair) (n : Name) → other k n ≡ edge k n)
    → (here : Option Entry) (path : Path) → walk target other here path ≡ walk target edge here path
walk_alike edge other same here [] = refl
walk_alike edge other same None (n ∷ path) = walk_alike edge other same None path
walk_alike edge other same (Some e) (n ∷ path) =
    ap (λ (o : Option Entry). walk target other o path) (led_alike edge other same n (target e))
    ∙ walk_alike edge other same (entry_within target edge n (Some e)) path

-- ---- volumes

-- a volume with such directories, that uses no block more often, and has no state
pub record LooksLike (v w : Volume) : Type 0 where
  pub directories : AreAlike v.directories w.directories
  pub count : w.count ≡ v.count
  pub limits : w.limits ≡ v.limits
  pub attributes : w.attributes ≡ v.attributes
  pub fewer : (b : ℕ) → uses b w ≤ uses b v
  pub state : delta_of (thread w.directories) ≡ 0

abbrev topped : Attributes → Entry
topped attributes = record { name = []; body = Directory_at root; attributes = attributes }

module _ (v w : Volume) (like : LooksLike v w) where
  same_entry : (path : Path) → entry_at w path ≡ entry_at v path
  same_entry path =
      walk_alike (entry_in v.directories) (entry_in w.directories) (edges_alike v.directories w.directories like.directories)
      (Some (top w)) path
      ∙ ap (λ (a : Attributes). walk target (entry_in v.directories) (Some (topped a)) path) like.attributes

  pub same_tree : (path : Path) → tree w path ≡ tree v path
  same_tree path = ap (option_map node) (same_entry path)

  still_reached : (k : Pair) → Reached v k → Reached w k
  still_reached k (path, e, at, leads) = (path, e, same_entry path ∙ at, leads)

-- ---- soundness

starts_alike : (ds es : List Directory) → AreAlike ds es → StartsAtRoot ds → StartsAtRoot es
starts_alike [] [] alike starts = starts
starts_alike [] (e ∷ es) alike starts = absurd alike
starts_alike (d ∷ ds) [] alike starts = absurd alike
starts_alike (d ∷ ds) (e ∷ es) alike starts = alike.0.first ∙ starts

-- what holds of the entries of each directory
entries_alike : (P : List Entry → Type 0) (ds es : List Directory) → AreAlike ds es → All (λ d. P (entries d)) ds
    → All (λ d. P (entries d)) es
entries_alike P [] [] alike all = All-nil (λ (d : Directory). P (entries d))
entries_alike P [] (e ∷ es) alike all = absurd alike
entries_alike P (d ∷ ds) [] alike all = absurd alike
entries_alike P (d ∷ ds) (e ∷ es) alike all =
    All-cons (λ (x : Directory). P (entries x)) e es
    (subst P (sym alike.0.held) (All-head (λ (x : Directory). P (entries x)) d ds all))
    (entries_alike P ds es alike.1 (All-tail (λ (x : Directory). P (entries x)) d ds all))

-- and of its key
keys_alike : (P : Pair → Type 0) (ds es : List Directory) → AreAlike ds es → All (λ d. P (key d)) ds → All (λ d. P (key d)) es
keys_alike P [] [] alike all = All-nil (λ (d : Directory). P (key d))
keys_alike P [] (e ∷ es) alike all = absurd alike
keys_alike P (d ∷ ds) [] alike all = absurd alike
keys_alike P (d ∷ ds) (e ∷ es) alike all =
    All-cons (λ (x : Directory). P (key x)) e es
    (subst (λ (p : Pair). P (unordered p)) (sym alike.0.first) (All-head (λ (x : Directory). P (key x)) d ds all))
    (keys_alike P ds es alike.1 (All-tail (λ (x : Directory). P (key x)) d ds all))

-- a sum over directories that are counted alike
sums_alike : (f : Directory → ℕ) → ((d e : Directory) → IsAlike d e → f e ≡ f d) → (ds es : List Directory) → AreAlike ds es
    → sum_by f es ≡ sum_by f ds
sums_alike f same [] [] alike = refl
sums_alike f same [] (e ∷ es) alike = absurd alike
sums_alike f same (d ∷ ds) [] alike = absurd alike
sums_alike f same (d ∷ ds) (e ∷ es) alike =
    omega (arith, sum_by-cons f d ds, sum_by-cons f e es, same d e alike.0, sums_alike f same ds es alike.1)

-- whether a directory begins at a pair, as a number
abbrev begins_so : Pair → Directory → ℕ
begins_so k d = cond (begins_at k d) 1 0

pub sound_alike : (v w : Volume) → LooksLike v w → IsSound v → IsSound w
sound_alike v w like sound = record {
  starts = starts_alike v.directories w.directories like.directories sound.starts;
  order = entries_alike Rise v.directories w.directories like.directories sound.order;
  proper = subst (λ (l : Limits). All (λ d. All (IsProper l) (entries d)) w.directories) (sym like.limits)
      (entries_alike (All (IsProper v.limits)) v.directories w.directories like.directories sound.proper);
  root_attributes = subst (λ (l : Limits). AreAttributes l.attribute w.attributes) (sym like.limits)
      (subst (AreAttributes v.limits.attribute) (sym like.attributes) sound.root_attributes);
  once = λ b. omega (arith, like.fewer b, sound.once b);
  within = λ b some. subst (λ (n : ℕ). b < n) (sym like.count) (sound.within b (omega (arith, some, like.fewer b)));
  names = λ k.
      ap (λ (n : ℕ). leads_to k (Some root) + n)
      (sums_alike (names_of k) (λ d e alike. ap (sum_by (λ (x : Entry). leads_to k (target x))) alike.held) v.directories w.directories
      like.directories)
      ∙ sound.names k
      ∙ sym (sums_alike (begins_so k) (λ d e alike. ap (λ (here : Bool). cond {A = ℕ} here 1 0) (begins_alike k d e alike)) v.directories
      w.directories like.directories);
  reached = All-weaker (λ (d : Directory). Reached v (key d)) (λ (d : Directory). Reached w (key d))
      (λ d reached. still_reached v w like (key d) reached) w.directories
      (keys_alike (Reached v) v.directories w.directories like.directories sound.reached);
  settled = like.state;
}
