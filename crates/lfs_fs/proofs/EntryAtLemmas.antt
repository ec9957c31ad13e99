-- What stands at a path with one name more.
use Rattle.std.proofs.Common.{◌≡◌, Bool, true, false, List, [], ◌∷◌, ◌++◌, Option, Some, None, refl, ap, sym, ◌∙◌, subst, append-nil}
use Rattle.std.proofs.Common.{append_assoc, arith, zero, suc}
use Rattle.std.specs.Prelude.{bytes_eq, find, if◌then◌else◌}
use Rattle.std.specs.List.{All, Contains}
use Rattle.std.specs.Option.{option_and_then, option_map}
use Rattle.std.proofs.lemmas.Option.{none-some, same_Some}
use Rattle.std.proofs.lemmas.Slice.Eq.{bytes_eq-Decides}
use Rattle.std.proofs.lemmas.List.Elements.{All-contains}
use Rattle.lfs_meta.specs.Name.{Name}
use Rattle.lfs_meta.specs.Body.{Pair}
use Rattle.lfs_fs.specs.NameOrder.{precedes}
use Rattle.lfs_fs.specs.Path.{Path}
use Rattle.lfs_fs.specs.Graph.{entry_within, walk}
use Rattle.lfs_fs.specs.Entry.{Entry, target, is_named}
use Rattle.lfs_fs.specs.Directory.{Directory, entries, begins_at}
use Rattle.lfs_fs.specs.Volume.{Volume}
use Rattle.lfs_fs.specs.Tree.{Node, entry_in, entry_at, node, top}
use Rattle.lfs_fs.specs.Sound.{Rise}
use Rattle.lfs_fs.proofs.NameOrderLemmas.{precedes_irreflexive}
use Rattle.lfs_fs.proofs.ApartLemmas.{same_bytes}

-- ---- paths by their last name

pub onwards : {N : Type 0} (P : List N → Type 0) → ((p : List N) (n : N) → P p → P (p ++ n ∷ [])) → (front rest : List N) → P front
    → P (front ++ rest)
onwards P more front [] h = subst P (sym (append-nil front)) h
onwards P more front (n ∷ rest) h = subst P (append_assoc front (n ∷ []) rest) (onwards P more (front ++ n ∷ []) rest (more front n h))

-- what holds of the root's path, and of each path with one name more where it holds of that path, holds of all
pub by_last_name : {N : Type 0} (P : List N → Type 0) → P [] → ((p : List N) (n : N) → P p → P (p ++ n ∷ [])) → (p : List N) → P p
by_last_name P none more p = onwards P more [] p none

-- ---- steps

pub walk-append : {K N E : Type 0} (target : E → Option K) (edge : K → N → Option E) (here : Option E) (p q : List N)
    → walk target edge here (p ++ q) ≡ walk target edge (walk target edge here p) q
walk-append target edge here [] q = refl
walk-append target edge here (n ∷ p) q = walk-append target edge (entry_within target edge n here) p q

pub led_some : {K N E : Type 0} (edge : K → N → Option E) (n : N) (f : E) (o : Option K) → option_and_then (λ k. edge k n) o ≡ Some f
    → (k : K) × (o ≡ Some k) × (edge k n ≡ Some f)
led_some edge n f None h = absurd (none-some f h)
led_some edge n f (Some k) h = (k, refl, h)

-- where a entry_within comes from
pub step_some : {K N E : Type 0} (target : E → Option K) (edge : K → N → Option E) (n : N) (here : Option E) (f : E)
    → entry_within target edge n here ≡ Some f → (e : E) × (k : K) × (here ≡ Some e) × (target e ≡ Some k) × (edge k n ≡ Some f)
step_some target edge n None f h = absurd (none-some f h)
step_some target edge n (Some e) f h = let led = led_some edge n f (target e) h in (e, led.0, refl, led.1, led.2)

-- where an entry leads, and what it leads to has under a name
step_to : {K N E : Type 0} (target : E → Option K) (edge : K → N → Option E) (n : N) (here : Option E) (e : E) (o : Option K)
    → here ≡ Some e → target e ≡ o → entry_within target edge n here ≡ option_and_then (λ k. edge k n) o
step_to target edge n here e o is leads = ap (entry_within target edge n) is ∙ ap (option_and_then (λ k. edge k n)) leads

-- ---- the entries of a directory

-- what is found passes, and stands in the list
found_by : {X : Type 0} (b : Bool) (a : X → Bool) (z x : X) (zs : List X) → a z ≡ b → (if b then Some z else find a zs) ≡ Some x
    → (find a zs ≡ Some x → Contains zs x × (a x ≡ true)) → Contains (z ∷ zs) x × (a x ≡ true)
found_by true a z x zs passes is rest = let same : z ≡ x = same_Some z x is in ((0, omega arith, same), ap a (sym same) ∙ passes)
found_by false a z x zs passes is rest = let later = rest is in let there = later.0 in
    ((suc there.0, omega (arith, there.1), there.2), later.1)

pub found : {X : Type 0} (a : X → Bool) (xs : List X) (x : X) → find a xs ≡ Some x → Contains xs x × (a x ≡ true)
found a [] x h = absurd (none-some x h)
found a (z ∷ zs) x h = found_by (a z) a z x zs refl h (found a zs x)

not_after_by : (b : Bool) (n m : Name) → (b ≡ true → m ≡ n) → precedes n m ≡ true → b ≡ false
not_after_by true n m is before = let same : m ≡ n = is refl in cc (before, same, precedes_irreflexive n)
not_after_by false n m is before = refl

named_by : (e : Entry) (es : List Entry) (f : Entry) → All (λ (g : Entry). precedes e.name g.name ≡ true) es
    → (Contains es f → find (is_named f.name) es ≡ Some f) → Contains (e ∷ es) f → find (is_named f.name) (e ∷ es) ≡ Some f
named_by e es f later rest (zero, within, is) = let same : e ≡ f = is in
    let passes : is_named f.name e ≡ true = ap (λ (x : Entry). bytes_eq f.name x.name) same ∙ same_bytes f.name in
    ap (λ (b : Bool). if b then Some e else find (is_named f.name) es) passes ∙ ap (λ (x : Entry). Some x) same
named_by e es f later rest (suc i, within, is) =
    let there : Contains es f = (i, omega arith, is) in
    let before : precedes e.name f.name ≡ true = All-contains (λ (g : Entry). precedes e.name g.name ≡ true) es f later there in
    let fails : is_named f.name e ≡ false = not_after_by (bytes_eq f.name e.name) e.name f.name (bytes_eq-Decides f.name e.name).0 before in
    ap (λ (b : Bool). if b then Some e else find (is_named f.name) es) fails ∙ rest there

-- where names rise, each entry is the one that is found under its name
pub named_finds : (es : List Entry) (f : Entry) → Rise es → Contains es f → find (is_named f.name) es ≡ Some f
named_finds [] f rise (i, within, is) = absurd (omega arith)
named_finds (e ∷ es) f rise there = named_by e es f rise.0 (named_finds es f rise.1) there

-- ---- the entries of a volume

-- below a directory stand its entries
pub entry_below : (v : Volume) (p : Path) (n : Name) (e : Entry) (k : Pair) (d : Directory) → entry_at v p ≡ Some e → target e ≡ Some k
    → find (begins_at k) v.directories ≡ Some d → entry_at v (p ++ n ∷ []) ≡ find (is_named n) (entries d)
entry_below v p n e k d is leads begins =
    walk-append target (entry_in v.directories) (Some (top v)) p (n ∷ [])
    ∙ step_to target (entry_in v.directories) n (entry_at v p) e (Some k) is leads
    ∙ ap (option_and_then (λ (x : Directory). find (is_named n) (entries x))) begins

-- below a file stands nothing
pub nothing_below : (v : Volume) (p : Path) (n : Name) (e : Entry) → entry_at v p ≡ Some e → target e ≡ None
    → entry_at v (p ++ n ∷ []) ≡ None
nothing_below v p n e is leads = walk-append target (entry_in v.directories) (Some (top v)) p (n ∷ [])
    ∙ step_to target (entry_in v.directories) n (entry_at v p) e None is leads

-- an entry below a path is one of the directory there
pub record StandsBelow (v : Volume) (p : Path) (n : Name) (f : Entry) : Type 0 where
  pub above : Entry
  pub pair : Pair
  pub directory : Directory
  pub there : entry_at v p ≡ Some above
  pub leads : target above ≡ Some pair
  pub begins : find (begins_at pair) v.directories ≡ Some directory
  pub member : Contains (entries directory) f
  pub named : n ≡ f.name

in_directory : (n : Name) (f : Entry) (o : Option Directory) → option_and_then (λ (x : Directory). find (is_named n) (entries x)) o ≡ Some f
    → (d : Directory) × (o ≡ Some d) × (find (is_named n) (entries d) ≡ Some f)
in_directory n f None h = absurd (none-some f h)
in_directory n f (Some d) h = (d, refl, h)

pub stands_below : (v : Volume) (p : Path) (n : Name) (f : Entry) → entry_at v (p ++ n ∷ []) ≡ Some f → StandsBelow v p n f
stands_below v p n f h =
    let from = step_some target (entry_in v.directories) n (entry_at v p) f
    (sym (walk-append target (entry_in v.directories) (Some (top v)) p (n ∷ [])) ∙ h) in
    let inside = in_directory n f (find (begins_at from.1) v.directories) from.4 in
    let one = found (is_named n) (entries inside.0) f inside.2 in
    record {
      above = from.0;
      pair = from.1;
      directory = inside.0;
      there = from.2;
      leads = from.3;
      begins = inside.1;
      member = one.0;
      named = (bytes_eq-Decides n f.name).0 one.1;
    }

-- what shows a node is an entry
pub some_entry : (o : Option Entry) (x : Node) → option_map node o ≡ Some x → (e : Entry) × (o ≡ Some e)
some_entry None x h = absurd (none-some x h)
some_entry (Some e) x h = (e, refl)
