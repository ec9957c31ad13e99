-- How far a path leads, one name after another.
use Rattle.std.proofs.Common.{◌≡◌, ◌≤◌, ◌<◌, ◌+◌, ℕ, true, List, [], ◌∷◌, ◌++◌, Option, Some, None, refl, ap, sym, ◌∙◌, inl, inr}
use Rattle.std.proofs.Common.{Bor, arith, get_or, length, map, take}
use Rattle.std.specs.Prelude.{is_some}
use Rattle.std.specs.Option.{option_and_then, option_map}
use Rattle.std.proofs.lemmas.List.{map-append, length-map, take-map, take_all, take_more}
use Rattle.std.proofs.lemmas.Option.{none-some}
use Rattle.std.proofs.Math.Nat.{eq-or-lt_of_le}
use Rattle.lfs_meta.specs.Name.{Name}
use Rattle.lfs_meta.specs.Body.{Pair}
use Rattle.lfs_fs.specs.Directory.{Directory}
use Rattle.lfs_fs.specs.Entry.{Entry, target}
use Rattle.lfs_fs.specs.Path.{Path}
use Rattle.lfs_fs.specs.Tree.{entry_at, entry_in, node, tree}
use Rattle.lfs_fs.specs.Volume.{Volume}
use Rattle.lfs_law.proofs.PairWalks.{walks_go_by_pairs}
use Rattle.lfs_draft.specs.Reaches.{Reaches}

-- the path of borrowed names
abbrev pub path_of : List (Bor Name) → Path
path_of ns = map (λ (n : Bor Name). n.now) ns

-- so many names lead to the directory of a pair
abbrev pub LeadTo : Volume → List (Bor Name) → ℕ → Pair → Type 0
LeadTo v ns i k = option_and_then target (entry_at v (take i (path_of ns))) ≡ Some k

front_more : (ns : List (Bor Name)) (i : ℕ) (d : Bor Name) → i < length ns
    → take (i + 1) (path_of ns) ≡ take i (path_of ns) ++ (get_or ns i d).now ∷ []
front_more ns i d within =
    take-map (λ (n : Bor Name). n.now) (i + 1) ns
    ∙ ap path_of (take_more ns i d within)
    ∙ map-append (λ (n : Bor Name). n.now) (take i ns) (get_or ns i d ∷ [])
    ∙ ap (λ (front : Path). front ++ (get_or ns i d).now ∷ []) (sym (take-map (λ (n : Bor Name). n.now) i ns))

-- what stands at one name more is in the directory that those before it lead to
next_entry : (v : Volume) (ns : List (Bor Name)) (i : ℕ) (d : Bor Name) (o : Option Pair) → i < length ns
    → option_and_then target (entry_at v (take i (path_of ns))) ≡ o
    → entry_at v (take (i + 1) (path_of ns)) ≡ option_and_then (λ k. entry_in v.directories k (get_or ns i d).now) o
next_entry v ns i d o within leads =
    ap (entry_at v) (front_more ns i d within)
    ∙ (walks_go_by_pairs v).last (take i (path_of ns)) (get_or ns i d).now
    ∙ ap (option_and_then (λ (k : Pair). entry_in v.directories k (get_or ns i d).now))
    (sym ((walks_go_by_pairs v).leads (take i (path_of ns))) ∙ leads)

-- the same, of the directories as they are borrowed
found : (v : Volume) (ds : List Directory) (ns : List (Bor Name)) (i : ℕ) (d : Bor Name) (k : Pair) (o : Option Entry) → ds ≡ v.directories
    → i < length ns → LeadTo v ns i k → o ≡ entry_in ds k (get_or ns i d).now → entry_at v (take (i + 1) (path_of ns)) ≡ o
found v ds ns i d k o same within leads is =
    next_entry v ns i d (Some k) within leads
    ∙ ap (λ (l : List Directory). entry_in l k (get_or ns i d).now) (sym same)
    ∙ sym is

pub leads_on : (v : Volume) (ds : List Directory) (ns : List (Bor Name)) (i : ℕ) (d : Bor Name) (k j : Pair) (e : Entry)
    → ds ≡ v.directories → i < length ns → LeadTo v ns i k → Some e ≡ entry_in ds k (get_or ns i d).now → target e ≡ Some j
    → LeadTo v ns (i + 1) j
leads_on v ds ns i d k j e same within leads is to = ap (option_and_then target) (found v ds ns i d k (Some e) same within leads is) ∙ to

-- ---- what stands there

led_there : (o : Option Entry) (k : Pair) → option_and_then target o ≡ Some k → is_some (option_map node o) ≡ true
led_there None k leads = absurd (none-some k leads)
led_there (Some e) k leads = refl

there : (v : Volume) (ns : List (Bor Name)) (i : ℕ) (k : Pair) → LeadTo v ns i k → is_some (tree v (take i (path_of ns))) ≡ true
there v ns i k leads = led_there (entry_at v (take i (path_of ns))) k leads

-- ---- where the names end

-- nothing is there behind the names so far
pub nothing_behind : (v : Volume) (ds : List Directory) (ns : List (Bor Name)) (i : ℕ) (d : Bor Name) (k : Pair) → ds ≡ v.directories
    → i < length ns → LeadTo v ns i k → None ≡ entry_in ds k (get_or ns i d).now → Reaches v (path_of ns) i
nothing_behind v ds ns i d k same within leads none = record {
  within = let long = length-map ns (λ (n : Bor Name). n.now) in omega (arith, within, long);
  there = there v ns i k leads;
  ends = inr (ap (option_map node) (found v ds ns i d k None same within leads none));
}

-- a file is there, and so nothing behind it
pub file_there : (v : Volume) (ds : List Directory) (ns : List (Bor Name)) (i : ℕ) (d : Bor Name) (k : Pair) (e : Entry)
    → ds ≡ v.directories → i < length ns → LeadTo v ns i k → Some e ≡ entry_in ds k (get_or ns i d).now → target e ≡ None
    → Reaches v (path_of ns) (i + 1)
file_there v ds ns i d k e same within leads is file =
    let long : length (path_of ns) ≡ length ns = length-map ns (λ (n : Bor Name). n.now) in
    let here : entry_at v (take (i + 1) (path_of ns)) ≡ Some e = found v ds ns i d k (Some e) same within leads is in
    let one : i + 1 ≤ length ns = omega (arith, within) in
    record {
      within = omega (arith, one, long);
      there = ap (λ (o : Option Entry). is_some (option_map node o)) here;
      ends = elim (eq-or-lt_of_le one) [
        | inl all ↦ inl (all ∙ sym long)
        | inr more ↦ inr (ap (option_map node) (next_entry v ns (i + 1) d None more (ap (option_and_then target) here ∙ file)))
      ];
    }

-- all names lead to something
pub all_there : (v : Volume) (ns : List (Bor Name)) (i : ℕ) (k : Pair) → length ns ≤ i → LeadTo v ns i k → Reaches v (path_of ns) (length ns)
all_there v ns i k behind leads =
    let long : length (path_of ns) ≡ length ns = length-map ns (λ (n : Bor Name). n.now) in
    let complete : take i (path_of ns) ≡ take (length ns) (path_of ns) =
    take_all i (path_of ns) (omega (arith, behind, long)) ∙ sym (take_all (length ns) (path_of ns) (omega (arith, long))) in
    record {
      within = omega (arith, long);
      there = ap (λ (p : Path). is_some (tree v p)) (sym complete) ∙ there v ns i k leads;
      ends = inl (sym long);
    }
