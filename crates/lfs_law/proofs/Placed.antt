-- Where a name of a sound volume stands.
use Rattle.std.proofs.Common.{◌≡◌, ◌≤◌, false, [], ap, sym, ◌∙◌, arith, inl, inr, Some, None}
use Rattle.std.specs.Prelude.{All, sum_by, count_by}
use Rattle.std.proofs.lemmas.Option.{same_Some}
use Rattle.lfs_meta.specs.Name.{Name, IsName}
use Rattle.lfs_meta.specs.Body.{Pair}
use Rattle.lfs_fs.specs.Path.{Path}
use Rattle.lfs_fs.specs.Pair.{root}
use Rattle.lfs_fs.specs.Entry.{Entry, target, is_named}
use Rattle.lfs_fs.specs.Directory.{Directory, entries, begins_at}
use Rattle.lfs_fs.specs.Volume.{Volume}
use Rattle.lfs_fs.specs.Tree.{entry_in, top, entry_at, tree}
use Rattle.lfs_fs.specs.Named.{leads_to, names_of, named}
use Rattle.lfs_fs.specs.Sound.{IsSound, IsProper}
use Rattle.lfs_fs.proofs.CountLemmas.{leads_once}
use Rattle.lfs_fs.proofs.EntryAtLemmas.{step_some}
use Rattle.lfs_command.specs.Verdict.{walk_refusal, is_root}
use Rattle.lfs_law.proofs.Found.{found_le}
use Rattle.lfs_law.proofs.Parents.{HasParent, has_parent}
use Rattle.lfs_law.proofs.OneEdge.{entry_under}
use Rattle.lfs_law.proofs.OneElement.{found_has}
use Rattle.lfs_law.proofs.OnePath.{one_directory, entry_found}
use Rattle.lfs_law.proofs.Walks.{last_name, walk-snoc}

-- a directory that an edge leads to is named
named_by_edge : (v : Volume) (j : Pair) (n : Name) (e : Entry) (k : Pair) → entry_in v.directories j n ≡ Some e → target e ≡ Some k
    → 1 ≤ sum_by (names_of k) v.directories
named_by_edge v j n e k edge leads =
    let found = entry_found v.directories j n e edge in
    let directory : names_of k found.0 ≤ sum_by (names_of k) v.directories =
    found_le (names_of k) (begins_at j) v.directories found.0 found.1 in
    let entry : leads_to k (target e) ≤ names_of k found.0 = found_le (λ (x : Entry). leads_to k (target x)) (is_named n)
    (entries found.0) e found.2 in
    let one : leads_to k (target e) ≡ 1 = leads_once k (target e) leads in
    omega (arith, directory, entry, one)

led_named : (v : Volume) (p : Path) (e : Entry) (k : Pair) → entry_at v p ≡ Some e → target e ≡ Some k → 1 ≤ named k v
led_named v p e k here leads = elim (last_name p) [
  | inl is ↦
      let top_leads : Some root ≡ Some k = ap target (same_Some (top v) e (ap (entry_at v) (sym is) ∙ here)) ∙ leads in
      let one : leads_to k (Some root) ≡ 1 = leads_once k (Some root) top_leads in
      omega (arith, one)
  | inr (q, n, is) ↦
      let step = step_some target (entry_in v.directories) n (entry_at v q) e
      (sym (walk-snoc target (entry_in v.directories) (Some (top v)) q n) ∙ ap (entry_at v) (sym is) ∙ here) in
      let edge : 1 ≤ sum_by (names_of k) v.directories = named_by_edge v step.1 n e k step.4 leads in
      omega (arith, edge)
]

-- what an entry leads to is one directory of the thread
pub led_directory : (v : Volume) → IsSound v → (p : Path) (e : Entry) (k : Pair) → entry_at v p ≡ Some e → target e ≡ Some k
    → count_by (begins_at k) v.directories ≡ 1
led_directory v sound p e k here leads = omega (arith, one_directory v sound k, sound.names k, led_named v p e k here leads)

-- The place of a path's last name.
pub record IsPlaced (v : Volume) (p : Path) : Type 0 where
  pub parent : HasParent v p
  pub once : count_by (begins_at parent.pair) v.directories ≡ 1
  pub edge : entry_at v p ≡ entry_in v.directories parent.pair parent.name

pub is_placed : (v : Volume) (p : Path) → IsSound v → All IsName p → is_root p ≡ false → walk_refusal (tree v) [] p ≡ None → IsPlaced v p
is_placed v p sound names below walk =
    let parent = has_parent v p names below walk in
    record {
      parent = parent;
      once = led_directory v sound parent.front parent.above parent.pair parent.at parent.leads;
      edge = ap (entry_at v) parent.complete ∙ entry_under v parent.front parent.above parent.pair parent.name parent.at parent.leads;
    }

-- an entry of a sound volume is within its limits
pub proper_entry : (v : Volume) → IsSound v → (k : Pair) (n : Name) (e : Entry) → entry_in v.directories k n ≡ Some e → IsProper v.limits e
proper_entry v sound k n e edge =
    let found = entry_found v.directories k n e edge in
    found_has (IsProper v.limits) (is_named n) (entries found.0) e found.2
    (found_has (λ (d : Directory). All (IsProper v.limits) (entries d)) (begins_at k) v.directories found.0 found.1 sound.proper)
