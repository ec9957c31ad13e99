-- The parts that a command of a row leaves fit the first blocks of their pairs.
use Rattle.std.proofs.Common.{◌≡◌, ◌==◌, ◌<◌, ◌≤◌, ◌+◌, ◌-◌, ℕ, Bool, true, false, List, [], ◌∷◌, ◌++◌, Option, Some, None, length, map, refl, ap, sym, ◌∙◌, subst, arith}
use Rattle.std.proofs.Common.{inl, inr}
use Rattle.std.specs.Prelude.{All, Contains, if◌then◌else◌, sum_by}
use Rattle.std.proofs.lemmas.Bool.Decides.{nat_tests}
use Rattle.std.proofs.lemmas.List.{map-append}
use Rattle.std.proofs.lemmas.List.Elements.{All-contains, All-contains_itself, All-map, All-weaker, Contains-append_left}
use Rattle.lfs_block.specs.Disk.{Disk}
use Rattle.lfs_meta.specs.Attribute.{Attributes, set_attribute}
use Rattle.lfs_meta.specs.Body.{Pair}
use Rattle.lfs_meta.specs.Name.{Name}
use Rattle.lfs_fs.specs.Directory.{Directory, Part, parts, thread}
use Rattle.lfs_fs.specs.Entry.{Body, Entry}
use Rattle.lfs_fs.specs.Pair.{root}
use Rattle.lfs_fs.specs.Sound.{IsSound, StartsAtRoot}
use Rattle.lfs_fs.specs.Thread.{Link, links}
use Rattle.lfs_fs.specs.Tree.{entry_at}
use Rattle.lfs_fs.specs.Uses.{uses}
use Rattle.lfs_fs.specs.Volume.{Volume}
use Rattle.lfs_fs.specs.Weight.{superblock_weight, weight}
use Rattle.lfs_fs.proofs.ChainedLemmas.{parts_of_links}
use Rattle.lfs_fs.proofs.ContainsLemmas.{contains_first}
use Rattle.lfs_command.specs.Accepted.{AreChosen, Follows, IsAccepted}
use Rattle.lfs_command.specs.Clean.{cleaned}
use Rattle.lfs_command.specs.Command.{Command, Grow, Mkdir, Mv, Put, Rm, RmAttr, SetAttr}
use Rattle.lfs_command.specs.Cut.{cut, cut_directory, is_first, room}
use Rattle.lfs_command.specs.DirectoryEdit.{each_part}
use Rattle.lfs_command.specs.Edited.{edited, make_directory, put_file, set_attributes}
use Rattle.lfs_command.specs.Parent.{parent_of}
use Rattle.lfs_command.specs.Kept.{IsKept}
use Rattle.lfs_command.specs.Supplies.{Supplies, new_body}
use Rattle.lfs_command.specs.ThreadEdit.{touch_first}
use Rattle.lfs_law.proofs.Decided.{same_pair_decides}
use Rattle.lfs_law.proofs.Frugal.{cuts_are_frugal}
use Rattle.lfs_law.proofs.NamedBlocks.{chosen_is_new}
use Rattle.lfs_law.proofs.PartsFit.{FitsWhenSet, PartFits, cut_fits, none_large, not_root}
use Rattle.lfs_law.proofs.WrittenLemmas.{pair_used, part_there, part_uses, set_apart, sum_thread, two_le}
use Rattle.lfs_pack.specs.OutlinesTaken.{FitsNewPair, front_count, front_weight}
use Rattle.lfs_pack.specs.Unwritten.{IsOfRow}

-- a part fits a block of so much room, with these attributes of the root
pub record FitsRoom (attributes : Attributes) (room : ℕ) (p : Part) : Type 0 where
  pub few : front_count p + length p.entries ≤ 1000
  pub light : (if is_first p then superblock_weight attributes else 0) + sum_by weight p.entries ≤ room

-- ---- the root's attributes

make_attributes : (v : Volume) (pair : Pair) (h : Option (Pair × Name)) → (make_directory v pair h).attributes ≡ v.attributes
make_attributes v pair None = refl
make_attributes v pair (Some h) = refl

put_attributes : (v : Volume) (b : Body) (h : Option (Pair × Name)) (old : Option Entry) → (put_file v b h old).attributes ≡ v.attributes
put_attributes v b None old = refl
put_attributes v b (Some h) None = refl
put_attributes v b (Some h) (Some e) = refl

-- the root's first part is set where its attributes are
first_set : (chosen : Part → List Pair) (x : Volume) (ds : List Directory) → StartsAtRoot ds
    → (q : Part) × Contains (thread (map (cut_directory chosen x) (touch_first ds))) q × (q.pair ≡ root) × (q.dirty ≡ true)
first_set chosen x [] starts = absurd starts
first_set chosen x (d ∷ ds) starts =
    let touched : Directory = record {
      first = record {
        pair = d.first.pair;
        entries = d.first.entries;
        delta = d.first.delta;
        dirty = true;
      };
      more = d.more;
    } in
    let now : Directory = cut_directory chosen x touched in (
      now.first,
      Contains-append_left (parts now) (thread (map (cut_directory chosen x) ds)) now.first (contains_first now.first now.more),
      starts,
      refl,
    )

root_used : (p : Part) → p.pair ≡ root → 0 < part_uses 0 p
root_used p is = subst (λ (n : ℕ). 0 < part_uses n p) (ap (λ (k : Pair). k.0) is) (pair_used p).0

set_kept : (chosen : Part → List Pair) (v : Volume) (f : Attributes → Attributes) (h : Option (Pair × Name)) → IsSound v
    → IsSound (cut chosen (set_attributes v f h)) → (p : Part) → Contains (thread (cut chosen (set_attributes v f h)).directories) p
    → p.pair ≡ root → p.dirty ≡ false → (set_attributes v f h).attributes ≡ v.attributes
set_kept chosen v f (Some h) sound after p there is unset = refl
set_kept chosen v f None sound after p there is unset =
    let w : Volume = cut chosen (set_attributes v f None) in
    let q = first_set chosen (set_attributes v f None) v.directories sound.starts in
    let both : part_uses 0 q.0 + part_uses 0 p ≤ sum_by (part_uses 0) (thread w.directories) =
    two_le (part_uses 0) (thread w.directories) q.0 p q.1 there (set_apart q.0 p q.3 unset) in
    absurd (omega (arith, both, root_used q.0 q.2, root_used p is, sum_thread 0 w.directories, after.once 0))

attributes_kept : (chosen : Part → List Pair) (v : Volume) (c : Command) (s : Supplies) → IsOfRow c → IsSound v
    → IsSound (cut chosen (edited v c s)) → (p : Part) → Contains (thread (cut chosen (edited v c s)).directories) p → p.pair ≡ root
    → p.dirty ≡ false → (edited v c s).attributes ≡ v.attributes
attributes_kept chosen v (Mkdir path) s row sound after p there is unset = make_attributes v s.pair (parent_of v path)
attributes_kept chosen v (Put path bytes most) s row sound after p there is unset =
    put_attributes v (new_body v s bytes most) (parent_of v path) (entry_at v path)
attributes_kept chosen v (SetAttr path k value) s row sound after p there is unset =
    set_kept chosen v (set_attribute k value) (parent_of v path) sound after p there is unset
attributes_kept chosen v (Rm path) s row sound after p there is unset = absurd row
attributes_kept chosen v (Mv from to) s row sound after p there is unset = absurd row
attributes_kept chosen v (RmAttr path k) s row sound after p there is unset = absurd row
attributes_kept chosen v (Grow n) s row sound after p there is unset = absurd row

-- ---- parts that are set, and those that were there

cleaned_thread : (ds : List Directory) → thread (map (each_part cleaned) ds) ≡ map cleaned (thread ds)
cleaned_thread [] = refl
cleaned_thread (d ∷ ds) =
    ap (λ (ps : List Part). map cleaned (parts d) ++ ps) (cleaned_thread ds) ∙ sym (map-append cleaned (parts d) (thread ds))

zero_is : (n : ℕ) → (n == 0) ≡ true → n ≡ 0
zero_is n h = grind (arith, nat_tests)

same_front : (t : Bool) (a b : Attributes) → (t ≡ true → a ≡ b)
    → (if t then superblock_weight a else 0) ≡ (if t then superblock_weight b else 0)
same_front true a b same = ap superblock_weight (same refl)
same_front false a b same = refl

both_ways : (t : Bool) → t ≡ true → t ≡ false → ⊥
both_ways t there not_there = cc

module _ (d : Disk) (v : Volume) (c : Command) (s : Supplies) (chosen : Part → List Pair) (row : IsOfRow c) (ok : IsAccepted v c s)
    (pairs : AreChosen v c s chosen) (after : Follows v c (cut chosen (edited v c s)))
    (fit : All (FitsNewPair d v) (thread v.directories)) where
  abbrev x : Volume
  x = edited v c s

  abbrev w : Volume
  w = cut chosen x

  size : room x ≡ room v
  size = ap (λ (n : ℕ). n - 40) after.size

  set_fit : All (FitsWhenSet x) (thread w.directories)
  set_fit =
      cut_fits chosen x (none_large v c s ok)
      (λ p there q inside. not_root v ok.sound q (zero_is (uses q.0 v) (chosen_is_new v c s chosen pairs p there q inside)))

  of_set : (p : Part) → Contains (thread w.directories) p → p.dirty ≡ true → FitsRoom x.attributes (room v) p
  of_set p there set =
      let is : PartFits x p = All-contains (FitsWhenSet x) (thread w.directories) p set_fit there set in
      record { few = is.count; light = omega (arith, is.weight', size) }

  of_kept : (p : Part) → Contains (thread w.directories) p → p.dirty ≡ false → Contains (thread v.directories) p
      → FitsRoom x.attributes (room v) p
  of_kept p there unset was =
      let is : FitsNewPair d v p = All-contains (FitsNewPair d v) (thread v.directories) p fit was in
      let same : front_weight x p ≡ front_weight v p = same_front (is_first p) x.attributes v.attributes
      (λ first. attributes_kept chosen v c s row ok.sound after.sound p there ((same_pair_decides p.pair root).0 first) unset) in
      record { few = is.few; light = omega (arith, is.light, same) }

  link_fits : (l : Link) → Contains (links w.directories) l → FitsRoom x.attributes (room v) l.part
  link_fits l there = by l.part.dirty refl
    where
      in_thread : Contains (thread w.directories) l.part
      in_thread = part_there w.directories l there

      by : (t : Bool) → l.part.dirty ≡ t → FitsRoom x.attributes (room v) l.part
      by true set = of_set l.part in_thread set
      by false unset = elim (All-contains (IsKept (links v.directories)) (links w.directories) l (cuts_are_frugal v c s chosen) there) [
        | inl set ↦ absurd (both_ways l.part.dirty set unset)
        | inr was ↦ of_kept l.part in_thread unset (part_there v.directories l was)
      ]

  thread_fits : All (FitsRoom x.attributes (room v)) (thread w.directories)
  thread_fits =
      subst (All (FitsRoom x.attributes (room v))) (parts_of_links w.directories)
      (All-map (FitsRoom x.attributes (room v)) (λ (l : Link). l.part) (links w.directories)
      (All-weaker (Contains (links w.directories)) (λ (l : Link). FitsRoom x.attributes (room v) l.part) link_fits (links w.directories)
      (All-contains_itself (links w.directories))))

  -- so they do without marks
  pub left_fit : All (FitsRoom x.attributes (room v)) (thread (map (each_part cleaned) w.directories))
  left_fit =
      subst (All (FitsRoom x.attributes (room v))) (sym (cleaned_thread w.directories))
      (All-map (FitsRoom x.attributes (room v)) cleaned (thread w.directories)
      (All-weaker (FitsRoom x.attributes (room v)) (λ (p : Part). FitsRoom x.attributes (room v) (cleaned p))
      (λ p is. record { few = is.few; light = is.light }) (thread w.directories) thread_fits))
