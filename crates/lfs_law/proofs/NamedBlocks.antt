-- Which blocks the links of an edited volume are written to: those that the command takes, and one of each pair that it rewrites.
use Rattle.std.proofs.Common.{◌≡◌, ℕ, ◌+◌, ◌≤◌, Bool, true, false, List, [], ◌∷◌, ◌++◌, length, refl, ap, sym, ◌∙◌, subst, arith, map}
use Rattle.std.proofs.Common.{Option, Some}
use Rattle.std.specs.Prelude.{All, Contains, ◌&&◌, not, nat_le, if◌then◌else◌, sum_by, find, flat_map}
use Rattle.std.specs.List.{filter}
use Rattle.std.specs.Option.{option_map}
use Rattle.std.proofs.lemmas.Bool.Decides.{nat_tests}
use Rattle.std.proofs.lemmas.List.Elements.{All-contains, All-head}
use Rattle.std.proofs.lemmas.List.Folds.{flat_map-map}
use Rattle.std.proofs.lemmas.List.Sums.{sum_by-cons, sum_by-append, sum_by-le-sum_by}
use Rattle.std.proofs.lemmas.Grind.{flat_map-append}
use Rattle.lfs_block.specs.Change.{Change}
use Rattle.lfs_meta.specs.Name.{Name, IsName}
use Rattle.lfs_meta.specs.Body.{Pair}
use Rattle.lfs_meta.specs.Runs.{later_runs}
use Rattle.lfs_fs.specs.Path.{Path}
use Rattle.lfs_fs.specs.Entry.{Inline, Chain, Directory_at, Entry}
use Rattle.lfs_fs.specs.Directory.{Part, Directory, parts, begins_at, thread}
use Rattle.lfs_fs.specs.Volume.{Volume}
use Rattle.lfs_fs.specs.Tree.{tree}
use Rattle.lfs_fs.specs.Thread.{Link, links}
use Rattle.lfs_fs.specs.Uses.{times, body_uses, uses}
use Rattle.lfs_fs.proofs.ContainsLemmas.{contains_first, contains_later}
use Rattle.lfs_fs.proofs.CountLemmas.{element_le}
use Rattle.lfs_command.specs.declared.refusal.Refusal.TheVariants.{IsRoot}
use Rattle.lfs_command.specs.DirectoryEdit.{link_in, touch_last}
use Rattle.lfs_command.specs.ThreadEdit.{link, add_after}
use Rattle.lfs_command.specs.Command.{Command, Mkdir, Put, Rm, Mv, SetAttr, RmAttr, Grow}
use Rattle.lfs_command.specs.Supplies.{Supplies, inline_limit, supply_uses}
use Rattle.lfs_command.specs.Parent.{parent_of}
use Rattle.lfs_command.specs.Edited.{new_entry, empty_directory, make_directory, edited}
use Rattle.lfs_command.specs.Cut.{runs, more_parts, cut, new_pairs, HasEnough, new_pair_uses}
use Rattle.lfs_command.specs.Verdict.{refuse_if, walk_refusal, is_root}
use Rattle.lfs_command.specs.Accepted.{IsAccepted, AreChosen}
use Rattle.lfs_law.specs.WrittenLinks.{number_in, written_blocks, set_blocks, links_blocks, set_uses}
use Rattle.lfs_command.specs.Need.{is_new_to}
use Rattle.lfs_law.specs.PlansHold.{content_blocks, BlocksAreWrittenOnce, BlocksAreTaken}
use Rattle.lfs_law.proofs.Cuts.{cut_part, pair_times, pairs_for, head_by, tail_by, all_uses, cut_thread}
use Rattle.lfs_law.proofs.DirectoryEdits.{first_link}
use Rattle.lfs_law.proofs.Parents.{first_passes, test_passes}
use Rattle.lfs_law.proofs.InDirectory.{find_here}
use Rattle.lfs_law.proofs.LinksAdded.{times_cons, times_append, first_used, one_use, set_is}
use Rattle.lfs_law.proofs.OneElement.{found_one}
use Rattle.lfs_law.proofs.OutlineRoom.{sum_over}
use Rattle.lfs_law.proofs.OutlinesWritten.{set_uses_outlined}
use Rattle.lfs_law.proofs.PairTotals.{parts_total, total, total_cons, link_total, last_total, made_total, edited_total}
use Rattle.lfs_law.proofs.Placed.{IsPlaced, is_placed}
use Rattle.lfs_fs.proofs.ChainedLemmas.{parts_of_links}
use Rattle.lfs_law.proofs.WrittenLemmas.{part_uses, sum_thread}

-- ---- sums

pub sum_zero : {X : Type 0} (f : X → ℕ) (xs : List X) → ((x : X) → Contains xs x → f x ≡ 0) → sum_by f xs ≡ 0
sum_zero f [] none = refl
sum_zero f (x ∷ xs) none = omega (
  arith,
  sum_by-cons f x xs,
  none x (contains_first x xs),
  sum_zero f xs (λ y there. none y (contains_later x xs y there)),
)

pub times_flat : {X : Type 0} (n : ℕ) (f : X → List ℕ) (xs : List X) → times n (flat_map f xs) ≡ sum_by (λ x. times n (f x)) xs
times_flat n f [] = refl
times_flat n f (x ∷ xs) = omega (arith, times_append n (f x) (flat_map f xs), times_flat n f xs, sum_by-cons (λ y. times n (f y)) x xs)

-- ---- the pairs that a volume has

-- how often a pair uses a block, where the volume hasn't it
abbrev new_times : Volume → ℕ → Pair → ℕ
new_times v n pair = if is_new_to v pair then pair_times n pair else 0

pairs_within : (n : ℕ) (v : Volume) → total (pair_times n) v.directories ≤ uses n v
pairs_within n v =
    let each : (p : Part) → pair_times n p.pair ≤ part_uses n p = λ p. omega arith in
    omega (
      arith,
      sum_by-le-sum_by (λ (p : Part). pair_times n p.pair) (part_uses n) (thread v.directories) each,
      sum_thread n v.directories,
    )

pub not_new : (v : Volume) (p : Part) → Contains (thread v.directories) p → is_new_to v p.pair ≡ false
not_new v p there =
    let le : part_uses p.pair.0 p ≤ sum_by (part_uses p.pair.0) (thread v.directories) =
    element_le (part_uses p.pair.0) (thread v.directories) p there in
    let some : 1 ≤ uses p.pair.0 v = omega (arith, le, first_used p.pair, sum_thread p.pair.0 v.directories) in
    grind (arith, nat_tests)

pub new_is : (v : Volume) (pair : Pair) → uses pair.0 v ≡ 0 → is_new_to v pair ≡ true
new_is v pair none = grind (arith, nat_tests)

no_new_pairs : (v : Volume) (n : ℕ) → total (new_times v n) v.directories ≡ 0
no_new_pairs v n = sum_zero (λ (p : Part). new_times v n p.pair) (thread v.directories)
    (λ p there. ap (λ (t : Bool). if t then pair_times n p.pair else 0) (not_new v p there))

-- ---- the pairs of parts that are set

abbrev set_total : (Pair → ℕ) → List Part → ℕ
set_total g ps = sum_by (λ p. if p.dirty then g p.pair else 0) ps

set_within : (g : Pair → ℕ) (ps : List Part) → set_total g ps ≤ parts_total g ps
set_within g ps = sum_by-le-sum_by (λ (p : Part). if p.dirty then g p.pair else 0) (λ (p : Part). g p.pair) ps (λ p. by p.dirty (g p.pair))
  where
    by : (t : Bool) (m : ℕ) → (if t then m else 0) ≤ m
    by true m = omega arith
    by false m = omega arith

set_append : (g : Pair → ℕ) (ps qs : List Part) → set_total g (ps ++ qs) ≡ set_total g ps + set_total g qs
set_append g ps qs = sum_by-append (λ (p : Part). if p.dirty then g p.pair else 0) ps qs

-- where the other pairs count nothing, a directory that is added counts alone
added_alone : (g : Pair → ℕ) (k : Pair) (new : Directory) (ds : List Directory) (d : Directory) → find (begins_at k) ds ≡ Some d
    → total g ds ≡ 0
    → set_total g (thread (add_after k new ds)) ≡ set_total g (parts new)
unfolding add_after
added_alone g k new [] d found none = cc
added_alone g k new (e ∷ ds) d found none = by (begins_at k e) found (λ later.
    added_alone g k new ds d later (omega (arith, none, total_cons g e ds)))
  where
    by : (t : Bool) → (if t then Some e else find (begins_at k) ds) ≡ Some d
        → (find (begins_at k) ds ≡ Some d → set_total g (thread (add_after k new ds)) ≡ set_total g (parts new))
        → set_total g (thread (if t then touch_last e ∷ new ∷ ds else e ∷ add_after k new ds)) ≡ set_total g (parts new)
    by true is later =
        omega (
          arith,
          none,
          total_cons g e ds,
          set_append g (parts (touch_last e)) (thread (new ∷ ds)),
          set_append g (parts new) (thread ds),
          set_within g (parts (touch_last e)),
          last_total g e,
          set_within g (thread ds),
        )
    by false is later = omega (
      arith,
      none,
      total_cons g e ds,
      set_append g (parts e) (thread (add_after k new ds)),
      set_within g (parts e),
      later is,
    )

-- ---- the new pairs that are set, a cut aside: a new directory's

bare_alone : (g : Pair → ℕ) (pair : Pair) → set_total g (parts (empty_directory pair)) ≡ g pair
bare_alone g pair = omega (arith, sum_by-cons (λ (p : Part). if p.dirty then g p.pair else 0) (empty_directory pair).first [])

made_alone : (v : Volume) (p : Path) (pair : Pair) (n : ℕ) → IsPlaced v p
    → set_total (new_times v n) (thread (make_directory v pair (parent_of v p)).directories) ≡ new_times v n pair
made_alone v p pair n at =
    let k = at.parent.pair in
    let e : Entry = new_entry at.parent.name (Directory_at pair) in
    let found = found_one (begins_at k) v.directories at.once in
    let there : find (begins_at k) (link k e v.directories) ≡ Some (link_in e found.0) =
    find_here k (link_in e) v.directories (first_link e) ∙ ap (option_map (link_in e)) found.1 in
    let none : total (new_times v n) (link k e v.directories) ≡ 0 = link_total (new_times v n) k e v.directories ∙ no_new_pairs v n in
    subst (λ (h : Option (Pair × Name)). set_total (new_times v n) (thread (make_directory v pair h).directories) ≡ new_times v n pair)
    (sym at.parent.parent)
    (added_alone (new_times v n) k (empty_directory pair) (link k e v.directories) (link_in e found.0) there none
    ∙ bare_alone (new_times v n) pair)

pair_is_new : (v : Volume) (pair : Pair) (n : ℕ) → uses pair.0 v ≡ 0 → new_times v n pair ≡ pair_times n pair
pair_is_new v pair n none = ap (λ (t : Bool). if t then pair_times n pair else 0) (new_is v pair none)

none_set : (v : Volume) (c : Command) (s : Supplies) (n : ℕ) → made_total (new_times v n) c s ≡ 0
    → set_total (new_times v n) (thread (edited v c s).directories) ≡ 0
none_set v c s n none = omega (
  arith,
  none,
  set_within (new_times v n) (thread (edited v c s).directories),
  edited_total (new_times v n) v c s,
  no_new_pairs v n,
)

contents_by : (n : ℕ) (bytes blocks : List ℕ) (t : Bool) → times n (if t then [] else blocks)
    ≡ body_uses n (if t then Inline bytes else Chain blocks bytes)
contents_by n bytes blocks true = refl
contents_by n bytes blocks false = refl

-- what a command takes beside new pairs of parts that are cut
supplies_taken : (v : Volume) (c : Command) (s : Supplies) (n : ℕ) → IsAccepted v c s
    → times n (content_blocks v c s) + set_total (new_times v n) (thread (edited v c s).directories) ≡ supply_uses v c s n
supplies_taken v (Mkdir p) s n ok =
    let below = first_passes (refuse_if (is_root p) IsRoot) _ ok.unrefused in
    let walk = first_passes (walk_refusal (tree v) [] p) _ below.1 in
    let at : IsPlaced v p = is_placed v p ok.sound (All-head (All IsName) p [] ok.names) (test_passes (is_root p) IsRoot below.0) walk.0 in
    let none : uses s.pair.0 v ≡ 0 = omega (arith, ok.free.once s.pair.0, first_used s.pair) in
    omega (arith, made_alone v p s.pair n at, pair_is_new v s.pair n none)
supplies_taken v (Put p bytes most) s n ok = omega (
  arith,
  none_set v (Put p bytes most) s n refl,
  contents_by n bytes s.blocks (nat_le (length bytes) (inline_limit v.size most)),
)
supplies_taken v (Rm p) s n ok = omega (arith, none_set v (Rm p) s n refl)
supplies_taken v (Mv p q) s n ok = omega (arith, none_set v (Mv p q) s n refl)
supplies_taken v (SetAttr p k value) s n ok = omega (arith, none_set v (SetAttr p k value) s n refl)
supplies_taken v (RmAttr p k) s n ok = omega (arith, none_set v (RmAttr p k) s n refl)
supplies_taken v (Grow m) s n ok = omega (arith, none_set v (Grow m) s n refl)

-- ---- parts that are cut

new_written : (cs : List Change) (is_new : Pair → Bool) (n : ℕ) (pair : Pair) → is_new pair ≡ true
    → times n (written_blocks cs is_new pair) ≡ pair_times n pair
new_written cs is_new n pair new = ap (λ (t : Bool). times n (if t then pair.0 ∷ pair.1 ∷ [] else number_in cs pair ∷ [])) new

more_written : (cs : List Change) (is_new : Pair → Bool) (n : ℕ) (pairs : List Pair) (rs : List (List Entry)) → length pairs ≡ length rs
    → ((q : Pair) → Contains pairs q → is_new q ≡ true)
    → times n (flat_map (set_blocks cs is_new) (more_parts pairs rs)) ≡ sum_by (pair_times n) pairs
more_written cs is_new n [] [] many new = refl
more_written cs is_new n [] (run ∷ rs) many new = let no : ⊥ = omega (arith, many) in absurd no
more_written cs is_new n (pair ∷ pairs) [] many new = let no : ⊥ = omega (arith, many) in absurd no
more_written cs is_new n (pair ∷ pairs) (run ∷ rs) many new =
    omega (
      arith,
      times_append n (written_blocks cs is_new pair) (flat_map (set_blocks cs is_new) (more_parts pairs rs)),
      new_written cs is_new n pair (new pair (contains_first pair pairs)),
      more_written cs is_new n pairs rs (omega (arith, many)) (λ q there. new q (contains_later pair pairs q there)),
      sum_by-cons (pair_times n) pair pairs,
    )

part_by : (cs : List Change) (is_new : Pair → Bool) (n : ℕ) (chosen : Part → List Pair) (w : Volume) (p : Part) (t : Bool) → p.dirty ≡ t
    → (t ≡ true → length (chosen p) ≡ length (later_runs (runs w p)))
    → ((q : Pair) → Contains (if t then chosen p else []) q → is_new q ≡ true)
    → times n (flat_map (set_blocks cs is_new) (head_by w p t ∷ tail_by chosen w p t))
    ≡ times n (set_blocks cs is_new p) + sum_by (pair_times n) (if t then chosen p else [])
part_by cs is_new n chosen w p true is enough new =
    omega (
      arith,
      times_append n (written_blocks cs is_new p.pair) (flat_map (set_blocks cs is_new) (more_parts (chosen p) (later_runs (runs w p)))),
      more_written cs is_new n (chosen p) (later_runs (runs w p)) (enough refl) new,
      ap (times n) (set_is cs is_new p true is),
    )
part_by cs is_new n chosen w p false is enough new = omega (arith, times_append n (set_blocks cs is_new p) [])

parts_written : (cs : List Change) (is_new : Pair → Bool) (n : ℕ) (chosen : Part → List Pair) (w : Volume) (ps : List Part)
    → ((p : Part) → Contains ps p → HasEnough chosen w p)
    → ((p : Part) → Contains ps p → (q : Pair) → Contains (new_pairs chosen p) q → is_new q ≡ true)
    → times n (flat_map (set_blocks cs is_new) (flat_map (cut_part chosen w) ps))
    ≡ sum_by (λ p. times n (set_blocks cs is_new p)) ps + pairs_for chosen n ps
parts_written cs is_new n chosen w [] enough new = refl
parts_written cs is_new n chosen w (p ∷ ps) enough new =
    omega (
      arith,
      ap (times n) (flat_map-append (set_blocks cs is_new) (cut_part chosen w p) (flat_map (cut_part chosen w) ps)),
      times_append n (flat_map (set_blocks cs is_new) (cut_part chosen w p))
          (flat_map (set_blocks cs is_new) (flat_map (cut_part chosen w) ps)),
      part_by cs is_new n chosen w p p.dirty refl (enough p (contains_first p ps)) (new p (contains_first p ps)),
      parts_written cs is_new n chosen w ps (λ x there. enough x (contains_later p ps x there))
          (λ x there. new x (contains_later p ps x there)),
      sum_by-cons (λ (x : Part). times n (set_blocks cs is_new x)) p ps,
      sum_by-cons (λ (x : Part). sum_by (pair_times n) (new_pairs chosen x)) p ps,
    )

-- ---- parts that are rewritten

abbrev others_of : List Change → List Part → List ℕ
others_of cs ps = map (λ p. number_in cs p.pair) ps

abbrev rewritten : Volume → List Part → List Part
rewritten v ps = filter (λ p. p.dirty && not (is_new_to v p.pair)) ps

set_by : (cs : List Change) (n : ℕ) (p : Part) (ps : List Part) (t u : Bool)
    → times n (if t then (if u then p.pair.0 ∷ p.pair.1 ∷ [] else number_in cs p.pair ∷ []) else []) + times n (others_of cs ps)
    ≡ (if t then (if u then pair_times n p.pair else 0) else 0) + times n (others_of cs (if t && not u then p ∷ ps else ps))
set_by cs n p ps true true = refl
set_by cs n p ps true false = omega (arith, times_cons n (number_in cs p.pair) (others_of cs ps), times_cons n (number_in cs p.pair) [])
set_by cs n p ps false u = refl

set_written : (cs : List Change) (v : Volume) (n : ℕ) (ps : List Part) → sum_by (λ p. times n (set_blocks cs (is_new_to v) p)) ps
    ≡ set_total (new_times v n) ps + times n (others_of cs (rewritten v ps))
set_written cs v n [] = refl
set_written cs v n (p ∷ ps) =
    omega (
      arith,
      sum_by-cons (λ (x : Part). times n (set_blocks cs (is_new_to v) x)) p ps,
      sum_by-cons (λ (x : Part). if x.dirty then new_times v n x.pair else 0) p ps,
      set_by cs n p (rewritten v ps) p.dirty (is_new_to v p.pair),
      set_written cs v n ps,
    )

-- ---- the blocks that are written

pub chosen_is_new : (v : Volume) (c : Command) (s : Supplies) (chosen : Part → List Pair) → AreChosen v c s chosen → (p : Part)
    → Contains (thread (edited v c s).directories) p
    → (q : Pair) → Contains (new_pairs chosen p) q → is_new_to v q ≡ true
chosen_is_new v c s chosen pairs p there q inside =
    let one : pair_times q.0 q ≤ sum_by (pair_times q.0) (new_pairs chosen p) = element_le (pair_times q.0) (new_pairs chosen p) q inside in
    let all : sum_by (pair_times q.0) (new_pairs chosen p) ≤ new_pair_uses chosen (edited v c s) q.0 =
    element_le (λ (x : Part). sum_by (pair_times q.0) (new_pairs chosen x)) (thread (edited v c s).directories) p there in
    new_is v q (omega (arith, one, all, pairs.once q.0, first_used q))

links_written : (cs : List Change) (is_new : Pair → Bool) (ds : List Directory)
    → links_blocks cs is_new (links ds) ≡ flat_map (set_blocks cs is_new) (thread ds)
links_written cs is_new ds = sym (flat_map-map (set_blocks cs is_new) (λ (l : Link). l.part) (links ds))
    ∙ ap (flat_map (set_blocks cs is_new)) (parts_of_links ds)

pub blocks_are_taken : BlocksAreTaken
blocks_are_taken cs v c s chosen ok pairs n =
    let w : Volume = edited v c s in
    let is : links_blocks cs (is_new_to v) (links (cut chosen w).directories)
    ≡ flat_map (set_blocks cs (is_new_to v)) (flat_map (cut_part chosen w) (thread w.directories)) =
    links_written cs (is_new_to v) (cut chosen w).directories ∙ ap (flat_map (set_blocks cs (is_new_to v)))
    (cut_thread chosen w w.directories) in
    omega (
      arith,
      ap (times n) is,
      parts_written cs (is_new_to v) n chosen w (thread w.directories) (λ p there.
          All-contains (HasEnough chosen w) (thread w.directories) p pairs.enough there) (chosen_is_new v c s chosen pairs),
      set_written cs v n (thread w.directories),
      supplies_taken v c s n ok,
    )

-- ---- once

set_uses_thread : (n : ℕ) (ds : List Directory) → set_uses n (links ds) ≡ set_total (pair_times n) (thread ds)
set_uses_thread n ds =
    sym (sum_over (one_use n) (λ (p : Part). if p.dirty then pair_times n p.pair else 0) (λ (l : Link). l.part) (λ l. refl) (links ds))
    ∙ ap (set_total (pair_times n)) (parts_of_links ds)

pub supplies_once : (v : Volume) (c : Command) (s : Supplies) (n : ℕ)
    → times n (content_blocks v c s) + made_total (pair_times n) c s ≡ supply_uses v c s n
supplies_once v (Mkdir p) s n = omega arith
supplies_once v (Put p bytes most) s n = omega (arith, contents_by n bytes s.blocks (nat_le (length bytes) (inline_limit v.size most)))
supplies_once v (Rm p) s n = refl
supplies_once v (Mv p q) s n = refl
supplies_once v (SetAttr p k value) s n = refl
supplies_once v (RmAttr p k) s n = refl
supplies_once v (Grow m) s n = refl

pub blocks_are_written_once : BlocksAreWrittenOnce
blocks_are_written_once v c s chosen ok pairs n =
    let w : Volume = edited v c s in
    let ds : List Directory = (cut chosen w).directories in
    let after : parts_total (pair_times n) (thread ds) ≡ parts_total (pair_times n) (thread w.directories)
    + pairs_for chosen n (thread w.directories) =
    ap (parts_total (pair_times n)) (cut_thread chosen w w.directories) ∙ all_uses n chosen w (thread w.directories) pairs.enough in
    omega (
      arith,
      set_uses_outlined n (cut chosen w),
      set_uses_thread n ds,
      set_within (pair_times n) (thread ds),
      after,
      edited_total (pair_times n) v c s,
      pairs_within n v,
      supplies_once v c s n,
      pairs.once n,
    )
