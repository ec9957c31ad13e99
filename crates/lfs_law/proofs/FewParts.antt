-- A command changes at most two parts, a new directory's own aside.
use Rattle.std.proofs.Common.{◌≡◌, ℕ, ◌+◌, ◌≤◌, ◌&&◌, ◌||◌, not, Bool, true, false, cond, List, [], ◌∷◌, length, refl, ap, sym, ◌∙◌, subst}
use Rattle.std.proofs.Common.{arith, Option, Some, None, true≢false}
use Rattle.std.specs.Prelude.{All, sum_by, count_by}
use Rattle.std.specs.Option.{option_and_then, option_map}
use Rattle.std.proofs.lemmas.Option.{none-some, same_Some}
use Rattle.std.proofs.lemmas.List.Elements.{All-head, All-tail}
use Rattle.std.proofs.lemmas.List.Concat.{flat_map-cons}
use Rattle.std.proofs.lemmas.List.Sums.{sum_by-cons, sum_by-append, sum_by-le-sum_by, length-filter}
use Rattle.std.proofs.lemmas.Bool.{or_parts}
use Rattle.lfs_meta.specs.Name.{Name, IsName}
use Rattle.lfs_meta.specs.Attribute.{Attributes, set_attribute, remove_attribute}
use Rattle.lfs_meta.specs.Body.{Pair}
use Rattle.lfs_fs.specs.NameOrder.{NamesAreOrdered}
use Rattle.lfs_fs.specs.Path.{Path}
use Rattle.lfs_fs.specs.Pair.{same_pair}
use Rattle.lfs_fs.specs.Entry.{Body, Directory_at, Entry, target}
use Rattle.lfs_fs.specs.Directory.{Part, Directory, parts, key, begins_at, thread}
use Rattle.lfs_fs.specs.Volume.{Volume}
use Rattle.lfs_fs.specs.Tree.{entry_in, entry_at, tree}
use Rattle.lfs_fs.specs.Sound.{IsSound}
use Rattle.lfs_command.specs.ThreadEdit.{link, unlink, add_after}
use Rattle.lfs_command.specs.Command.{Mkdir, Put, Rm, Mv, SetAttr, RmAttr, Grow}
use Rattle.lfs_command.specs.Supplies.{Supplies, new_body}
use Rattle.lfs_command.specs.Parent.{split_last, parent_of}
use Rattle.lfs_command.specs.Edited.{with_body, with_entry_attributes, renamed, new_entry, empty_directory, set_attributes, make_directory}
use Rattle.lfs_command.specs.Edited.{put_file, drop_target, remove_entry, move_entry, edited}
use Rattle.lfs_command.specs.Clean.{IsClean}
use Rattle.lfs_command.specs.Need.{is_new_to, changed_parts}
use Rattle.lfs_command.specs.declared.refusal.Refusal.TheVariants.{IsRoot}
use Rattle.lfs_command.specs.Verdict.{refuse_if, walk_refusal, is_root}
use Rattle.lfs_law.specs.Laws.{FewPartsChange}
use Rattle.lfs_law.proofs.Decided.{same_pair_decides}
use Rattle.lfs_law.proofs.Found.{found_le}
use Rattle.lfs_law.proofs.AddAfter.{add_found}
use Rattle.lfs_law.proofs.ThreadEdits.{link_effect, unlink_effect}
use Rattle.lfs_law.proofs.LinksAdded.{first_used}
use Rattle.lfs_law.proofs.NamedBlocks.{new_is}
use Rattle.lfs_law.proofs.Marks.{marks, marks_link, marks_unlink, marks_change, marks_add_after, marks_drop, marks_touch_first}
use Rattle.lfs_law.proofs.EdgeEdits.{sound_is_good}
use Rattle.lfs_law.proofs.Parents.{first_passes, test_passes}
use Rattle.lfs_law.proofs.Placed.{IsPlaced, is_placed, led_directory}
use Rattle.lfs_law.proofs.MkdirFollows.{IsNewPair, none_begins}

-- ---- parents

-- where a path has a parent, one directory begins there
pub parent_once : (v : Volume) (p : Path) (h : Pair × Name) → IsSound v → parent_of v p ≡ Some h → count_by (begins_at h.0) v.directories ≡ 1
parent_once v p h sound is = split_by (split_last p) is
  where
    target_by : (s : Path × Name) (e : Entry) (o : Option Pair) → entry_at v s.0 ≡ Some e → target e ≡ o
        → option_map (λ (k : Pair). (k, s.1)) o ≡ Some h → count_by (begins_at h.0) v.directories ≡ 1
    target_by s e None here leads is' = absurd (none-some h is')
    target_by s e (Some k) here leads is' =
        subst (λ (x : Pair). count_by (begins_at x) v.directories ≡ 1) (ap (λ (x : Pair × Name). x.0) (same_Some (k, s.1) h is'))
        (led_directory v sound s.0 e k here leads)

    entry_by : (s : Path × Name) (o : Option Entry) → entry_at v s.0 ≡ o
        → option_and_then (λ e. option_map (λ (k : Pair). (k, s.1)) (target e)) o ≡ Some h → count_by (begins_at h.0) v.directories ≡ 1
    entry_by s None here is' = absurd (none-some h is')
    entry_by s (Some e) here is' = target_by s e (target e) here refl is'

    split_by : (o : Option (Path × Name)) → option_and_then (λ (s : Path × Name).
        option_and_then (λ e. option_map (λ (k : Pair). (k, s.1)) (target e)) (entry_at v s.0)) o ≡ Some h
        → count_by (begins_at h.0) v.directories ≡ 1
    split_by None is' = absurd (none-some h is')
    split_by (Some s) is' = entry_by s (entry_at v s.0) refl is'

-- ---- parts that are counted

fewer_by : (dirty new : Bool) → cond {A = ℕ} (dirty && not new) 1 0 ≤ cond {A = ℕ} dirty 1 0
fewer_by true true = omega arith
fewer_by true false = omega arith
fewer_by false new = omega arith

pub changed_are_marked : (v w : Volume) → length (changed_parts v w) ≤ marks (thread w.directories)
changed_are_marked v w =
    let few : count_by (λ p. p.dirty && not (is_new_to v p.pair)) (thread w.directories) ≤ marks (thread w.directories) =
    sum_by-le-sum_by (λ (p : Part). cond {A = ℕ} (p.dirty && not (is_new_to v p.pair)) 1 0) (λ (p : Part). cond {A = ℕ} p.dirty 1 0)
    (thread w.directories) (λ p. fewer_by p.dirty (is_new_to v p.pair)) in
    omega (arith, length-filter (λ (p : Part). p.dirty && not (is_new_to v p.pair)) (thread w.directories), few)

-- a part whose pair isn't new has another pair than a new one
other_by : (dirty new same : Bool) → (same ≡ true → new ≡ true) → cond {A = ℕ} (dirty && not new) 1 0 ≤ cond {A = ℕ} (dirty && not same) 1 0
other_by false new same h = omega arith
other_by true true same h = omega arith
other_by true false true h = absurd (true≢false (sym (h refl)))
other_by true false false h = omega arith

changed_others : (v : Volume) (pair : Pair) → is_new_to v pair ≡ true → (ps : List Part)
    → count_by (λ p. p.dirty && not (is_new_to v p.pair)) ps ≤ count_by (λ p. p.dirty && not (same_pair p.pair pair)) ps
changed_others v pair new ps =
    sum_by-le-sum_by (λ (p : Part). cond {A = ℕ} (p.dirty && not (is_new_to v p.pair)) 1 0)
    (λ (p : Part). cond {A = ℕ} (p.dirty && not (same_pair p.pair pair)) 1 0) ps
    (λ p. other_by p.dirty (is_new_to v p.pair) (same_pair p.pair pair)
    (λ same. ap (is_new_to v) ((same_pair_decides p.pair pair).0 same) ∙ new))

pub unmarked : (ps : List Part) → All (λ p. p.dirty ≡ false) ps → marks ps ≡ 0
unmarked [] clean = refl
unmarked (p ∷ ps) clean =
    omega (
      arith,
      ap (λ (t : Bool). cond {A = ℕ} t 1 0) (All-head (λ (q : Part). q.dirty ≡ false) p ps clean),
      unmarked ps (All-tail (λ (q : Part). q.dirty ≡ false) p ps clean),
      sum_by-cons (λ (q : Part). cond {A = ℕ} q.dirty 1 0) p ps,
    )

-- the number of parts of a kind, by directories
pub count_thread : (f : Part → Bool) (ds : List Directory) → count_by f (thread ds) ≡ sum_by (λ d. count_by f (parts d)) ds
count_thread f [] = refl
count_thread f (d ∷ ds) =
    omega (
      arith,
      ap (count_by f) (flat_map-cons parts d ds),
      sum_by-append (λ (p : Part). cond {A = ℕ} (f p) 1 0) (parts d) (thread ds),
      count_thread f ds,
      sum_by-cons (λ (e : Directory). count_by f (parts e)) d ds,
    )

split_by : (dirty new : Bool) → cond {A = ℕ} (dirty && not new) 1 0 + cond {A = ℕ} (dirty && new) 1 0 ≡ cond {A = ℕ} dirty 1 0
split_by true true = refl
split_by true false = refl
split_by false new = refl

count_splits : (pair : Pair) (ps : List Part) → count_by (λ p. p.dirty && not (same_pair p.pair pair)) ps
    + count_by (λ p. p.dirty && same_pair p.pair pair) ps ≡ marks ps
count_splits pair [] = refl
count_splits pair (p ∷ ps) =
    omega (
      arith,
      split_by p.dirty (same_pair p.pair pair),
      count_splits pair ps,
      sum_by-cons (λ (q : Part). cond {A = ℕ} (q.dirty && not (same_pair q.pair pair)) 1 0) p ps,
      sum_by-cons (λ (q : Part). cond {A = ℕ} (q.dirty && same_pair q.pair pair) 1 0) p ps,
      sum_by-cons (λ (q : Part). cond {A = ℕ} q.dirty 1 0) p ps,
    )

-- ---- the commands

pub set_few : (v : Volume) (p : Path) (f : Attributes → Attributes) → NamesAreOrdered → IsSound v → IsClean v → (h : Option (Pair × Name))
    → parent_of v p ≡ h → marks (thread (set_attributes v f h).directories) ≤ 2
set_few v p f ordered sound clean None is = omega (arith, marks_touch_first v.directories, unmarked (thread v.directories) clean)
set_few v p f ordered sound clean (Some h) is =
    omega (
      arith,
      marks_change v.limits h.0 h.1 (with_entry_attributes f) v.directories ordered (sound_is_good v sound)
          (parent_once v p h sound is),
      unmarked (thread v.directories) clean,
    )

pub put_few : (v : Volume) (p : Path) (body : Body) → NamesAreOrdered → IsSound v → IsClean v
    → (h : Option (Pair × Name)) (old : Option Entry) → parent_of v p ≡ h → marks (thread (put_file v body h old).directories) ≤ 2
put_few v p body ordered sound clean None old is = omega (arith, unmarked (thread v.directories) clean)
put_few v p body ordered sound clean (Some h) None is = omega (
  arith,
  marks_link h.0 (new_entry h.1 body) v.directories (parent_once v p h sound is),
  unmarked (thread v.directories) clean,
)
put_few v p body ordered sound clean (Some h) (Some e) is =
    omega (
      arith,
      marks_change v.limits h.0 h.1 (with_body body) v.directories ordered (sound_is_good v sound) (parent_once v p h sound is),
      unmarked (thread v.directories) clean,
    )

drop_few : (k : Option Pair) (ds : List Directory) → marks (thread ds) ≤ 1 → marks (thread (drop_target k ds)) ≤ 2
drop_few None ds few = omega (arith, few)
drop_few (Some j) ds few = omega (arith, few, marks_drop j ds)

pub remove_few : (v : Volume) (p : Path) → NamesAreOrdered → IsSound v → IsClean v → (h : Option (Pair × Name)) (old : Option Entry)
    → parent_of v p ≡ h → marks (thread (remove_entry v h old).directories) ≤ 2
remove_few v p ordered sound clean None old is = omega (arith, unmarked (thread v.directories) clean)
remove_few v p ordered sound clean (Some h) None is = omega (arith, unmarked (thread v.directories) clean)
remove_few v p ordered sound clean (Some h) (Some e) is =
    drop_few (target e) (unlink h.0 h.1 v.directories)
    (omega (
      arith,
      marks_unlink v.limits h.0 h.1 v.directories ordered (sound_is_good v sound) (parent_once v p h sound is),
      unmarked (thread v.directories) clean,
    ))

pub move_few : (v : Volume) (p q : Path) → NamesAreOrdered → IsSound v → IsClean v → (from to : Option (Pair × Name)) (old : Option Entry)
    → parent_of v p ≡ from → parent_of v q ≡ to → entry_at v p ≡ old
    → ((h : Pair × Name) (e : Entry) → parent_of v p ≡ Some h → entry_at v p ≡ Some e → entry_in v.directories h.0 h.1 ≡ Some e)
    → marks (thread (move_entry v from to old).directories) ≤ 2
move_few v p q ordered sound clean None to old is goes here there = omega (arith, unmarked (thread v.directories) clean)
move_few v p q ordered sound clean (Some h) None old is goes here there = omega (arith, unmarked (thread v.directories) clean)
move_few v p q ordered sound clean (Some h) (Some g) None is goes here there = omega (arith, unmarked (thread v.directories) clean)
move_few v p q ordered sound clean (Some h) (Some g) (Some e) is goes here there =
    let ds : List Directory = unlink h.0 h.1 v.directories in
    let once : count_by (begins_at g.0) ds ≡ 1 = omega (
      arith,
      parent_once v q g sound goes,
      (unlink_effect v.limits h.0 h.1 e v.directories ordered (sound_is_good v sound) (parent_once v p h sound is)
          (there h e is here)).directories g.0,
    ) in
    omega (
      arith,
      marks_unlink v.limits h.0 h.1 v.directories ordered (sound_is_good v sound) (parent_once v p h sound is),
      unmarked (thread v.directories) clean,
      marks_link g.0 (renamed g.1 e) ds once,
    )

new_part : (pair : Pair) → count_by (λ p. p.dirty && same_pair p.pair pair) (parts (empty_directory pair)) ≡ 1
new_part pair = rw ((same_pair_decides pair pair).1 refl) refl

make_few : (v : Volume) (p : Path) (s : Supplies) → IsSound v → IsClean v → IsNewPair v s.pair → (h : Option (Pair × Name))
    → parent_of v p ≡ h → length (changed_parts v (make_directory v s.pair h)) ≤ 2
make_few v p s sound clean new None is = omega (arith, changed_are_marked v v, unmarked (thread v.directories) clean)
make_few v p s sound clean new (Some h) is =
    let d : Directory = empty_directory s.pair in
    let e : Entry = new_entry h.1 (Directory_at s.pair) in
    let linked : List Directory = link h.0 e v.directories in
    let ds : List Directory = add_after h.0 d linked in
    let once = parent_once v p h sound is in
    let effect = link_effect h.0 e v.directories once in
    let found = add_found h.0 d linked (omega (arith, once, effect.directories h.0))
    (omega (arith, none_begins v s.pair new, effect.directories (key d))) in
    let there : count_by (λ q. q.dirty && same_pair q.pair s.pair) (parts d)
    ≤ sum_by (λ x. count_by (λ q. q.dirty && same_pair q.pair s.pair) (parts x)) ds =
    found_le (λ (x : Directory). count_by (λ q. q.dirty && same_pair q.pair s.pair) (parts x)) (begins_at (key d)) ds d found in
    omega (
      arith,
      length-filter (λ (q : Part). q.dirty && not (is_new_to v q.pair)) (thread ds),
      changed_others v s.pair (new_is v s.pair (omega (arith, new.once s.pair.0, first_used s.pair))) (thread ds),
      count_splits s.pair (thread ds),
      there,
      new_part s.pair,
      count_thread (λ q. q.dirty && same_pair q.pair s.pair) ds,
      marks_add_after h.0 d linked,
      marks_link h.0 e v.directories once,
      unmarked (thread v.directories) clean,
      one_mark s.pair,
    )
  where
    one_mark : (pair : Pair) → marks (parts (empty_directory pair)) ≡ 1
    one_mark pair = refl

-- the entry at a path is the one under its last name in the parent
pub at_parent : (v : Volume) (p : Path) → IsPlaced v p → (h : Pair × Name) (e : Entry) → parent_of v p ≡ Some h → entry_at v p ≡ Some e
    → entry_in v.directories h.0 h.1 ≡ Some e
at_parent v p at h e is here =
    let same : (at.parent.pair, at.parent.name) ≡ h = same_Some (at.parent.pair, at.parent.name) h (sym at.parent.parent ∙ is) in
    subst (λ (x : Pair × Name). entry_in v.directories x.0 x.1 ≡ Some e) same (sym at.edge ∙ here)

pub few_parts_change : NamesAreOrdered → FewPartsChange
few_parts_change ordered v (Mkdir p) s ok clean = make_few v p s ok.sound clean (record { once = ok.free.once; within = ok.free.within })
    (parent_of v p) refl
few_parts_change ordered v (Put p bytes most) s ok clean =
    omega (
      arith,
      changed_are_marked v (edited v (Put p bytes most) s),
      put_few v p (new_body v s bytes most) ordered ok.sound clean (parent_of v p)
          (entry_at v p) refl,
    )
few_parts_change ordered v (Rm p) s ok clean = omega (
  arith,
  changed_are_marked v (edited v (Rm p) s),
  remove_few v p ordered ok.sound clean (parent_of v p) (entry_at v p) refl,
)
few_parts_change ordered v (Mv p q) s ok clean =
    let below = first_passes (refuse_if (is_root p || is_root q) IsRoot) _ ok.unrefused in
    let walk = first_passes (walk_refusal (tree v) [] p) _ below.1 in
    let roots = or_parts (is_root p) (is_root q) (test_passes (is_root p || is_root q) IsRoot below.0) in
    let at = is_placed v p ok.sound (All-head (All IsName) p (q ∷ []) ok.names) roots.0 walk.0 in
    omega (
      arith,
      changed_are_marked v (edited v (Mv p q) s),
      move_few v p q ordered ok.sound clean (parent_of v p) (parent_of v q)
          (entry_at v p) refl refl refl (at_parent v p at),
    )
few_parts_change ordered v (SetAttr p k value) s ok clean =
    omega (
      arith,
      changed_are_marked v (edited v (SetAttr p k value) s),
      set_few v p (set_attribute k value) ordered ok.sound clean (parent_of v p) refl,
    )
few_parts_change ordered v (RmAttr p k) s ok clean =
    omega (
      arith,
      changed_are_marked v (edited v (RmAttr p k) s),
      set_few v p (remove_attribute k) ordered ok.sound clean
          (parent_of v p) refl,
    )
few_parts_change ordered v (Grow n) s ok clean =
    omega (
      arith,
      changed_are_marked v (edited v (Grow n) s),
      marks_touch_first v.directories,
      unmarked (thread v.directories) clean,
    )
