-- Every accepted command follows its equation.
use Rattle.std.proofs.Common.{◌≡◌, ℕ, ◌+◌, ◌<◌, ◌≤◌, nat_lt, nat_le, ◌&&◌, ◌||◌, not, Bool, true, false, List, [], ◌∷◌, refl, ap, sym, ◌∙◌}
use Rattle.std.proofs.Common.{subst, arith, length, Option, Some, None}
use Rattle.std.specs.Prelude.{All, is_some, is_none, if◌then◌else◌}
use Rattle.std.specs.Option.{option_map, option_and_then, unwrap_or}
use Rattle.std.proofs.lemmas.List.Elements.{All-head, All-tail}
use Rattle.std.proofs.lemmas.Bool.{or_parts, ltb-false}
use Rattle.lfs_meta.specs.Name.{IsName}
use Rattle.lfs_meta.specs.Attribute.{Attributes, set_attribute, remove_attribute}
use Rattle.lfs_fs.specs.NameOrder.{NamesAreOrdered}
use Rattle.lfs_fs.specs.Path.{Path}
use Rattle.lfs_fs.specs.Entry.{Body, Inline, Chain, Directory_at, Entry, body_target, target}
use Rattle.lfs_fs.specs.Volume.{Volume}
use Rattle.lfs_fs.specs.Tree.{Node, File, Dir, entry_at, node, node_of, tree}
use Rattle.lfs_fs.specs.Uses.{times, body_uses, entry_uses, uses}
use Rattle.lfs_fs.specs.Sound.{IsSound}
use Rattle.lfs_command.specs.declared.refusal.Refusal.TheVariants.{NotFound, Exists, IsADirectory, NotEmpty, NameTooLong, FileTooLarge}
use Rattle.lfs_command.specs.declared.refusal.Refusal.TheVariants.{AttrTooLarge, IntoItself, IsRoot}
use Rattle.lfs_command.specs.PathMap.{put_at_path}
use Rattle.lfs_command.specs.Command.{Command, Mkdir, Put, Rm, Mv, SetAttr, RmAttr, Grow}
use Rattle.lfs_command.specs.Growth.{count_after}
use Rattle.lfs_command.specs.Equation.{equation, attributes_of, attributes_at, with_attributes}
use Rattle.lfs_command.specs.Supplies.{Supplies, AreFree, supply_uses, inline_limit, new_body}
use Rattle.lfs_command.specs.Parent.{parent_of}
use Rattle.lfs_command.specs.Edited.{edited, put_file, remove_entry, move_entry, set_attributes}
use Rattle.lfs_command.specs.Verdict.{refuse_if, walk_refusal, is_directory, is_root, last_length, is_bare, lies_below}
use Rattle.lfs_command.specs.Accepted.{IsAccepted}
use Rattle.lfs_command.specs.Freed.{content_uses, emptied_uses, freed_uses}
use Rattle.lfs_law.specs.Laws.{CommandsFollow}
use Rattle.lfs_law.proofs.AttributeLemmas.{set_good, remove_good}
use Rattle.lfs_law.proofs.GrowFollows.{grow_follows}
use Rattle.lfs_law.proofs.Parents.{first_passes, test_passes, not_false}
use Rattle.lfs_law.proofs.Carries.{Carries}
use Rattle.lfs_law.proofs.EdgeEdits.{Puts}
use Rattle.lfs_law.proofs.Placed.{IsPlaced, is_placed}
use Rattle.lfs_law.proofs.SetFollows.{KeepsGood, root_set_follows, entry_set_follows}
use Rattle.lfs_law.proofs.PutFollows.{IsNewBody, new_file_follows, old_file_follows}
use Rattle.lfs_law.proofs.MkdirFollows.{mkdir_follows}
use Rattle.lfs_law.proofs.RmFollows.{target_uses_of, gone_of, rm_follows}
use Rattle.lfs_law.proofs.MvFollows.{Moves, mv_follows}

-- ---- what is there

-- something is there
pub is_there : (v : Volume) (p : Path) → is_none (tree v p) ≡ false → (e : Entry) × (entry_at v p ≡ Some e)
is_there v p h = by (entry_at v p) refl h
  where
    by : (o : Option Entry) → entry_at v p ≡ o → is_none (option_map node o) ≡ false → (e : Entry) × (entry_at v p ≡ Some e)
    by None is there = cc
    by (Some e) is there = (e, is)

-- nothing is there
is_free : (v : Volume) (p : Path) → is_some (tree v p) ≡ false → entry_at v p ≡ None
is_free v p h = by (entry_at v p) refl h
  where
    by : (o : Option Entry) → entry_at v p ≡ o → is_some (option_map node o) ≡ false → entry_at v p ≡ None
    by None is free = is
    by (Some e) is free = cc

puts_carry : (v : Volume) (c : Command) (s : Supplies) (p : Path) (x : Option Node) (gone came : ℕ → ℕ)
    → count_after c v.count ≡ v.count
    → ((q : Path) → equation c (tree v) q ≡ put_at_path p x (tree v) q)
    → ((b : ℕ) → freed_uses v c b ≡ gone b) → ((b : ℕ) → supply_uses v c s b ≡ came b) → Puts v (edited v c s) p x gone came → Carries v c s
puts_carry v c s p x gone came stays same freed taken puts = record {
  follows = record {
    sound = puts.sound;
    at = λ q. puts.at q ∙ sym (same q);
    size = puts.frame.size;
    count = puts.frame.count ∙ sym stays;
    limits = puts.frame.limits;
  };
  uses = λ b. omega (arith, puts.uses b, freed b, taken b);
}

-- ---- attributes

attributes_set : (v : Volume) (p : Path) (f : Attributes → Attributes) → NamesAreOrdered → IsSound v → All IsName p → KeepsGood f v
    → walk_refusal (tree v) [] p ≡ None → is_none (tree v p) ≡ false
    → Puts v (set_attributes v f (parent_of v p)) p (option_map (with_attributes f) (tree v p)) (λ b. 0) (λ b. 0)
attributes_set v [] f ordered sound names keeps walk there = root_set_follows v f sound keeps
attributes_set v (n ∷ ns) f ordered sound names keeps walk there =
    let e = is_there v (n ∷ ns) there in
    entry_set_follows v f (n ∷ ns) e.0 ordered sound keeps (is_placed v (n ∷ ns) sound names refl walk) e.1

set_follows : (v : Volume) (p : Path) (k : ℕ) (value : List ℕ) (s : Supplies) → NamesAreOrdered → IsAccepted v (SetAttr p k value) s
    → Carries v (SetAttr p k value) s
set_follows v p k value s ordered ok =
    let walk = first_passes (walk_refusal (tree v) [] p) _ ok.unrefused in
    let there = first_passes (refuse_if (is_none (tree v p)) NotFound) _ walk.1 in
    let small = first_passes (refuse_if (nat_lt v.limits.attribute (length value)) AttrTooLarge) _ there.1 in
    puts_carry v (SetAttr p k value) s p (option_map (with_attributes (set_attribute k value)) (tree v p)) (λ b. 0) (λ b. 0) refl (λ q. refl)
    (λ b. refl) (λ b. refl)
    (attributes_set v p (set_attribute k value) ordered ok.sound (All-head (All IsName) p [] ok.names)
    (λ a good. set_good v.limits.attribute k value a (ltb-false v.limits.attribute (length value)
    (test_passes (nat_lt v.limits.attribute (length value)) AttrTooLarge small.0)) good)
    walk.0 (test_passes (is_none (tree v p)) NotFound there.0))

remove_follows : (v : Volume) (p : Path) (k : ℕ) (s : Supplies) → NamesAreOrdered → IsAccepted v (RmAttr p k) s → Carries v (RmAttr p k) s
remove_follows v p k s ordered ok =
    let walk = first_passes (walk_refusal (tree v) [] p) _ ok.unrefused in
    let there = first_passes (refuse_if (is_none (tree v p)) NotFound) _ walk.1 in
    puts_carry v (RmAttr p k) s p (option_map (with_attributes (remove_attribute k)) (tree v p)) (λ b. 0) (λ b. 0) refl (λ q. refl) (λ b. refl)
    (λ b. refl)
    (attributes_set v p (remove_attribute k) ordered ok.sound (All-head (All IsName) p [] ok.names)
    (λ a good. remove_good v.limits.attribute k a good)
    walk.0 (test_passes (is_none (tree v p)) NotFound there.0))

-- ---- directories made

made_follows : (v : Volume) (p : Path) (s : Supplies) → NamesAreOrdered → IsAccepted v (Mkdir p) s → Carries v (Mkdir p) s
made_follows v p s ordered ok =
    let below = first_passes (refuse_if (is_root p) IsRoot) _ ok.unrefused in
    let walk = first_passes (walk_refusal (tree v) [] p) _ below.1 in
    let new = first_passes (refuse_if (is_some (tree v p)) Exists) _ walk.1 in
    let short = first_passes (refuse_if (nat_lt v.limits.name (last_length p)) NameTooLong) _ new.1 in
    let at = is_placed v p ok.sound (All-head (All IsName) p [] ok.names) (test_passes (is_root p) IsRoot below.0) walk.0 in
    puts_carry v (Mkdir p) s p (Some (Dir [])) (λ b. 0) (λ b. times b (s.pair.0 ∷ s.pair.1 ∷ [])) refl (λ q. refl) (λ b. refl) (λ b. refl)
    (mkdir_follows v p s.pair ordered ok.sound at (is_free v p (test_passes (is_some (tree v p)) Exists new.0))
    (ltb-false v.limits.name (length at.parent.name) (ap (nat_lt v.limits.name) (sym at.parent.len)
    ∙ test_passes (nat_lt v.limits.name (last_length p)) NameTooLong short.0))
    (record { once = ok.free.once; within = ok.free.within }))

-- ---- files put

body_by : (v : Volume) (p : Path) (bytes : List ℕ) (most : ℕ) (s : Supplies) → AreFree v (Put p bytes most) s → length bytes ≤ v.limits.file → (t : Bool)
    → nat_le (length bytes) (inline_limit v.size most) ≡ t → IsNewBody v (if t then Inline bytes else Chain s.blocks bytes) bytes
body_by v p bytes most s free small true is = record {
  leads = refl;
  shows = λ a. refl;
  len = small;
  once = λ b. subst (λ (t : Bool). uses b v + body_uses b (if t then Inline bytes else Chain s.blocks bytes) ≤ 1) is (free.once b);
  within = λ b used. free.within b (subst (λ (t : Bool). 0 < body_uses b (if t then Inline bytes else Chain s.blocks bytes)) (sym is) used);
}
body_by v p bytes most s free small false is = record {
  leads = refl;
  shows = λ a. refl;
  len = small;
  once = λ b. subst (λ (t : Bool). uses b v + body_uses b (if t then Inline bytes else Chain s.blocks bytes) ≤ 1) is (free.once b);
  within = λ b used. free.within b (subst (λ (t : Bool). 0 < body_uses b (if t then Inline bytes else Chain s.blocks bytes)) (sym is) used);
}

new_body_free : (v : Volume) (p : Path) (bytes : List ℕ) (most : ℕ) (s : Supplies) → AreFree v (Put p bytes most) s → length bytes ≤ v.limits.file
    → IsNewBody v (new_body v s bytes most) bytes
new_body_free v p bytes most s free small = body_by v p bytes most s free small (nat_le (length bytes) (inline_limit v.size most)) refl

file_leads : (b : Body) (a : Attributes) → is_directory (Some (node_of b a)) ≡ false → body_target b ≡ None
file_leads (Inline bytes) a h = refl
file_leads (Chain blocks bytes) a h = refl
file_leads (Directory_at pair) a h = cc

attributes_shown : (b : Body) (a : Attributes) → attributes_of (node_of b a) ≡ a
attributes_shown (Inline bytes) a = refl
attributes_shown (Chain blocks bytes) a = refl
attributes_shown (Directory_at pair) a = refl

put_by : (v : Volume) (p : Path) (bytes : List ℕ) (body : Body) → NamesAreOrdered → IsSound v → (at : IsPlaced v p) → IsNewBody v body bytes
    → (o : Option Entry) → entry_at v p ≡ o
    → is_directory (option_map node o) ≡ false → (is_none (option_map node o) && nat_lt v.limits.name (last_length p)) ≡ false
    → Puts v (put_file v body (parent_of v p) o) p (Some (File bytes (attributes_at (option_map node o))))
    (λ b. unwrap_or (option_map (entry_uses b) o) 0) (λ b. body_uses b body)
put_by v p bytes body ordered sound at new None is file short =
    new_file_follows v p body bytes ordered sound at is (ltb-false v.limits.name (length at.parent.name)
    (ap (nat_lt v.limits.name) (sym at.parent.len) ∙ short)) new
put_by v p bytes body ordered sound at new (Some e) is file short =
    subst (λ (a : Attributes). Puts v (put_file v body (parent_of v p) (Some e)) p (Some (File bytes a)) (λ b. entry_uses b e)
    (λ b. body_uses b body)) (sym (attributes_shown e.body e.attributes))
    (old_file_follows v p body bytes e ordered sound at is (file_leads e.body e.attributes file) new)

put_follows : (v : Volume) (p : Path) (bytes : List ℕ) (most : ℕ) (s : Supplies) → NamesAreOrdered → IsAccepted v (Put p bytes most) s
    → Carries v (Put p bytes most) s
put_follows v p bytes most s ordered ok =
    let below = first_passes (refuse_if (is_root p) IsRoot) _ ok.unrefused in
    let walk = first_passes (walk_refusal (tree v) [] p) _ below.1 in
    let file = first_passes (refuse_if (is_directory (tree v p)) IsADirectory) _ walk.1 in
    let short = first_passes (refuse_if (is_none (tree v p) && nat_lt v.limits.name (last_length p)) NameTooLong) _ file.1 in
    let small = first_passes (refuse_if (nat_lt v.limits.file (length bytes)) FileTooLarge) _ short.1 in
    let at = is_placed v p ok.sound (All-head (All IsName) p [] ok.names) (test_passes (is_root p) IsRoot below.0) walk.0 in
    puts_carry v (Put p bytes most) s p (Some (File bytes (attributes_at (tree v p)))) (λ b. content_uses v p b)
    (λ b. body_uses b (new_body v s bytes most)) refl (λ q. refl) (λ b. refl) (λ b. refl)
    (put_by v p bytes (new_body v s bytes most) ordered ok.sound at
    (new_body_free v p bytes most s ok.free (ltb-false v.limits.file (length bytes)
    (test_passes (nat_lt v.limits.file (length bytes)) FileTooLarge small.0)))
    (entry_at v p) refl (test_passes (is_directory (tree v p)) IsADirectory file.0)
    (test_passes (is_none (tree v p) && nat_lt v.limits.name (last_length p)) NameTooLong short.0))

-- ---- what is removed

removed_follows : (v : Volume) (p : Path) (s : Supplies) → NamesAreOrdered → IsAccepted v (Rm p) s → Carries v (Rm p) s
removed_follows v p s ordered ok =
    let below = first_passes (refuse_if (is_root p) IsRoot) _ ok.unrefused in
    let walk = first_passes (walk_refusal (tree v) [] p) _ below.1 in
    let there = first_passes (refuse_if (is_none (tree v p)) NotFound) _ walk.1 in
    let bare = first_passes (refuse_if (not (is_bare v (option_and_then target (entry_at v p)))) NotEmpty) _ there.1 in
    let at = is_placed v p ok.sound (All-head (All IsName) p [] ok.names) (test_passes (is_root p) IsRoot below.0) walk.0 in
    let e = is_there v p (test_passes (is_none (tree v p)) NotFound there.0) in
    let empty : is_bare v (option_and_then target (entry_at v p)) ≡ true =
    not_false (is_bare v (option_and_then target (entry_at v p))) (test_passes
    (not (is_bare v (option_and_then target (entry_at v p)))) NotEmpty bare.0) in
    puts_carry v (Rm p) s p None (gone_of v p e.0) (λ b. 0) refl (λ q. refl)
    (λ b. ap (λ (o : Option Entry). unwrap_or (option_map (entry_uses b) o) 0 + target_uses_of v (option_and_then target o) b
    + emptied_uses v p b) e.1)
    (λ b. refl)
    (subst (λ (o : Option Entry). Puts v (remove_entry v (parent_of v p) o) p None (gone_of v p e.0) (λ b. 0)) (sym e.1)
    (rm_follows v p e.0 ordered ok.sound at e.1 (ap (λ (o : Option Entry). is_bare v (option_and_then target o)) (sym e.1) ∙ empty)))

-- ---- what is moved

moved_follows : (v : Volume) (p q : Path) (s : Supplies) → NamesAreOrdered → IsAccepted v (Mv p q) s → Carries v (Mv p q) s
moved_follows v p q s ordered ok =
    let below = first_passes (refuse_if (is_root p || is_root q) IsRoot) _ ok.unrefused in
    let from_walk = first_passes (walk_refusal (tree v) [] p) _ below.1 in
    let there = first_passes (refuse_if (is_none (tree v p)) NotFound) _ from_walk.1 in
    let off = first_passes (refuse_if (lies_below p q) IntoItself) _ there.1 in
    let to_walk = first_passes (walk_refusal (tree v) [] q) _ off.1 in
    let new = first_passes (refuse_if (is_some (tree v q)) Exists) _ to_walk.1 in
    let short = first_passes (refuse_if (nat_lt v.limits.name (last_length q)) NameTooLong) _ new.1 in
    let roots = or_parts (is_root p) (is_root q) (test_passes (is_root p || is_root q) IsRoot below.0) in
    let from = is_placed v p ok.sound (All-head (All IsName) p (q ∷ []) ok.names) roots.0 from_walk.0 in
    let to = is_placed v q ok.sound (All-head (All IsName) q [] (All-tail (All IsName) p (q ∷ []) ok.names)) roots.1 to_walk.0 in
    let e = is_there v p (test_passes (is_none (tree v p)) NotFound there.0) in
    let moves : Moves v (edited v (Mv p q) s) p q =
    subst (λ (o : Option Entry). Moves v (move_entry v (parent_of v p) (parent_of v q) o) p q) (sym e.1)
    (mv_follows v p q e.0 ordered ok.sound from to e.1 (is_free v q (test_passes (is_some (tree v q)) Exists new.0))
    (test_passes (lies_below p q) IntoItself off.0)
    (ltb-false v.limits.name (length to.parent.name) (ap (nat_lt v.limits.name) (sym to.parent.len)
    ∙ test_passes (nat_lt v.limits.name (last_length q)) NameTooLong short.0))) in
    record {
      follows = record {
        sound = moves.sound;
        at = moves.at;
        size = moves.frame.size;
        count = moves.frame.count;
        limits = moves.frame.limits;
      };
      uses = λ b. omega (arith, moves.uses b);
    }

-- ---- all commands

pub commands_carry : NamesAreOrdered → (v : Volume) (c : Command) (s : Supplies) → IsAccepted v c s → Carries v c s
commands_carry ordered v (Mkdir p) s ok = made_follows v p s ordered ok
commands_carry ordered v (Put p bytes most) s ok = put_follows v p bytes most s ordered ok
commands_carry ordered v (Rm p) s ok = removed_follows v p s ordered ok
commands_carry ordered v (Mv p q) s ok = moved_follows v p q s ordered ok
commands_carry ordered v (SetAttr p k value) s ok = set_follows v p k value s ordered ok
commands_carry ordered v (RmAttr p k) s ok = remove_follows v p k s ordered ok
commands_carry ordered v (Grow n) s ok = grow_follows v n s ok

pub commands_follow : NamesAreOrdered → CommandsFollow
commands_follow ordered v c s ok = (commands_carry ordered v c s ok).follows
