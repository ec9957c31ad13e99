-- Whether some entry is too large doesn't depend on what a command gets.
use Rattle.std.proofs.Common.{◌≡◌, ℕ, nat_lt, Bool, true, false, List, [], ◌∷◌, refl, ap, sym, ◌∙◌, arith, map, Option, Some, None}
use Rattle.std.specs.Prelude.{◌&&◌, ◌||◌, if◌then◌else◌}
use Rattle.std.specs.List.{filter, list_any}
use Rattle.std.proofs.lemmas.List.{map-append}
use Rattle.std.proofs.lemmas.List.Folds.{list_any-append}
use Rattle.lfs_meta.specs.Name.{Name}
use Rattle.lfs_meta.specs.Body.{Pair}
use Rattle.lfs_fs.specs.Pair.{root, same_pair}
use Rattle.lfs_fs.specs.Entry.{Body, Directory_at, Entry}
use Rattle.lfs_fs.specs.Weight.{body_weight, weight, superblock_weight}
use Rattle.lfs_fs.specs.Directory.{Part, Directory, parts, begins_at, thread}
use Rattle.lfs_fs.specs.Volume.{Volume}
use Rattle.lfs_fs.specs.Tree.{entry_at}
use Rattle.lfs_command.specs.DirectoryEdit.{link_in, change_in, touch_last}
use Rattle.lfs_command.specs.ThreadEdit.{link, change, add_after}
use Rattle.lfs_command.specs.Command.{Mkdir, Put, Rm, Mv, SetAttr, RmAttr, Grow}
use Rattle.lfs_command.specs.Supplies.{nothing, new_body}
use Rattle.lfs_command.specs.Parent.{parent_of}
use Rattle.lfs_command.specs.Edited.{with_directories, with_body, new_entry, empty_directory, make_directory, put_file}
use Rattle.lfs_command.specs.Cut.{room, is_first}
use Rattle.lfs_command.specs.Verdict.{is_too_large}
use Rattle.lfs_law.specs.OutlineCarried.{has_too_large, LargeIsTheSame}
use Rattle.lfs_law.proofs.Needs.{Shadow, shadow, shadows, link_shadows, change_shadows, in_shadows, last_by_shadows, begins_by_shadows}
use Rattle.lfs_law.proofs.Needs.{heads_same, put_body}
use Rattle.lfs_law.proofs.OutlineRoom.{any_over}

-- ---- by what decides how a part is cut

abbrev large_shadow : Volume → Shadow → Bool
large_shadow v s = s.2 && ((same_pair s.0 root && nat_lt (room v) (superblock_weight v.attributes))
    || list_any (λ w. nat_lt (room v) w) s.1)

large_by : (v : Volume) (p : Part) → large_shadow v (shadow p) ≡ (p.dirty && is_too_large v p)
large_by v p =
    ap (λ (t : Bool). p.dirty && ((is_first p && nat_lt (room v) (superblock_weight v.attributes)) || t))
    (any_over (λ (e : Entry). nat_lt (room v) (weight e)) (λ (w : ℕ). nat_lt (room v) w) weight (λ e. refl) p.entries)

pub any_set : (f : Part → Bool) (ps : List Part) → list_any f (filter (λ p. p.dirty) ps) ≡ list_any (λ p. p.dirty && f p) ps
any_set f [] = refl
any_set f (p ∷ ps) = by p.dirty (any_set f ps)
  where
    by : (t : Bool) → list_any f (filter (λ q. q.dirty) ps) ≡ list_any (λ q. q.dirty && f q) ps
        → list_any f (if t then p ∷ filter (λ q. q.dirty) ps else filter (λ q. q.dirty) ps)
        ≡ ((t && f p) || list_any (λ q. q.dirty && f q) ps)
    by true rest = ap (λ (t : Bool). f p || t) rest
    by false rest = rest

-- in some directory
abbrev any_large : Volume → List (List Shadow) → Bool
any_large v sss = list_any (λ ss. list_any (large_shadow v) ss) sss

thread_large : (v : Volume) (ds : List Directory) → list_any (large_shadow v) (map shadow (thread ds)) ≡ any_large v (map shadows ds)
thread_large v [] = refl
thread_large v (d ∷ ds) =
    ap (list_any (large_shadow v)) (map-append shadow (parts d) (thread ds))
    ∙ list_any-append (large_shadow v) (shadows d) (map shadow (thread ds))
    ∙ ap (λ (t : Bool). list_any (large_shadow v) (shadows d) || t) (thread_large v ds)

large_all : (v : Volume) (ds : List Directory) → has_too_large (with_directories v ds) ≡ any_large v (map shadows ds)
large_all v ds =
    any_set (is_too_large (with_directories v ds)) (thread ds)
    ∙ sym (any_over (λ (p : Part). p.dirty && is_too_large v p) (large_shadow v) shadow (large_by v) (thread ds))
    ∙ thread_large v ds

-- ---- the commands

alike : (v : Volume) (ds es : List Directory) → any_large v (map shadows ds) ≡ any_large v (map shadows es)
    → has_too_large (with_directories v ds) ≡ has_too_large (with_directories v es)
alike v ds es same = large_all v ds ∙ same ∙ sym (large_all v es)

weighs_same : (n : Name) (b c : Body) → body_weight b ≡ body_weight c → weight (new_entry n b) ≡ weight (new_entry n c)
weighs_same n b c same = omega (arith, same)

body_weighs : (b c : Body) → body_weight b ≡ body_weight c → (e : Entry) → weight (with_body b e) ≡ weight (with_body c e)
body_weighs b c same e = omega (arith, same)

put_large : (v : Volume) (b c : Body) → body_weight b ≡ body_weight c → (h : Option (Pair × Name)) (old : Option Entry)
    → has_too_large (put_file v b h old) ≡ has_too_large (put_file v c h old)
put_large v b c same None old = refl
put_large v b c same (Some h) None =
    alike v (link h.0 (new_entry h.1 b) v.directories) (link h.0 (new_entry h.1 c) v.directories)
    (ap (any_large v) (in_shadows h.0 (link_in (new_entry h.1 b)) (link_in (new_entry h.1 c))
    (λ d. link_shadows (new_entry h.1 b) (new_entry h.1 c) (record { name = refl; weight' = weighs_same h.1 b c same }) d.first d.more)
    v.directories))
put_large v b c same (Some h) (Some e) =
    alike v (change h.0 h.1 (with_body b) v.directories) (change h.0 h.1 (with_body c) v.directories)
    (ap (any_large v) (in_shadows h.0 (change_in h.1 (with_body b)) (change_in h.1 (with_body c))
    (change_shadows h.1 (with_body b) (with_body c) (λ x. body_weighs b c same x)) v.directories))

both_or : (a b c d : Bool) → a ≡ b → c ≡ d → (a || c) ≡ (b || d)
both_or a b c d h k = ap (λ (t : Bool). t || c) h ∙ ap (λ (t : Bool). b || t) k

added_by : (v : Volume) (k : Pair) (new other d e : Directory) (ds es : List Directory) (t : Bool)
    → list_any (large_shadow v) (shadows new) ≡ list_any (large_shadow v) (shadows other) → shadows d ≡ shadows e
    → map shadows ds ≡ map shadows es
    → any_large v (map shadows (add_after k new ds)) ≡ any_large v (map shadows (add_after k other es))
    → any_large v (map shadows (if t then touch_last d ∷ new ∷ ds else d ∷ add_after k new ds))
    ≡ any_large v (map shadows (if t then touch_last e ∷ other ∷ es else e ∷ add_after k other es))
added_by v k new other d e ds es true bare same rest added =
    both_or (list_any (large_shadow v) (shadows (touch_last d))) (list_any (large_shadow v) (shadows (touch_last e)))
    (any_large v (shadows new ∷ map shadows ds))
    (any_large v (shadows other ∷ map shadows es))
    (ap (list_any (large_shadow v)) (last_by_shadows d e same))
    (both_or (list_any (large_shadow v) (shadows new)) (list_any (large_shadow v) (shadows other)) (any_large v (map shadows ds))
    (any_large v (map shadows es)) bare (ap (any_large v) rest))
added_by v k new other d e ds es false bare same rest added =
    both_or (list_any (large_shadow v) (shadows d)) (list_any (large_shadow v) (shadows e)) (any_large v (map shadows (add_after k new ds)))
    (any_large v (map shadows (add_after k other es)))
    (ap (list_any (large_shadow v)) same) added

added_large : (v : Volume) (k : Pair) (new other : Directory) → list_any (large_shadow v) (shadows new)
    ≡ list_any (large_shadow v) (shadows other) → (ds es : List Directory)
    → map shadows ds ≡ map shadows es
    → any_large v (map shadows (add_after k new ds)) ≡ any_large v (map shadows (add_after k other es))
unfolding add_after
added_large v k new other bare [] [] same = refl
added_large v k new other bare [] (e ∷ es) same = cc
added_large v k new other bare (d ∷ ds) [] same = cc
added_large v k new other bare (d ∷ ds) (e ∷ es) same =
    let both = heads_same (shadows d) (shadows e) (map shadows ds) (map shadows es) same in
    added_by v k new other d e ds es (begins_at k d) bare both.0 both.1 (added_large v k new other bare ds es both.1)
    ∙ ap (λ (t : Bool). any_large v (map shadows (if t then touch_last e ∷ other ∷ es else e ∷ add_after k other es)))
    (begins_by_shadows k d e both.0)

bare_large : (v : Volume) (pair : Pair) → same_pair pair root ≡ false → list_any (large_shadow v) (shadows (empty_directory pair)) ≡ false
bare_large v pair other = ap (λ (t : Bool). (true && ((t && nat_lt (room v) (superblock_weight v.attributes)) || false)) || false) other

make_large : (v : Volume) (p q : Pair) → same_pair p root ≡ false → same_pair q root ≡ false → (h : Option (Pair × Name))
    → has_too_large (make_directory v p h) ≡ has_too_large (make_directory v q h)
make_large v p q p_other q_other None = refl
make_large v p q p_other q_other (Some h) =
    let one : Entry = new_entry h.1 (Directory_at p) in
    let two : Entry = new_entry h.1 (Directory_at q) in
    alike v (add_after h.0 (empty_directory p) (link h.0 one v.directories))
    (add_after h.0 (empty_directory q) (link h.0 two v.directories))
    (added_large v h.0 (empty_directory p) (empty_directory q) (bare_large v p p_other ∙ sym (bare_large v q q_other))
    (link h.0 one v.directories) (link h.0 two v.directories)
    (in_shadows h.0 (link_in one) (link_in two) (λ d. link_shadows one two (record { name = refl; weight' = refl }) d.first d.more)
    v.directories))

pub large_is_the_same : LargeIsTheSame
large_is_the_same v (Mkdir p) s other = make_large v nothing.pair s.pair refl other (parent_of v p)
large_is_the_same v (Put p bytes most) s other = put_large v (new_body v nothing bytes most) (new_body v s bytes most) (put_body v s bytes most) (parent_of v p)
    (entry_at v p)
large_is_the_same v (Rm p) s other = refl
large_is_the_same v (Mv p q) s other = refl
large_is_the_same v (SetAttr p k value) s other = refl
large_is_the_same v (RmAttr p k) s other = refl
large_is_the_same v (Grow n) s other = refl
