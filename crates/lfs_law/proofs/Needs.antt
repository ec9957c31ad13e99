-- What a command needs doesn't depend on what it gets, and is the number of its new blocks.
use Rattle.std.proofs.Common.{◌≡◌, ℕ, ◌+◌, ◌-◌, ◌*◌, Bool, true, false, ◌||◌, List, [], ◌∷◌, ◌++◌, length, refl, ap, sym, ◌∙◌, arith, map}
use Rattle.std.proofs.Common.{Option, Some, None}
use Rattle.std.specs.Prelude.{All, sum_by, nat_le, if◌then◌else◌}
use Rattle.std.specs.List.{filter, list_any, AllZip}
use Rattle.std.proofs.lemmas.List.{map-append}
use Rattle.std.proofs.lemmas.List.Concat.{flat_map-cons}
use Rattle.std.proofs.lemmas.List.Elements.{All-head, All-tail}
use Rattle.std.proofs.lemmas.List.Sums.{sum_by-cons, sum_by-append}
use Rattle.std.proofs.lemmas.Slice.Zip.{AllZip-long}
use Rattle.lfs_meta.specs.Name.{Name}
use Rattle.lfs_meta.specs.Body.{Pair}
use Rattle.lfs_meta.specs.Runs.{runs_after, later_runs}
use Rattle.lfs_meta.specs.RunLaws.{RunsFollowWeights}
use Rattle.lfs_fs.specs.NameOrder.{precedes}
use Rattle.lfs_fs.specs.Pair.{root, same_pair, unordered}
use Rattle.lfs_fs.specs.Entry.{Body, Inline, Chain, Directory_at, Entry, is_named}
use Rattle.lfs_fs.specs.Weight.{body_weight, weight, superblock_weight}
use Rattle.lfs_fs.specs.Directory.{Part, Directory, parts, begins_at, thread}
use Rattle.lfs_fs.specs.Volume.{Volume}
use Rattle.lfs_fs.specs.Tree.{entry_at}
use Rattle.lfs_command.specs.EntryEdit.{place, changed}
use Rattle.lfs_command.specs.DirectoryEdit.{touch, has_name, change_in, behind, link_parts, link_in, touch_last_of, touch_last}
use Rattle.lfs_command.specs.ThreadEdit.{in_directory, link, change, add_after}
use Rattle.lfs_command.specs.Command.{Command, Mkdir, Put, Rm, Mv, SetAttr, RmAttr, Grow}
use Rattle.lfs_command.specs.Supplies.{Supplies, nothing, inline_limit, new_body}
use Rattle.lfs_command.specs.Parent.{parent_of}
use Rattle.lfs_command.specs.Edited.{with_directories, with_body, new_entry, empty_directory, make_directory, put_file, edited}
use Rattle.lfs_command.specs.Cut.{room, is_first, runs, new_pairs, HasEnough}
use Rattle.lfs_command.specs.Need.{dirty_parts, data_blocks, directory_blocks, part_blocks}
use Rattle.lfs_law.specs.Laws.{NeedIsTheSame, NeedIsExact}

-- ---- what decides how a part is cut

-- its pair, what its entries weigh, and whether it is set
abbrev pub Shadow : Type 0
Shadow = Pair × List ℕ × Bool

abbrev pub shadow : Part → Shadow
shadow p = (p.pair, map weight p.entries, p.dirty)

abbrev pub shadows : Directory → List Shadow
shadows d = map shadow (parts d)

itself : (es : List Entry) → AllZip (λ (e : Entry) (w : ℕ). weight e ≡ w) es (map weight es)
itself [] = tt
itself (e ∷ es) = (refl, itself es)

-- weights alone decide how many runs there are
runs_by_weights : RunsFollowWeights Entry ℕ → (space weight' number : ℕ) (es : List Entry)
    → length (runs_after weight space weight' number es) ≡ length (runs_after (λ (w : ℕ). w) space weight' number (map weight es))
runs_by_weights follow space weight' number es =
    sym (AllZip-long (AllZip (λ (e : Entry) (w : ℕ). weight e ≡ w)) (runs_after weight space weight' number es)
    (runs_after (λ (w : ℕ). w) space weight' number (map weight es))
    (follow weight (λ (w : ℕ). w) space weight' number es (map weight es) (itself es)))

abbrev runs_of : Volume → Pair → List ℕ → List (List ℕ)
runs_of v pair ws =
    if same_pair pair root then runs_after (λ (w : ℕ). w) (room v) (superblock_weight v.attributes) 1 ws
    else runs_after (λ (w : ℕ). w) (room v) 0 0 ws

-- the new blocks of a part, by its shadow
abbrev shadow_blocks : Volume → Shadow → ℕ
shadow_blocks v s = if s.2 then 2 * (length (runs_of v s.0 s.1) - 1) else 0

runs_same_by : RunsFollowWeights Entry ℕ → (v : Volume) (es : List Entry) (t : Bool)
    → length (if t then runs_after weight (room v) (superblock_weight v.attributes) 1 es else runs_after weight (room v) 0 0 es)
    ≡ length (if t then runs_after (λ (w : ℕ). w) (room v) (superblock_weight v.attributes) 1 (map weight es) else runs_after (λ (w : ℕ). w)
    (room v) 0 0 (map weight es))
runs_same_by follow v es true = runs_by_weights follow (room v) (superblock_weight v.attributes) 1 es
runs_same_by follow v es false = runs_by_weights follow (room v) 0 0 es

blocks_by : RunsFollowWeights Entry ℕ → (v : Volume) (p : Part) → part_blocks v p
    ≡ 2 * (length (runs_of v p.pair (map weight p.entries)) - 1)
blocks_by follow v p = ap (λ (n : ℕ). 2 * (n - 1)) (runs_same_by follow v p.entries (is_first p))

-- ---- sums over the parts that are set

set_first : (f : Part → ℕ) (p : Part) (ps : List Part) (t : Bool) → sum_by f
    (if t then p ∷ filter (λ q. q.dirty) ps else filter (λ q. q.dirty) ps) ≡ (if t then f p else 0)
    + sum_by f (filter (λ q. q.dirty) ps)
set_first f p ps true = sum_by-cons f p (filter (λ q. q.dirty) ps)
set_first f p ps false = omega arith

pub sum_set : (f : Part → ℕ) (ps : List Part) → sum_by f (filter (λ p. p.dirty) ps) ≡ sum_by (λ p. if p.dirty then f p else 0) ps
sum_set f [] = refl
sum_set f (p ∷ ps) = omega (arith, set_first f p ps p.dirty, sum_set f ps, sum_by-cons (λ (q : Part). if q.dirty then f q else 0) p ps)

set_blocks : RunsFollowWeights Entry ℕ → (v : Volume) (p : Part) (t : Bool)
    → (if t then part_blocks v p else 0) ≡ (if t then 2 * (length (runs_of v p.pair (map weight p.entries)) - 1) else 0)
set_blocks follow v p true = blocks_by follow v p
set_blocks follow v p false = refl

sum_shadows : RunsFollowWeights Entry ℕ → (v : Volume) (ps : List Part)
    → sum_by (λ p. if p.dirty then part_blocks v p else 0) ps ≡ sum_by (shadow_blocks v) (map shadow ps)
sum_shadows follow v [] = refl
sum_shadows follow v (p ∷ ps) =
    omega (
      arith,
      sum_by-cons (λ (q : Part). if q.dirty then part_blocks v q else 0) p ps,
      sum_by-cons (shadow_blocks v) (shadow p) (map shadow ps),
      set_blocks follow v p p.dirty,
      sum_shadows follow v ps,
    )

-- the blocks of new parts, by the shadows of directories
abbrev all_blocks : Volume → List Directory → ℕ
all_blocks v ds = sum_by (λ d. sum_by (shadow_blocks v) (shadows d)) ds

thread_blocks : (v : Volume) (ds : List Directory) → sum_by (shadow_blocks v) (map shadow (thread ds)) ≡ all_blocks v ds
thread_blocks v [] = refl
thread_blocks v (d ∷ ds) =
    let split : map shadow (thread (d ∷ ds)) ≡ shadows d ++ map shadow (thread ds) =
    ap (map shadow) (flat_map-cons parts d ds) ∙ map-append shadow (parts d) (thread ds) in
    omega (
      arith,
      ap (sum_by (shadow_blocks v)) split,
      sum_by-append (shadow_blocks v) (shadows d) (map shadow (thread ds)),
      thread_blocks v ds,
      sum_by-cons (λ (e : Directory). sum_by (shadow_blocks v) (shadows e)) d ds,
    )

dirty_blocks : RunsFollowWeights Entry ℕ → (v : Volume) (ds : List Directory)
    → sum_by (part_blocks v) (filter (λ p. p.dirty) (thread ds)) ≡ all_blocks v ds
dirty_blocks follow v ds = sum_set (part_blocks v) (thread ds) ∙ sum_shadows follow v (thread ds) ∙ thread_blocks v ds

-- ---- edits with entries that weigh the same

-- two entries of one name that weigh the same
pub record WeighSame (e f : Entry) : Type 0 where
  pub name : e.name ≡ f.name
  pub weight' : weight e ≡ weight f

place_by : (e f : Entry) → WeighSame e f → (x : Entry) (xs : List Entry) (t : Bool) → map weight (place e xs) ≡ map weight (place f xs)
    → map weight (if t then e ∷ x ∷ xs else x ∷ place e xs) ≡ map weight (if t then f ∷ x ∷ xs else x ∷ place f xs)
place_by e f same x xs true rest = ap (λ (w : ℕ). w ∷ weight x ∷ map weight xs) same.weight'
place_by e f same x xs false rest = ap (λ (ws : List ℕ). weight x ∷ ws) rest

place_weights : (e f : Entry) → WeighSame e f → (xs : List Entry) → map weight (place e xs) ≡ map weight (place f xs)
unfolding place
place_weights e f same [] = ap (λ (w : ℕ). w ∷ []) same.weight'
place_weights e f same (x ∷ xs) =
    place_by e f same x xs (precedes e.name x.name) (place_weights e f same xs)
    ∙ ap (λ (n : Name). map weight (if precedes n x.name then f ∷ x ∷ xs else x ∷ place f xs)) same.name

link_by : (e f : Entry) → WeighSame e f → (p q : Part) (ps : List Part) (t : Bool)
    → shadows (link_parts e q ps) ≡ shadows (link_parts f q ps)
    → shadows (if t then record { first = touch true (place e) p; more = q ∷ ps } else behind p (link_parts e q ps)) ≡ shadows
    (if t then record { first = touch true (place f) p; more = q ∷ ps } else behind p (link_parts f q ps))
link_by e f same p q ps true rest = ap (λ (ws : List ℕ). (p.pair, ws, p.dirty || true) ∷ map shadow (q ∷ ps))
    (place_weights e f same p.entries)
link_by e f same p q ps false rest = ap (λ (ss : List Shadow). shadow p ∷ ss) rest

pub link_shadows : (e f : Entry) → WeighSame e f → (p : Part) (ps : List Part) → shadows (link_parts e p ps) ≡ shadows (link_parts f p ps)
unfolding link_parts
link_shadows e f same p [] = ap (λ (ws : List ℕ). (p.pair, ws, p.dirty || true) ∷ []) (place_weights e f same p.entries)
link_shadows e f same p (q ∷ ps) =
    link_by e f same p q ps (list_any (λ x. precedes e.name x.name) p.entries) (link_shadows e f same q ps)
    ∙ ap (λ (n : Name). shadows (if list_any (λ x. precedes n x.name) p.entries then
    record { first = touch true (place f) p; more = q ∷ ps } else behind p (link_parts f q ps))) same.name

change_by : (g h : Entry → Entry) → ((e : Entry) → weight (g e) ≡ weight (h e)) → (e : Entry) (t : Bool)
    → weight (if t then g e else e) ≡ weight (if t then h e else e)
change_by g h same e true = same e
change_by g h same e false = refl

change_weights : (n : Name) (g h : Entry → Entry) → ((e : Entry) → weight (g e) ≡ weight (h e)) → (es : List Entry)
    → map weight (changed n g es) ≡ map weight (changed n h es)
change_weights n g h same [] = refl
change_weights n g h same (e ∷ es) = rw (change_by g h same e (is_named n e), change_weights n g h same es) refl

change_shadows_of : (n : Name) (g h : Entry → Entry) → ((e : Entry) → weight (g e) ≡ weight (h e)) → (ps : List Part)
    → map shadow (map (λ p. touch (has_name n p) (changed n g) p) ps) ≡ map shadow (map (λ p. touch (has_name n p) (changed n h) p) ps)
change_shadows_of n g h same [] = refl
change_shadows_of n g h same (p ∷ ps) = rw (change_weights n g h same p.entries, change_shadows_of n g h same ps) refl

pub change_shadows : (n : Name) (g h : Entry → Entry) → ((e : Entry) → weight (g e) ≡ weight (h e)) → (d : Directory)
    → shadows (change_in n g d) ≡ shadows (change_in n h d)
change_shadows n g h same d = change_shadows_of n g h same (parts d)

-- in the directory at a pair
in_by : (f g : Directory → Directory) → ((d : Directory) → shadows (f d) ≡ shadows (g d)) → (d : Directory) (t : Bool)
    → shadows (if t then f d else d) ≡ shadows (if t then g d else d)
in_by f g same d true = same d
in_by f g same d false = refl

pub in_shadows : (k : Pair) (f g : Directory → Directory) → ((d : Directory) → shadows (f d) ≡ shadows (g d)) → (ds : List Directory)
    → map shadows (in_directory k f ds) ≡ map shadows (in_directory k g ds)
in_shadows k f g same [] = refl
in_shadows k f g same (d ∷ ds) = rw (in_by f g same d (begins_at k d), in_shadows k f g same ds) refl

-- the same shadows need the same
blocks_of_shadows : (v : Volume) (ds : List Directory) → all_blocks v ds ≡ sum_by (λ ss. sum_by (shadow_blocks v) ss) (map shadows ds)
blocks_of_shadows v [] = refl
blocks_of_shadows v (d ∷ ds) =
    omega (
      arith,
      sum_by-cons (λ (e : Directory). sum_by (shadow_blocks v) (shadows e)) d ds,
      sum_by-cons (λ (ss : List Shadow). sum_by (shadow_blocks v) ss) (shadows d) (map shadows ds),
      blocks_of_shadows v ds,
    )

same_blocks : (v : Volume) (ds es : List Directory) → map shadows ds ≡ map shadows es → all_blocks v ds ≡ all_blocks v es
same_blocks v ds es same = blocks_of_shadows v ds ∙ ap (sum_by (λ ss. sum_by (shadow_blocks v) ss)) same ∙ sym (blocks_of_shadows v es)

-- ---- a directory that is added

-- a directory without entries needs no block, wherever it is
bare_runs : (v : Volume) (pair : Pair) (t : Bool) → 2 * (length (if t then runs_after (λ (w : ℕ). w) (room v)
    (superblock_weight v.attributes) 1 [] else runs_after
    (λ (w : ℕ). w) (room v) 0 0 []) - 1) ≡ 0
unfolding runs_after
bare_runs v pair true = refl
bare_runs v pair false = refl

bare_blocks : (v : Volume) (pair : Pair) → sum_by (shadow_blocks v) (shadows (empty_directory pair)) ≡ 0
bare_blocks v pair = omega (arith, bare_runs v pair (same_pair pair root), sum_by-cons (shadow_blocks v) (pair, [], true) [])

shadow_last : Shadow → List Shadow → List Shadow
shadow_last s [] = (s.0, s.1, s.2 || true) ∷ []
shadow_last s (t ∷ ss) = s ∷ shadow_last t ss

touch_shadows : (p : Part) (ps : List Part) → shadows (touch_last_of p ps) ≡ shadow_last (shadow p) (map shadow ps)
unfolding touch_last_of shadow_last
touch_shadows p [] = refl
touch_shadows p (q ∷ ps) = ap (λ (ss : List Shadow). shadow p ∷ ss) (touch_shadows q ps)

first_pair : List Shadow → Pair
first_pair [] = root
first_pair (s ∷ ss) = s.0

last_of : List Shadow → List Shadow
last_of [] = []
last_of (s ∷ ss) = shadow_last s ss

first_of : (d : Directory) → first_pair (shadows d) ≡ d.first.pair
unfolding first_pair
first_of d = refl

pub begins_by_shadows : (k : Pair) (d e : Directory) → shadows d ≡ shadows e → begins_at k d ≡ begins_at k e
begins_by_shadows k d e same = ap (λ (p : Pair). same_pair k (unordered p)) (sym (first_of d) ∙ ap first_pair same ∙ first_of e)

pub last_by_shadows : (d e : Directory) → shadows d ≡ shadows e → shadows (touch_last d) ≡ shadows (touch_last e)
unfolding last_of
last_by_shadows d e same = touch_shadows d.first d.more ∙ ap last_of same ∙ sym (touch_shadows e.first e.more)

added_by : (v : Volume) (k : Pair) (new other d e : Directory) (ds es : List Directory) (t : Bool)
    → sum_by (shadow_blocks v) (shadows new) ≡ sum_by (shadow_blocks v) (shadows other) → shadows d ≡ shadows e
    → all_blocks v ds ≡ all_blocks v es
    → all_blocks v (add_after k new ds) ≡ all_blocks v (add_after k other es)
    → all_blocks v (if t then touch_last d ∷ new ∷ ds else d ∷ add_after k new ds)
    ≡ all_blocks v (if t then touch_last e ∷ other ∷ es else e ∷ add_after k other es)
added_by v k new other d e ds es true alike same rest added =
    let last : sum_by (shadow_blocks v) (shadows (touch_last d)) ≡ sum_by (shadow_blocks v) (shadows (touch_last e)) =
    ap (sum_by (shadow_blocks v)) (last_by_shadows d e same) in
    let one = λ (x : Directory) (xs : List Directory). sum_by-cons (λ (y : Directory). sum_by (shadow_blocks v) (shadows y)) x xs in
    omega (arith, last, one (touch_last d) (new ∷ ds), one new ds, one (touch_last e) (other ∷ es), one other es)
added_by v k new other d e ds es false alike same rest added =
    let here : sum_by (shadow_blocks v) (shadows d) ≡ sum_by (shadow_blocks v) (shadows e) = ap (sum_by (shadow_blocks v)) same in
    let one = λ (x : Directory) (xs : List Directory). sum_by-cons (λ (y : Directory). sum_by (shadow_blocks v) (shadows y)) x xs in
    omega (arith, here, one d (add_after k new ds), one e (add_after k other es))

pub heads_same : (x y : List Shadow) (xs ys : List (List Shadow)) → x ∷ xs ≡ y ∷ ys → (x ≡ y) × (xs ≡ ys)
heads_same x y xs ys h = (cc, cc)

added_blocks : (v : Volume) (k : Pair) (new other : Directory) → sum_by (shadow_blocks v) (shadows new)
    ≡ sum_by (shadow_blocks v) (shadows other)
    → (ds es : List Directory) → map shadows ds ≡ map shadows es → all_blocks v (add_after k new ds) ≡ all_blocks v (add_after k other es)
unfolding add_after
added_blocks v k new other alike [] [] same = refl
added_blocks v k new other alike [] (e ∷ es) same = cc
added_blocks v k new other alike (d ∷ ds) [] same = cc
added_blocks v k new other alike (d ∷ ds) (e ∷ es) same =
    let both = heads_same (shadows d) (shadows e) (map shadows ds) (map shadows es) same in
    added_by v k new other d e ds es (begins_at k d) alike both.0 (same_blocks v ds es both.1)
    (added_blocks v k new other alike ds es both.1)
    ∙ ap (λ (t : Bool). all_blocks v (if t then touch_last e ∷ other ∷ es else e ∷ add_after k other es)) (begins_by_shadows k d e both.0)

-- ---- the commands

-- what a volume needs for the parts that are set
abbrev dirty_need : Volume → ℕ
dirty_need w = sum_by (part_blocks w) (dirty_parts w)

-- two volumes of one size and root's attributes whose parts need the same
alike_need : RunsFollowWeights Entry ℕ → (v : Volume) (ds es : List Directory) → all_blocks v ds ≡ all_blocks v es
    → dirty_need (with_directories v ds) ≡ dirty_need (with_directories v es)
alike_need follow v ds es same = dirty_blocks follow (with_directories v ds) ds ∙ same
    ∙ sym (dirty_blocks follow (with_directories v es) es)

body_by : (bytes some others : List ℕ) (t : Bool) → body_weight (if t then Inline bytes else Chain some bytes)
    ≡ body_weight (if t then Inline bytes else Chain others bytes)
body_by bytes some others true = refl
body_by bytes some others false = refl

pub put_body : (v : Volume) (s : Supplies) (bytes : List ℕ) (most : ℕ) → body_weight (new_body v nothing bytes most) ≡ body_weight (new_body v s bytes most)
put_body v s bytes most = body_by bytes [] s.blocks (nat_le (length bytes) (inline_limit v.size most))

put_need : RunsFollowWeights Entry ℕ → (v : Volume) (b c : Body) → body_weight b ≡ body_weight c
    → (h : Option (Pair × Name)) (old : Option Entry)
    → dirty_need (put_file v b h old) ≡ dirty_need (put_file v c h old)
put_need follow v b c same None old = refl
put_need follow v b c same (Some h) None =
    alike_need follow v (link h.0 (new_entry h.1 b) v.directories) (link h.0 (new_entry h.1 c) v.directories)
    (same_blocks v (link h.0 (new_entry h.1 b) v.directories) (link h.0 (new_entry h.1 c) v.directories)
    (in_shadows h.0 (link_in (new_entry h.1 b)) (link_in (new_entry h.1 c))
    (λ d. link_shadows (new_entry h.1 b) (new_entry h.1 c) (record { name = refl; weight' = omega (arith, same) }) d.first d.more)
    v.directories))
put_need follow v b c same (Some h) (Some e) =
    alike_need follow v (change h.0 h.1 (with_body b) v.directories) (change h.0 h.1 (with_body c) v.directories)
    (same_blocks v (change h.0 h.1 (with_body b) v.directories) (change h.0 h.1 (with_body c) v.directories)
    (in_shadows h.0 (change_in h.1 (with_body b)) (change_in h.1 (with_body c))
    (change_shadows h.1 (with_body b) (with_body c) (λ x. omega (arith, same))) v.directories))

make_need : RunsFollowWeights Entry ℕ → (v : Volume) (p q : Pair) (h : Option (Pair × Name))
    → dirty_need (make_directory v p h) ≡ dirty_need (make_directory v q h)
make_need follow v p q None = refl
make_need follow v p q (Some h) =
    let one : Entry = new_entry h.1 (Directory_at p) in
    let two : Entry = new_entry h.1 (Directory_at q) in
    alike_need follow v (add_after h.0 (empty_directory p) (link h.0 one v.directories))
    (add_after h.0 (empty_directory q) (link h.0 two v.directories))
    (added_blocks v h.0 (empty_directory p) (empty_directory q) (bare_blocks v p ∙ sym (bare_blocks v q)) (link h.0 one v.directories)
    (link h.0 two v.directories)
    (in_shadows h.0 (link_in one) (link_in two) (λ d. link_shadows one two (record { name = refl; weight' = refl }) d.first d.more)
    v.directories))

edited_need : RunsFollowWeights Entry ℕ → (v : Volume) (c : Command) (s : Supplies)
    → dirty_need (edited v c nothing) ≡ dirty_need (edited v c s)
edited_need follow v (Mkdir p) s = make_need follow v nothing.pair s.pair (parent_of v p)
edited_need follow v (Put p bytes most) s = put_need follow v (new_body v nothing bytes most) (new_body v s bytes most) (put_body v s bytes most) (parent_of v p)
    (entry_at v p)
edited_need follow v (Rm p) s = refl
edited_need follow v (Mv p q) s = refl
edited_need follow v (SetAttr p k value) s = refl
edited_need follow v (RmAttr p k) s = refl
edited_need follow v (Grow n) s = refl

pub need_is_the_same : RunsFollowWeights Entry ℕ → NeedIsTheSame
need_is_the_same follow v c s = ap (λ (n : ℕ). data_blocks v c + directory_blocks c + n) (edited_need follow v c s)

-- ---- the new blocks

-- two for each new pair
pair_blocks_by : (v : Volume) (chosen : Part → List Pair) (p : Part) (t : Bool)
    → (t ≡ true → length (chosen p) ≡ length (later_runs (runs v p)))
    → (if t then part_blocks v p else 0) ≡ 2 * length (if t then chosen p else [])
pair_blocks_by v chosen p true enough = by (runs v p) (enough refl)
  where
    by : (rs : List (List Entry)) → length (chosen p) ≡ length (later_runs rs) → 2 * (length rs - 1) ≡ 2 * length (chosen p)
    by [] h = omega (arith, h)
    by (run ∷ rs) h = omega (arith, h)
pair_blocks_by v chosen p false enough = refl

pair_blocks : (v : Volume) (chosen : Part → List Pair) (ps : List Part) → All (HasEnough chosen v) ps
    → sum_by (λ p. if p.dirty then part_blocks v p else 0) ps ≡ 2 * sum_by (λ p. length (new_pairs chosen p)) ps
pair_blocks v chosen [] enough = refl
pair_blocks v chosen (p ∷ ps) enough =
    let here = pair_blocks_by v chosen p p.dirty (All-head (HasEnough chosen v) p ps enough) in
    let rest = pair_blocks v chosen ps (All-tail (HasEnough chosen v) p ps enough) in
    omega (
      arith,
      here,
      rest,
      sum_by-cons (λ (q : Part). if q.dirty then part_blocks v q else 0) p ps,
      sum_by-cons (λ (q : Part). length (new_pairs chosen q)) p ps,
    )

pub need_is_exact : RunsFollowWeights Entry ℕ → NeedIsExact
need_is_exact follow v c s chosen pairs =
    let w = edited v c s in
    need_is_the_same follow v c s
    ∙ ap (λ (n : ℕ). data_blocks v c + directory_blocks c + n) (sum_set (part_blocks w) (thread w.directories)
    ∙ pair_blocks w chosen (thread w.directories) pairs.enough)
