-- An outline is judged as its volume is.
use Rattle.std.proofs.Common.{◌≡◌, ℕ, ◌+◌, ◌==◌, nat_lt, not, Bool, true, List, [], ◌∷◌, ◌++◌, length, refl, ap, sym, ◌∙◌, arith, Option, Some}
use Rattle.std.proofs.Common.{None}
use Rattle.std.specs.Prelude.{◌&&◌, ◌||◌, find, is_some, is_none, sum_by}
use Rattle.std.specs.List.{list_any}
use Rattle.std.specs.Option.{option_map, option_and_then, unwrap_or}
use Rattle.std.proofs.lemmas.List.{length-map}
use Rattle.std.proofs.lemmas.List.Sums.{sum_by-cons}
use Rattle.lfs_meta.specs.Name.{Name}
use Rattle.lfs_meta.specs.Attribute.{Attributes}
use Rattle.lfs_meta.specs.Body.{Pair}
use Rattle.lfs_fs.specs.Path.{Path}
use Rattle.lfs_fs.specs.Entry.{Body, Inline, Chain, Directory_at, Entry, target}
use Rattle.lfs_fs.specs.Directory.{Part, Directory, entries, begins_at}
use Rattle.lfs_fs.specs.Volume.{Volume}
use Rattle.lfs_fs.specs.Tree.{Node, entry_at, node, node_of, tree}
use Rattle.lfs_fs.specs.Uses.{entry_uses, pair_uses, directory_uses}
use Rattle.lfs_fs.specs.Free.{free_blocks}
use Rattle.lfs_fs.specs.Outlined.{outlined_body, outlined_entry, outlined_part, outlined_directory, outlined}
use Rattle.lfs_fs.proofs.OutlinedLemmas.{directory_uses_same, outlined_free, outlined_at}
use Rattle.lfs_command.specs.declared.refusal.Refusal.{Refusal}
use Rattle.lfs_command.specs.declared.refusal.Refusal.TheVariants.{NotFound, Exists, IsADirectory, NotEmpty, NameTooLong, NoAttr}
use Rattle.lfs_command.specs.declared.refusal.Refusal.TheVariants.{IntoItself, IsRoot, EntryTooLarge, NoSpace}
use Rattle.lfs_command.specs.Command.{Command, Mkdir, Put, Rm, Mv, SetAttr, RmAttr, Grow}
use Rattle.lfs_command.specs.Growth.{grown}
use Rattle.lfs_command.specs.Supplies.{Supplies, nothing}
use Rattle.lfs_command.specs.Edited.{edited}
use Rattle.lfs_law.specs.EditedOutline.{edited_outline}
use Rattle.lfs_command.specs.Need.{dirty_parts, data_blocks, directory_blocks, part_blocks, need}
use Rattle.lfs_command.specs.Freed.{content_uses, folder_uses, target_uses, emptied_parts, emptied_uses, freed_uses}
use Rattle.lfs_command.specs.DirectoryEdit.{emptied_in}
use Rattle.lfs_command.specs.Parent.{parent_of}
use Rattle.lfs_command.specs.Verdict.{refuse_if, first_refusal, walk_refusal_at, walk_refusal, is_directory, is_root, last_length, is_bare}
use Rattle.lfs_command.specs.Verdict.{has_attribute, lies_below, checks, is_too_large, room_checks}
use Rattle.lfs_law.specs.JudgedAlike.{OutlinesAreJudgedAlike}
use Rattle.lfs_law.proofs.OutlineEntries.{uses_same}
use Rattle.lfs_law.proofs.OutlineDirectories.{outlined_parts, entries_outlined, emptied_outlined, find_directory_outlined}
use Rattle.lfs_law.proofs.OutlinesFollow.{target_outlined, parent_outlined, outlines_follow}
use Rattle.lfs_law.proofs.OutlineRoom.{outlines_take_same_room, outlined_twice}

-- ---- what is at a path, its bytes aside

-- what a test says of an outline, and of an entry
abbrev SeesNoBytes : {R : Type 0} → (Option Node → R) → Type 0
SeesNoBytes test = (b : Body) (a : Attributes) → test (Some (node_of (outlined_body b) a)) ≡ test (Some (node_of b a))

shown_by : {R : Type 0} (test : Option Node → R) → SeesNoBytes test → (o : Option Entry)
    → test (option_map node (option_map outlined_entry o)) ≡ test (option_map node o)
shown_by test same None = refl
shown_by test same (Some e) = same e.body e.attributes

shown : {R : Type 0} (test : Option Node → R) → SeesNoBytes test → (v : Volume) (p : Path) → test (tree (outlined v) p) ≡ test (tree v p)
shown test same v p = ap (λ (o : Option Entry). test (option_map node o)) (outlined_at v p) ∙ shown_by test same (entry_at v p)

walk_sees : (rest : Option Refusal) → SeesNoBytes (λ x. walk_refusal_at x rest)
walk_sees rest (Inline bytes) a = refl
walk_sees rest (Chain blocks bytes) a = refl
walk_sees rest (Directory_at pair) a = refl

directory_sees : SeesNoBytes is_directory
directory_sees (Inline bytes) a = refl
directory_sees (Chain blocks bytes) a = refl
directory_sees (Directory_at pair) a = refl

attribute_sees : (k : ℕ) → SeesNoBytes (has_attribute k)
attribute_sees k (Inline bytes) a = refl
attribute_sees k (Chain blocks bytes) a = refl
attribute_sees k (Directory_at pair) a = refl

walk_same : (v : Volume) (front path : Path) → walk_refusal (tree (outlined v)) front path ≡ walk_refusal (tree v) front path
walk_same v front [] = refl
walk_same v front (n ∷ ns) =
    shown (λ x. walk_refusal_at x (walk_refusal (tree (outlined v)) (front ++ n ∷ []) ns))
    (walk_sees (walk_refusal (tree (outlined v)) (front ++ n ∷ []) ns)) v front
    ∙ ap (walk_refusal_at (tree v front)) (walk_same v (front ++ n ∷ []) ns)

some_same : (v : Volume) (p : Path) → is_some (tree (outlined v) p) ≡ is_some (tree v p)
some_same v p = shown is_some (λ b a. refl) v p

none_same : (v : Volume) (p : Path) → is_none (tree (outlined v) p) ≡ is_none (tree v p)
none_same v p = shown is_none (λ b a. refl) v p

bare_found : (o : Option Directory) → unwrap_or (option_map (λ (d : Directory). length (entries d) == 0)
    (option_map outlined_directory o)) true ≡ unwrap_or
    (option_map (λ (d : Directory). length (entries d) == 0) o) true
bare_found None = refl
bare_found (Some d) = ap (λ (n : ℕ). n == 0) (ap length (entries_outlined d) ∙ length-map (entries d) outlined_entry)

bare_same : (v : Volume) (o : Option Pair) → is_bare (outlined v) o ≡ is_bare v o
bare_same v None = refl
bare_same v (Some k) =
    ap (λ (o : Option Directory). unwrap_or (option_map (λ (d : Directory). length (entries d) == 0) o) true)
    (find_directory_outlined k v.directories) ∙ bare_found (find (begins_at k) v.directories)

target_same_at : (v : Volume) (p : Path) → option_and_then target (entry_at (outlined v) p) ≡ option_and_then target (entry_at v p)
target_same_at v p = ap (option_and_then target) (outlined_at v p) ∙ target_outlined (entry_at v p)

bare_at : (v : Volume) (p : Path) → is_bare (outlined v) (option_and_then target (entry_at (outlined v) p))
    ≡ is_bare v (option_and_then target (entry_at v p))
bare_at v p = ap (is_bare (outlined v)) (target_same_at v p) ∙ bare_same v (option_and_then target (entry_at v p))

-- ---- checks

-- a check in front of others
check_same : (a b : Option Refusal) (as' bs : List (Option Refusal)) → a ≡ b → as' ≡ bs → a ∷ as' ≡ b ∷ bs
check_same a b as' bs h k = cc

test_same : (s t : Bool) (r : Refusal) (as' bs : List (Option Refusal)) → s ≡ t → as' ≡ bs → refuse_if s r ∷ as' ≡ refuse_if t r ∷ bs
test_same s t r as' bs h k = check_same (refuse_if s r) (refuse_if t r) as' bs (ap (λ (x : Bool). refuse_if x r) h) k

checks_same : (v : Volume) (c : Command) → checks (outlined v) c ≡ checks v c
checks_same v (Mkdir p) =
    test_same (is_root p) (is_root p) IsRoot _ _ refl
    (check_same (walk_refusal (tree (outlined v)) [] p) (walk_refusal (tree v) [] p) _ _ (walk_same v [] p)
    (test_same (is_some (tree (outlined v) p)) (is_some (tree v p)) Exists _ _ (some_same v p) refl))
checks_same v (Put p bytes most) =
    test_same (is_root p) (is_root p) IsRoot _ _ refl
    (check_same (walk_refusal (tree (outlined v)) [] p) (walk_refusal (tree v) [] p) _ _ (walk_same v [] p)
    (test_same (is_directory (tree (outlined v) p)) (is_directory (tree v p)) IsADirectory _ _ (shown is_directory directory_sees v p)
    (test_same (is_none (tree (outlined v) p) && nat_lt v.limits.name (last_length p))
    (is_none (tree v p) && nat_lt v.limits.name (last_length p)) NameTooLong _ _
    (ap (λ (t : Bool). t && nat_lt v.limits.name (last_length p)) (none_same v p)) refl)))
checks_same v (Rm p) =
    test_same (is_root p) (is_root p) IsRoot _ _ refl
    (check_same (walk_refusal (tree (outlined v)) [] p) (walk_refusal (tree v) [] p) _ _ (walk_same v [] p)
    (test_same (is_none (tree (outlined v) p)) (is_none (tree v p)) NotFound _ _ (none_same v p)
    (test_same (not (is_bare (outlined v) (option_and_then target (entry_at (outlined v) p))))
    (not (is_bare v (option_and_then target (entry_at v p)))) NotEmpty _ _ (ap not (bare_at v p)) refl)))
checks_same v (Mv p q) =
    test_same (is_root p || is_root q) (is_root p || is_root q) IsRoot _ _ refl
    (check_same (walk_refusal (tree (outlined v)) [] p) (walk_refusal (tree v) [] p) _ _ (walk_same v [] p)
    (test_same (is_none (tree (outlined v) p)) (is_none (tree v p)) NotFound _ _ (none_same v p)
    (test_same (lies_below p q) (lies_below p q) IntoItself _ _ refl
    (check_same (walk_refusal (tree (outlined v)) [] q) (walk_refusal (tree v) [] q) _ _ (walk_same v [] q)
    (test_same (is_some (tree (outlined v) q)) (is_some (tree v q)) Exists _ _ (some_same v q) refl)))))
checks_same v (SetAttr p k value) =
    check_same (walk_refusal (tree (outlined v)) [] p) (walk_refusal (tree v) [] p) _ _ (walk_same v [] p)
    (test_same (is_none (tree (outlined v) p)) (is_none (tree v p)) NotFound _ _ (none_same v p) refl)
checks_same v (RmAttr p k) =
    check_same (walk_refusal (tree (outlined v)) [] p) (walk_refusal (tree v) [] p) _ _ (walk_same v [] p)
    (test_same (is_none (tree (outlined v) p)) (is_none (tree v p)) NotFound _ _ (none_same v p)
    (test_same (not (has_attribute k (tree (outlined v) p))) (not (has_attribute k (tree v p))) NoAttr _ _
    (ap not (shown (has_attribute k) (attribute_sees k) v p)) refl))
checks_same v (Grow n) = refl

-- ---- room

-- what a command leaves of an outline has the outline of what it leaves of the volume
edited_same_by : (v : Volume) (c : Command) (s : Supplies) → edited_outline (outlined (outlined v)) c s ≡ edited_outline (outlined v) c s
edited_same_by v c s = ap (λ (w : Volume). edited_outline w c s) (outlined_twice v)

edited_same : (v : Volume) (c : Command) (s : Supplies) → outlined (edited (outlined v) c s) ≡ outlined (edited v c s)
edited_same v c s = outlines_follow (outlined v) c s ∙ edited_same_by v c s ∙ sym (outlines_follow v c s)

large_of : Volume → Bool
large_of w = list_any (is_too_large w) (dirty_parts w)

blocks_of : Volume → ℕ
blocks_of w = sum_by (part_blocks w) (dirty_parts w)

-- two volumes of one outline
large_same : (v w : Volume) → outlined v ≡ outlined w → large_of v ≡ large_of w
unfolding large_of
large_same v w same = sym (outlines_take_same_room v).large ∙ ap (λ (x : Volume). list_any (is_too_large x) (dirty_parts x)) same
    ∙ (outlines_take_same_room w).large

blocks_same : (v w : Volume) → outlined v ≡ outlined w → blocks_of v ≡ blocks_of w
unfolding blocks_of
blocks_same v w same = sym (outlines_take_same_room v).blocks ∙ ap (λ (x : Volume). sum_by (part_blocks x) (dirty_parts x)) same
    ∙ (outlines_take_same_room w).blocks

data_same : (v : Volume) (c : Command) → data_blocks (outlined v) c ≡ data_blocks v c
data_same v (Mkdir p) = refl
data_same v (Put p bytes most) = refl
data_same v (Rm p) = refl
data_same v (Mv p q) = refl
data_same v (SetAttr p k value) = refl
data_same v (RmAttr p k) = refl
data_same v (Grow n) = refl

need_same : (v : Volume) (c : Command) → need (outlined v) c ≡ need v c
unfolding blocks_of
need_same v c =
    ap (λ (n : ℕ). n + directory_blocks c + blocks_of (edited (outlined v) c nothing)) (data_same v c)
    ∙ ap (λ (n : ℕ). data_blocks v c + directory_blocks c + n) (blocks_same (edited (outlined v) c nothing) (edited v c nothing)
    (edited_same v c nothing))

space_same : (n m k l : ℕ) → n ≡ m → k ≡ l → refuse_if (nat_lt n k) (NoSpace k n) ∷ [] ≡ refuse_if (nat_lt m l) (NoSpace l m) ∷ []
space_same n m k l h g = ap (λ (x : ℕ). refuse_if (nat_lt x k) (NoSpace k x) ∷ []) h
    ∙ ap (λ (x : ℕ). refuse_if (nat_lt m x) (NoSpace x m) ∷ []) g

room_same : (v : Volume) (c : Command) → room_checks (outlined v) c ≡ room_checks v c
unfolding large_of
room_same v c =
    test_same (large_of (edited (outlined v) c nothing)) (large_of (edited v c nothing)) EntryTooLarge _ _
    (large_same (edited (outlined v) c nothing) (edited v c nothing) (edited_same v c nothing))
    (space_same (length (free_blocks (grown c (outlined v)))) (length (free_blocks (grown c v))) (need (outlined v) c) (need v c)
    (ap length (outlined_free (grown c v))) (need_same v c))

-- ---- what is freed

content_found : (b : ℕ) (o : Option Entry) → unwrap_or (option_map (entry_uses b) (option_map outlined_entry o)) 0
    ≡ unwrap_or (option_map (entry_uses b) o) 0
content_found b None = refl
content_found b (Some e) = uses_same b e

content_same : (v : Volume) (p : Path) (b : ℕ) → content_uses (outlined v) p b ≡ content_uses v p b
content_same v p b = ap (λ (o : Option Entry). unwrap_or (option_map (entry_uses b) o) 0) (outlined_at v p)
    ∙ content_found b (entry_at v p)

folder_found : (b : ℕ) (o : Option Directory) → unwrap_or (option_map (directory_uses b) (option_map outlined_directory o)) 0
    ≡ unwrap_or (option_map (directory_uses b) o) 0
folder_found b None = refl
folder_found b (Some d) = directory_uses_same b d

folder_same : (v : Volume) (k : Pair) (b : ℕ) → folder_uses (outlined v) k b ≡ folder_uses v k b
folder_same v k b = ap (λ (o : Option Directory). unwrap_or (option_map (directory_uses b) o) 0) (find_directory_outlined k v.directories)
    ∙ folder_found b (find (begins_at k) v.directories)

folder_at : (v : Volume) (b : ℕ) (o : Option Pair) → unwrap_or (option_map (λ k. folder_uses (outlined v) k b) o) 0
    ≡ unwrap_or (option_map (λ k. folder_uses v k b) o) 0
folder_at v b None = refl
folder_at v b (Some k) = folder_same v k b

target_uses_same : (v : Volume) (p : Path) (b : ℕ) → target_uses (outlined v) p b ≡ target_uses v p b
target_uses_same v p b = ap (λ (o : Option Pair). unwrap_or (option_map (λ k. folder_uses (outlined v) k b) o) 0) (target_same_at v p)
    ∙ folder_at v b (option_and_then target (entry_at v p))

parts_same : (b : ℕ) (ps : List Part) → sum_by (pair_uses b) (outlined_parts ps) ≡ sum_by (pair_uses b) ps
parts_same b [] = refl
parts_same b (p ∷ ps) = omega (
  arith,
  parts_same b ps,
  sum_by-cons (pair_uses b) (outlined_part p) (outlined_parts ps),
  sum_by-cons (pair_uses b) p ps,
)

emptied_by : (b : ℕ) (n : Name) (o : Option Directory)
    → sum_by (pair_uses b) (unwrap_or (option_map (emptied_in n) (option_map outlined_directory o)) [])
    ≡ sum_by (pair_uses b) (unwrap_or (option_map (emptied_in n) o) [])
emptied_by b n None = refl
emptied_by b n (Some d) = ap (sum_by (pair_uses b)) (emptied_outlined n d.more) ∙ parts_same b (emptied_in n d)

emptied_among_same : (v : Volume) (h : Option (Pair × Name)) (b : ℕ)
    → sum_by (pair_uses b) (emptied_parts (outlined v) h) ≡ sum_by (pair_uses b) (emptied_parts v h)
emptied_among_same v None b = refl
emptied_among_same v (Some h) b =
    ap (λ (o : Option Directory). sum_by (pair_uses b) (unwrap_or (option_map (emptied_in h.1) o) []))
    (find_directory_outlined h.0 v.directories)
    ∙ emptied_by b h.1 (find (begins_at h.0) v.directories)

emptied_same : (v : Volume) (p : Path) (b : ℕ) → emptied_uses (outlined v) p b ≡ emptied_uses v p b
emptied_same v p b = ap (λ (h : Option (Pair × Name)). sum_by (pair_uses b) (emptied_parts (outlined v) h)) (parent_outlined v p)
    ∙ emptied_among_same v (parent_of v p) b

freed_same : (v : Volume) (c : Command) (b : ℕ) → freed_uses (outlined v) c b ≡ freed_uses v c b
freed_same v (Mkdir p) b = refl
freed_same v (Put p bytes most) b = content_same v p b
freed_same v (Rm p) b = omega (arith, content_same v p b, target_uses_same v p b, emptied_same v p b)
freed_same v (Mv p q) b = emptied_same v p b
freed_same v (SetAttr p k value) b = refl
freed_same v (RmAttr p k) b = refl
freed_same v (Grow n) b = refl

pub outlines_are_judged_alike : OutlinesAreJudgedAlike
outlines_are_judged_alike v c = record {
  checked = checks_same v c;
  judged = ap (λ (rs : List (Option Refusal)). first_refusal (rs ++ room_checks (outlined v) c)) (checks_same v c)
      ∙ ap (λ (rs : List (Option Refusal)). first_refusal (checks v c ++ rs)) (room_same v c);
  needed = need_same v c;
  freed = freed_same v c;
}
