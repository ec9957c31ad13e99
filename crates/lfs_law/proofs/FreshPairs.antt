-- A part in a new pair has no share of the global state, so that what a command leaves, cut, can be written.
use Rattle.std.proofs.Common.{◌≡◌, ℕ, ◌+◌, ◌≤◌, Bool, true, false, cond, List, [], ◌∷◌, refl, ap, sym, ◌∙◌, subst, arith, inl, inr, Option}
use Rattle.std.proofs.Common.{Some}
use Rattle.std.specs.Prelude.{All, Contains, find, if◌then◌else◌}
use Rattle.std.specs.Option.{option_map}
use Rattle.std.proofs.lemmas.Bool.{cases_eq}
use Rattle.std.proofs.lemmas.List.Elements.{All-nil, All-cons, All-contains, All-head, Contains-append_right}
use Rattle.lfs_meta.specs.Body.{Pair}
use Rattle.lfs_meta.specs.Name.{Name, IsName}
use Rattle.lfs_meta.specs.Runs.{later_runs}
use Rattle.lfs_fs.specs.Directory.{Part, Directory, parts, begins_at, thread}
use Rattle.lfs_fs.specs.Entry.{Directory_at, Entry}
use Rattle.lfs_fs.specs.Path.{Path}
use Rattle.lfs_fs.specs.Sound.{IsSound}
use Rattle.lfs_fs.specs.Thread.{Link}
use Rattle.lfs_fs.specs.Tree.{tree}
use Rattle.lfs_fs.specs.Uses.{times, pair_uses}
use Rattle.lfs_fs.specs.Volume.{Volume}
use Rattle.lfs_fs.proofs.ContainsLemmas.{contains_first}
use Rattle.lfs_fs.proofs.CountLemmas.{element_le}
use Rattle.lfs_command.specs.declared.refusal.Refusal.TheVariants.{IsRoot}
use Rattle.lfs_command.specs.Accepted.{IsAccepted}
use Rattle.lfs_command.specs.Command.{Command, Mkdir, Put, Rm, Mv, SetAttr, RmAttr, Grow}
use Rattle.lfs_command.specs.Cut.{runs, more_parts, cut}
use Rattle.lfs_law.specs.CutWritten.{cut_links, NewPairsAreFresh, CutLinksCanBeWritten, CutLinksCanBeAdded}
use Rattle.lfs_command.specs.DirectoryEdit.{link_in, touch_last}
use Rattle.lfs_command.specs.Edited.{new_entry, empty_directory, make_directory, edited}
use Rattle.lfs_command.specs.Parent.{parent_of}
use Rattle.lfs_law.specs.Laws.{CommandsFollow}
use Rattle.lfs_command.specs.Need.{is_new_to}
use Rattle.lfs_command.specs.Supplies.{Supplies}
use Rattle.lfs_command.specs.ThreadEdit.{link, add_after}
use Rattle.lfs_command.specs.Verdict.{refuse_if, walk_refusal, is_root}
use Rattle.lfs_law.specs.WrittenLinks.{set_uses}
use Rattle.lfs_law.proofs.CutLinksFit.{by_outline}
use Rattle.lfs_law.proofs.Cuts.{cut_part, cut_thread, head_by, tail_by}
use Rattle.lfs_law.proofs.Decided.{same_pair_decides}
use Rattle.lfs_law.proofs.DirectoryEdits.{first_link}
use Rattle.lfs_law.proofs.Parents.{first_passes, test_passes}
use Rattle.lfs_law.proofs.InDirectory.{find_here}
use Rattle.lfs_law.proofs.LeastBlocks.{new_is_supplied}
use Rattle.lfs_law.proofs.LinksAdded.{first_used}
use Rattle.lfs_law.proofs.NamedBlocks.{sum_zero, not_new, blocks_are_written_once}
use Rattle.lfs_law.proofs.OneElement.{found_one}
use Rattle.lfs_law.proofs.PairTotals.{total, made_total, edited_total}
use Rattle.lfs_law.proofs.PartsFit.{all_flat}
use Rattle.lfs_law.proofs.Placed.{IsPlaced, is_placed}
use Rattle.lfs_law.proofs.TablesTell.{told_so}
use Rattle.lfs_law.proofs.WrittenLemmas.{part_uses, part_there, sum_thread, two_le}

-- no share, where the pair is new
abbrev Fresh : Volume → Part → Type 0
Fresh v p = is_new_to v p.pair ≡ true → p.delta ≡ 0

-- ---- before parts are cut

abbrev new_one : Volume → Pair → ℕ
new_one v pair = if is_new_to v pair then 1 else 0

-- a command that makes no directory leaves no new pair
none_new : (v : Volume) (c : Command) (s : Supplies) → made_total (new_one v) c s ≡ 0 → (p : Part)
    → Contains (thread (edited v c s).directories) p → is_new_to v p.pair ≡ true → ⊥
none_new v c s none p there new =
    let before : total (new_one v) v.directories ≡ 0 =
    sum_zero (λ (x : Part). new_one v x.pair) (thread v.directories) (λ x inside.
    ap (λ (t : Bool). cond {A = ℕ} t 1 0) (not_new v x inside)) in
    let le : new_one v p.pair ≤ total (new_one v) (edited v c s).directories =
    element_le (λ (x : Part). new_one v x.pair) (thread (edited v c s).directories) p there in
    let one : new_one v p.pair ≡ 1 = ap (λ (t : Bool). cond {A = ℕ} t 1 0) new in
    omega (arith, before, le, one, none, edited_total (new_one v) v c s)

added_there : (k : Pair) (new : Directory) (ds : List Directory) (d : Directory) → find (begins_at k) ds ≡ Some d
    → Contains (thread (add_after k new ds)) new.first
unfolding add_after
added_there k new [] d found = cc
added_there k new (e ∷ ds) d found = by (begins_at k e) found (added_there k new ds d)
  where
    by : (t : Bool) → (if t then Some e else find (begins_at k) ds) ≡ Some d
        → (find (begins_at k) ds ≡ Some d → Contains (thread (add_after k new ds)) new.first)
        → Contains (thread (if t then touch_last e ∷ new ∷ ds else e ∷ add_after k new ds)) new.first
    by true is later = Contains-append_right (parts (touch_last e)) (thread (new ∷ ds)) new.first (contains_first new.first _)
    by false is later = Contains-append_right (parts e) (thread (add_after k new ds)) new.first (later is)

made_there : (v : Volume) (p : Path) (pair : Pair) → IsPlaced v p → Contains (thread (make_directory v pair (parent_of v p)).directories)
    (empty_directory pair).first
made_there v p pair at =
    let k = at.parent.pair in
    let e : Entry = new_entry at.parent.name (Directory_at pair) in
    let found = found_one (begins_at k) v.directories at.once in
    let there : find (begins_at k) (link k e v.directories) ≡ Some (link_in e found.0) =
    find_here k (link_in e) v.directories (first_link e) ∙ ap (option_map (link_in e)) found.1 in
    subst (λ (h : Option (Pair × Name)). Contains (thread (make_directory v pair h).directories) (empty_directory pair).first)
    (sym at.parent.parent)
    (added_there k (empty_directory pair) (link k e v.directories) (link_in e found.0) there)

-- two parts of a sound volume that have one pair are one
one_part : (w : Volume) → IsSound w → (p e : Part) → Contains (thread w.directories) p → Contains (thread w.directories) e → p.pair ≡ e.pair
    → (p ≡ e → ⊥) → ⊥
one_part w sound p e there other same apart =
    let b : ℕ = p.pair.0 in
    let this : 1 ≤ pair_uses b p = first_used p.pair in
    let that : 1 ≤ pair_uses b e = subst (λ (k : Pair). 1 ≤ times b (k.0 ∷ k.1 ∷ [])) same this in
    omega (arith, this, that, two_le (part_uses b) (thread w.directories) p e there other apart, sum_thread b w.directories, sound.once b)

-- a number that an empty part doesn't have, a part in a new pair doesn't have
pub edited_zero : (f : Part → ℕ) → ((pair : Pair) → f (empty_directory pair).first ≡ 0) → CommandsFollow
    → (v : Volume) (c : Command) (s : Supplies) → IsAccepted v c s
    → (p : Part) → Contains (thread (edited v c s).directories) p → is_new_to v p.pair ≡ true → f p ≡ 0
edited_zero f zero' follow v (Mkdir path) s ok p there new =
    let below = first_passes (refuse_if (is_root path) IsRoot) _ ok.unrefused in
    let walk = first_passes (walk_refusal (tree v) [] path) _ below.1 in
    let at : IsPlaced v path = is_placed v path ok.sound (All-head (All IsName) path [] ok.names)
    (test_passes (is_root path) IsRoot below.0) walk.0 in
    let e : Part = (empty_directory s.pair).first in
    let same : p.pair ≡ s.pair = (same_pair_decides p.pair s.pair).0 (new_is_supplied v (Mkdir path) s p there new) in
    elim (cases_eq (f p) 0) [
      | inl zero ↦ zero
      | inr some ↦
          (let no : ⊥ =
          one_part (edited v (Mkdir path) s) (follow v (Mkdir path) s ok).sound p e there (made_there v path s.pair at) same
          (λ is. some (ap f is ∙ zero' s.pair)) in
          absurd no)
    ]
edited_zero f zero' follow v (Put path bytes most) s ok p there new = absurd (none_new v (Put path bytes most) s refl p there new)
edited_zero f zero' follow v (Rm path) s ok p there new = absurd (none_new v (Rm path) s refl p there new)
edited_zero f zero' follow v (Mv from to) s ok p there new = absurd (none_new v (Mv from to) s refl p there new)
edited_zero f zero' follow v (SetAttr path k value) s ok p there new = absurd (none_new v (SetAttr path k value) s refl p there new)
edited_zero f zero' follow v (RmAttr path k) s ok p there new = absurd (none_new v (RmAttr path k) s refl p there new)
edited_zero f zero' follow v (Grow n) s ok p there new = absurd (none_new v (Grow n) s refl p there new)

edited_fresh : CommandsFollow → (v : Volume) (c : Command) (s : Supplies) → IsAccepted v c s → (p : Part)
    → Contains (thread (edited v c s).directories) p → Fresh v p
edited_fresh follow v c s ok p there new = edited_zero (λ q. q.delta) (λ pair. refl) follow v c s ok p there new

-- ---- when they are

more_fresh : (v : Volume) (pairs : List Pair) (rs : List (List Entry)) → All (Fresh v) (more_parts pairs rs)
more_fresh v pairs [] = All-nil (Fresh v)
more_fresh v [] (run ∷ rs) = All-nil (Fresh v)
more_fresh v (pair ∷ pairs) (run ∷ rs) = All-cons (Fresh v) (record { pair = pair; entries = run; delta = 0; dirty = true })
    (more_parts pairs rs) (λ new. refl) (more_fresh v pairs rs)

part_fresh : (v : Volume) (chosen : Part → List Pair) (w : Volume) (p : Part) (t : Bool) → Fresh v p
    → All (Fresh v) (head_by w p t ∷ tail_by chosen w p t)
part_fresh v chosen w p true fresh = All-cons (Fresh v) (head_by w p true) (tail_by chosen w p true) fresh
    (more_fresh v (chosen p) (later_runs (runs w p)))
part_fresh v chosen w p false fresh = All-cons (Fresh v) p [] fresh (All-nil (Fresh v))

pub new_pairs_are_fresh : CommandsFollow → NewPairsAreFresh
new_pairs_are_fresh follow v c s chosen ok pairs =
    by_outline (λ (l : Link). Fresh v l.part) (cut chosen w)
    (λ m there. All-contains (Fresh v) (thread (cut chosen w).directories) m.part all (part_there (cut chosen w).directories m there))
  where
    w : Volume
    w = edited v c s

    all : All (Fresh v) (thread (cut chosen w).directories)
    all =
        subst (All (Fresh v)) (sym (cut_thread chosen w w.directories))
        (all_flat (Fresh v) (cut_part chosen w) (thread w.directories) (λ p there.
        part_fresh v chosen w p p.dirty (edited_fresh follow v c s ok p there)))

-- ---- all links

pub cut_links_can_be_added : CutLinksCanBeWritten → NewPairsAreFresh → CutLinksCanBeAdded
cut_links_can_be_added may fresh d v c s chosen new used base disk len ok pairs marks rising made contents = record {
  rising = rising;
  made = made;
  once = λ n. subst (λ (bs : List ℕ). times n bs + set_uses n (cut_links v c s chosen) ≤ 1) (sym contents)
      (blocks_are_written_once v c s chosen ok pairs n);
  may = λ l there set. may d v c s chosen new disk len ok pairs l there set;
  fresh = λ l there set is_new. fresh v c s chosen ok pairs l there (sym (told_so v used marks l.part.pair) ∙ is_new);
}
