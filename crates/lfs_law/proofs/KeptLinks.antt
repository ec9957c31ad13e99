-- What each edit of directories writes: parts that it sets, and nothing else.
use Rattle.std.proofs.Common.{◌≡◌, ◌⊎◌, ℕ, Bool, true, false, ◌||◌, List, [], ◌∷◌, ◌++◌, refl, ap, sym, ◌∙◌, subst, arith, map}
use Rattle.std.specs.Prelude.{All, Contains, if◌then◌else◌}
use Rattle.std.specs.List.{list_any}
use Rattle.std.proofs.lemmas.List.Elements.{All-head, All-tail, All-cons, All-nil, All-append, All-weaker, All-contains}
use Rattle.std.proofs.lemmas.List.Elements.{Contains-append_left, Contains-append_right}
use Rattle.std.proofs.lemmas.List.Elements.{All-contains_itself}
use mathlib.Core.Logic.{inl, inr}
use Rattle.lfs_meta.specs.declared.tail.Tail.{Tail}
use Rattle.lfs_meta.specs.Name.{Name}
use Rattle.lfs_meta.specs.Body.{Pair}
use Rattle.lfs_fs.specs.NameOrder.{precedes}
use Rattle.lfs_fs.specs.Entry.{Entry, is_named}
use Rattle.lfs_fs.specs.Directory.{Part, Directory, parts, begins_at}
use Rattle.lfs_fs.specs.State.{delta_of}
use Rattle.lfs_fs.specs.Thread.{Link, links_of, links, tail_to, hard_to, soft_to}
use Rattle.lfs_fs.proofs.ContainsLemmas.{contains_later}
use Rattle.lfs_command.specs.EntryEdit.{place, without, changed}
use Rattle.lfs_command.specs.DirectoryEdit.{touch, has_name, unlink_in, change_in, behind, link_parts, link_in, touch_last_of, touch_last}
use Rattle.lfs_command.specs.DirectoryEdit.{absorb_in, absorb, taking_up, drop_later, has_only}
use Rattle.lfs_command.specs.ThreadEdit.{in_directory, link, unlink, change, add_after, take_out, drop_directory, touch_first}
use Rattle.lfs_command.specs.Kept.{IsKept, KeepLinks}
use Rattle.lfs_law.proofs.DirectoryEdits.{first_dropped, dropped, keeps_unlink}

-- ---- lists of links

-- what is kept of few links is kept of more
pub weaker : (old more : List Link) → ((l : Link) → Contains old l → Contains more l) → (ls : List Link) → All (IsKept old) ls
    → All (IsKept more) ls
weaker old more there ls kept = All-weaker (IsKept old) (IsKept more)
    (λ l h. elim h [ inl set ↦ inl set | inr was ↦ inr (there l was) ]) ls kept

-- one edit after another
pub keep_twice : (ds es fs : List Directory) → KeepLinks ds es → KeepLinks es fs → KeepLinks ds fs
keep_twice ds es fs first second = All-weaker (IsKept (links es)) (IsKept (links ds))
    (λ l h. elim h [ inl set ↦ inl set | inr was ↦ All-contains (IsKept (links ds)) (links es) l first was ]) (links fs) second

itself : (ls : List Link) → All (IsKept ls) ls
itself ls = All-weaker (Contains ls) (IsKept ls) (λ l h. inr h) ls (All-contains_itself ls)

pub keep_all : (ds : List Directory) → KeepLinks ds ds
keep_all ds = itself (links ds)

-- the links of a directory and of those behind it
joined_kept : (here now there later : List Link) → All (IsKept here) now → All (IsKept there) later
    → All (IsKept (here ++ there)) (now ++ later)
joined_kept here now there later h k =
    All-append (IsKept (here ++ there)) now later
    (weaker here (here ++ there) (Contains-append_left here there) now h)
    (weaker there (here ++ there) (Contains-append_right here there) later k)

-- ---- one directory

-- an edit of a part keeps its pair, and sets it where it isn't the same
pub record SetsParts (f : Part → Part) : Type 0 where
  pub pair : (p : Part) → (f p).pair ≡ p.pair
  pub sets : (p : Part) → ((f p).dirty ≡ true) ⊎ (f p ≡ p)

one_kept : (f : Part → Part) → SetsParts f → (p : Part) (tail now : Tail) (more : List Link) → now ≡ tail
    → IsKept (record { part = p; tail = tail } ∷ more) (record { part = f p; tail = now })
one_kept f h p tail now more is = elim (h.sets p) [
  | inl set ↦ inl set
  | inr same ↦ inr (
    0,
    omega arith,
    ap (λ (q : Part). record { part = q; tail = tail }) (sym same)
        ∙ ap (λ (t : Tail). record { part = f p; tail = t }) (sym is),
  )
]

each_kept : (f : Part → Part) → SetsParts f → (p : Part) (ps : List Part) (tail : Tail)
    → All (IsKept (links_of p ps tail)) (links_of (f p) (map f ps) tail)
each_kept f h p [] tail = All-cons (IsKept (links_of p [] tail)) (record { part = f p; tail = tail }) [] (one_kept f h p tail tail [] refl)
    (All-nil (IsKept (links_of p [] tail)))
each_kept f h p (q ∷ ps) tail =
    All-cons (IsKept (links_of p (q ∷ ps) tail)) (record { part = f p; tail = hard_to (f q).pair }) (links_of (f q) (map f ps) tail)
    (one_kept f h p (hard_to q.pair) (hard_to (f q).pair) (links_of q ps tail) (ap hard_to (h.pair q)))
    (weaker (links_of q ps tail) (links_of p (q ∷ ps) tail) (contains_later (record {
      part = p;
      tail =
          hard_to q.pair;
    }) (links_of q ps tail)) (links_of (f q) (map f ps) tail) (each_kept f h q ps tail))

-- A directory changed so that its first pair stays, whatever its last tail.
abbrev pub KeepsPair : (Directory → Directory) → Type 0
KeepsPair g = (d : Directory) → (g d).first.pair ≡ d.first.pair

abbrev pub KeepsLinks : (Directory → Directory) → Type 0
KeepsLinks g = (d : Directory) (tail : Tail) → All (IsKept (links_of d.first d.more tail)) (links_of (g d).first (g d).more tail)

-- ---- all directories

pub tail_same : (g : Directory → Directory) → KeepsPair g → (ds : List Directory) → tail_to (map g ds) ≡ tail_to ds
tail_same g h [] = refl
tail_same g h (d ∷ ds) = ap soft_to (h d)

pub map_kept : (g : Directory → Directory) → KeepsPair g → KeepsLinks g → (ds : List Directory) → KeepLinks ds (map g ds)
map_kept g h k [] = All-nil (IsKept [])
map_kept g h k (d ∷ ds) =
    joined_kept (links_of d.first d.more (tail_to ds)) (links_of (g d).first (g d).more (tail_to (map g ds))) (links ds) (links (map g ds))
    (subst (λ (t : Tail). All (IsKept (links_of d.first d.more (tail_to ds))) (links_of (g d).first (g d).more t)) (sym (tail_same g h ds))
    (k d (tail_to ds)))
    (map_kept g h k ds)

-- an edit of the directory at a pair
pub at_pair : (k : Pair) (f : Directory → Directory) → KeepsPair f → (d : Directory) (t : Bool)
    → (if t then f d else d).first.pair ≡ d.first.pair
at_pair k f h d true = h d
at_pair k f h d false = refl

at_links : (k : Pair) (f : Directory → Directory) → KeepsLinks f → (d : Directory) (tail : Tail) (t : Bool)
    → All (IsKept (links_of d.first d.more tail)) (links_of (if t then f d else d).first (if t then f d else d).more tail)
at_links k f h d tail true = h d tail
at_links k f h d tail false = itself (links_of d.first d.more tail)

in_directory_kept : (k : Pair) (f : Directory → Directory) → KeepsPair f → KeepsLinks f → (ds : List Directory)
    → KeepLinks ds (in_directory k f ds)
in_directory_kept k f h l ds =
    map_kept (λ d. if begins_at k d then f d else d) (λ d. at_pair k f h d (begins_at k d))
    (λ d tail. at_links k f l d tail (begins_at k d)) ds

-- ---- entries taken out and changed

no_name : (n : Name) (e : Entry) (es : List Entry) → list_any (is_named n) (e ∷ es) ≡ false
    → (is_named n e ≡ false) × (list_any (is_named n) es ≡ false)
no_name n e es h = by (is_named n e) refl
  where
    by : (t : Bool) → is_named n e ≡ t → (is_named n e ≡ false) × (list_any (is_named n) es ≡ false)
    by true is = cc
    by false is = (is, cc)

without_no_name : (n : Name) (es : List Entry) → list_any (is_named n) es ≡ false → without n es ≡ es
without_no_name n [] h = refl
without_no_name n (e ∷ es) h =
    let none = no_name n e es h in
    rw (none.0, without_no_name n es none.1) refl

changed_no_name : (n : Name) (f : Entry → Entry) (es : List Entry) → list_any (is_named n) es ≡ false → changed n f es ≡ es
changed_no_name n f [] h = refl
changed_no_name n f (e ∷ es) h =
    let none = no_name n e es h in
    rw (none.0, changed_no_name n f es none.1) refl

-- a part without the name stays the same
touched : (set : Bool) (f : List Entry → List Entry) (p : Part) → (set ≡ false → f p.entries ≡ p.entries)
    → ((touch set f p).dirty ≡ true) ⊎ (touch set f p ≡ p)
touched set f p same = by p.dirty set refl refl
  where
    by : (was now : Bool) → p.dirty ≡ was → set ≡ now → ((touch set f p).dirty ≡ true) ⊎ (touch set f p ≡ p)
    by true now is sets = inl (rw is refl)
    by false true is sets = inl (rw (is, sets) refl)
    by false false is sets = inr (rw (sets, same sets, is) refl)

unlink_sets : (n : Name) → SetsParts (λ p. touch (has_name n p) (without n) p)
unlink_sets n = record { pair = λ p. refl; sets = λ p. touched (has_name n p) (without n) p (without_no_name n p.entries) }

change_sets : (n : Name) (f : Entry → Entry) → SetsParts (λ p. touch (has_name n p) (changed n f) p)
change_sets n f = record { pair = λ p. refl; sets = λ p. touched (has_name n p) (changed n f) p (changed_no_name n f p.entries) }

pub change_kept : (k : Pair) (n : Name) (f : Entry → Entry) (ds : List Directory) → KeepLinks ds (change k n f ds)
change_kept k n f ds = in_directory_kept k (change_in n f) (λ d. refl)
    (λ d tail. each_kept (λ p. touch (has_name n p) (changed n f) p) (change_sets n f) d.first d.more tail) ds

-- ---- an entry put in

set_dirty : (f : List Entry → List Entry) (p : Part) → (touch true f p).dirty ≡ true
set_dirty f p = by p.dirty
  where
    by : (t : Bool) → (t || true) ≡ true
    by true = refl
    by false = refl

link_pair_by : (e : Entry) (p q : Part) (ps : List Part) (t : Bool) →
    (if t then record { first = touch true (place e) p; more = q ∷ ps } else behind p (link_parts e q ps)).first.pair ≡ p.pair
link_pair_by e p q ps true = refl
link_pair_by e p q ps false = refl

pub link_pair : (e : Entry) (p : Part) (ps : List Part) → (link_parts e p ps).first.pair ≡ p.pair
unfolding link_parts
link_pair e p [] = refl
link_pair e p (q ∷ ps) = link_pair_by e p q ps (list_any (λ f. precedes e.name f.name) p.entries)

-- a part in front of what is kept
behind_kept : (p q : Part) (ps : List Part) (tail : Tail) (d : Directory) → d.first.pair ≡ q.pair
    → All (IsKept (links_of q ps tail)) (links_of d.first d.more tail)
    → All (IsKept (links_of p (q ∷ ps) tail)) (links_of (behind p d).first (behind p d).more tail)
behind_kept p q ps tail d same kept =
    All-cons (IsKept (links_of p (q ∷ ps) tail)) (record { part = p; tail = hard_to d.first.pair }) (links_of d.first d.more tail)
    (inr (0, omega arith, ap (λ (a : Pair). record { part = p; tail = hard_to a }) (sym same)))
    (weaker (links_of q ps tail) (links_of p (q ∷ ps) tail) (contains_later (record { part = p; tail = hard_to q.pair })
    (links_of q ps tail)) (links_of d.first d.more tail) kept)

link_here : (e : Entry) (p q : Part) (ps : List Part) (tail : Tail) → All (IsKept (links_of p (q ∷ ps) tail))
    (links_of (touch true (place e) p) (q ∷ ps) tail)
link_here e p q ps tail =
    All-cons (IsKept (links_of p (q ∷ ps) tail)) (record { part = touch true (place e) p; tail = hard_to q.pair }) (links_of q ps tail)
    (inl (set_dirty (place e) p))
    (weaker (links_of q ps tail) (links_of p (q ∷ ps) tail) (contains_later (record { part = p; tail = hard_to q.pair })
    (links_of q ps tail)) (links_of q ps tail) (itself (links_of q ps tail)))

link_by : (e : Entry) (p q : Part) (ps : List Part) (tail : Tail) (t : Bool)
    → All (IsKept (links_of q ps tail)) (links_of (link_parts e q ps).first (link_parts e q ps).more tail)
    → (d : Directory) → d ≡ (if t then record { first = touch true (place e) p; more = q ∷ ps } else behind p (link_parts e q ps))
    → All (IsKept (links_of p (q ∷ ps) tail)) (links_of d.first d.more tail)
link_by e p q ps tail true rest d is = subst (λ (x : Directory). All (IsKept (links_of p (q ∷ ps) tail)) (links_of x.first x.more tail))
    (sym is) (link_here e p q ps tail)
link_by e p q ps tail false rest d is = subst (λ (x : Directory). All (IsKept (links_of p (q ∷ ps) tail)) (links_of x.first x.more tail))
    (sym is)
    (behind_kept p q ps tail (link_parts e q ps) (link_pair e q ps) rest)

link_parts_kept : (e : Entry) (p : Part) (ps : List Part) (tail : Tail)
    → All (IsKept (links_of p ps tail)) (links_of (link_parts e p ps).first (link_parts e p ps).more tail)
unfolding link_parts
link_parts_kept e p [] tail = All-cons (IsKept (links_of p [] tail)) (record { part = touch true (place e) p; tail = tail }) []
    (inl (set_dirty (place e) p)) (All-nil (IsKept (links_of p [] tail)))
link_parts_kept e p (q ∷ ps) tail = link_by e p q ps tail (list_any (λ f. precedes e.name f.name) p.entries) (link_parts_kept e q ps tail)
    (link_parts e p (q ∷ ps)) refl

pub link_kept : (k : Pair) (e : Entry) (ds : List Directory) → KeepLinks ds (link k e ds)
link_kept k e ds = in_directory_kept k (link_in e) (λ d. link_pair e d.first d.more) (λ d tail. link_parts_kept e d.first d.more tail) ds

-- ---- later parts taken out

-- one edit of a list after another
kept_through : (old mid : List Link) → All (IsKept old) mid → (ls : List Link) → All (IsKept mid) ls → All (IsKept old) ls
kept_through old mid first ls second = All-weaker (IsKept mid) (IsKept old)
    (λ l h. elim h [ inl set ↦ inl set | inr was ↦ All-contains (IsKept old) mid l first was ]) ls second

-- a part that takes up a delta is set, and those after the next one stay
taken_up_kept : (delta : ℕ) (p q : Part) (ps : List Part) (tail : Tail)
    → All (IsKept (links_of p (q ∷ ps) tail)) (links_of (taking_up delta p) ps tail)
taken_up_kept delta p q [] tail = All-cons (IsKept (links_of p (q ∷ []) tail)) (record { part = taking_up delta p; tail = tail }) []
    (inl refl) (All-nil (IsKept (links_of p (q ∷ []) tail)))
taken_up_kept delta p q (r ∷ ps) tail =
    All-cons (IsKept (links_of p (q ∷ r ∷ ps) tail)) (record { part = taking_up delta p; tail = hard_to r.pair }) (links_of r ps tail)
    (inl refl)
    (weaker (links_of r ps tail) (links_of p (q ∷ r ∷ ps) tail)
    (λ l h. contains_later (record { part = p; tail = hard_to q.pair }) (links_of q (r ∷ ps) tail) l
    (contains_later (record { part = q; tail = hard_to r.pair }) (links_of r ps tail) l h))
    (links_of r ps tail) (itself (links_of r ps tail)))

dropped_kept : (goes : Part → Bool) (p : Part) (ps : List Part) (tail : Tail)
    → All (IsKept (links_of p ps tail)) (links_of (drop_later goes p ps).first (drop_later goes p ps).more tail)
unfolding drop_later
dropped_kept goes p [] tail = itself (links_of p [] tail)
dropped_kept goes p (q ∷ ps) tail = go (goes q) (dropped_kept goes (taking_up q.delta p) ps tail) (dropped_kept goes q ps tail)
  where
    go : (b : Bool)
        → All (IsKept (links_of (taking_up q.delta p) ps tail))
        (links_of (drop_later goes (taking_up q.delta p) ps).first (drop_later goes (taking_up q.delta p) ps).more tail)
        → All (IsKept (links_of q ps tail)) (links_of (drop_later goes q ps).first (drop_later goes q ps).more tail)
        → All (IsKept (links_of p (q ∷ ps) tail))
        (links_of (if b then drop_later goes (taking_up q.delta p) ps else behind p (drop_later goes q ps)).first
        (if b then drop_later goes (taking_up q.delta p) ps else behind p (drop_later goes q ps)).more tail)
    go true gone later = kept_through (links_of p (q ∷ ps) tail) (links_of (taking_up q.delta p) ps tail)
        (taken_up_kept q.delta p q ps tail)
        (links_of (drop_later goes (taking_up q.delta p) ps).first (drop_later goes (taking_up q.delta p) ps).more tail) gone
    go false gone later = behind_kept p q ps tail (drop_later goes q ps) (first_dropped goes q ps) later

unlinked_kept : (n : Name) (d : Directory) (tail : Tail)
    → All (IsKept (links_of d.first d.more tail)) (links_of (unlink_in n d).first (unlink_in n d).more tail)
unlinked_kept n d tail =
    let left : Directory = dropped n d in
    kept_through (links_of d.first d.more tail) (links_of left.first left.more tail) (dropped_kept (has_only n) d.first d.more tail)
    (links_of (unlink_in n d).first (unlink_in n d).more tail)
    (each_kept (λ p. touch (has_name n p) (without n) p) (unlink_sets n) left.first left.more tail)

pub unlink_kept : (k : Pair) (n : Name) (ds : List Directory) → KeepLinks ds (unlink k n ds)
unlink_kept k n ds = in_directory_kept k (unlink_in n) (λ d. (keeps_unlink n d).first) (unlinked_kept n) ds

-- ---- directories that come and go

touch_last_pair : (p : Part) (ps : List Part) → (touch_last_of p ps).first.pair ≡ p.pair
unfolding touch_last_of
touch_last_pair p [] = refl
touch_last_pair p (q ∷ ps) = refl

-- whatever tail the last part gets
touch_last_kept : (p : Part) (ps : List Part) (tail now : Tail) → All (IsKept (links_of p ps tail))
    (links_of (touch_last_of p ps).first (touch_last_of p ps).more now)
unfolding touch_last_of
touch_last_kept p [] tail now = All-cons (IsKept (links_of p [] tail)) (record { part = touch true (λ es. es) p; tail = now }) []
    (inl (set_dirty (λ es. es) p)) (All-nil (IsKept (links_of p [] tail)))
touch_last_kept p (q ∷ ps) tail now =
    let d : Directory = touch_last_of q ps in
    All-cons (IsKept (links_of p (q ∷ ps) tail)) (record { part = p; tail = hard_to d.first.pair }) (links_of d.first d.more now)
    (inr (0, omega arith, ap (λ (a : Pair). record { part = p; tail = hard_to a }) (sym (touch_last_pair q ps))))
    (weaker (links_of q ps tail) (links_of p (q ∷ ps) tail) (contains_later (record {
      part = p;
      tail =
          hard_to q.pair;
    }) (links_of q ps tail)) (links_of d.first d.more now) (touch_last_kept q ps tail now))

absorb_pair : (delta : ℕ) (p : Part) (ps : List Part) → (absorb_in delta p ps).first.pair ≡ p.pair
unfolding absorb_in
absorb_pair delta p [] = refl
absorb_pair delta p (q ∷ ps) = refl

absorb_kept : (delta : ℕ) (p : Part) (ps : List Part) (tail now : Tail)
    → All (IsKept (links_of p ps tail)) (links_of (absorb_in delta p ps).first (absorb_in delta p ps).more now)
unfolding absorb_in
absorb_kept delta p [] tail now = All-cons (IsKept (links_of p [] tail)) (record { part = (absorb_in delta p []).first; tail = now }) []
    (inl refl) (All-nil (IsKept (links_of p [] tail)))
absorb_kept delta p (q ∷ ps) tail now =
    let d : Directory = absorb_in delta q ps in
    All-cons (IsKept (links_of p (q ∷ ps) tail)) (record { part = p; tail = hard_to d.first.pair }) (links_of d.first d.more now)
    (inr (0, omega arith, ap (λ (a : Pair). record { part = p; tail = hard_to a }) (sym (absorb_pair delta q ps))))
    (weaker (links_of q ps tail) (links_of p (q ∷ ps) tail) (contains_later (record {
      part = p;
      tail =
          hard_to q.pair;
    }) (links_of q ps tail)) (links_of d.first d.more now) (absorb_kept delta q ps tail now))

-- a thread changed behind its first directory, where that one's tail stays
later_kept : (d : Directory) (ds es : List Directory) → tail_to es ≡ tail_to ds → KeepLinks ds es → KeepLinks (d ∷ ds) (d ∷ es)
later_kept d ds es same kept =
    joined_kept (links_of d.first d.more (tail_to ds)) (links_of d.first d.more (tail_to es)) (links ds) (links es)
    (subst (λ (t : Tail). All (IsKept (links_of d.first d.more (tail_to ds))) (links_of d.first d.more t)) (sym same)
    (itself (links_of d.first d.more (tail_to ds))))
    kept

all_set : (old : List Link) (p : Part) (ps : List Part) (tail : Tail) → p.dirty ≡ true → All (λ q. q.dirty ≡ true) ps
    → All (IsKept old) (links_of p ps tail)
all_set old p [] tail set sets = All-cons (IsKept old) (record { part = p; tail = tail }) [] (inl set) (All-nil (IsKept old))
all_set old p (q ∷ ps) tail set sets =
    All-cons (IsKept old) (record { part = p; tail = hard_to q.pair }) (links_of q ps tail) (inl set)
    (all_set old q ps tail (All-head (λ (r : Part). r.dirty ≡ true) q ps sets) (All-tail (λ (r : Part). r.dirty ≡ true) q ps sets))

-- every part of a directory is set
abbrev pub AllSet : Directory → Type 0
AllSet d = All (λ p. p.dirty ≡ true) (parts d)

-- a directory with another last tail, and a new one behind it
added_here : (d new : Directory) (ds : List Directory) → AllSet new → KeepLinks (d ∷ ds) (touch_last d ∷ new ∷ ds)
added_here d new ds set =
    joined_kept (links_of d.first d.more (tail_to ds)) (links_of (touch_last d).first (touch_last d).more (tail_to (new ∷ ds))) (links ds)
    (links (new ∷ ds))
    (touch_last_kept d.first d.more (tail_to ds) (tail_to (new ∷ ds)))
    (All-append (IsKept (links ds)) (links_of new.first new.more (tail_to ds)) (links ds)
    (all_set (links ds) new.first new.more (tail_to ds) (All-head (λ (p : Part). p.dirty ≡ true) new.first new.more set)
    (All-tail (λ (p : Part). p.dirty ≡ true) new.first new.more set))
    (itself (links ds)))

added_tail_by : (k : Pair) (new d : Directory) (ds : List Directory) (t : Bool)
    → tail_to (if t then touch_last d ∷ new ∷ ds else d ∷ add_after k new ds) ≡ tail_to (d ∷ ds)
added_tail_by k new d ds true = ap soft_to (touch_last_pair d.first d.more)
added_tail_by k new d ds false = refl

added_tail : (k : Pair) (new : Directory) (ds : List Directory) → tail_to (add_after k new ds) ≡ tail_to ds
unfolding add_after
added_tail k new [] = refl
added_tail k new (d ∷ ds) = added_tail_by k new d ds (begins_at k d)

added_by : (k : Pair) (new d : Directory) (ds : List Directory) (t : Bool) → AllSet new → KeepLinks ds (add_after k new ds)
    → KeepLinks (d ∷ ds) (if t then touch_last d ∷ new ∷ ds else d ∷ add_after k new ds)
added_by k new d ds true set rest = added_here d new ds set
added_by k new d ds false set rest = later_kept d ds (add_after k new ds) (added_tail k new ds) rest

pub add_kept : (k : Pair) (new : Directory) (ds : List Directory) → AllSet new → KeepLinks ds (add_after k new ds)
unfolding add_after
add_kept k new [] set = All-nil (IsKept [])
add_kept k new (d ∷ ds) set = added_by k new d ds (begins_at k d) set (add_kept k new ds set)

-- a directory taken out behind another one, whose last tail changes
taken_here : (d gone : Directory) (ds : List Directory) → KeepLinks (d ∷ gone ∷ ds) (absorb d gone ∷ ds)
taken_here d gone ds =
    joined_kept (links_of d.first d.more (tail_to (gone ∷ ds))) (links_of (absorb d gone).first (absorb d gone).more (tail_to ds))
    (links (gone ∷ ds)) (links ds)
    (absorb_kept (delta_of (parts gone)) d.first d.more (tail_to (gone ∷ ds)) (tail_to ds))
    (weaker (links ds) (links (gone ∷ ds)) (Contains-append_right (links_of gone.first gone.more (tail_to ds)) (links ds)) (links ds)
    (itself (links ds)))

taken_tail_by : (k : Pair) (d e : Directory) (ds : List Directory) (t : Bool)
    → tail_to (if t then absorb d e ∷ ds else d ∷ take_out k e ds) ≡ tail_to (d ∷ e ∷ ds)
taken_tail_by k d e ds true = ap soft_to (absorb_pair (delta_of (parts e)) d.first d.more)
taken_tail_by k d e ds false = refl

taken_tail : (k : Pair) (d : Directory) (ds : List Directory) → tail_to (take_out k d ds) ≡ tail_to (d ∷ ds)
unfolding take_out
taken_tail k d [] = refl
taken_tail k d (e ∷ ds) = taken_tail_by k d e ds (begins_at k e)

taken_by : (k : Pair) (d e : Directory) (ds : List Directory) (t : Bool) → KeepLinks (e ∷ ds) (take_out k e ds)
    → KeepLinks (d ∷ e ∷ ds) (if t then absorb d e ∷ ds else d ∷ take_out k e ds)
taken_by k d e ds true rest = taken_here d e ds
taken_by k d e ds false rest = later_kept d (e ∷ ds) (take_out k e ds) (taken_tail k e ds) rest

take_kept : (k : Pair) (d : Directory) (ds : List Directory) → KeepLinks (d ∷ ds) (take_out k d ds)
unfolding take_out
take_kept k d [] = keep_all (d ∷ [])
take_kept k d (e ∷ ds) = taken_by k d e ds (begins_at k e) (take_kept k e ds)

pub drop_kept : (k : Pair) (ds : List Directory) → KeepLinks ds (drop_directory k ds)
drop_kept k [] = All-nil (IsKept [])
drop_kept k (d ∷ ds) = take_kept k d ds

-- ---- the first part

first_kept : (p : Part) (ps : List Part) (tail : Tail) → All (IsKept (links_of p ps tail))
    (links_of (record { pair = p.pair; entries = p.entries; delta = p.delta; dirty = true }) ps tail)
first_kept p [] tail = All-cons (IsKept (links_of p [] tail)) (record
    { part = record { pair = p.pair; entries = p.entries; delta = p.delta; dirty = true }; tail = tail }) []
    (inl refl) (All-nil (IsKept (links_of p [] tail)))
first_kept p (q ∷ ps) tail =
    All-cons (IsKept (links_of p (q ∷ ps) tail)) (record {
      part = record {
        pair = p.pair;
        entries = p.entries;
        delta = p.delta;
        dirty = true;
      };
      tail = hard_to q.pair;
    }) (links_of q ps tail)
    (inl refl)
    (weaker (links_of q ps tail) (links_of p (q ∷ ps) tail) (contains_later (record { part = p; tail = hard_to q.pair })
    (links_of q ps tail)) (links_of q ps tail) (itself (links_of q ps tail)))

pub touch_first_kept : (ds : List Directory) → KeepLinks ds (touch_first ds)
touch_first_kept [] = All-nil (IsKept [])
touch_first_kept (d ∷ ds) =
    joined_kept (links_of d.first d.more (tail_to ds)) (links_of (record {
      pair = d.first.pair;
      entries = d.first.entries;
      delta = d.first.delta;
      dirty =
          true;
    }) d.more (tail_to ds)) (links ds) (links ds)
    (first_kept d.first d.more (tail_to ds)) (itself (links ds))
