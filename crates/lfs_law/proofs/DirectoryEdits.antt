-- Edits of a directory: its entries, its pairs and its delta.
use Rattle.std.proofs.Common.{◌≡◌, ℕ, ◌+◌, Bool, true, false, List, [], ◌∷◌, ◌++◌, refl, ap, sym, ◌∙◌, arith, map, append-nil, length}
use Rattle.std.specs.Prelude.{not, ◌==◌, ◌&&◌, if◌then◌else◌, sum_by, flat_map, bit_xor}
use Rattle.std.specs.List.{list_any, filter}
use Rattle.std.specs.Int.Bits.{xor_assoc, xor_zero_r}
use Rattle.std.proofs.lemmas.Bool.Decides.{nat_tests}
use Rattle.std.proofs.lemmas.List.{map-append, nil_from_length}
use Rattle.std.proofs.lemmas.List.Elements.{filter-append}
use Rattle.std.proofs.lemmas.List.Sums.{sum_by-cons}
use Rattle.lfs_meta.specs.Name.{Name}
use Rattle.lfs_meta.specs.Body.{Pair}
use Rattle.lfs_fs.specs.NameOrder.{precedes}
use Rattle.lfs_fs.specs.Pair.{unordered, same_pair}
use Rattle.lfs_fs.specs.Entry.{Entry, is_named}
use Rattle.lfs_fs.specs.Directory.{Part, Directory, parts, entries, begins_at}
use Rattle.lfs_fs.specs.Uses.{times, pair_uses}
use Rattle.lfs_fs.specs.State.{delta_of}
use Rattle.lfs_command.specs.EntryEdit.{place, without, changed}
use Rattle.lfs_command.specs.DirectoryEdit.{touch, each_part, has_name, unlink_in, change_in, behind, link_parts, link_in, touch_last_of}
use Rattle.lfs_command.specs.DirectoryEdit.{touch_last, absorb_in, absorb, taking_up, drop_later, has_only, emptied_in}
use Rattle.lfs_law.proofs.EntryEdits.{place_early, place_late}

-- ---- pairs

abbrev pub pairs : List Part → List Pair
pairs = map (λ p. p.pair)

-- the entries of parts in a row
abbrev pub entries_of : List Part → List Entry
entries_of = flat_map (λ p. p.entries)

-- the pairs of d, and its delta
pub record KeepsParts (d new : Directory) : Type 0 where
  pub pairs : pairs (parts new) ≡ pairs (parts d)
  pub delta : delta_of (parts new) ≡ delta_of (parts d)

-- the first pair of d, and its delta
pub record KeepsFirst (d new : Directory) : Type 0 where
  pub first : new.first.pair ≡ d.first.pair
  pub delta : delta_of (parts new) ≡ delta_of (parts d)

pub begins_there : (k : Pair) (d new : Directory) → new.first.pair ≡ d.first.pair → begins_at k new ≡ begins_at k d
begins_there k d new same = ap (λ (p : Pair). same_pair k (unordered p)) same

pub first_same : (d new : Directory) → pairs (parts new) ≡ pairs (parts d) → new.first.pair ≡ d.first.pair
first_same d new same = cc

pub begins_same : (k : Pair) (d new : Directory) → pairs (parts new) ≡ pairs (parts d) → begins_at k new ≡ begins_at k d
begins_same k d new same = begins_there k d new (first_same d new same)

pub keeps_first : (d new : Directory) → KeepsParts d new → KeepsFirst d new
keeps_first d new keeps = record { first = first_same d new keeps.pairs; delta = keeps.delta }

uses_of_pairs : (b : ℕ) (ps : List Part) → sum_by (pair_uses b) ps ≡ sum_by (λ (q : Pair). times b (q.0 ∷ q.1 ∷ [])) (pairs ps)
uses_of_pairs b [] = refl
uses_of_pairs b (p ∷ ps) = omega (
  arith,
  sum_by-cons (pair_uses b) p ps,
  sum_by-cons (λ (q : Pair). times b (q.0 ∷ q.1 ∷ [])) p.pair (pairs ps),
  uses_of_pairs b ps,
)

pub pair_uses_same : (b : ℕ) (d new : Directory) → pairs (parts new) ≡ pairs (parts d)
    → sum_by (pair_uses b) (parts new) ≡ sum_by (pair_uses b) (parts d)
pair_uses_same b d new same = uses_of_pairs b (parts new) ∙ ap (sum_by (λ (q : Pair). times b (q.0 ∷ q.1 ∷ []))) same
    ∙ sym (uses_of_pairs b (parts d))

-- ---- an entry put in

entries_link_parts : (e : Entry) (p : Part) (ps : List Part) → entries (link_parts e p ps) ≡ place e (entries_of (p ∷ ps))
unfolding link_parts
entries_link_parts e p [] = append-nil (place e p.entries) ∙ ap (place e) (sym (append-nil p.entries))
entries_link_parts e p (q ∷ ps) = go (list_any (λ f. precedes e.name f.name) p.entries) refl (entries_link_parts e q ps)
  where
    go : (b : Bool) → list_any (λ f. precedes e.name f.name) p.entries ≡ b → entries (link_parts e q ps) ≡ place e (entries_of (q ∷ ps))
        → entries (if b then record { first = touch true (place e) p; more = q ∷ ps } else behind p (link_parts e q ps))
        ≡ place e (p.entries ++ entries_of (q ∷ ps))
    go true some later = sym (place_early e p.entries (entries_of (q ∷ ps)) some)
    go false no_one later = ap (λ es. p.entries ++ es) later ∙ sym (place_late e p.entries (entries_of (q ∷ ps)) no_one)

pub entries_link : (e : Entry) (d : Directory) → entries (link_in e d) ≡ place e (entries d)
entries_link e d = entries_link_parts e d.first d.more

pairs_link_parts : (e : Entry) (p : Part) (ps : List Part) → pairs (parts (link_parts e p ps)) ≡ pairs (p ∷ ps)
unfolding link_parts
pairs_link_parts e p [] = refl
pairs_link_parts e p (q ∷ ps) = go (list_any (λ f. precedes e.name f.name) p.entries) (pairs_link_parts e q ps)
  where
    go : (b : Bool) → pairs (parts (link_parts e q ps)) ≡ pairs (q ∷ ps)
        → pairs (parts (if b then record { first = touch true (place e) p; more = q ∷ ps } else behind p (link_parts e q ps)))
        ≡ pairs (p ∷ q ∷ ps)
    go true later = refl
    go false later = ap (λ ks. p.pair ∷ ks) later

delta_link_parts : (e : Entry) (p : Part) (ps : List Part) → delta_of (parts (link_parts e p ps)) ≡ delta_of (p ∷ ps)
unfolding link_parts
delta_link_parts e p [] = refl
delta_link_parts e p (q ∷ ps) = go (list_any (λ f. precedes e.name f.name) p.entries) (delta_link_parts e q ps)
  where
    go : (b : Bool) → delta_of (parts (link_parts e q ps)) ≡ delta_of (q ∷ ps)
        → delta_of (parts (if b then record { first = touch true (place e) p; more = q ∷ ps } else behind p (link_parts e q ps)))
        ≡ delta_of (p ∷ q ∷ ps)
    go true later = refl
    go false later = ap (bit_xor p.delta) later

pub keeps_link : (e : Entry) (d : Directory) → KeepsParts d (link_in e d)
keeps_link e d = record { pairs = pairs_link_parts e d.first d.more; delta = delta_link_parts e d.first d.more }

pub first_link : (e : Entry) (d : Directory) → KeepsFirst d (link_in e d)
first_link e d = keeps_first d (link_in e d) (keeps_link e d)

-- ---- each part changed by itself

pairs_each : (f : Part → Part) (ps : List Part) → ((p : Part) → (f p).pair ≡ p.pair) → pairs (map f ps) ≡ pairs ps
pairs_each f [] keeps = refl
pairs_each f (p ∷ ps) keeps = cc (keeps p, pairs_each f ps keeps)

delta_each : (f : Part → Part) (ps : List Part) → ((p : Part) → (f p).delta ≡ p.delta) → delta_of (map f ps) ≡ delta_of ps
delta_each f [] keeps = refl
delta_each f (p ∷ ps) keeps = cc (keeps p, delta_each f ps keeps)

keeps_each : (f : Part → Part) (d : Directory) → ((p : Part) → (f p).pair ≡ p.pair) → ((p : Part) → (f p).delta ≡ p.delta)
    → KeepsParts d (each_part f d)
keeps_each f d pair delta = record { pairs = pairs_each f (parts d) pair; delta = delta_each f (parts d) delta }

entries_each : (set : Part → Bool) (f : List Entry → List Entry) (ps : List Part) → f [] ≡ []
    → ((xs ys : List Entry) → f (xs ++ ys) ≡ f xs ++ f ys)
    → entries_of (map (λ p. touch (set p) f p) ps) ≡ f (entries_of ps)
entries_each set f [] empty joins = sym empty
entries_each set f (p ∷ ps) empty joins = ap (λ es. f p.entries ++ es) (entries_each set f ps empty joins)
    ∙ sym (joins p.entries (entries_of ps))

pub entries_change : (n : Name) (f : Entry → Entry) (d : Directory) → entries (change_in n f d) ≡ changed n f (entries d)
entries_change n f d = entries_each (has_name n) (changed n f) (parts d) refl (map-append (λ (e : Entry). if is_named n e then f e else e))

pub keeps_change : (n : Name) (f : Entry → Entry) (d : Directory) → KeepsParts d (change_in n f d)
keeps_change n f d = keeps_each (λ p. touch (has_name n p) (changed n f) p) d (λ p. refl) (λ p. refl)

pub first_change : (n : Name) (f : Entry → Entry) (d : Directory) → KeepsFirst d (change_in n f d)
first_change n f d = keeps_first d (change_in n f d) (keeps_change n f d)

-- ---- later parts taken out

pub first_dropped : (goes : Part → Bool) (p : Part) (ps : List Part) → (drop_later goes p ps).first.pair ≡ p.pair
unfolding drop_later
first_dropped goes p [] = refl
first_dropped goes p (q ∷ ps) = go (goes q) (first_dropped goes (taking_up q.delta p) ps)
  where
    go : (b : Bool) → (drop_later goes (taking_up q.delta p) ps).first.pair ≡ p.pair
        → (if b then drop_later goes (taking_up q.delta p) ps else behind p (drop_later goes q ps)).first.pair ≡ p.pair
    go true gone = gone
    go false gone = refl

delta_dropped : (goes : Part → Bool) (p : Part) (ps : List Part) → delta_of (parts (drop_later goes p ps)) ≡ delta_of (p ∷ ps)
unfolding drop_later
delta_dropped goes p [] = refl
delta_dropped goes p (q ∷ ps) = go (goes q) (delta_dropped goes (taking_up q.delta p) ps) (delta_dropped goes q ps)
  where
    go : (b : Bool) → delta_of (parts (drop_later goes (taking_up q.delta p) ps)) ≡ delta_of (taking_up q.delta p ∷ ps)
        → delta_of (parts (drop_later goes q ps)) ≡ delta_of (q ∷ ps)
        → delta_of (parts (if b then drop_later goes (taking_up q.delta p) ps else behind p (drop_later goes q ps)))
        ≡ delta_of (p ∷ q ∷ ps)
    go true gone later = gone ∙ xor_assoc p.delta q.delta (delta_of ps)
    go false gone later = ap (bit_xor p.delta) later

-- a sum to which a part gives the same when it takes up a delta
pub sum_dropped : (g : Part → ℕ) → ((delta : ℕ) (p : Part) → g (taking_up delta p) ≡ g p) → (goes : Part → Bool) (p : Part) (ps : List Part)
    → sum_by g (parts (drop_later goes p ps)) + sum_by g (filter goes ps) ≡ sum_by g (p ∷ ps)
unfolding drop_later
sum_dropped g same goes p [] = omega arith
sum_dropped g same goes p (q ∷ ps) = go (goes q) (sum_dropped g same goes (taking_up q.delta p) ps) (sum_dropped g same goes q ps)
  where
    go : (b : Bool)
        → sum_by g (parts (drop_later goes (taking_up q.delta p) ps)) + sum_by g (filter goes ps) ≡ sum_by g (taking_up q.delta p ∷ ps)
        → sum_by g (parts (drop_later goes q ps)) + sum_by g (filter goes ps) ≡ sum_by g (q ∷ ps)
        → sum_by g (parts (if b then drop_later goes (taking_up q.delta p) ps else behind p (drop_later goes q ps)))
        + sum_by g (if b then q ∷ filter goes ps else filter goes ps)
        ≡ sum_by g (p ∷ q ∷ ps)
    go true gone later = omega (
      arith,
      gone,
      same q.delta p,
      sum_by-cons g (taking_up q.delta p) ps,
      sum_by-cons g q (filter goes ps),
      sum_by-cons g p (q ∷ ps),
      sum_by-cons g q ps,
    )
    go false gone later = omega (arith, later, sum_by-cons g p (parts (drop_later goes q ps)), sum_by-cons g p (q ∷ ps))

and_first : (a b : Bool) → (a && b) ≡ true → a ≡ true
and_first true b h = refl
and_first false b h = h

and_second : (a b : Bool) → (a && b) ≡ true → b ≡ true
and_second true b h = h
and_second false b h = cc

pub only_has : (n : Name) (p : Part) → has_only n p ≡ true → has_name n p ≡ true
only_has n p h = and_first (has_name n p) (length (without n p.entries) == 0) h

only_leaves : (n : Name) (p : Part) → has_only n p ≡ true → without n p.entries ≡ []
only_leaves n p h =
    let none = and_second (has_name n p) (length (without n p.entries) == 0) h in
    let len : length (without n p.entries) ≡ 0 = grind (arith, nat_tests) in
    nil_from_length (without n p.entries) len

without_append : (n : Name) (xs ys : List Entry) → without n (xs ++ ys) ≡ without n xs ++ without n ys
without_append n = filter-append (λ (e : Entry). not (is_named n e))

-- parts that have nothing but a name are as nothing where that name is taken out
without_dropped : (n : Name) (p : Part) (ps : List Part)
    → without n (entries_of (parts (drop_later (has_only n) p ps))) ≡ without n (entries_of (p ∷ ps))
unfolding drop_later
without_dropped n p [] = refl
without_dropped n p (q ∷ ps) = go (has_only n q) refl (without_dropped n (taking_up q.delta p) ps) (without_dropped n q ps)
  where
    go : (b : Bool) → has_only n q ≡ b
        → without n (entries_of (parts (drop_later (has_only n) (taking_up q.delta p) ps))) ≡ without n (p.entries ++ entries_of ps)
        → without n (entries_of (parts (drop_later (has_only n) q ps))) ≡ without n (entries_of (q ∷ ps))
        → without n (entries_of (parts (if b then drop_later (has_only n) (taking_up q.delta p) ps
        else behind p (drop_later (has_only n) q ps))))
        ≡ without n (p.entries ++ entries_of (q ∷ ps))
    go true is gone later =
        let rest : without n (entries_of (q ∷ ps)) ≡ without n (entries_of ps) = without_append n q.entries (entries_of ps)
        ∙ ap (λ es. es ++ without n (entries_of ps)) (only_leaves n q is) in
        gone ∙ without_append n p.entries (entries_of ps) ∙ ap (λ es. without n p.entries ++ es) (sym rest)
        ∙ sym (without_append n p.entries (entries_of (q ∷ ps)))
    go false is gone later =
        without_append n p.entries (entries_of (parts (drop_later (has_only n) q ps)))
        ∙ ap (λ es. without n p.entries ++ es) later
        ∙ sym (without_append n p.entries (entries_of (q ∷ ps)))

-- ---- an entry taken out

-- a directory less the later parts that have nothing but a name
abbrev pub dropped : Name → Directory → Directory
dropped n d = drop_later (has_only n) d.first d.more

pub entries_unlink : (n : Name) (d : Directory) → entries (unlink_in n d) ≡ without n (entries d)
entries_unlink n d =
    entries_each (has_name n) (without n) (parts (dropped n d)) refl (without_append n) ∙ without_dropped n d.first d.more

pub pairs_unlink : (n : Name) (d : Directory) → pairs (parts (unlink_in n d)) ≡ pairs (parts (dropped n d))
pairs_unlink n d = pairs_each (λ p. touch (has_name n p) (without n) p) (parts (dropped n d)) (λ p. refl)

pub keeps_unlink : (n : Name) (d : Directory) → KeepsFirst d (unlink_in n d)
keeps_unlink n d = record {
  first = first_dropped (has_only n) d.first d.more;
  delta = delta_each (λ p. touch (has_name n p) (without n) p) (parts (dropped n d)) (λ p. refl)
      ∙ delta_dropped (has_only n) d.first d.more;
}

pub uses_unlink : (b : ℕ) (n : Name) (d : Directory)
    → sum_by (pair_uses b) (parts (unlink_in n d)) + sum_by (pair_uses b) (emptied_in n d) ≡ sum_by (pair_uses b) (parts d)
uses_unlink b n d = omega (
  arith,
  pair_uses_same b (dropped n d) (unlink_in n d) (pairs_unlink n d),
  sum_dropped (pair_uses b) (λ delta p. refl) (has_only n) d.first d.more,
)

-- ---- the last part set

entries_touch_last_of : (p : Part) (ps : List Part) → entries (touch_last_of p ps) ≡ entries_of (p ∷ ps)
unfolding touch_last_of
entries_touch_last_of p [] = refl
entries_touch_last_of p (q ∷ ps) = ap (λ es. p.entries ++ es) (entries_touch_last_of q ps)

pairs_touch_last_of : (p : Part) (ps : List Part) → pairs (parts (touch_last_of p ps)) ≡ pairs (p ∷ ps)
unfolding touch_last_of
pairs_touch_last_of p [] = refl
pairs_touch_last_of p (q ∷ ps) = ap (λ ks. p.pair ∷ ks) (pairs_touch_last_of q ps)

delta_touch_last_of : (p : Part) (ps : List Part) → delta_of (parts (touch_last_of p ps)) ≡ delta_of (p ∷ ps)
unfolding touch_last_of
delta_touch_last_of p [] = refl
delta_touch_last_of p (q ∷ ps) = ap (bit_xor p.delta) (delta_touch_last_of q ps)

pub entries_touch_last : (d : Directory) → entries (touch_last d) ≡ entries d
entries_touch_last d = entries_touch_last_of d.first d.more

pub keeps_touch_last : (d : Directory) → KeepsParts d (touch_last d)
keeps_touch_last d = record { pairs = pairs_touch_last_of d.first d.more; delta = delta_touch_last_of d.first d.more }

-- ---- a delta taken up

entries_absorb_in : (delta : ℕ) (p : Part) (ps : List Part) → entries (absorb_in delta p ps) ≡ entries_of (p ∷ ps)
unfolding absorb_in
entries_absorb_in delta p [] = refl
entries_absorb_in delta p (q ∷ ps) = ap (λ es. p.entries ++ es) (entries_absorb_in delta q ps)

pairs_absorb_in : (delta : ℕ) (p : Part) (ps : List Part) → pairs (parts (absorb_in delta p ps)) ≡ pairs (p ∷ ps)
unfolding absorb_in
pairs_absorb_in delta p [] = refl
pairs_absorb_in delta p (q ∷ ps) = ap (λ ks. p.pair ∷ ks) (pairs_absorb_in delta q ps)

delta_absorb_in : (delta : ℕ) (p : Part) (ps : List Part) → delta_of (parts (absorb_in delta p ps)) ≡ bit_xor (delta_of (p ∷ ps)) delta
unfolding absorb_in
delta_absorb_in delta p [] = xor_zero_r (bit_xor p.delta delta) ∙ ap (λ (x : ℕ). bit_xor x delta) (sym (xor_zero_r p.delta))
delta_absorb_in delta p (q ∷ ps) = ap (bit_xor p.delta) (delta_absorb_in delta q ps) ∙ sym (xor_assoc p.delta (delta_of (q ∷ ps)) delta)

pub entries_absorb : (d gone : Directory) → entries (absorb d gone) ≡ entries d
entries_absorb d gone = entries_absorb_in (delta_of (parts gone)) d.first d.more

pub pairs_absorb : (d gone : Directory) → pairs (parts (absorb d gone)) ≡ pairs (parts d)
pairs_absorb d gone = pairs_absorb_in (delta_of (parts gone)) d.first d.more

pub delta_absorb : (d gone : Directory) → delta_of (parts (absorb d gone)) ≡ bit_xor (delta_of (parts d)) (delta_of (parts gone))
delta_absorb d gone = delta_absorb_in (delta_of (parts gone)) d.first d.more

-- the delta of parts in a row
pub delta_append : (xs ys : List Part) → delta_of (xs ++ ys) ≡ bit_xor (delta_of xs) (delta_of ys)
delta_append [] ys = refl
delta_append (x ∷ xs) ys = ap (bit_xor x.delta) (delta_append xs ys) ∙ sym (xor_assoc x.delta (delta_of xs) (delta_of ys))
