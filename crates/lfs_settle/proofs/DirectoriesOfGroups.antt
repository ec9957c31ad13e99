-- The directories of a volume are the parts of its thread, those of each directory together; each that a path leads to is reached.
use Rattle.std.proofs.Common.{◌≡◌, ◌⊎◌, inl, inr, ℕ, suc, Bool, true, false, List, [], ◌∷◌, ◌++◌, length, map, Option, Some, None, refl, ap, sym, ◌∙◌, subst}
use Rattle.std.specs.Prelude.{All, Contains, ◌||◌, find, flat_map, if◌then◌else◌, option_and_then, option_to_list}
use Rattle.std.specs.List.{filter, list_any}
use Rattle.std.proofs.lemmas.Grind.{flat_map-append}
use Rattle.std.proofs.lemmas.List.Elements.{All-contains, Contains-append_cases}
use Rattle.std.proofs.lemmas.List.Folds.{list_any-append}
use Rattle.lfs_meta.specs.declared.kind.Kind.{Kind}
use Rattle.lfs_meta.specs.declared.kind.Kind.TheVariants.{File, Dir, Super}
use Rattle.lfs_meta.specs.Body.{Pair, StoredBody, Inline as Stored_inline, Chain as Stored_chain, Directory_at as Stored_directory}
use Rattle.lfs_meta.specs.Entry.{StoredEntry}
use Rattle.lfs_meta.specs.Name.{Name}
use Rattle.lfs_meta.specs.Runs.{onto}
use Rattle.lfs_fs.specs.Pair.{root, same_pair, unordered}
use Rattle.lfs_fs.specs.Directory.{Directory, Part, begins_at, entries, key}
use Rattle.lfs_fs.specs.Entry.{Entry, body_target, is_named, target}
use Rattle.lfs_fs.specs.Gathering.{PairPart, as_directory, link_from}
use Rattle.lfs_fs.specs.Graph.{entry_within, walk}
use Rattle.lfs_fs.specs.Held.{chained, resolved, resolved_as, resolved_body}
use Rattle.lfs_fs.specs.Path.{Path}
use Rattle.lfs_fs.specs.Reading.{Reading}
use Rattle.lfs_fs.specs.Thread.{is_hard, joined_to, pieces}
use Rattle.lfs_fs.specs.Tree.{Reached, entry_in, top}
use Rattle.lfs_fs.specs.Volume.{Volume}
use Rattle.lfs_fs.proofs.ContainsLemmas.{contains_cases, contains_first, contains_later, contains_none}
use Rattle.lfs_fs.proofs.EntryAtLemmas.{found}
use Rattle.lfs_fs.proofs.PairLemmas.{same_pair-is, same_pair-refl}
use Rattle.lfs_settle.specs.InStep.{pair_named, pairs_named}
use Rattle.lfs_settle.specs.Reached.{begins_in, groups, named_within, parts_of, reached_of}
use Rattle.lfs_settle.proofs.ReachedGroups.{contains_filtered, either_true, filter_all, path_within}
use Rattle.lfs_settle.proofs.SettledThread.{AreDirectories, groups_begin, put_before}

-- ---- the directories of groups

-- a part as the volume has it
abbrev pub part_from : Reading → PairPart → Part
part_from r p = (link_from r p).part

-- the parts of one directory as the volume has them
abbrev pub directory_from : Reading → PairPart → List PairPart → Directory
directory_from r p ps = record { first = part_from r p; more = map (part_from r) ps }

abbrev pub directories_from : Reading → List (List PairPart) → List Directory
directories_from r gs = flat_map (λ g. as_directory (map (part_from r) g)) gs

module _ (r : Reading) where
  pieces_by : (hard : Bool) (p : PairPart) (ps : List PairPart) → pieces (map (link_from r) ps) ≡ directories_from r (groups ps)
      → (if hard then joined_to (part_from r p) (pieces (map (link_from r) ps))
      else record { first = part_from r p; more = [] } ∷ pieces (map (link_from r) ps))
      ≡ directories_from r (put_before hard p (groups ps))
  unfolding onto
  pieces_by false p ps rest = ap (λ (ds : List Directory). record { first = part_from r p; more = [] } ∷ ds) rest
  pieces_by true p [] rest = refl
  pieces_by true p (q ∷ ps) rest =
      let begun = groups_begin q ps in
      ap (joined_to (part_from r p)) (rest ∙ ap (directories_from r) begun.is)
      ∙ ap (λ (gs : List (List PairPart)). directories_from r (onto p gs)) (sym begun.is)

  pub pieces_are : (ps : List PairPart) → pieces (map (link_from r) ps) ≡ directories_from r (groups ps)
  pieces_are [] = refl
  pieces_are (p ∷ ps) = pieces_by (is_hard p.1.tail) p ps (pieces_are ps)

  -- a directory is that of some parts
  pub record IsFromGroup (gs : List (List PairPart)) (d : Directory) : Type 0 where
    pub first : PairPart
    pub more : List PairPart
    pub there : Contains gs (first ∷ more)
    pub is : d ≡ directory_from r first more

  later_group : (g : List PairPart) (gs : List (List PairPart)) (d : Directory) → IsFromGroup gs d → IsFromGroup (g ∷ gs) d
  later_group g gs d of = record { first = of.first; more = of.more; there = contains_later g gs (of.first ∷ of.more) of.there; is = of.is }

  from_group : (gs : List (List PairPart)) (d : Directory) → Contains (directories_from r gs) d → IsFromGroup gs d
  from_group [] d there = absurd (contains_none d there)
  from_group ([] ∷ gs) d there = later_group [] gs d (from_group gs d there)
  from_group ((p ∷ ps) ∷ gs) d there =
      elim (contains_cases (directory_from r p ps) (directories_from r gs) d there) [
        | inl is ↦ record { first = p; more = ps; there = contains_first (p ∷ ps) gs; is = is }
        | inr later ↦ later_group (p ∷ ps) gs d (from_group gs d later)
      ]

  same_directory : (p q : PairPart) (ps qs : List PairPart) → p ∷ ps ≡ q ∷ qs → directory_from r p ps ≡ directory_from r q qs
  same_directory p q ps qs is =
      let first : p ≡ q = cc in
      let more : ps ≡ qs = cc in
      ap (λ (x : PairPart). directory_from r x ps) first ∙ ap (directory_from r q) more

  -- and parts make one
  to_directory : (p : PairPart) (ps : List PairPart) (gs : List (List PairPart)) → Contains gs (p ∷ ps)
      → Contains (directories_from r gs) (directory_from r p ps)
  to_directory p ps [] there = absurd (contains_none (p ∷ ps) there)
  to_directory p ps ([] ∷ gs) there =
      elim (contains_cases [] gs (p ∷ ps) there) [ inl is ↦ cc | inr later ↦ to_directory p ps gs later ]
  to_directory p ps ((q ∷ qs) ∷ gs) there =
      elim (contains_cases (q ∷ qs) gs (p ∷ ps) there) [
        | inl is ↦ subst (λ (d : Directory). Contains (directory_from r q qs ∷ directories_from r gs) d) (sym (same_directory p q ps qs is))
            (contains_first (directory_from r q qs) (directories_from r gs))
        | inr later ↦ contains_later (directory_from r q qs) (directories_from r gs) (directory_from r p ps) (to_directory p ps gs later)
      ]

-- ---- what entries lead to is named

-- a directory is named by its pair, the lesser block first
abbrev pub IsKeyed : Pair → List Pair → Type 0
IsKeyed k named = list_any (λ q. same_pair k (unordered q)) named ≡ true

keyed_append : (k : Pair) (xs ys : List Pair) → IsKeyed k xs ⊎ IsKeyed k ys → IsKeyed k (xs ++ ys)
keyed_append k xs ys h =
    list_any-append (λ q. same_pair k (unordered q)) xs ys
    ∙ either_true (list_any (λ q. same_pair k (unordered q)) xs) (list_any (λ q. same_pair k (unordered q)) ys) h

module _ (r : Reading) (x : Entry) (k : Pair) (leads : target x ≡ Some k) where
  no_chain : (size : ℕ) (o : Option (List ℕ)) → body_target (chained r size o) ≡ Some k → ⊥
  no_chain size None is = cc
  no_chain size (Some blocks) is = cc

  keyed_body : (body : StoredBody) → body_target (resolved_body r body) ≡ Some k → IsKeyed k (option_to_list (pair_named body))
  keyed_body (Stored_inline bytes) is = cc
  keyed_body (Stored_chain head size) is = absurd (no_chain size (r.chain head size) is)
  keyed_body (Stored_directory first second) is =
      let same : unordered (first, second) ≡ k = cc in
      ap (λ (j : Pair). same_pair k j || false) same ∙ ap (λ (b : Bool). b || false) (same_pair-refl k)

  keyed_one : (e : StoredEntry) → Contains (record { name = e.name; body = resolved_body r e.body; attributes = e.attributes } ∷ []) x
      → IsKeyed k (option_to_list (pair_named e.body))
  keyed_one e there =
      elim (contains_cases (record { name = e.name; body = resolved_body r e.body; attributes = e.attributes }) [] x there) [
        | inl is ↦ keyed_body e.body (sym (ap target is) ∙ leads)
        | inr none ↦ absurd (contains_none x none)
      ]

  keyed_kind : (e : StoredEntry) (kind : Kind) → Contains (resolved_as r e kind) x → IsKeyed k (option_to_list (pair_named e.body))
  keyed_kind e Super there = absurd (contains_none x there)
  keyed_kind e File there = keyed_one e there
  keyed_kind e Dir there = keyed_one e there

  keyed_entries : (es : List StoredEntry) → Contains (flat_map (resolved r) es) x
      → IsKeyed k (flat_map (λ e. option_to_list (pair_named e.body)) es)
  keyed_entries [] there = absurd (contains_none x there)
  keyed_entries (e ∷ es) there =
      keyed_append k (option_to_list (pair_named e.body)) (flat_map (λ (y : StoredEntry). option_to_list (pair_named y.body)) es)
      (elim (Contains-append_cases (resolved r e) (flat_map (resolved r) es) x there) [
        | inl here ↦ inl (keyed_kind e e.kind here)
        | inr later ↦ inr (keyed_entries es later)
      ])

  keyed_parts : (ps : List PairPart) → Contains (flat_map (λ (p : Part). p.entries) (map (part_from r) ps)) x → IsKeyed k (pairs_named ps)
  keyed_parts [] there = absurd (contains_none x there)
  keyed_parts (p ∷ ps) there =
      keyed_append k (flat_map (λ (e : StoredEntry). option_to_list (pair_named e.body)) p.1.entries) (pairs_named ps)
      (elim (Contains-append_cases (part_from r p).entries (flat_map (λ (q : Part). q.entries) (map (part_from r) ps)) x there) [
        | inl here ↦ inl (keyed_entries p.1.entries here)
        | inr later ↦ inr (keyed_parts ps later)
      ])

pub keyed_among : (k : Pair) (g : List PairPart) (gs : List (List PairPart)) → Contains gs g → IsKeyed k (pairs_named g)
    → IsKeyed k (pairs_named (parts_of gs))
keyed_among k g [] there is = absurd (contains_none g there)
keyed_among k g (h ∷ gs) there is =
    ap (list_any (λ q. same_pair k (unordered q))) (flat_map-append _ h (parts_of gs))
    ∙ keyed_append k (pairs_named h) (pairs_named (parts_of gs))
    (elim (contains_cases h gs g there) [
      | inl same ↦ inl (subst (λ (x : List PairPart). IsKeyed k (pairs_named x)) same is)
      | inr later ↦ inr (keyed_among k g gs later is)
    ])

-- ---- along a path

module _ (r : Reading) (gs : List (List PairPart)) where
  -- what an entry leads to is named within so many names
  abbrev Leads : ℕ → Option Entry → Type 0
  Leads n here = (e : Entry) (k : Pair) → here ≡ Some e → target e ≡ Some k → IsKeyed k (named_within gs n)

  below_found : (n : ℕ) (k : Pair) (x : Name) (o : Option Directory) (e : Entry) (j : Pair) → IsKeyed k (named_within gs n)
      → find (begins_at k) (directories_from r gs) ≡ o → option_and_then (λ d. find (is_named x) (entries d)) o ≡ Some e → target e ≡ Some j
      → IsKeyed j (named_within gs (suc n))
  below_found n k x None e j named at is leads = cc
  below_found n k x (Some d) e j named at is leads =
      let there = found (begins_at k) (directories_from r gs) d at in
      let of = from_group r gs d there.0 in
      let same : k ≡ unordered of.first.0 = same_pair-is k (key d) there.1 ∙ ap key of.is in
      let inside : Contains (entries d) e = (found _ (entries d) e is).0 in
      let passes : begins_in (named_within gs n) (of.first ∷ of.more) ≡ true = subst (λ (q : Pair). IsKeyed q (named_within gs n)) same named in
      either_true (same_pair j (unordered root)) (list_any (λ q. same_pair j (unordered q))
      (pairs_named (parts_of (filter (begins_in (named_within gs n)) gs))))
      (inr (keyed_among j (of.first ∷ of.more) (filter (begins_in (named_within gs n)) gs)
      (contains_filtered (begins_in (named_within gs n)) gs (of.first ∷ of.more) of.there passes)
      (keyed_parts r e j leads (of.first ∷ of.more) (subst (λ (y : Directory). Contains (entries y) e) of.is inside))))

  below_target : (n : ℕ) (x : Name) (o : Option Pair) (e : Entry) (j : Pair) → ((k : Pair) → o ≡ Some k → IsKeyed k (named_within gs n))
      → option_and_then (λ k. entry_in (directories_from r gs) k x) o ≡ Some e → target e ≡ Some j → IsKeyed j (named_within gs (suc n))
  below_target n x None e j named is leads = cc
  below_target n x (Some k) e j named is leads =
      below_found n k x (find (begins_at k) (directories_from r gs)) e j (named k refl) refl is leads

  one_below : (n : ℕ) (x : Name) (here : Option Entry) → Leads n here
      → Leads (suc n) (entry_within target (entry_in (directories_from r gs)) x here)
  one_below n x None all e j is leads = cc
  one_below n x (Some e0) all e j is leads = below_target n x (target e0) e j (λ k at. all e0 k refl at) is leads

  path_leads : (path : Path) (n : ℕ) (here : Option Entry) (e : Entry) (k : Pair) → Leads n here
      → walk target (entry_in (directories_from r gs)) here path ≡ Some e → target e ≡ Some k → (m : ℕ) × IsKeyed k (named_within gs m)
  path_leads [] n here e k all is leads = (n, all e k is leads)
  path_leads (x ∷ path) n here e k all is leads =
      path_leads path (suc n) (entry_within target (entry_in (directories_from r gs)) x here) e k (one_below n x here all) is leads

-- a directory has parts
no_directory : (gs : List (List PairPart)) → AreDirectories gs → Contains gs [] → ⊥
no_directory [] all there = contains_none [] there
no_directory ([] ∷ gs) all there = all.0
no_directory ((p ∷ ps) ∷ gs) all there =
    elim (contains_cases (p ∷ ps) gs [] there) [ inl is ↦ cc | inr later ↦ no_directory gs all.1 later ]

-- a directory that is reached begins within the names of some path
module _ (r : Reading) (gs : List (List PairPart)) (v : Volume) (same : v.directories ≡ directories_from r gs) where
  top_leads : Leads r gs 0 (Some (top v))
  top_leads e k is leads =
      let at : top v ≡ e = cc in
      let first : unordered root ≡ k = cc (ap target at, leads) in
      subst (λ (q : Pair). IsKeyed q (named_within gs 0)) first refl

  reached_first : (p : PairPart) (ps : List PairPart) → Contains gs (p ∷ ps) → Reached v (unordered p.0)
      → begins_in (named_within gs (length gs)) (p ∷ ps) ≡ true
  reached_first p ps there (path, e, at, leads) =
      let named = path_leads r gs path 0 (Some (top v)) e (unordered p.0) top_leads
      (ap (λ (ds : List Directory). walk target (entry_in ds) (Some (top v)) path) (sym same) ∙ at) leads in
      path_within gs named.0 (p ∷ ps) there named.1

  reached_group : (g : List PairPart) → Contains gs g → (g ≡ [] → ⊥) → All (λ d. Reached v (key d)) v.directories
      → begins_in (named_within gs (length gs)) g ≡ true
  reached_group [] there some all = absurd (some refl)
  reached_group (p ∷ ps) there some all =
      reached_first p ps there
      (All-contains (λ (d : Directory). Reached v (key d)) v.directories (directory_from r p ps) all
      (subst (λ (ds : List Directory). Contains ds (directory_from r p ps)) (sym same) (to_directory r p ps gs there)))

  -- all of them are reached
  pub all_reached : AreDirectories gs → All (λ d. Reached v (key d)) v.directories → reached_of gs ≡ gs
  all_reached directories all =
      filter_all (begins_in (named_within gs (length gs))) gs
      (λ g there. reached_group g there (λ none. no_directory gs directories (subst (Contains gs) none there)) all)
