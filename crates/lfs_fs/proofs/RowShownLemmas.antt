-- What rows show of an image's tree.
use Rattle.std.proofs.Common.{◌≡◌, ◌⊎◌, ℕ, ◌<◌, ◌≤◌, List, [], ◌∷◌, Option, Some, None, refl, ap, sym, ◌∙◌, subst, inl, inr, arith, length}
use Rattle.std.proofs.Common.{zero, suc}
use Rattle.std.specs.Prelude.{All, Contains, flat_map}
use Rattle.std.specs.List.{AllZip}
use Rattle.std.specs.Option.{option_map}
use Rattle.std.proofs.lemmas.Option.{none-some, same_Some}
use Rattle.std.proofs.lemmas.List.{length-replicate}
use Rattle.std.proofs.lemmas.List.Concat.{flat_map-cons}
use Rattle.std.proofs.lemmas.List.Elements.{All-contains, All-head, All-tail, All-weaker, All-contains_itself, Contains-append_left}
use Rattle.std.proofs.lemmas.List.Elements.{Contains-append_right, Contains-append_cases}
use Rattle.lfs_block.specs.Disk.{Disk, IsDisk}
use Rattle.lfs_file.specs.Content.{content}
use Rattle.lfs_file.specs.Laws.{ChainsDiffer, ChainsFit, ContentHasLength, FoundAreChains}
use Rattle.lfs_meta.specs.declared.tail.Tail.{Tail}
use Rattle.lfs_meta.specs.Attribute.{Attributes}
use Rattle.lfs_meta.specs.Body.{StoredBody, Inline as Stored_inline, Chain as Stored_chain, Directory_at as Stored_directory}
use Rattle.lfs_meta.specs.Entry.{StoredEntry}
use Rattle.lfs_fs.specs.Path.{Path}
use Rattle.lfs_fs.specs.Entry.{Body, Inline, Chain, Directory_at, Entry}
use Rattle.lfs_fs.specs.Directory.{Part, Directory, entries, begins_at}
use Rattle.lfs_fs.specs.Volume.{Volume}
use Rattle.lfs_fs.specs.Tree.{File, entry_at, node, node_of, top}
use Rattle.lfs_fs.specs.Thread.{Link, links_of, links, tail_to, hard_to}
use Rattle.lfs_fs.specs.Reading.{Reading, reading_of}
use Rattle.lfs_fs.specs.Stored.{BodyStands, StandsFor, IsStored, HoldsLinks}
use Rattle.lfs_fs.specs.Row.{Row}
use Rattle.lfs_fs.specs.RowShown.{shown_body, shown_node, HasBlocks, RowsShowTheTree}
use Rattle.lfs_fs.specs.Outlined.{outlined_body, outlined_entry}
use Rattle.lfs_fs.specs.Mounted.{MountedValue, IsMountOf}
use Rattle.lfs_fs.proofs.OutlinedLemmas.{outlined_at}
use Rattle.lfs_fs.proofs.BothSidesLemmas.{held_are_held_by_links}
use Rattle.lfs_fs.proofs.EntryAtLemmas.{by_last_name, found, stands_below}

-- ---- where an entry stands

-- an entry of one of the directories
abbrev StandsIn : List Directory → Entry → Type 0
StandsIn ds e = (d : Directory) × Contains ds d × Contains (entries d) e

-- what is at a path is the root, or an entry of a directory
in_volume : (v : Volume) (p : Path) (e : Entry) → entry_at v p ≡ Some e → (e ≡ top v) ⊎ StandsIn v.directories e
in_volume v =
    by_last_name (λ (p : Path). (e : Entry) → entry_at v p ≡ Some e → (e ≡ top v) ⊎ StandsIn v.directories e)
    (λ e there. inl (sym (same_Some (top v) e there)))
    (λ p n above e there. let below = stands_below v p n e there in inr
    (below.directory, (found (begins_at below.pair) v.directories below.directory below.begins).0, below.member))

none_there : {X : Type 0} {x : X} → Contains [] x → ⊥
none_there there = omega arith

-- the link of the part that has an entry
abbrev HasLink : (Link → Type 0) → Entry → Type 0
HasLink P e = (l : Link) × P l × Contains l.part.entries e

along_parts : (P : Link → Type 0) (p : Part) (ps : List Part) (tail : Tail) (e : Entry) → All P (links_of p ps tail)
    → Contains (flat_map (λ q. q.entries) (p ∷ ps)) e → HasLink P e
along_parts P p [] tail e all there = elim (Contains-append_cases p.entries [] e
    (subst (λ (es : List Entry). Contains es e) (flat_map-cons (λ (q : Part). q.entries) p []) there)) [
      | inl here ↦ (record { part = p; tail = tail }, All-head P (record { part = p; tail = tail }) [] all, here)
      | inr none ↦ absurd (none_there none)
    ]
along_parts P p (q ∷ ps) tail e all there =
    elim (Contains-append_cases p.entries (flat_map (λ x. x.entries) (q ∷ ps)) e
    (subst (λ (es : List Entry). Contains es e) (flat_map-cons (λ (x : Part). x.entries) p (q ∷ ps)) there)) [
      | inl here ↦ (
        record { part = p; tail = hard_to q.pair },
        All-head P (record { part = p; tail = hard_to q.pair })
            (links_of q ps tail) all,
        here,
      )
      | inr later ↦ along_parts P q ps tail e (All-tail P (record { part = p; tail = hard_to q.pair }) (links_of q ps tail) all) later
    ]

along_thread : (P : Link → Type 0) (ds : List Directory) (d : Directory) (e : Entry) → ((l : Link) → Contains (links ds) l → P l)
    → Contains ds d → Contains (entries d) e → HasLink P e
along_thread P [] d e each there inside = absurd (none_there there)
along_thread P (x ∷ ds) d e each (zero, within, is) inside =
    let all : All P (links_of x.first x.more (tail_to ds)) =
    All-weaker (Contains (links_of x.first x.more (tail_to ds))) P (λ l here.
    each l (Contains-append_left (links_of x.first x.more (tail_to ds)) (links ds) l here))
    (links_of x.first x.more (tail_to ds)) (All-contains_itself (links_of x.first x.more (tail_to ds))) in
    along_parts P x.first x.more (tail_to ds) e all (subst (λ (y : Directory). Contains (entries y) e) (sym is) inside)
along_thread P (x ∷ ds) d e each (suc i, within, is) inside =
    along_thread P ds d e (λ l later. each l (Contains-append_right (links_of x.first x.more (tail_to ds)) (links ds) l later))
    (i, omega arith, is) inside

-- what is stored of an entry
stored_of : (r : Reading) (ss : List StoredEntry) (xs : List Entry) (e : Entry) → AllZip (StandsFor r) ss xs → Contains xs e
    → (s : StoredEntry) × StandsFor r s e
stored_of r [] [] e stand there = absurd (none_there there)
stored_of r [] (x ∷ xs) e stand there = absurd stand
stored_of r (s ∷ ss) [] e stand there = absurd stand
stored_of r (s ∷ ss) (x ∷ xs) e stand (zero, within, is) = (s, subst (StandsFor r s) is stand.0)
stored_of r (s ∷ ss) (x ∷ xs) e stand (suc i, within, is) = stored_of r ss xs e stand.1 (i, omega arith, is)

-- ---- what a body is on the disk

-- a file's chain is there, with its bytes
abbrev IsThere : Disk → Body → Type 0
IsThere d (Inline bytes) = Unit {0}
IsThere d (Chain blocks bytes) = (content d (length bytes) blocks ≡ bytes) × All (λ b. b < d.count) blocks × (length blocks ≤ d.count)
IsThere d (Directory_at pair) = Unit {0}

there_as_stored : FoundAreChains → ContentHasLength → ChainsDiffer → ChainsFit → (d : Disk) → IsDisk d → (s : StoredBody) (b : Body)
    → BodyStands (reading_of d) s b → IsThere d b
there_as_stored chain long differ fit d disk s (Inline bytes) stands = tt
there_as_stored chain long differ fit d disk s (Directory_at pair) stands = tt
there_as_stored chain long differ fit d disk (Stored_inline stored) (Chain blocks bytes) stands = absurd stands
there_as_stored chain long differ fit d disk (Stored_directory first second) (Chain blocks bytes) stands = absurd stands
there_as_stored chain long differ fit d disk (Stored_chain head size) (Chain blocks bytes) stands =
    let is = chain d head size blocks disk stands.0 in
    let same : length bytes ≡ size = ap length stands.1 ∙ long d head size blocks disk is in
    (ap (λ (n : ℕ). content d n blocks) same ∙ sym stands.1, (differ d head size blocks disk stands.0).0, fit d head size blocks is)

shows_as : (d : Disk) (b : Body) (a : Attributes) → IsThere d b → (node_of b a ≡ shown_body d (outlined_body b) a)
    × HasBlocks d (outlined_body b)
shows_as d (Inline bytes) a there = (refl, tt)
shows_as d (Chain blocks bytes) a there = (
  ap (λ (bs : List ℕ). File bs a) (sym there.0 ∙ ap (λ (n : ℕ). content d n blocks) (sym (length-replicate (length bytes) 0))),
  (there.1, there.2),
)
shows_as d (Directory_at pair) a there = (refl, tt)

-- ---- the rows

row_shows : (d : Disk) (r : Row) (o : Option Entry) → ((e : Entry) → o ≡ Some e → IsThere d e.body)
    → option_map outlined_entry o ≡ Some r.entry
    → (option_map node o ≡ Some (shown_node d r.entry)) × HasBlocks d r.entry.body
row_shows d r None there is = absurd (none-some r.entry is)
row_shows d r (Some e) there is =
    let same : outlined_entry e ≡ r.entry = same_Some (outlined_entry e) r.entry is in
    let shows = shows_as d e.body e.attributes (there e refl) in
    (ap Some (shows.0 ∙ ap (λ (x : Entry). shown_node d x) same), subst (λ (x : Entry). HasBlocks d x.body) same shows.1)

-- what the outline of a volume has at a path
outline_at : (d : Disk) (m : MountedValue) (is : IsMountOf d m) (r : Row) → Contains m.rows r
    → option_map outlined_entry (entry_at is.volume r.path) ≡ Some r.entry
outline_at d m is r there =
    sym (outlined_at is.volume r.path) ∙ ap (λ (v : Volume). entry_at v r.path) (sym is.outline)
    ∙ All-contains (λ (x : Row). entry_at m.outline x.path ≡ Some x.entry) m.rows r is.rows.right there

pub rows_show_the_tree : FoundAreChains → ContentHasLength → ChainsDiffer → ChainsFit → RowsShowTheTree
rows_show_the_tree chain long differ fit d m is r disk there = row_shows d r (entry_at is.volume r.path) entry_there
    (outline_at d m is r there)
  where
    held : HoldsLinks (reading_of d) is.volume
    held = held_are_held_by_links (reading_of d) is.volume is.holds

    stands_there : (e : Entry) → StandsIn is.volume.directories e → IsThere d e.body
    stands_there e inside =
        let link = along_thread (IsStored (reading_of d) held.bytes is.volume.attributes) is.volume.directories inside.0 e
        (λ l here. All-contains (IsStored (reading_of d) held.bytes is.volume.attributes)
        (links is.volume.directories) l held.each here) inside.1 inside.2 in
        let stored = stored_of (reading_of d) link.1.others link.0.part.entries e link.1.stands link.2 in
        there_as_stored chain long differ fit d disk stored.0.body e.body stored.1.body

    entry_there : (e : Entry) → entry_at is.volume r.path ≡ Some e → IsThere d e.body
    entry_there e at = elim (in_volume is.volume r.path e at) [
      | inl root ↦ subst (λ (x : Entry). IsThere d x.body) (sym root) tt
      | inr inside ↦ stands_there e inside
    ]
