-- Stored entries that stand for entries, and what is stored of a link.
use Rattle.std.proofs.Common.{◌≡◌, ℕ, Bool, true, false, List, [], ◌∷◌, Option, Some, None, refl, ap, sym, ◌∙◌, subst}
use Rattle.std.specs.Prelude.{All, IsSome, flat_map, if◌then◌else◌}
use Rattle.std.specs.List.{AllZip}
use Rattle.std.proofs.lemmas.List.Elements.{All-cons, All-nil, All-head, All-tail}
use Rattle.lfs_meta.specs.declared.tail.Tail.{Tail}
use Rattle.lfs_meta.specs.Attribute.{Attributes}
use Rattle.lfs_meta.specs.Body.{Pair, StoredBody, Inline as Stored_inline, Chain as Stored_chain, Directory_at as Stored_directory}
use Rattle.lfs_meta.specs.Entry.{StoredEntry}
use Rattle.lfs_meta.specs.Part.{StoredPart}
use Rattle.lfs_meta.specs.Name.{Name}
use Rattle.lfs_fs.specs.Pair.{root, same_pair}
use Rattle.lfs_fs.specs.Entry.{Body, Inline, Chain, Directory_at, Entry}
use Rattle.lfs_fs.specs.Thread.{Link, next}
use Rattle.lfs_fs.specs.Reading.{Reading}
use Rattle.lfs_fs.specs.Front.{next_pair, tail_of}
use Rattle.lfs_fs.specs.Superblock.{superblock_entry}
use Rattle.lfs_fs.specs.Held.{chained, resolved_body, resolved, link_of, link_at}
use Rattle.lfs_fs.specs.Holds.{IsResolved}
use Rattle.lfs_fs.specs.Stored.{BodyStands, StandsFor, stored_before, IsStored}
use Rattle.lfs_fs.proofs.ResolvedLemmas.{stood_for, resolved_is, Resolves, all_resolved}

-- ---- a stored entry stands for what it resolves to, and for nothing else

body_resolved : (r : Reading) (s : StoredBody) (b : Body) → BodyStands r s b → b ≡ resolved_body r s
body_resolved r (Stored_inline stored) (Inline bytes) h = ap Inline h
body_resolved r (Stored_inline stored) (Chain blocks bytes) h = absurd h
body_resolved r (Stored_inline stored) (Directory_at pair) h = absurd h
body_resolved r (Stored_chain head size) (Inline bytes) h = absurd h
body_resolved r (Stored_chain head size) (Chain blocks bytes) h = ap (Chain blocks) h.1 ∙ ap (chained r size) (sym h.0)
body_resolved r (Stored_chain head size) (Directory_at pair) h = absurd h
body_resolved r (Stored_directory first second) (Inline bytes) h = absurd h
body_resolved r (Stored_directory first second) (Chain blocks bytes) h = absurd h
body_resolved r (Stored_directory first second) (Directory_at pair) h = ap Directory_at h

stood_for_is : (r : Reading) (s : StoredEntry) (e : Entry) → StandsFor r s e → e ≡ stood_for r s
stood_for_is r s e h =
    ap (λ (n : Name). record { name = n; body = e.body; attributes = e.attributes }) h.name
    ∙ ap (λ (b : Body). record { name = s.name; body = b; attributes = e.attributes }) (body_resolved r s.body e.body h.body)
    ∙ ap (λ (a : Attributes). record { name = s.name; body = resolved_body r s.body; attributes = a }) h.attributes

resolves : (r : Reading) (s : StoredEntry) (e : Entry) → StandsFor r s e → Resolves r s e
resolves r s e h = resolved_is r s h.kind ∙ ap (λ (x : Entry). x ∷ []) (sym (stood_for_is r s e h))

chain_there : (r : Reading) (s : StoredBody) (b : Body) (head size : ℕ) → BodyStands r s b → s ≡ Stored_chain head size → IsSome (r.chain head size)
chain_there r s (Inline bytes) head size h is = absurd (subst (λ (x : StoredBody). BodyStands r x (Inline bytes)) is h)
chain_there r s (Chain blocks bytes) head size h is =
    let found = subst (λ (x : StoredBody). BodyStands r x (Chain blocks bytes)) is h in
    rw found.0 refl
chain_there r s (Directory_at pair) head size h is = absurd (subst (λ (x : StoredBody). BodyStands r x (Directory_at pair)) is h)

is_resolved : (r : Reading) (s : StoredEntry) (e : Entry) → StandsFor r s e → IsResolved r s
is_resolved r s e h = (h.kind, λ head size is. chain_there r s.body e.body head size h.body is)

chain_stands : (r : Reading) (head size : ℕ) (found : Option (List ℕ)) → r.chain head size ≡ found → IsSome found
    → BodyStands r (Stored_chain head size) (chained r size found)
chain_stands r head size None is some = cc
chain_stands r head size (Some blocks) is some = (is, refl)

body_stands : (r : Reading) (s : StoredBody) → ((head size : ℕ) → s ≡ Stored_chain head size → IsSome (r.chain head size))
    → BodyStands r s (resolved_body r s)
body_stands r (Stored_inline bytes) there = refl
body_stands r (Stored_chain head size) there = chain_stands r head size (r.chain head size) refl (there head size refl)
body_stands r (Stored_directory first second) there = refl

stands_for : (r : Reading) (s : StoredEntry) → IsResolved r s → StandsFor r s (stood_for r s)
stands_for r s h = record { kind = h.0; name = refl; attributes = refl; body = body_stands r s.body h.1 }

-- ---- one by one

pub each_stands : (r : Reading) (es : List StoredEntry) → All (IsResolved r) es → AllZip (StandsFor r) es (flat_map (resolved r) es)
each_stands r [] h = tt
each_stands r (s ∷ es) h =
    let here : IsResolved r s = All-head (IsResolved r) s es h in
    let one : resolved r s ≡ stood_for r s ∷ [] = resolved_is r s here.0 in
    rw one (stands_for r s here, each_stands r es (All-tail (IsResolved r) s es h))

pub all_resolve : (r : Reading) (es : List StoredEntry) (fs : List Entry) → AllZip (StandsFor r) es fs → AllZip (Resolves r) es fs
all_resolve r [] [] h = tt
all_resolve r [] (f ∷ fs) h = absurd h
all_resolve r (s ∷ es) [] h = absurd h
all_resolve r (s ∷ es) (f ∷ fs) h = (resolves r s f h.0, all_resolve r es fs h.1)

pub all_are_resolved : (r : Reading) (es : List StoredEntry) (fs : List Entry) → AllZip (StandsFor r) es fs → All (IsResolved r) es
all_are_resolved r [] [] h = All-nil (IsResolved r)
all_are_resolved r [] (f ∷ fs) h = absurd h
all_are_resolved r (s ∷ es) [] h = absurd h
all_are_resolved r (s ∷ es) (f ∷ fs) h = All-cons (IsResolved r) s es (is_resolved r s f h.0) (all_are_resolved r es fs h.1)

-- the superblock before them stands for nothing
either_resolved : (r : Reading) (first : Bool) (bytes : List ℕ) (attributes : Attributes) (others : List StoredEntry)
    → flat_map (resolved r) (if first then superblock_entry bytes attributes ∷ others else others) ≡ flat_map (resolved r) others
either_resolved r true bytes attributes others = refl
either_resolved r false bytes attributes others = refl

others_resolved : (r : Reading) (bytes : List ℕ) (attributes : Attributes) (pair : Pair) (stored : StoredPart) (others : List StoredEntry)
    → stored.entries ≡ stored_before bytes attributes pair others → flat_map (resolved r) stored.entries ≡ flat_map (resolved r) others
others_resolved r bytes attributes pair stored others is = ap (flat_map (resolved r)) is
    ∙ either_resolved r (same_pair pair root) bytes attributes others

-- ---- a link that is stored is what is read at its pair

abbrev link : Pair → List Entry → ℕ → Bool → Tail → Link
link pair entries delta dirty tail = record { part = record { pair = pair; entries = entries; delta = delta; dirty = dirty }; tail = tail }

same_link : (l m : Link) → l.part.pair ≡ m.part.pair → l.part.entries ≡ m.part.entries → l.part.delta ≡ m.part.delta
    → l.part.dirty ≡ m.part.dirty → l.tail ≡ m.tail → l ≡ m
same_link l m pair entries delta dirty tail =
    ap (λ (x : Pair). link x l.part.entries l.part.delta l.part.dirty l.tail) pair
    ∙ ap (λ (x : List Entry). link m.part.pair x l.part.delta l.part.dirty l.tail) entries
    ∙ ap (λ (x : ℕ). link m.part.pair m.part.entries x l.part.dirty l.tail) delta
    ∙ ap (λ (x : Bool). link m.part.pair m.part.entries m.part.delta x l.tail) dirty
    ∙ ap (λ (x : Tail). link m.part.pair m.part.entries m.part.delta m.part.dirty x) tail

pub read_at : (r : Reading) (bytes : List ℕ) (attributes : Attributes) (l : Link) → IsStored r bytes attributes l
    → link_at r l.part.pair ≡ l
read_at r bytes attributes l h =
    ap (link_of r l.part.pair) h.read
    ∙ same_link (link_of r l.part.pair (Some h.stored)) l refl
    (others_resolved r bytes attributes l.part.pair h.stored h.others h.entries
    ∙ all_resolved r h.others l.part.entries (all_resolve r h.others l.part.entries h.stands))
    h.delta (sym h.clean) h.tail

pub stored_step : (r : Reading) (bytes : List ℕ) (attributes : Attributes) (l : Link) → IsStored r bytes attributes l
    → next_pair r l.part.pair ≡ next l.tail
stored_step r bytes attributes l h = ap tail_of h.read ∙ ap next h.tail

-- what is read at a pair is stored there
pub stored_at : (r : Reading) (bytes : List ℕ) (attributes : Attributes) (pair : Pair) (stored : StoredPart) (others : List StoredEntry)
    → r.part pair ≡ Some stored → stored.entries ≡ stored_before bytes attributes pair others → All (IsResolved r) others
    → IsStored r bytes attributes (link_at r pair)
stored_at r bytes attributes pair stored others read is complete =
    subst (IsStored r bytes attributes) (sym (ap (link_of r pair) read)) (record {
      stored = stored;
      read = read;
      others = others;
      entries = is;
      stands = rw (others_resolved r bytes attributes pair stored others is) (each_stands r others complete);
      tail = refl;
      delta = refl;
      clean = refl;
    })
