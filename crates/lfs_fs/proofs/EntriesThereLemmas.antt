-- The entries that are read along the thread of an image without a cause.
use Rattle.std.proofs.Common.{◌≡◌, ◌≢◌, ◌⊎◌, ℕ, ◌<◌, ◌≤◌, List, [], ◌∷◌, length, map, get_or, Option, Some, None, suc, refl, ap, arith}
use Rattle.std.specs.Prelude.{All, Contains, IsSome, flat_map}
use Rattle.std.specs.List.{slice_get}
use Rattle.std.proofs.lemmas.Bool.{cases_lt}
use Rattle.std.proofs.lemmas.List.{get_or_default}
use Rattle.std.proofs.lemmas.List.Elements.{All-nil, All-cons, All-append, All-map, Contains-get_or}
use mathlib.Core.Logic.{inl, inr}
use Rattle.lfs_block.specs.Disk.{Disk, IsDisk}
use Rattle.lfs_block.specs.declared.mount_fault.MountFault.TheVariants as fault
use Rattle.lfs_file.specs.Laws.{ChainsDiffer}
use Rattle.lfs_meta.specs.declared.kind.Kind.{Kind}
use Rattle.lfs_meta.specs.declared.kind.Kind.TheVariants.{File, Dir, Super}
use Rattle.lfs_meta.specs.Attribute.{Attributes}
use Rattle.lfs_meta.specs.Body.{Pair, StoredBody, Inline as Stored_inline, Chain as Stored_chain, Directory_at as Stored_directory}
use Rattle.lfs_meta.specs.Entry.{StoredEntry}
use Rattle.lfs_meta.specs.HeldLaws.{IsHeldEntry, HeldPartsAreComplete}
use Rattle.lfs_meta.specs.Laws.{NamesAreDecided}
use Rattle.lfs_meta.specs.Part.{StoredPart}
use Rattle.lfs_fs.specs.declared.limits.Limits.{Limits}
use Rattle.lfs_fs.specs.Pair.{root}
use Rattle.lfs_fs.specs.Entry.{Entry, body_length}
use Rattle.lfs_fs.specs.Thread.{Link}
use Rattle.lfs_fs.specs.Sound.{IsProper, AreAttributes}
use Rattle.lfs_fs.specs.Reading.{Reading, reading_of}
use Rattle.lfs_fs.specs.Front.{Follow, after, next_pair, IsFront, IsThread, pair_names}
use Rattle.lfs_fs.specs.Superblock.{HasSuperblock, header_of, superblock_entry}
use Rattle.lfs_fs.specs.Held.{chained, resolved_body, resolved_as, resolved, link_of, link_at, directories_at}
use Rattle.lfs_fs.specs.Holds.{IsResolved}
use Rattle.lfs_fs.specs.FrontCause.{StoredOn, IsOversized}
use Rattle.lfs_fs.specs.Cause.{HasNoCause}
use Rattle.lfs_fs.specs.Gathering.{stored_length}
use Rattle.lfs_fs.proofs.CountLemmas.{element_le}
use Rattle.lfs_fs.proofs.FoldersLemmas.{EachEntry, each_entry}
use Rattle.lfs_fs.proofs.KeepingLemmas.{named, long_name, long_file}
use Rattle.lfs_fs.proofs.NoCauseLemmas.{Lengths, names_itself}
use Rattle.lfs_fs.proofs.ResolvedLemmas.{stood_for}
use Rattle.lfs_fs.proofs.StoredLemmas.{all_got}
use Rattle.lfs_fs.proofs.SuperblockLemmas.{are_attributes}

-- an image without a cause, with the laws of the layers below
pub record IsClear (d : Disk) : Type 0 where
  pub disk : IsDisk d
  pub none : HasNoCause d
  pub held : HeldPartsAreComplete
  pub names : NamesAreDecided
  pub lengths : Lengths (reading_of d)
  pub differ : ChainsDiffer

-- its thread and its superblock
pub record HasFound (d : Disk) : Type 0 where
  pub pairs : List Pair
  pub is_thread : IsThread (reading_of d) pairs
  pub bytes : List ℕ
  pub attributes : Attributes
  pub superblock : HasSuperblock (reading_of d) bytes attributes

abbrev pub limits_of : {d : Disk} → HasFound d → Limits
limits_of f = (header_of f.bytes f.attributes).limits

-- ---- stored entries

unfoldable pub stored_on : (d : Disk) (f : HasFound d) (p : Pair) (s : StoredPart) (i : ℕ) (e : StoredEntry) → Contains f.pairs p
    → (reading_of d).part p ≡ Some s → slice_get s.entries i ≡ Some e → StoredOn (reading_of d) e
stored_on d f p s i e there read member = record {
  front = f.pairs;
  is_front = f.is_thread.front;
  pair = p;
  there = there;
  part = s;
  read = read;
  index = i;
  member = member;
}

-- the blocks of a pair of a front are the disk's
pub pair_below : (r : Reading) (ps : List Pair) (p : Pair) → IsFront r ps → Contains ps p → (p.0 < r.count) × (p.1 < r.count)
pair_below r ps p front there =
    let itself = names_itself p in (
      front.within p.0 (omega (arith, element_le (pair_names p.0) ps p there)),
      front.within p.1 (omega (arith, element_le (pair_names p.1) ps p there)),
    )

held_entry : (d : Disk) (e : StoredEntry) → IsClear d → StoredOn (reading_of d) e → IsHeldEntry e
held_entry d e c s =
    let below = pair_below (reading_of d) s.front s.pair s.is_front s.there in
    all_got IsHeldEntry s.part.entries s.index e (c.held d s.pair s.part c.disk below.0 below.1 s.read) s.member

chain_there : (d : Disk) (e : StoredEntry) (head size : ℕ) (o : Option (List ℕ)) → IsClear d → StoredOn (reading_of d) e
    → e.body ≡ Stored_chain head size → (reading_of d).chain head size ≡ o → IsSome o
chain_there d e head size None c s is found = absurd (c.none fault.BadSkipList tt
    (record { entry = e; stored = s; head = head; size = size; is_chain = is; none = found }))
chain_there d e head size (Some blocks) c s is found = refl

pub entry_resolved : (d : Disk) (e : StoredEntry) → IsClear d → (s : StoredOn (reading_of d) e) → (s.pair ≢ root) ⊎ (0 < s.index)
    → IsResolved (reading_of d) e
entry_resolved d e c s elsewhere = (
  λ kind. c.none fault.SuperblockElsewhere tt (record { entry = e; stored = s; kind = kind; elsewhere = elsewhere }),
  λ head size is. chain_there d e head size ((reading_of d).chain head size) c s is refl,
)

-- ---- limits

not_over : (d : Disk) (e : StoredEntry) → IsClear d → (f : HasFound d) → StoredOn (reading_of d) e → IsOversized (limits_of f) e → ⊥
not_over d e c f s over = c.none fault.BadSize tt (record {
  bytes = f.bytes;
  attributes = f.attributes;
  superblock = f.superblock;
  entry = e;
  stored = s;
  over = over;
})

value_fits : (d : Disk) (e : StoredEntry) (i : ℕ) (dflt : ℕ × List ℕ) → IsClear d → (f : HasFound d) → StoredOn (reading_of d) e
    → i < length e.attributes → length (get_or e.attributes i dflt).1 ≤ (limits_of f).attribute
value_fits d e i dflt c f s within =
    let a : ℕ × List ℕ = get_or e.attributes i dflt in
    elim (cases_lt (limits_of f).attribute (length a.1)) [
      | inl over ↦ absurd (not_over d e c f s (inr (inr (i, a, within, get_or_default e.attributes i a dflt within, over))))
      | inr fits ↦ fits
    ]

pub attributes_fit : (d : Disk) (e : StoredEntry) → IsClear d → (f : HasFound d) → StoredOn (reading_of d) e
    → AreAttributes (limits_of f).attribute e.attributes
attributes_fit d e c f s = are_attributes (limits_of f).attribute 0 e.attributes (held_entry d e c s).attributes
    (λ i dflt within. value_fits d e i dflt c f s within)

chained_at_most : (r : Reading) (head size : ℕ) (o : Option (List ℕ)) → Lengths r → r.chain head size ≡ o
    → body_length (chained r size o) ≤ size
chained_at_most r head size None lengths is = omega arith
chained_at_most r head size (Some blocks) lengths is = let same = lengths head size blocks is in omega arith

body_at_most : (r : Reading) (body : StoredBody) → Lengths r → body_length (resolved_body r body) ≤ stored_length body
body_at_most r (Stored_inline bytes) lengths = omega arith
body_at_most r (Stored_chain head size) lengths = chained_at_most r head size (r.chain head size) lengths refl
body_at_most r (Stored_directory first second) lengths = omega arith

name_fits : (d : Disk) (e : StoredEntry) → IsClear d → (f : HasFound d) → StoredOn (reading_of d) e → e.kind ≢ Super
    → length e.name ≤ (limits_of f).name
name_fits d e c f s other =
    elim (cases_lt (limits_of f).name (length e.name)) [
      | inl long ↦ absurd
          (not_over d e c f s (long_name (limits_of f) e other long))
      | inr fits ↦ fits
    ]

file_fits : (d : Disk) (e : StoredEntry) → IsClear d → (f : HasFound d) → StoredOn (reading_of d) e → e.kind ≢ Super
    → stored_length e.body ≤ (limits_of f).file
file_fits d e c f s other =
    elim (cases_lt (limits_of f).file (stored_length e.body)) [
      | inl long ↦ absurd
          (not_over d e c f s (long_file (limits_of f) e other (held_entry d e c s).complete long))
      | inr fits ↦ fits
    ]

pub entry_proper : (d : Disk) (e : StoredEntry) → IsClear d → (f : HasFound d) → StoredOn (reading_of d) e → e.kind ≢ Super
    → IsProper (limits_of f) (stood_for (reading_of d) e)
entry_proper d e c f s other =
    let size = file_fits d e c f s other in
    let body = body_at_most (reading_of d) e.body c.lengths in
    record {
      name = named e.kind e.name c.names other (held_entry d e c s).complete.name;
      name_fits = name_fits d e c f s other;
      file_fits = omega arith;
      attributes = attributes_fit d e c f s;
    }

-- ---- what holds of each stored entry holds of each entry of the volume

by_kind : (P : Entry → Type 0) (r : Reading) (e : StoredEntry) (kind : Kind) → (kind ≢ Super → P (stood_for r e))
    → All P (resolved_as r e kind)
by_kind P r e File h = All-cons P (stood_for r e) [] (h (λ same. cc)) (All-nil P)
by_kind P r e Dir h = All-cons P (stood_for r e) [] (h (λ same. cc)) (All-nil P)
by_kind P r e Super h = All-nil P

each_stored : (P : Entry → Type 0) (r : Reading) (es : List StoredEntry)
    → ((i : ℕ) (e : StoredEntry) → slice_get es i ≡ Some e → e.kind ≢ Super → P (stood_for r e)) → All P (flat_map (resolved r) es)
each_stored P r [] h = All-nil P
each_stored P r (e ∷ es) h = All-append P (resolved r e) (flat_map (resolved r) es) (by_kind P r e e.kind (h 0 e refl))
    (each_stored P r es (λ i. h (suc i)))

each_at : (P : Entry → Type 0) (d : Disk) (f : HasFound d) (p : Pair) (o : Option StoredPart)
    → ((e : StoredEntry) → StoredOn (reading_of d) e → e.kind ≢ Super → P (stood_for (reading_of d) e))
    → Contains f.pairs p → (reading_of d).part p ≡ o → All P (link_of (reading_of d) p o).part.entries
each_at P d f p None h there read = All-nil P
each_at P d f p (Some s) h there read = each_stored P (reading_of d) s.entries (λ i e member. h e (stored_on d f p s i e there read member))

pub each_link : (P : Entry → Type 0) (d : Disk) (f : HasFound d) → ((e : StoredEntry) → StoredOn (reading_of d) e → e.kind ≢ Super
    → P (stood_for (reading_of d) e))
    → All (λ l. All P l.part.entries) (map (link_at (reading_of d)) f.pairs)
each_link P d f h = All-map (λ (l : Link). All P l.part.entries) (link_at (reading_of d)) f.pairs
    (λ i dflt within. each_at P d f (get_or f.pairs i dflt) ((reading_of d).part (get_or f.pairs i dflt)) h
    (Contains-get_or f.pairs i dflt within) refl)

pub each_in : (P : Entry → Type 0) (d : Disk) (f : HasFound d) → ((e : StoredEntry) → StoredOn (reading_of d) e → e.kind ≢ Super
    → P (stood_for (reading_of d) e)) → EachEntry P (directories_at (reading_of d) f.pairs)
each_in P d f h = each_entry P (map (link_at (reading_of d)) f.pairs) (each_link P d f h)

-- ---- the root's entry

root_first : (step : Pair → Option Pair) (ps : List Pair) → Follow step (Some root) ps → after step (Some root) ps ≡ None → Contains ps root
root_first step [] follow ends = cc
root_first step (p ∷ ps) follow ends = (0, omega arith, let first : Some root ≡ Some p = follow.0 in cc)

pub thread_root : (r : Reading) (ps : List Pair) → IsThread r ps → Contains ps root
thread_root r ps h = root_first (next_pair r) ps h.front.follow h.ends

pub root_there : (d : Disk) (f : HasFound d) → Contains f.pairs root
root_there d f = thread_root (reading_of d) f.pairs f.is_thread

pub root_stored : (d : Disk) (f : HasFound d) → StoredOn (reading_of d) (superblock_entry f.bytes f.attributes)
root_stored d f = stored_on d f root f.superblock.part 0 (superblock_entry f.bytes f.attributes) (root_there d f) f.superblock.read
    (ap (λ es. slice_get es 0) f.superblock.is)
