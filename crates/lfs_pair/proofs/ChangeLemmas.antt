-- The difference between two parts, appended to the tags that left the first one, leaves the second.
use Rattle.std.proofs.Common.{◌≡◌, ◌≤◌, List, [], ◌∷◌, ◌++◌, length, map, refl, ap, ◌∙◌, Option, Some, None}
use Rattle.std.specs.Prelude.{option_and_then, option_map}
use Rattle.std.specs.List.{AllByRecursion}
use Rattle.lfs_block.specs.Disk.{Disk}
use Rattle.lfs_block.specs.declared.mount_fault.MountFault.{MountFault}
use Rattle.lfs_block.specs.declared.mount_fault.MountFault.TheVariants.{Memory}
use Rattle.lfs_tag.specs.Commit.{Item}
use Rattle.lfs_tag.proofs.Steps.{map_some}
use Rattle.lfs_meta.specs.declared.kind.Kind.{Kind}
use Rattle.lfs_meta.specs.Attribute.{Attributes}
use Rattle.lfs_meta.specs.Body.{Pair, StoredBody}
use Rattle.lfs_meta.specs.Cause.{PairCause, ReadCause}
use Rattle.lfs_meta.specs.Entry.{RawEntry, StoredEntry}
use Rattle.lfs_meta.specs.Fits.{EntryFits, TailFits}
use Rattle.lfs_meta.specs.Name.{Name}
use Rattle.lfs_meta.specs.Part.{RawPart, StoredPart}
use Rattle.lfs_meta.specs.Replay.{replay, replay_from, step}
use Rattle.lfs_meta.specs.Complete.{IsComplete, all_complete, kind_takes_body, kind_takes_name, raw_of, raw_part, complete, complete_by, complete_part}
use Rattle.lfs_meta.proofs.ReplayLemmas.{replay_from-cons}
use Rattle.lfs_meta.proofs.CompleteLemmas.{and_then-split, when_both}
use Rattle.lfs_pair.specs.Difference.{Forced, part_between}
use Rattle.lfs_pair.specs.Laws.{PartsBecomeOthers, WrittenPartsAreComplete}

-- ---- what is complete is what its tags leave

complete_by-raw : (name : Option (Kind × Name)) (body : Option StoredBody) (attributes : Attributes) (w : StoredEntry)
    → complete_by name body attributes ≡ Some w
    → ◌≡◌ {A = RawEntry} (record { name = name; body = body; attributes = attributes }) (raw_of w)
complete_by-raw None body attributes w e = cc
complete_by-raw (Some name) None attributes w e = cc
complete_by-raw (Some name) (Some body) attributes w e =
    let x : StoredEntry = record { kind = name.0; name = name.1; body = body; attributes = attributes } in
    ap raw_of (when_both (kind_takes_body name.0 body) (kind_takes_name name.0 name.1) x w e).0

all_complete-are_raw : (es : List RawEntry) (ws : List StoredEntry) → all_complete es ≡ Some ws → es ≡ map raw_of ws
all_complete-are_raw [] ws all = let none : [] ≡ ws = cc in ap (map raw_of) none
all_complete-are_raw (d ∷ es) ws all =
    let (v, first, rest) = and_then-split (λ (v : StoredEntry). option_map (λ (vs : List StoredEntry). v ∷ vs) (all_complete es))
    (complete d) ws all in
    let (vs, more, is) = map_some (λ (vs : List StoredEntry). v ∷ vs) (all_complete es) ws rest in
    ap (λ (e : RawEntry). e ∷ es) (complete_by-raw d.name d.body d.attributes v first)
    ∙ ap (λ (rs : List RawEntry). raw_of v ∷ rs) (all_complete-are_raw es vs more)
    ∙ ap (map raw_of) is

complete_part-is_raw : (r : RawPart) (p : StoredPart) → complete_part r ≡ Some p → r ≡ raw_part p
complete_part-is_raw r p e =
    let made : List StoredEntry → StoredPart = λ (es : List StoredEntry). record { entries = es; tail = r.tail; delta = r.delta } in
    let (ws, all, is) = map_some made (all_complete r.entries) p e in
    ap (λ (rs : List RawEntry). let q : RawPart = record { entries = rs; tail = r.tail; delta = r.delta } in q)
    (all_complete-are_raw r.entries ws all)
    ∙ ap raw_part is

-- ---- more tags

replay_from-append : (p q : RawPart) (ts more : List Item) → replay_from p ts ≡ Some q → replay_from p (ts ++ more) ≡ replay_from q more
unfolding replay_from
replay_from-append p q [] more e = let same : p ≡ q = cc in ap (λ (r : RawPart). replay_from r more) same
replay_from-append p q (t ∷ ts) more e =
    let (r, first, rest) = and_then-split (λ (r : RawPart). replay_from r ts) (step p t) q e in
    replay_from-cons p r t (ts ++ more) first ∙ replay_from-append r q ts more rest

-- the difference replays
becomes : PartsBecomeOthers → (forced : Forced) (p q : StoredPart) (ts : List Item) (r : RawPart) → AllByRecursion EntryFits p.entries
    → AllByRecursion EntryFits q.entries → length p.entries ≤ 1023 → length q.entries ≤ 1023 → TailFits q.tail → length q.delta ≡ 12
    → replay ts ≡ Some r → complete_part r ≡ Some p → replay (ts ++ part_between forced p q) ≡ Some (raw_part q)
becomes law forced p q ts r old_fit new_fit old_few new_few tail delta replayed complete =
    replay_from-append _ r ts (part_between forced p q) replayed
    ∙ ap (λ (s : RawPart). replay_from s (part_between forced p q)) (complete_part-is_raw r p complete)
    ∙ law forced p q old_fit new_fit old_few new_few tail delta

-- a part whose tags are followed by the difference to another becomes the other
pub part-becomes : PartsBecomeOthers → WrittenPartsAreComplete → (forced : Forced) (p q : StoredPart) (old : Option (List Item))
    → AllByRecursion EntryFits p.entries → AllByRecursion EntryFits q.entries → length p.entries ≤ 1023 → length q.entries ≤ 1023
    → TailFits q.tail → length q.delta ≡ 12 → AllByRecursion IsComplete q.entries
    → option_and_then complete_part (option_and_then replay old) ≡ Some p
    → option_and_then complete_part (option_and_then replay (option_map (λ (ts : List Item). ts ++ part_between forced p q) old)) ≡ Some q
part-becomes law wholes forced p q None old_fit new_fit old_few new_few tail delta complete held = cc
part-becomes law wholes forced p q (Some ts) old_fit new_fit old_few new_few tail delta complete held =
    let (r, replayed, is) = and_then-split complete_part (replay ts) p held in
    ap (option_and_then complete_part) (becomes law forced p q ts r old_fit new_fit old_few new_few tail delta replayed is)
    ∙ wholes q complete

-- ---- a pair that isn't read

-- a fault other than want of memory is why the pair holds no part
pub has-cause : (fault : MountFault) (d : Disk) (pair : Pair) → ReadCause fault d pair → (fault ≡ Memory → ⊥) → PairCause fault d pair
has-cause Memory d pair cause other = absurd (other refl)
has-cause _ d pair cause other = cause
