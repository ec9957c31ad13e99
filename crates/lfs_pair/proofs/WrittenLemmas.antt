-- The tags that a part is written as leave that part.
use Rattle.std.proofs.Common.{◌≡◌, ℕ, ◌+◌, ◌≤◌, ◌==◌, Bool, if◌then◌else◌, List, [], ◌∷◌, ◌++◌, length, map, refl, ap, sym, ◌∙◌, arith, Some}
use Rattle.std.proofs.Common.{append_assoc, append-nil, length-append, inl, inr}
use Rattle.std.specs.Prelude.{replicate}
use Rattle.std.specs.List.{AllByRecursion, list_all}
use Rattle.std.proofs.lemmas.Bool.{cases_Bool}
use Rattle.lfs_tag.specs.Commit.{Item}
use Rattle.lfs_meta.specs.declared.tail.Tail.{Tail}
use Rattle.lfs_meta.specs.declared.tail.Tail.TheVariants.{End, Soft, Hard}
use Rattle.lfs_meta.specs.Entry.{RawEntry, StoredEntry}
use Rattle.lfs_meta.specs.Fits.{EntryFits, TailFits}
use Rattle.lfs_meta.specs.Part.{StoredPart, empty_part}
use Rattle.lfs_meta.specs.Replay.{replay_from, replay}
use Rattle.lfs_meta.specs.Complete.{raw_of, raw_part}
use Rattle.lfs_meta.proofs.ReplayLemmas.{replay_from-none}
use Rattle.lfs_pair.specs.Difference.{tail_item}
use Rattle.lfs_pair.specs.Spelling.{tag_item, entry_tags, entries_tags, tail_tags, delta_tags, part_tags}
use Rattle.lfs_pair.proofs.EntryTags.{entry-comes}
use Rattle.lfs_pair.proofs.PlaceLemmas.{part_with, place, up_to-next}
use Rattle.lfs_pair.proofs.StructLemmas.{all_same}
use Rattle.lfs_pair.proofs.TailTags.{tail-set, delta-set}

-- ---- entries

entries-replay : (done : List RawEntry) (tail : Tail) (delta : List ℕ) (id : ℕ) (es : List StoredEntry) (more : List Item)
    → id ≡ length done
    → AllByRecursion EntryFits es → length done + length es ≤ 1023
    → replay_from (part_with done tail delta) (entries_tags id es ++ more) ≡ replay_from (part_with (done ++ map raw_of es) tail delta) more
unfolding entries_tags
entries-replay done tail delta id [] more is fits few =
    ap (λ (xs : List RawEntry). replay_from (part_with xs tail delta) more) (sym (append-nil done))
entries-replay done tail delta id (e ∷ es) more is fits few =
    ap (λ (ts : List Item). replay_from (part_with done tail delta) ts) (append_assoc (entry_tags id e) (entries_tags (id + 1) es) more)
    ∙ ap (λ (k : ℕ). replay_from (part_with done tail delta) (entry_tags k e ++ (entries_tags (id + 1) es ++ more))) is
    ∙ entry-comes done (place done [] tail delta) e (entries_tags (id + 1) es ++ more) fits.0 (omega arith) (up_to-next done)
    ∙ entries-replay (done ++ (raw_of e ∷ [])) tail delta (id + 1) es more (omega (arith, length-append done (raw_of e ∷ []))) fits.1
    (omega (arith, length-append done (raw_of e ∷ [])))
    ∙ ap (λ (xs : List RawEntry). replay_from (part_with xs tail delta) more) (append_assoc done (raw_of e ∷ []) (map raw_of es))

-- ---- the tail

tail-replay : (es : List RawEntry) (delta : List ℕ) (tail : Tail) (more : List Item) → TailFits tail
    → replay_from (part_with es End delta) (tail_tags tail ++ more) ≡ replay_from (part_with es tail delta) more
unfolding tail_item
tail-replay es delta End more fits = refl
tail-replay es delta (Soft a b) more fits = tail-set es End (Soft a b) delta more fits
tail-replay es delta (Hard a b) more fits = tail-set es End (Hard a b) delta more fits

-- ---- the delta

delta-replay : (es : List RawEntry) (tail : Tail) (delta : List ℕ) → length delta ≡ 12
    → replay_from (part_with es tail (replicate 12 0)) (delta_tags delta) ≡ Some (part_with es tail delta)
delta-replay es tail delta len = elim (cases_Bool (list_all (λ b. b == 0) delta)) [
  | inl zeros ↦
      let same : delta ≡ replicate 12 0 = all_same 0 delta zeros ∙ ap (λ (n : ℕ). replicate n 0) len in
      ap (λ (b : Bool). replay_from (part_with es tail (replicate 12 0)) (if b then [] else tag_item 0x7ff 0x3ff delta ∷ [])) zeros
      ∙ replay_from-none (part_with es tail (replicate 12 0)) ∙ ap (λ (d : List ℕ). Some (part_with es tail d)) (sym same)
  | inr some' ↦
      ap (λ (b : Bool). replay_from (part_with es tail (replicate 12 0)) (if b then [] else tag_item 0x7ff 0x3ff delta ∷ [])) some'
      ∙ delta-set es tail (replicate 12 0) delta len
]

-- ---- the part

pub written-replays : (p : StoredPart) → AllByRecursion EntryFits p.entries → length p.entries ≤ 1022 → TailFits p.tail
    → length p.delta ≡ 12
    → replay (part_tags p) ≡ Some (raw_part p)
unfolding empty_part
written-replays p fits few tail delta =
    ap replay (append_assoc (entries_tags 0 p.entries) (tail_tags p.tail) (delta_tags p.delta))
    ∙ entries-replay [] End (replicate 12 0) 0 p.entries (tail_tags p.tail ++ delta_tags p.delta) refl fits (omega arith)
    ∙ tail-replay (map raw_of p.entries) (replicate 12 0) p.tail (delta_tags p.delta) tail
    ∙ delta-replay (map raw_of p.entries) p.tail p.delta delta
