-- The tags between two parts, replayed behind the first, leave the second.
use Rattle.std.proofs.Common.{◌≡◌, ℕ, ◌+◌, ◌<◌, ◌≤◌, List, [], ◌∷◌, ◌++◌, length, map, refl, ap, sym, ◌∙◌, arith, Some, suc, append_assoc}
use Rattle.std.proofs.Common.{length-append}
use Rattle.std.specs.List.{AllByRecursion}
use Rattle.lfs_tag.specs.Commit.{Item}
use Rattle.lfs_meta.specs.declared.tail.Tail.{Tail}
use Rattle.lfs_meta.specs.Entry.{RawEntry, StoredEntry, blank}
use Rattle.lfs_meta.specs.Fits.{EntryFits, TailFits}
use Rattle.lfs_meta.specs.Part.{RawPart, StoredPart}
use Rattle.lfs_meta.specs.Replay.{replay_from}
use Rattle.lfs_meta.specs.Complete.{raw_of, raw_part}
use Rattle.lfs_meta.proofs.ReplayLemmas.{replay_from-cons}
use Rattle.lfs_pair.specs.Difference.{Fate, Goes, Stays, Comes, Forced, create_item, delete_item, deletes, delta_between, entries_between}
use Rattle.lfs_pair.specs.Difference.{entry_between, fates, news, olds, part_between, puts, tail_between}
use Rattle.lfs_pair.specs.Spelling.{entry_tags}
use Rattle.lfs_pair.proofs.EntryTags.{entry-becomes, entry-comes}
use Rattle.lfs_pair.proofs.FateLemmas.{FateFits, fates-fit, news-fates, olds-fates, staying}
use Rattle.lfs_pair.proofs.PlaceLemmas.{Place, part_with, place, at_place, up_to-there}
use Rattle.lfs_pair.proofs.PlaceTags.{create-step, delete-step}
use Rattle.lfs_pair.proofs.TailTags.{delta-becomes, tail-becomes}

-- a place one entry further on
moved : (done : List RawEntry) (x : RawEntry) (rest : List RawEntry) (tail : Tail) (delta : List ℕ) (ts : List Item)
    → replay_from (part_with (done ++ (x ∷ rest)) tail delta) ts ≡ replay_from (part_with ((done ++ (x ∷ [])) ++ rest) tail delta) ts
moved done x rest tail delta ts =
    ap (λ (xs : List RawEntry). replay_from (part_with xs tail delta) ts) (sym (append_assoc done (x ∷ []) rest))

further : (done : List RawEntry) (x : RawEntry) (id : ℕ) → id ≡ length done → id + 1 ≡ length (done ++ (x ∷ []))
further done x id is = omega (arith, length-append done (x ∷ []))

-- ---- entries that go

delete-goes : (done rest : List RawEntry) (tail : Tail) (delta : List ℕ) (id : ℕ) (x : RawEntry) (more : List Item) → id ≡ length done
    → id < 1023
    → replay_from (part_with (done ++ (x ∷ rest)) tail delta) (delete_item id ∷ more) ≡ replay_from (part_with (done ++ rest) tail delta) more
delete-goes done rest tail delta id x more is few =
    let p : Place = place done rest tail delta in
    ap (λ (k : ℕ). replay_from (at_place p x) (delete_item k ∷ more)) is
    ∙ replay_from-cons (at_place p x) (part_with (done ++ rest) tail delta) (delete_item (length done)) more (delete-step p x (omega arith))

deletes-replay : (done : List RawEntry) (tail : Tail) (delta : List ℕ) (id : ℕ) (fs : List Fate) (more : List Item) → id ≡ length done
    → id + length (olds fs) ≤ 1023
    → replay_from (part_with (done ++ map raw_of (olds fs)) tail delta) (deletes id fs ++ more)
    ≡ replay_from (part_with (done ++ map raw_of (staying fs)) tail delta) more
unfolding deletes olds staying
deletes-replay done tail delta id [] more is few = refl
deletes-replay done tail delta id (Goes e ∷ fs) more is few =
    let room : id + suc (length (olds fs)) ≤ 1023 = few in
    delete-goes done (map raw_of (olds fs)) tail delta id (raw_of e) (deletes id fs ++ more) is (omega arith)
    ∙ deletes-replay done tail delta id fs more is (omega arith)
deletes-replay done tail delta id (Stays e f ∷ fs) more is few =
    let room : id + suc (length (olds fs)) ≤ 1023 = few in
    moved done (raw_of e) (map raw_of (olds fs)) tail delta (deletes (id + 1) fs ++ more)
    ∙ deletes-replay (done ++ (raw_of e ∷ [])) tail delta (id + 1) fs more (further done (raw_of e) id is) (omega arith)
    ∙ sym (moved done (raw_of e) (map raw_of (staying fs)) tail delta more)
deletes-replay done tail delta id (Comes f ∷ fs) more is few = deletes-replay done tail delta id fs more is few

-- ---- entries that stay, and those that come

put-stays : (forced : Forced) (done rest : List RawEntry) (tail : Tail) (delta : List ℕ) (id : ℕ) (e f : StoredEntry) (next more : List Item)
    → id ≡ length done → id < 1023 → FateFits (Stays e f)
    → replay_from (part_with (done ++ (raw_of e ∷ rest)) tail delta) ((entry_between forced id e f ++ next) ++ more)
    ≡ replay_from (part_with ((done ++ (raw_of f ∷ [])) ++ rest) tail delta) (next ++ more)
put-stays forced done rest tail delta id e f next more is few fits =
    let p : Place = place done rest tail delta in
    ap (replay_from (at_place p (raw_of e))) (append_assoc (entry_between forced id e f) next more)
    ∙ ap (λ (k : ℕ). replay_from (at_place p (raw_of e)) (entry_between forced k e f ++ (next ++ more))) is
    ∙ entry-becomes p forced e f (next ++ more) fits.0 fits.1 fits.2 (omega arith)
    ∙ moved done (raw_of f) rest tail delta (next ++ more)

put-comes : (done rest : List RawEntry) (tail : Tail) (delta : List ℕ) (id : ℕ) (f : StoredEntry) (next more : List Item)
    → id ≡ length done → id < 1023 → EntryFits f
    → replay_from (part_with (done ++ rest) tail delta) (create_item id ∷ ((entry_tags id f ++ next) ++ more))
    ≡ replay_from (part_with ((done ++ (raw_of f ∷ [])) ++ rest) tail delta) (next ++ more)
put-comes done rest tail delta id f next more is few fits =
    let p : Place = place done rest tail delta in
    let old : RawPart = part_with (done ++ rest) tail delta in
    ap (λ (k : ℕ). replay_from old (create_item k ∷ ((entry_tags k f ++ next) ++ more))) is
    ∙ replay_from-cons old (at_place p blank) (create_item (length done)) ((entry_tags (length done) f ++ next) ++ more)
    (create-step p (omega arith))
    ∙ ap (replay_from (at_place p blank)) (append_assoc (entry_tags (length done) f) next more)
    ∙ entry-comes (done ++ (blank ∷ rest)) p f (next ++ more) fits (omega arith) (up_to-there done blank rest)
    ∙ moved done (raw_of f) rest tail delta (next ++ more)

puts-replay : (forced : Forced) (done : List RawEntry) (tail : Tail) (delta : List ℕ) (id : ℕ) (fs : List Fate) (more : List Item)
    → id ≡ length done → AllByRecursion FateFits fs → id + length (news fs) ≤ 1023
    → replay_from (part_with (done ++ map raw_of (staying fs)) tail delta) (puts forced id fs ++ more)
    ≡ replay_from (part_with (done ++ map raw_of (news fs)) tail delta) more
unfolding news puts staying
puts-replay forced done tail delta id [] more is fits few = refl
puts-replay forced done tail delta id (Goes e ∷ fs) more is fits few = puts-replay forced done tail delta id fs more is fits.1 few
puts-replay forced done tail delta id (Stays e f ∷ fs) more is fits few =
    let room : id + suc (length (news fs)) ≤ 1023 = few in
    put-stays forced done (map raw_of (staying fs)) tail delta id e f (puts forced (id + 1) fs) more is (omega arith) fits.0
    ∙ puts-replay forced (done ++ (raw_of f ∷ [])) tail delta (id + 1) fs more (further done (raw_of f) id is) fits.1 (omega arith)
    ∙ sym (moved done (raw_of f) (map raw_of (news fs)) tail delta more)
puts-replay forced done tail delta id (Comes f ∷ fs) more is fits few =
    let room : id + suc (length (news fs)) ≤ 1023 = few in
    put-comes done (map raw_of (staying fs)) tail delta id f (puts forced (id + 1) fs) more is (omega arith) fits.0
    ∙ puts-replay forced (done ++ (raw_of f ∷ [])) tail delta (id + 1) fs more (further done (raw_of f) id is) fits.1 (omega arith)
    ∙ sym (moved done (raw_of f) (map raw_of (news fs)) tail delta more)

-- ---- all entries, and the part

entries-become : (forced : Forced) (es fs : List StoredEntry) (tail : Tail) (delta : List ℕ) (more : List Item)
    → AllByRecursion EntryFits es → AllByRecursion EntryFits fs → length es ≤ 1023 → length fs ≤ 1023
    → replay_from (part_with (map raw_of es) tail delta) (entries_between forced es fs ++ more)
    ≡ replay_from (part_with (map raw_of fs) tail delta) more
entries-become forced es fs tail delta more old new few fewer =
    let all : List Fate = fates es fs in
    let left : List Item = puts forced 0 all ++ more in
    let olds_len : length (olds all) ≡ length es = ap (λ (xs : List StoredEntry). length xs) (olds-fates es fs) in
    let news_len : length (news all) ≡ length fs = ap (λ (xs : List StoredEntry). length xs) (news-fates es fs) in
    ap (replay_from (part_with (map raw_of es) tail delta)) (append_assoc (deletes 0 all) (puts forced 0 all) more)
    ∙ ap (λ (xs : List StoredEntry). replay_from (part_with (map raw_of xs) tail delta) (deletes 0 all ++ left)) (sym (olds-fates es fs))
    ∙ deletes-replay [] tail delta 0 all left refl (omega arith)
    ∙ puts-replay forced [] tail delta 0 all more refl (fates-fit es fs old new) (omega arith)
    ∙ ap (λ (xs : List StoredEntry). replay_from (part_with (map raw_of xs) tail delta) more) (news-fates es fs)

pub parts-become : (forced : Forced) (p q : StoredPart) → AllByRecursion EntryFits p.entries → AllByRecursion EntryFits q.entries
    → length p.entries ≤ 1023 → length q.entries ≤ 1023 → TailFits q.tail → length q.delta ≡ 12
    → replay_from (raw_part p) (part_between forced p q) ≡ Some (raw_part q)
parts-become forced p q old new few fewer tail delta =
    let tail_tags : List Item = tail_between p.tail q.tail in
    let delta_tags : List Item = delta_between p.delta q.delta in
    ap (replay_from (raw_part p)) (append_assoc (entries_between forced p.entries q.entries) tail_tags delta_tags)
    ∙ entries-become forced p.entries q.entries p.tail p.delta (tail_tags ++ delta_tags) old new few fewer
    ∙ tail-becomes (map raw_of q.entries) p.tail q.tail p.delta delta_tags tail
    ∙ delta-becomes (map raw_of q.entries) q.tail p.delta q.delta delta
