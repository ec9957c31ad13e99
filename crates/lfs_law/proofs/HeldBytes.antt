-- What the tags of a block leave has contents of bytes, so that the words of a superblock's struct determine it.
use Rattle.std.proofs.Common.{◌≡◌, ℕ, suc, ◌+◌, ◌-◌, ◌*◌, ◌<◌, ◌≤◌, ◌==◌, ◌&&◌, ◌||◌, ◌/◌, ◌^◌, Bool, true, false, List}
use Rattle.std.proofs.Common.{[], ◌∷◌, ◌++◌, length, take, drop, refl, ap, sym, ◌∙◌, subst, arith, Option, Some, None, inl, inr}
use Rattle.std.proofs.Common.{if◌then◌else◌}
use Rattle.std.specs.Prelude.{bit_xor, All, IfSome, flat_map, option_and_then, option_map, slice_index_or}
use Rattle.std.specs.Int.{w32, from_le_bytes, to_be_bytes, to_le_bytes}
use Rattle.std.specs.List.{AllByRecursion}
use Rattle.std.proofs.Math.ListN.{get_or-eq_default}
use Rattle.std.proofs.lemmas.Bool.{cases_lt}
use Rattle.std.proofs.lemmas.List.{take-append-drop, length-take-le, length-drop}
use Rattle.std.proofs.lemmas.List.Elements.{All-nil, All-cons, All-head, All-tail, All-append, All-replicate, All-set, All-take, All-drop}
use Rattle.std.proofs.lemmas.List.Elements.{All-get_or}
use Rattle.std.proofs.lemmas.Nat.{le_bytes_4}
use Rattle.std.proofs.lemmas.Option.{option_and_then_some}
use Rattle.lfs_block.specs.Bytes.{IsBytes}
use Rattle.lfs_block.specs.Checksum.{crc}
use Rattle.lfs_block.specs.Disk.{Disk, IsDisk, block_of}
use Rattle.lfs_block.proofs.PutLemmas.{IsBytes-drop, IsBytes-take}
use Rattle.lfs_tag.specs.Tag.{type_of, id_of}
use Rattle.lfs_tag.specs.Commit.{Item, Commit, tags_bytes, last_word, covered_bytes, commit_bytes, next_word}
use Rattle.lfs_tag.specs.Laws.{BlocksHaveALog}
use Rattle.lfs_tag.specs.Log.{IsLog, commits_bytes, log_tags}
use Rattle.lfs_tag.specs.LogSeen.{LogSeen, log_seen}
use Rattle.lfs_tag.specs.Reading.{log_of}
use Rattle.lfs_tag.proofs.Codec.{IsBytes-front, IsBytes-back}
use Rattle.lfs_meta.specs.declared.kind.Kind.{Kind}
use Rattle.lfs_meta.specs.declared.live_block.LiveBlock.{LiveBlock}
use Rattle.lfs_meta.specs.declared.live_block.LiveBlock.TheVariants.{First, Second, Neither}
use Rattle.lfs_meta.specs.Action.{action_of}
use Rattle.lfs_meta.specs.Attribute.{Attributes}
use Rattle.lfs_meta.specs.Body.{Pair, StoredBody, Inline, Chain as Stored_chain, Directory_at as Stored_directory, struct_word, body_named}
use Rattle.lfs_meta.specs.Entry.{RawEntry, StoredEntry, blank}
use Rattle.lfs_meta.specs.Laws.{IsLive, LiveBlocksAreRead}
use Rattle.lfs_meta.specs.LiveBlock.{live_block, live_log, tags_of, stored_part_of}
use Rattle.lfs_meta.specs.Name.{Name}
use Rattle.lfs_meta.specs.Part.{RawPart, StoredPart, empty_part}
use Rattle.lfs_meta.specs.Replay.{acted, replay_by, step, replay_from, replay, at_entry, up_to, named_by, embodied_by, attributed_by}
use Rattle.lfs_meta.specs.Complete.{kind_takes_body, kind_takes_name, complete_by, complete, all_complete, complete_part}
use Rattle.lfs_meta.proofs.HeldPartLemmas.{block_bytes, same_tags}
use Rattle.lfs_block.proofs.BlockLens.{length-block}

-- ---- tags

-- a tag's data
abbrev HasBytes : Item → Type 0
HasBytes t = IsBytes t.content

tags_have : (prev : ℕ) (ts : List Item) → IsBytes (tags_bytes prev ts) → AllByRecursion HasBytes ts
unfolding tags_bytes
tags_have prev [] all = tt
tags_have prev (t ∷ ts) all =
    let rest = IsBytes-back (to_be_bytes w32 (bit_xor t.word prev)) (t.content ++ tags_bytes t.word ts) all in
    (IsBytes-front t.content (tags_bytes t.word ts) rest, tags_have t.word ts (IsBytes-back t.content (tags_bytes t.word ts) rest))

commit_has : (lead : List ℕ) (prev : ℕ) (c : Commit) → IsBytes (commit_bytes lead prev c) → AllByRecursion HasBytes c.tags
commit_has lead prev c all =
    tags_have prev c.tags
    (IsBytes-front (tags_bytes prev c.tags) (to_be_bytes w32 (bit_xor c.closing (last_word prev c.tags)))
    (IsBytes-front (covered_bytes prev c) (to_le_bytes w32 (crc 0xffffffff (lead ++ covered_bytes prev c)))
    (IsBytes-front (covered_bytes prev c ++ to_le_bytes w32 (crc 0xffffffff (lead ++ covered_bytes prev c))) c.padding all)))

both_have : (ts us : List Item) → AllByRecursion HasBytes ts → AllByRecursion HasBytes us → AllByRecursion HasBytes (ts ++ us)
both_have [] us here there = there
both_have (t ∷ ts) us here there = (here.0, both_have ts us here.1 there)

commits_have : (lead : List ℕ) (prev : ℕ) (cs : List Commit) → IsBytes (commits_bytes lead prev cs) → AllByRecursion HasBytes (log_tags cs)
unfolding commits_bytes
commits_have lead prev [] all = tt
commits_have lead prev (c ∷ cs) all =
    let later : List ℕ = commits_bytes [] (next_word c) cs in
    both_have c.tags (log_tags cs) (commit_has lead prev c (IsBytes-front (commit_bytes lead prev c) later all))
    (commits_have [] (next_word c) cs (IsBytes-back (commit_bytes lead prev c) later all))

log_has : (block : List ℕ) (cs : List Commit) (rest : List ℕ) → IsBytes block → IsLog block cs rest → AllByRecursion HasBytes (log_tags cs)
log_has block cs rest all log =
    let parts : IsBytes (log.revision ++ commits_bytes log.revision 0xffffffff cs ++ rest) = subst IsBytes log.parts all in
    let commits : List ℕ = commits_bytes log.revision 0xffffffff cs in
    commits_have log.revision 0xffffffff cs (IsBytes-back log.revision commits (IsBytes-front (log.revision ++ commits) rest parts))

block_has : BlocksHaveALog → (d : Disk) (n : ℕ) (log : LogSeen) (tags : List Item) → IsDisk d → n < d.count → log ≡ log_seen (block_of d n)
    → log.tags ≡ tags → AllByRecursion HasBytes tags
block_has logs d n log tags disk below is same =
    let block : List ℕ = block_of d n in
    let there = logs block (omega (arith, length-block d n disk below, disk.geometry.size_fits.0)) (block_bytes d n disk) in
    let these : log_tags (log_of block).commits ≡ tags = sym (ap (λ (l : LogSeen). l.tags) is) ∙ same in
    subst (AllByRecursion HasBytes) these (log_has block (log_of block).commits (log_of block).rest (block_bytes d n disk) there)

live_has : BlocksHaveALog → (d : Disk) (pair : Pair) (live : LiveBlock) (tags : List Item) → IsDisk d → pair.0 < d.count → pair.1 < d.count
    → IsLive live (block_of d pair.0) (block_of d pair.1) → option_map (λ log. log.tags) (live_log live) ≡ Some tags
    → AllByRecursion HasBytes tags
live_has logs d pair (First log) tags disk first second read is = block_has logs d pair.0 log tags disk first read.0 (same_tags log tags is)
live_has logs d pair (Second log) tags disk first second read is = block_has logs d pair.1 log tags disk second read.0
    (same_tags log tags is)
live_has logs d pair Neither tags disk first second read is = cc

-- ---- entries as tags leave them

-- contents that stand in an entry
abbrev pub ContentHas : StoredBody → Type 0
ContentHas (Inline bytes) = IsBytes bytes
ContentHas _ = Unit {0}

abbrev RawHas : RawEntry → Type 0
RawHas e = IfSome e.body ContentHas

pick : {X : Type 0} (t : Bool) {x y : X} (P : X → Type 0) → P x → P y → P (if t then x else y)
pick true P here there = here
pick false P here there = there

either_has : (t : Bool) (x y : StoredBody) → ContentHas x → ContentHas y → ContentHas (if t then x else y)
either_has t x y here there = pick t ContentHas here there

named_has : (kind : ℕ) (bytes : List ℕ) → IsBytes bytes → ContentHas (body_named kind bytes)
unfolding body_named
named_has kind bytes all =
    let ctz : StoredBody = Stored_chain (struct_word bytes 0) (struct_word bytes 4) in
    let leads : StoredBody = Stored_directory (struct_word bytes 0) (struct_word bytes 4) in
    either_has (kind == 0x201) (Inline bytes) (if kind == 0x202 then ctz else leads) all (either_has (kind == 0x202) ctz leads tt tt)

blank_has : RawHas blank
unfolding blank
blank_has = tt

read_has : (i : ℕ) (xs : List RawEntry) → All RawHas xs → RawHas (slice_index_or xs i blank)
read_has i xs all = elim (cases_lt i (length xs)) [
  | inl within ↦ All-get_or RawHas xs i blank within all
  | inr past ↦ subst RawHas (sym (get_or-eq_default xs blank past)) blank_has
]

at_has : (i : ℕ) (f : RawEntry → RawEntry) (xs : List RawEntry) → ((e : RawEntry) → RawHas e → RawHas (f e)) → All RawHas xs
    → All RawHas (at_entry i f xs)
at_has i f xs keeps all = All-set RawHas xs i (f (slice_index_or xs i blank)) (keeps (slice_index_or xs i blank) (read_has i xs all)) all

up_to_has : (i : ℕ) (xs : List RawEntry) → All RawHas xs → All RawHas (up_to i xs)
up_to_has i xs all = All-append RawHas xs _ all (All-replicate RawHas (i + 1 - length xs) blank blank_has)

abbrev PartHas : RawPart → Type 0
PartHas p = All RawHas p.entries

-- Each type of tag has the action of one of eight types, the last of which has none.
by_action : (k : ℕ) (p : RawPart) (t : Item) (G : Option RawPart → Type 0)
    → G (replay_by (action_of 0x401) p t) → G (replay_by (action_of 0x4ff) p t) → G (replay_by (action_of 0x001) p t)
    → G (replay_by (action_of 0x200) p t)
    → G (replay_by (action_of 0x300) p t) → G (replay_by (action_of 0x600) p t) → G (replay_by (action_of 0x7ff) p t)
    → G (replay_by (action_of 0x000) p t)
    → G (replay_by (action_of k) p t)
unfolding action_of
by_action k p t G creates deletes names embodies attributes tails deltas none =
    pick (k == 0x401) (λ o. G (replay_by o p t)) creates
    (pick (k == 0x4ff) (λ o. G (replay_by o p t)) deletes
    (pick ((k == 0x001) || (k == 0x002) || (k == 0x0ff)) (λ o. G (replay_by o p t)) names
    (pick ((k == 0x200) || (k == 0x201) || (k == 0x202)) (λ o. G (replay_by o p t)) embodies
    (pick (k / 2 ^ 8 == 3) (λ o. G (replay_by o p t)) attributes
    (pick ((k == 0x600) || (k == 0x601)) (λ o. G (replay_by o p t)) tails
    (pick (k == 0x7ff) (λ o. G (replay_by o p t)) deltas none))))))

taken : (t : Bool) (p q : RawPart) → (if t then None else Some p) ≡ Some q → PartHas p → PartHas q
taken true p q e all = cc
taken false p q e all = let same : p ≡ q = cc in subst PartHas same all

step_has : (p q : RawPart) (t : Item) → step p t ≡ Some q → HasBytes t → PartHas p → PartHas q
unfolding action_of acted
step_has p q t e item all =
    by_action (type_of t.word) p t (λ o. o ≡ Some q → PartHas q)
    (λ is. taken _ _ q is (All-append RawHas (take (id_of t.word) p.entries) (blank ∷ drop (id_of t.word) p.entries)
    (All-take RawHas (id_of t.word) p.entries all)
    (All-cons RawHas blank (drop (id_of t.word) p.entries) blank_has (All-drop RawHas (id_of t.word) p.entries all))))
    (λ is. taken _ _ q is (All-append RawHas (take (id_of t.word) p.entries) (drop (suc (id_of t.word)) p.entries)
    (All-take RawHas (id_of t.word) p.entries all)
    (All-drop RawHas (suc (id_of t.word)) p.entries all)))
    (λ is. taken _ _ q is (at_has (id_of t.word) (named_by t) (up_to (id_of t.word) p.entries) (λ e has. has)
    (up_to_has (id_of t.word) p.entries all)))
    (λ is. taken _ _ q is (at_has (id_of t.word) (embodied_by t) p.entries (λ e has. named_has (type_of t.word) t.content item) all))
    (λ is. taken _ _ q is (at_has (id_of t.word) (attributed_by t) p.entries (λ e has. has) all))
    (λ is. taken _ _ q is all)
    (λ is. taken _ _ q is all)
    (λ is. absurd (none_some q is))
    e
  where
    none_some : (q : RawPart) → None ≡ Some q → ⊥
    none_some q is = cc

rest_has : (o : Option RawPart) (f : RawPart → Option RawPart) (q : RawPart) → option_and_then f o ≡ Some q
    → ((p : RawPart) → o ≡ Some p → f p ≡ Some q → PartHas q) → PartHas q
rest_has None f q e more = cc
rest_has (Some p) f q e more = more p refl e

replay_has : (p q : RawPart) (tags : List Item) → replay_from p tags ≡ Some q → AllByRecursion HasBytes tags → PartHas p → PartHas q
unfolding replay_from
replay_has p q [] e items all = let same : p ≡ q = cc in subst PartHas same all
replay_has p q (t ∷ ts) e items all =
    rest_has (step p t) (λ r. replay_from r ts) q e (λ r stepped left. replay_has r q ts left items.1 (step_has p r t stepped items.0 all))

empty_has : PartHas empty_part
unfolding empty_part
empty_has = All-nil RawHas

-- ---- complete entries

abbrev pub StoredHas : StoredEntry → Type 0
StoredHas e = ContentHas e.body

when_both : (t u : Bool) (x w : StoredEntry) → (if t && u then Some x else None) ≡ Some w → x ≡ w
when_both true true x w e = cc
when_both true false x w e = cc
when_both false u x w e = cc

complete_has : (n : Option (Kind × Name)) (b : Option StoredBody) (attributes : Attributes) (w : StoredEntry) → IfSome b ContentHas
    → complete_by n b attributes ≡ Some w → StoredHas w
complete_has None b attributes w has is = cc
complete_has (Some n) None attributes w has is = cc
complete_has (Some n) (Some b) attributes w has is =
    let x : StoredEntry = record { kind = n.0; name = n.1; body = b; attributes = attributes } in
    subst StoredHas (when_both (kind_takes_body n.0 b) (kind_takes_name n.0 n.1) x w is) has

by_first : (e : RawEntry) (o : Option StoredEntry) (os : Option (List StoredEntry)) (ws : List StoredEntry) → RawHas e → complete e ≡ o
    → option_and_then (λ w. option_map (λ vs. w ∷ vs) os) o ≡ Some ws → ((vs : List StoredEntry) → os ≡ Some vs → All StoredHas vs)
    → All StoredHas ws
by_first e None os ws has is all later = cc
by_first e (Some w) None ws has is all later = cc
by_first e (Some w) (Some vs) ws has is all later =
    let same : w ∷ vs ≡ ws = cc in
    subst (All StoredHas) same (All-cons StoredHas w vs (complete_has e.name e.body e.attributes w has is) (later vs refl))

all_have : (es : List RawEntry) (ws : List StoredEntry) → All RawHas es → all_complete es ≡ Some ws → All StoredHas ws
all_have [] ws have all = let none : [] ≡ ws = cc in subst (All StoredHas) none (All-nil StoredHas)
all_have (e ∷ es) ws have all = by_first e (complete e) (all_complete es) ws (All-head RawHas e es have) refl all
    (λ vs. all_have es vs (All-tail RawHas e es have))

by_part : (p : RawPart) (o : Option (List StoredEntry)) (s : StoredPart) → PartHas p → all_complete p.entries ≡ o
    → option_map (λ (es : List StoredEntry). let q : StoredPart = record { entries = es; tail = p.tail; delta = p.delta } in q) o ≡ Some s
    → All StoredHas s.entries
by_part p None s has is some' = cc
by_part p (Some ws) s has is some' =
    let same : ◌≡◌ {A = StoredPart} (record { entries = ws; tail = p.tail; delta = p.delta }) s = cc in
    subst (λ (q : StoredPart). All StoredHas q.entries) same (all_have p.entries ws has is)

-- the contents of a part that a pair holds are bytes
pub held_have : LiveBlocksAreRead → BlocksHaveALog → (d : Disk) (pair : Pair) (s : StoredPart) → IsDisk d → pair.0 < d.count
    → pair.1 < d.count
    → stored_part_of d pair ≡ Some s → All StoredHas s.entries
held_have read logs d pair s disk first second is =
    option_and_then_some complete_part (option_and_then replay (tags_of d pair)) s is
    (λ p there complete_is. option_and_then_some replay (tags_of d pair) p there
    (λ tags tags_are replayed. by_part p (all_complete p.entries) s
    (replay_has empty_part p tags replayed (live_has logs d pair (live_block (block_of d pair.0) (block_of d pair.1)) tags disk first second
    (read (block_of d pair.0) (block_of d pair.1)) tags_are) empty_has)
    refl complete_is))

-- ---- words

-- bytes spell words one after another
abbrev pub Spell : List ℕ → List ℕ → Type 0
Spell [] bytes = Unit {0}
Spell (w ∷ ws) bytes = (from_le_bytes w32 (take 4 bytes) ≡ w) × Spell ws (drop 4 bytes)

pub spelled : (ws bytes : List ℕ) → length bytes ≡ 4 * length ws → IsBytes bytes → Spell ws bytes → bytes ≡ flat_map (to_le_bytes w32) ws
spelled [] [] len all spell = refl
spelled [] (b ∷ bytes) len all spell = let no : ⊥ = omega (arith, len) in absurd no
spelled (w ∷ ws) bytes len all spell =
    let four : 4 ≤ length bytes = omega (arith, len) in
    let front : to_le_bytes w32 w ≡ take 4 bytes = le_bytes_4 (take 4 bytes) w (length-take-le 4 bytes four) (IsBytes-take 4 bytes all)
    (sym spell.0) in
    let rest : drop 4 bytes ≡ flat_map (to_le_bytes w32) ws = spelled ws (drop 4 bytes) (omega (arith, length-drop 4 bytes, len))
    (IsBytes-drop 4 bytes all) spell.1 in
    sym (take-append-drop 4 bytes) ∙ ap (λ (xs : List ℕ). xs ++ drop 4 bytes) (sym front)
    ∙ ap (λ (xs : List ℕ). to_le_bytes w32 w ++ xs) rest
