-- Erased bytes hold no commit, and what is written before them is a log.
use Rattle.std.proofs.Common.{◌≡◌, ◌≢◌, ℕ, ◌+◌, ◌-◌, ◌/◌, ◌%◌, ◌^◌, ◌<◌, ◌≤◌, Bool, true, false, cond, ltb, leb, eqb, ◌&&◌, List, [], ◌∷◌}
use Rattle.std.proofs.Common.{◌++◌, length, take, drop, Option, Some, None, option_map, refl, sym, ap, subst, ◌∙◌, inl, inr, append_assoc}
use Rattle.std.proofs.Common.{arith, bit_xor, bit_and}
use Rattle.std.specs.Int.{w32, from_be_bytes, to_be_bytes, to_le_bytes}
use Rattle.std.specs.Int.Bits.{xor_add_and}
use Rattle.std.specs.List.{AllByRecursion}
use Rattle.std.proofs.lemmas.Bool.{cases_lt, ltb-false, ltb-true, eq-eqb, and_parts}
use Rattle.std.proofs.lemmas.List.{take_at, take-append-drop, append-nil, length-append, length-take, get_or_past}
use Rattle.std.proofs.lemmas.List.Concat.{flat_map-cons}
use Rattle.std.proofs.lemmas.List.Elements.{All-take, All-drop}
use Rattle.std.proofs.Math.Seq.{drop-append-add}
use Rattle.std.proofs.lemmas.Nat.{xor_comm}
use Rattle.std.proofs.lemmas.Grind.{and_numeral}
use Rattle.std.proofs.lemmas.Option.{cond_some}
use Rattle.lfs_block.specs.Checksum.{crc}
use Rattle.lfs_block.specs.Bytes.{IsBytes}
use Rattle.lfs_block.specs.Disk.{put_at}
use Rattle.lfs_block.proofs.PutLemmas.{IsBytes-take}
use Rattle.lfs_tag.specs.Tag.{main_kind, data_len}
use Rattle.lfs_tag.specs.Commit.{Item, Commit, IsItem, IsCommit, tags_bytes, last_word, covered_bytes, commit_bytes, next_word}
use Rattle.lfs_tag.specs.Log.{IsErased, commits_bytes, final_word, next_lead, IsLog, log_tags}
use Rattle.lfs_tag.specs.Reading.{TagFront, tag_behind, tag_at, with_tag, commit_at}
use Rattle.lfs_tag.specs.Writing.{lead_at}
use Rattle.lfs_tag.proofs.Steps.{guard_none, commit_at-none, commit_at-more}
use Rattle.lfs_tag.proofs.Logs.{no_commit, final_word-below}

pub ones : (a : ℕ) → a < 2 ^ 32 → bit_xor 0xffffffff a ≡ 0xffffffff - a
ones a h =
    let masked : bit_and a 0xffffffff ≡ a % 2 ^ 32 = and_numeral a 0xfffffffe refl in
    omega (arith, xor_add_and a 0xffffffff, masked, xor_comm a 0xffffffff)

pub IsBytes-erased : (bytes : List ℕ) → IsErased bytes → IsBytes bytes
IsBytes-erased bytes h i =
    elim (cases_lt i (length bytes)) [
      | inl lt ↦ omega (arith, h i 0 lt)
      | inr le ↦ rw (get_or_past bytes i 0 le) (omega arith)
    ]

erased_word : (bytes : List ℕ) → IsErased bytes → length bytes ≡ 4 → from_be_bytes w32 bytes ≡ 0xffffffff
erased_word bytes h len = omega (arith, h 0 0 (omega arith), h 1 0 (omega arith), h 2 0 (omega arith), h 3 0 (omega arith))

-- a tag of erased bytes
record ErasedTag (prev : ℕ) (f : TagFront) : Type 0 where
  valid : f.item.word < 2 ^ 31
  word : f.item.word ≡ bit_xor 0xffffffff prev
  rest : IsErased f.rest

erased_tag : (prev : ℕ) (bytes : List ℕ) (f : TagFront) → IsErased bytes → tag_at prev bytes ≡ Some f → ErasedTag prev f
unfolding tag_at
erased_tag prev bytes f h e =
    let number : ℕ = from_be_bytes w32 (take 4 bytes) in
    let word : ℕ = bit_xor number prev in
    let behind : List ℕ = drop 4 bytes in
    let a = guard_none (ltb (length bytes) 4) (tag_behind (take 4 bytes) word behind) f e in
    let long : 4 ≤ length bytes = ltb-false _ _ a.0 in
    let found : TagFront = record {
      stored = take 4 bytes;
      item = record { word = word; content = take (data_len word) behind };
      rest = drop (data_len word) behind;
    } in
    let b = cond_some (ltb word (2 ^ 31) && leb (data_len word) (length behind)) found f a.1 in
    let t = and_parts (ltb word (2 ^ 31)) (leb (data_len word) (length behind)) b.0 in
    let all : ErasedTag prev found = record {
      valid = ltb-true _ _ t.0;
      word = ap (λ (n : ℕ). bit_xor n prev) (erased_word (take 4 bytes) (All-take (λ b. b ≡ 255) 4 bytes h)
          (omega (arith, length-take 4 bytes)));
      rest = All-drop (λ b. b ≡ 255) (data_len word) behind (All-drop (λ b. b ≡ 255) 4 bytes h);
    } in
    subst (ErasedTag prev) b.1 all

-- behind a word with a top bit of 0 they are no tag
erased-invalid : (prev : ℕ) (bytes : List ℕ) (o : Option TagFront) → IsErased bytes → prev < 2 ^ 31 → tag_at prev bytes ≡ o
    → tag_at prev bytes ≡ None
erased-invalid prev bytes None h low e = e
erased-invalid prev bytes (Some f) h low e =
    let t = erased_tag prev bytes f h e in
    absurd (omega (arith, t.valid, t.word, ones prev (omega arith), low))

erased_none-tag : (sum prev : ℕ) (bytes : List ℕ) (o : Option TagFront) → IsErased bytes → prev < 2 ^ 32 → main_kind prev ≢ 2
    → tag_at prev bytes ≡ o → commit_at sum prev bytes ≡ None
erased_none-tag sum prev bytes None h low kind e = commit_at-none sum prev bytes e
erased_none-tag sum prev bytes (Some f) h low kind e =
    let t = erased_tag prev bytes f h e in
    let flipped : f.item.word ≡ 0xffffffff - prev = t.word ∙ ones prev low in
    let other : main_kind f.item.word ≢ 5 = λ five. kind (omega (arith, flipped, low, five)) in
    let stop : tag_at f.item.word f.rest ≡ None = erased-invalid f.item.word f.rest (tag_at f.item.word f.rest) t.rest t.valid refl in
    commit_at-more sum prev bytes f e other
    ∙ ap (option_map (with_tag f.item)) (commit_at-none (crc (crc sum f.stored) f.item.content) f.item.word f.rest stop)

pub erased_none : (sum prev : ℕ) (bytes : List ℕ) → IsErased bytes → prev < 2 ^ 32 → main_kind prev ≢ 2 → commit_at sum prev bytes ≡ None
erased_none sum prev bytes h low kind = erased_none-tag sum prev bytes (tag_at prev bytes) h low kind refl

pub erased_no_commit : (lead rest more : List ℕ) (prev : ℕ) (c : Commit) → IsBytes lead → prev < 2 ^ 32 → main_kind prev ≢ 2 → IsErased rest
    → IsCommit c → rest ≡ commit_bytes lead prev c ++ more → ⊥
erased_no_commit lead rest more prev c ahead low kind h valid e =
    no_commit lead rest prev ahead (IsBytes-erased rest h) low (erased_none (crc 0xffffffff lead) prev rest h low kind) c more valid e

next_word-kind : (c : Commit) → IsCommit c → main_kind (next_word c) ≢ 2
next_word-kind c h two =
    let low : c.closing / 2 ^ 20 % 2 < 2 = omega arith in
    absurd (omega (arith, h.kind, h.valid, two))

pub final_word-kind : (cs : List Commit) (prev : ℕ) → AllByRecursion IsCommit cs → main_kind prev ≢ 2 → main_kind (final_word prev cs) ≢ 2
unfolding final_word
final_word-kind [] prev h kind = kind
final_word-kind (c ∷ cs) prev h kind = final_word-kind cs (next_word c) h.1 (next_word-kind c h.0)

pub start_kind : main_kind 0xffffffff ≢ 2
start_kind e = absurd (omega (arith, e))

-- ---- logs before erased bytes

pub make_log : (revision rest : List ℕ) (cs : List Commit) → length revision ≡ 4 → AllByRecursion IsCommit cs
    → IsBytes (next_lead revision cs) → IsErased rest
    → IsLog (revision ++ commits_bytes revision 0xffffffff cs ++ rest) cs rest
make_log revision rest cs len each ahead h = record {
  revision = revision;
  revision_len = len;
  each = each;
  parts = refl;
  longest = λ c more valid e. erased_no_commit (next_lead revision cs) rest more (final_word 0xffffffff cs) c ahead
      (final_word-below cs 0xffffffff each (omega arith)) (final_word-kind cs 0xffffffff each start_kind) h valid e;
}

IsBytes-nil : IsBytes []
IsBytes-nil i = omega arith

pub erased_block : (block : List ℕ) → 4 ≤ length block → IsBytes block → IsErased (drop 4 block) → IsLog block [] (drop 4 block)
unfolding commits_bytes
erased_block block long fits h =
    let made = make_log (take 4 block) (drop 4 block) [] (omega (arith, length-take 4 block)) tt (IsBytes-take 4 block fits) h in
    let complete : (take 4 block ++ []) ++ drop 4 block ≡ block = ap (λ (x : List ℕ). x ++ drop 4 block) (append-nil (take 4 block))
    ∙ take-append-drop 4 block in
    subst (λ (b : List ℕ). IsLog b [] (drop 4 block)) complete made

pub first_commit : (block : List ℕ) (c : Commit) → IsCommit c → (new : List ℕ) → new ≡ commit_bytes (take 4 block) 0xffffffff c
    → 4 + length new ≤ length block → IsErased (drop (4 + length new) block)
    → IsLog (put_at 4 new block) (c ∷ []) (drop (4 + length new) block)
unfolding commits_bytes
first_commit block c h new e fits erased =
    let rest : List ℕ = drop (4 + length new) block in
    let made = make_log (take 4 block) rest (c ∷ []) (omega (arith, length-take 4 block)) (h, tt) IsBytes-nil erased in
    let spelled : commit_bytes (take 4 block) 0xffffffff c ++ [] ≡ new = append-nil (commit_bytes (take 4 block) 0xffffffff c) ∙ sym e in
    subst (λ (x : List ℕ). IsLog (take 4 block ++ x ++ rest) (c ∷ []) rest) spelled made

commits_bytes-more : (lead : List ℕ) (prev : ℕ) (cs : List Commit) (c : Commit)
    → commits_bytes lead prev (cs ++ c ∷ []) ≡ commits_bytes lead prev cs ++ commit_bytes (next_lead lead cs) (final_word prev cs) c
unfolding commits_bytes final_word
commits_bytes-more lead prev [] c = append-nil (commit_bytes lead prev c)
commits_bytes-more lead prev (d ∷ []) c =
    ap (λ (x : List ℕ). commit_bytes lead prev d ++ x) (append-nil (commit_bytes [] (next_word d) c))
    ∙ ap (λ (x : List ℕ). x ++ commit_bytes [] (next_word d) c) (sym (append-nil (commit_bytes lead prev d)))
commits_bytes-more lead prev (d ∷ e ∷ cs) c =
    ap (λ (x : List ℕ). commit_bytes lead prev d ++ x) (commits_bytes-more [] (next_word d) (e ∷ cs) c)
    ∙ sym (append_assoc (commit_bytes lead prev d) (commits_bytes [] (next_word d) (e ∷ cs))
    (commit_bytes [] (final_word (next_word d) (e ∷ cs)) c))

each-more : (cs : List Commit) (c : Commit) → AllByRecursion IsCommit cs → IsCommit c → AllByRecursion IsCommit (cs ++ c ∷ [])
each-more [] c h k = (k, tt)
each-more (d ∷ cs) c h k = (h.0, each-more cs c h.1 k)

next_lead-more : (lead : List ℕ) (cs : List Commit) (c : Commit) → next_lead lead (cs ++ c ∷ []) ≡ []
next_lead-more lead [] c = refl
next_lead-more lead (d ∷ cs) c = refl

some_bytes : (lead : List ℕ) (prev : ℕ) (c : Commit) (cs : List Commit) → 0 < length (commits_bytes lead prev (c ∷ cs))
unfolding commits_bytes
some_bytes lead prev c cs =
    let word : List ℕ = to_be_bytes w32 (bit_xor c.closing (last_word prev c.tags)) in
    let covered : List ℕ = covered_bytes prev c in
    let sum : List ℕ = to_le_bytes w32 (crc 0xffffffff (lead ++ covered)) in
    omega (
      arith,
      length-append (covered ++ sum ++ c.padding) (commits_bytes [] (next_word c) cs),
      length-append (covered ++ sum) c.padding,
      length-append covered sum,
      length-append (tags_bytes prev c.tags) word,
    )

no_bytes : (lead : List ℕ) (prev : ℕ) → length (commits_bytes lead prev []) ≡ 0
unfolding commits_bytes
no_bytes lead prev = refl

-- the lead of the commit at the end of a log
lead_at-end : (revision rest : List ℕ) (cs : List Commit) (at : ℕ) → length revision ≡ 4
    → at ≡ length (revision ++ commits_bytes revision 0xffffffff cs)
    → lead_at at (revision ++ commits_bytes revision 0xffffffff cs ++ rest) ≡ next_lead revision cs
lead_at-end revision rest [] at len e =
    let here : eqb at 4 ≡ true = eq-eqb at 4 (omega (
      arith,
      e,
      len,
      length-append revision (commits_bytes revision 0xffffffff []),
      no_bytes revision 0xffffffff,
    )) in
    ap (λ (b : Bool). cond b (take 4 (revision ++ commits_bytes revision 0xffffffff [] ++ rest)) []) here
    ∙ ap (take 4) (append_assoc revision (commits_bytes revision 0xffffffff []) rest)
    ∙ take_at revision (commits_bytes revision 0xffffffff [] ++ rest) 4 len
lead_at-end revision rest (c ∷ cs) at len e =
    let past : 4 < at = omega (
      arith,
      e,
      len,
      length-append revision (commits_bytes revision 0xffffffff (c ∷ cs)),
      some_bytes revision 0xffffffff c cs,
    ) in
    let other : eqb at 4 ≡ false = grind arith in
    ap (λ (b : Bool). cond b (take 4 (revision ++ commits_bytes revision 0xffffffff (c ∷ cs) ++ rest)) []) other

pub next_commit : (block : List ℕ) (cs : List Commit) (rest : List ℕ) (at : ℕ) (c : Commit) → IsLog block cs rest → IsErased rest
    → at + length rest ≡ length block → IsCommit c
    → (new : List ℕ) → new ≡ commit_bytes (lead_at at block) (final_word 0xffffffff cs) c → at + length new ≤ length block
    → IsLog (put_at at new block) (cs ++ c ∷ []) (drop (length new) rest)
next_commit block cs rest at c log erased e h new n fits =
    let revision : List ℕ = log.revision in
    let front : List ℕ = revision ++ commits_bytes revision 0xffffffff cs in
    let len : at ≡ length front = omega (arith, e, ap length log.parts, length-append front rest) in
    let lead : lead_at at block ≡ next_lead revision cs = ap (lead_at at) log.parts
    ∙ lead_at-end revision rest cs at log.revision_len len in
    let new-is : new ≡ commit_bytes (next_lead revision cs) (final_word 0xffffffff cs) c =
    n ∙ ap (λ (l : List ℕ). commit_bytes l (final_word 0xffffffff cs) c) lead in
    let behind : List ℕ = drop (length new) rest in
    let made = make_log revision behind (cs ++ c ∷ []) log.revision_len (each-more cs c log.each h)
    (subst IsBytes (sym (next_lead-more revision cs c)) IsBytes-nil) (All-drop (λ b. b ≡ 255) (length new) rest erased) in
    let before : take at block ≡ front = ap (take at) log.parts ∙ take_at front rest at (sym len) in
    let after : drop (at + length new) block ≡ behind = ap (drop (at + length new)) log.parts
    ∙ ap (λ (k : ℕ). drop (k + length new) (front ++ rest)) len ∙ drop-append-add front rest (length new) in
    let spelled : revision ++ commits_bytes revision 0xffffffff (cs ++ c ∷ []) ≡ take at block ++ new =
    ap (λ (x : List ℕ). revision ++ x) (commits_bytes-more revision 0xffffffff cs c)
    ∙ sym (append_assoc revision (commits_bytes revision 0xffffffff cs) (commit_bytes (next_lead revision cs) (final_word 0xffffffff cs) c))
    ∙ ap (λ (x : List ℕ). front ++ x) (sym new-is) ∙ ap (λ (x : List ℕ). x ++ new) (sym before) in
    let complete : revision ++ commits_bytes revision 0xffffffff (cs ++ c ∷ []) ++ behind ≡ put_at at new block =
    ap (λ (x : List ℕ). x ++ behind) spelled ∙ ap (λ (x : List ℕ). take at block ++ new ++ x) (sym after) in
    subst (λ (b : List ℕ). IsLog b (cs ++ c ∷ []) behind) complete made

-- ---- the tags of a log

pub AllByRecursion-append : {A : Type 0} (P : A → Type 0) (xs ys : List A) → AllByRecursion P xs → AllByRecursion P ys
    → AllByRecursion P (xs ++ ys)
AllByRecursion-append P [] ys h k = k
AllByRecursion-append P (x ∷ xs) ys h k = (h.0, AllByRecursion-append P xs ys h.1 k)

pub log_tags-items : (cs : List Commit) → AllByRecursion IsCommit cs → AllByRecursion IsItem (log_tags cs)
log_tags-items [] h = tt
log_tags-items (c ∷ cs) h =
    subst (AllByRecursion IsItem) (sym (flat_map-cons (λ (d : Commit). d.tags) c cs))
    (AllByRecursion-append IsItem c.tags (log_tags cs) h.0.tags (log_tags-items cs h.1))
