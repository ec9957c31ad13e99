-- What is items_kept of tags, one tag more and commits one behind another.
use Rattle.std.proofs.Common.{◌≡◌, ℕ, Bool, true, false, List, [], ◌∷◌, ◌++◌, Option, Some, None, option_map, cond, refl, sym, ap, ◌∙◌}
use Rattle.std.proofs.Common.{subst, ◌<◌, append_assoc, append-nil, filter, ltb, leb, eqb, ◌&&◌, take, drop, length}
use Rattle.std.specs.Int.{w32, from_le_bytes}
use Rattle.std.proofs.lemmas.List.{map-append}
use Rattle.std.specs.Prelude.{if◌then◌else◌}
use Rattle.std.specs.Bool.{then_some}
use Rattle.std.proofs.lemmas.List.Concat.{flat_map-cons}
use Rattle.std.proofs.lemmas.List.Elements.{filter-append}
use Rattle.lfs_block.specs.Checksum.{crc}
use Rattle.lfs_tag.specs.declared.edit.Edit.{Edit}
use Rattle.lfs_tag.specs.Tag.{len_of}
use Rattle.lfs_tag.specs.Commit.{Item, Commit}
use Rattle.lfs_tag.specs.declared.reading.Committed.{Committed}
use Rattle.lfs_tag.specs.Found.{commit_found, commit_seen}
use Rattle.lfs_tag.specs.Log.{log_tags}
use Rattle.lfs_tag.specs.Reading.{TagFront, tag_at, CommitFront, with_tag, closed}
use Rattle.lfs_tag.specs.Writing.{item_of, items}
use Rattle.lfs_tag.proofs.ReadLoop.{map_none}
use Rattle.lfs_tag.proofs.Steps.{map_some, commit_by-none, commit_by-closed, commit_by-more, commit_by-shorter}
use Rattle.lfs_lower.specs.Commits.{closes, later_at, commits_from}
use Rattle.lfs_lower.proofs.LaterSteps.{commits_from-none, commits_from-more}
use Rattle.lfs_lower.specs.Kept.{items_kept, commit_kept, found_kept, kept_behind, IsPushed, IsCommitPushed, IsCommitRead}
use Rattle.lfs_lower.specs.Spelled.{is_said, tags_said, lowered_tag, tags_lowered}

-- ---- tags

lowered-append : (in_root : Bool) (ts us : List Item) → tags_lowered in_root (ts ++ us) ≡ tags_lowered in_root ts ++ tags_lowered in_root us
lowered-append true ts us = map-append lowered_tag ts us
lowered-append false ts us = refl

pub kept-append : (in_root : Bool) (ts us : List Item) → items_kept in_root (ts ++ us) ≡ items_kept in_root ts ++ items_kept in_root us
kept-append in_root ts us =
    ap (tags_lowered in_root) (filter-append is_said ts us) ∙ lowered-append in_root (filter is_said ts) (filter is_said us)

pub kept-nil : (in_root : Bool) → items_kept in_root [] ≡ []
kept-nil true = refl
kept-nil false = refl

-- ---- the tags of a commit

-- edits were added, and what is left of a commit behind their tags gives what the whole gives
pub record IsReadTo (in_root : Bool) (old now : List Edit) (left complete : Option CommitFront) : Type 0 where
  pub more : List Edit
  pub is : now ≡ old ++ more
  pub seen : option_map (commit_kept in_root (items more)) left ≡ option_map (commit_kept in_root []) complete

seen_with : (in_root : Bool) (before : List Item) (t : Item) (o : Option CommitFront)
    → option_map (commit_kept in_root (before ++ items_kept in_root (t ∷ []))) o ≡ option_map (commit_kept in_root before) (option_map (with_tag t) o)
seen_with in_root before t None = refl
seen_with in_root before t (Some r) =
    let same : (before ++ items_kept in_root (t ∷ [])) ++ items_kept in_root r.commit.tags ≡ before ++ items_kept in_root (t ∷ r.commit.tags) =
    append_assoc before (items_kept in_root (t ∷ [])) (items_kept in_root r.commit.tags)
    ∙ ap (λ (ts : List Item). before ++ ts) (sym (kept-append in_root (t ∷ []) r.commit.tags)) in
    rw same refl

pub read_more : (in_root : Bool) (old now new : List Edit) (complete : Option CommitFront) (sum covered next_sum prev word : ℕ) (rest : List ℕ)
    (f : TagFront) → IsReadTo in_root old now (later_at sum prev rest) complete → tag_at prev rest ≡ Some f → closes f.item.word ≡ false
    → IsPushed now (items_kept in_root (f.item ∷ [])) new → covered ≡ crc sum f.stored → next_sum ≡ crc covered f.item.content
    → word ≡ f.item.word → IsReadTo in_root old new (later_at next_sum word f.rest) complete
read_more in_root old now new complete sum covered next_sum prev word rest f to e unclosed pushed covers sums word_is =
    let behind = crc (crc sum f.stored) f.item.content in
    let sum_is : next_sum ≡ behind = sums ∙ ap (λ (s : ℕ). crc s f.item.content) covers in
    let tags : items (to.more ++ pushed.more) ≡ items to.more ++ items_kept in_root (f.item ∷ []) =
    map-append item_of to.more pushed.more ∙ ap (λ (ts : List Item). items to.more ++ ts) pushed.written in
    record {
      more = to.more ++ pushed.more;
      is = pushed.is ∙ ap (λ (es : List Edit). es ++ pushed.more) to.is ∙ append_assoc old to.more pushed.more;
      seen =
          ap (λ (ts : List Item). option_map (commit_kept in_root ts) (later_at next_sum word f.rest)) tags
          ∙ ap (λ (s : ℕ). option_map (commit_kept in_root (items to.more ++ items_kept in_root (f.item ∷ []))) (later_at s word f.rest)) sum_is
          ∙ ap (λ (w : ℕ). option_map (commit_kept in_root (items to.more ++ items_kept in_root (f.item ∷ []))) (later_at behind w f.rest)) word_is
          ∙ seen_with in_root (items to.more) f.item (later_at behind f.item.word f.rest)
          ∙ ap (option_map (commit_kept in_root (items to.more))) (sym (commit_by-more closes sum prev rest f e unclosed))
          ∙ to.seen;
    }

-- the tag that closes a commit leaves no tags of it
closed-tags : (sum : ℕ) (f : TagFront) (in_root : Bool) (before : List Item)
    → option_map (λ (p : ℕ × List ℕ). (before, p.0, p.1)) (option_map commit_seen (closed sum f))
    ≡ option_map (commit_kept in_root before) (closed sum f)
unfolding closed
closed-tags sum f in_root before =
    let test : Bool = (ltb (len_of f.item.word) 0x3ff && leb 4 (length f.item.content)) && eqb (from_le_bytes w32 (take 4 f.item.content)) sum in
    by_test test
  where
    by_test : (b : Bool) → option_map (λ (p : ℕ × List ℕ). (before, p.0, p.1)) (option_map commit_seen (cond b
        (Some (record { commit = record { tags = []; closing = f.item.word; padding = drop 4 f.item.content }; rest = f.rest })) None))
        ≡ option_map (commit_kept in_root before) (cond b
        (Some (record { commit = record { tags = []; closing = f.item.word; padding = drop 4 f.item.content }; rest = f.rest })) None)
    by_test false = refl
    by_test true =
        let same : before ++ items_kept in_root [] ≡ before = ap (λ (ts : List Item). before ++ ts) (kept-nil in_root) ∙ append-nil before in
        rw same refl

found_with : (before : List Item) (o : Option Committed)
    → option_map (found_kept before) o ≡ option_map (λ (p : ℕ × List ℕ). (before, p.0, p.1)) (option_map commit_found o)
found_with before None = refl
found_with before (Some c) = refl

pub read_closes : (in_root : Bool) (old now : List Edit) (complete : Option CommitFront) (sum covered prev : ℕ) (rest : List ℕ) (f : TagFront)
    (found : Option Committed) → IsReadTo in_root old now (later_at sum prev rest) complete → tag_at prev rest ≡ Some f
    → closes f.item.word ≡ true → covered ≡ crc sum f.stored → option_map commit_found found ≡ option_map commit_seen (closed covered f)
    → IsCommitPushed in_root old complete found now
read_closes in_root old now complete sum covered prev rest f found to e closing covers is = record {
  more = to.more;
  is = to.is;
  seen =
      found_with (items to.more) found
      ∙ ap (option_map (λ (p : ℕ × List ℕ). (items to.more, p.0, p.1))) is
      ∙ closed-tags covered f in_root (items to.more)
      ∙ ap (λ (s : ℕ). option_map (commit_kept in_root (items to.more)) (closed s f)) covers
      ∙ ap (option_map (commit_kept in_root (items to.more))) (sym (commit_by-closed closes sum prev rest f e closing))
      ∙ to.seen;
}

pub read_ends : (in_root : Bool) (old now : List Edit) (complete : Option CommitFront) (sum prev : ℕ) (rest : List ℕ)
    → IsReadTo in_root old now (later_at sum prev rest) complete → tag_at prev rest ≡ None → IsCommitPushed in_root old complete None now
read_ends in_root old now complete sum prev rest to e = record {
  more = to.more;
  is = to.is;
  seen = ap (option_map (commit_kept in_root (items to.more))) (sym (commit_by-none closes sum prev rest e)) ∙ to.seen;
}

-- ---- the commits of a block

-- what is items_kept of commits behind others, where there are any
abbrev pub kept_of : Bool → Bool → List Item → List Commit → Option (List Item)
kept_of in_root is_there before [] = if is_there then Some before else None
kept_of in_root is_there before (c ∷ cs) = kept_of in_root true (before ++ items_kept in_root c.tags) cs

kept_of-there : (in_root : Bool) (before : List Item) (cs : List Commit) → kept_of in_root true before cs ≡ Some (before ++ items_kept in_root (log_tags cs))
kept_of-there in_root before [] =
    let same : before ++ items_kept in_root [] ≡ before = ap (λ (ts : List Item). before ++ ts) (kept-nil in_root) ∙ append-nil before in
    ap (λ (ts : List Item). Some ts) (sym same)
kept_of-there in_root before (c ∷ cs) =
    let tags : items_kept in_root (log_tags (c ∷ cs)) ≡ items_kept in_root c.tags ++ items_kept in_root (log_tags cs) =
    ap (items_kept in_root) (flat_map-cons (λ (d : Commit). d.tags) c cs) ∙ kept-append in_root c.tags (log_tags cs) in
    kept_of-there in_root (before ++ items_kept in_root c.tags) cs
    ∙ ap (λ (ts : List Item). Some ts) (append_assoc before (items_kept in_root c.tags) (items_kept in_root (log_tags cs))
    ∙ ap (λ (ts : List Item). before ++ ts) (sym tags))

pub kept_of-said : (in_root : Bool) (cs : List Commit) → kept_of in_root false [] cs ≡ option_map (tags_lowered in_root) (tags_said cs)
kept_of-said in_root [] = refl
kept_of-said in_root (c ∷ cs) =
    kept_of-there in_root (items_kept in_root c.tags) cs
    ∙ ap (λ (ts : List Item). Some ts) (sym (ap (items_kept in_root) (flat_map-cons (λ (d : Commit). d.tags) c cs)
    ∙ kept-append in_root c.tags (log_tags cs)))

pub commit_more : (in_root is_there : Bool) (old new : List Edit) (sum prev : ℕ) (rest : List ℕ) (o : Option Committed) (found : Committed)
    → IsCommitRead in_root old (later_at sum prev rest) o new → o ≡ Some found
    → kept_of in_root true (items new) (commits_from 0xffffffff found.next found.rest.now)
    ≡ kept_of in_root is_there (items old) (commits_from sum prev rest)
commit_more in_root is_there old new sum prev rest o found read is =
    let seen : ℕ × List ℕ = commit_found found in
    let m = map_some commit_seen (later_at sum prev rest) seen (sym read.seen ∙ ap (option_map commit_found) is) in
    let tags : items new ≡ items old ++ items_kept in_root m.0.commit.tags = read.written ∙ ap (kept_behind in_root (items old)) m.1 in
    ap (λ (ts : List Item). kept_of in_root true ts (commits_from 0xffffffff seen.0 seen.1)) tags
    ∙ ap (λ (s : ℕ × List ℕ). kept_of in_root true (items old ++ items_kept in_root m.0.commit.tags) (commits_from 0xffffffff s.0 s.1)) (sym m.2)
    ∙ ap (kept_of in_root is_there (items old)) (sym (commits_from-more sum prev rest m.0 m.1))

pub commit_shorter : (in_root : Bool) (old new : List Edit) (sum prev : ℕ) (rest : List ℕ) (o : Option Committed) (found : Committed)
    → IsCommitRead in_root old (later_at sum prev rest) o new → o ≡ Some found → length found.rest.now < length rest
commit_shorter in_root old new sum prev rest o found read is =
    let seen : ℕ × List ℕ = commit_found found in
    let m = map_some commit_seen (later_at sum prev rest) seen (sym read.seen ∙ ap (option_map commit_found) is) in
    subst (λ (s : ℕ × List ℕ). length s.1 < length rest) m.2 (commit_by-shorter closes sum prev rest m.0 m.1)

pub no_commit : (in_root is_there : Bool) (old new : List Edit) (sum prev : ℕ) (rest : List ℕ) (o : Option Committed)
    → IsCommitRead in_root old (later_at sum prev rest) o new → o ≡ None
    → (if is_there then Some (items new) else None) ≡ kept_of in_root is_there (items old) (commits_from sum prev rest)
no_commit in_root is_there old new sum prev rest o read is =
    let none : later_at sum prev rest ≡ None =
    map_none commit_seen (later_at sum prev rest) (sym read.seen ∙ ap (option_map commit_found) is) in
    let same : items new ≡ items old = read.written ∙ ap (kept_behind in_root (items old)) none in
    ap (λ (ts : List Item). if is_there then Some ts else None) same
    ∙ sym (ap (kept_of in_root is_there (items old)) (commits_from-none sum prev rest none))

-- ---- what is given of a block

pub then_map : {A B : Type 0} (f : A → B) (b : Bool) (x : A) → option_map f (then_some b x) ≡ (if b then Some (f x) else None)
then_map f true x = refl
then_map f false x = refl
