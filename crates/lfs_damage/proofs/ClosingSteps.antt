-- The tag that closes a commit, one tag more and none; and the commit that it closes.
use Rattle.std.proofs.Common.{◌≡◌, ℕ, zero, suc, ◌<◌, Bool, true, false, cond, List, length, Option, Some, None, option_map, refl, sym, ap, ◌∙◌, arith}
use Rattle.std.specs.Prelude.{option_and_then}
use Rattle.lfs_block.specs.Checksum.{crc}
use Rattle.lfs_tag.specs.Commit.{Item}
use Rattle.lfs_tag.specs.Found.{commit_seen}
use Rattle.lfs_tag.specs.Reading.{TagFront, tag_at, CommitFront, with_tag, closed}
use Rattle.lfs_tag.proofs.Steps.{tag_at-shorter, commit_by-none, commit_by-closed, commit_by-more}
use Rattle.lfs_lower.specs.Commits.{closes, later_at}
use Rattle.lfs_damage.specs.Damage.{closing_step, closing_within, closing_at}

closing_step-same : (F G : ℕ → ℕ → List ℕ → Option (ℕ × TagFront)) (sum : ℕ) (o : Option TagFront)
    → ((f : TagFront) → o ≡ Some f → (s p : ℕ) → F s p f.rest ≡ G s p f.rest) → closing_step F sum o ≡ closing_step G sum o
closing_step-same F G sum None h = refl
closing_step-same F G sum (Some f) h =
    ap (λ (x : Option (ℕ × TagFront)). cond (closes f.item.word) (Some (crc sum f.stored, f)) x)
    (h f refl (crc (crc sum f.stored) f.item.content) f.item.word)

closing_enough : (n m sum prev : ℕ) (bytes : List ℕ) → length bytes < n → length bytes < m
    → closing_within n sum prev bytes ≡ closing_within m sum prev bytes
unfolding closing_within
closing_enough zero m sum prev bytes a b = absurd (omega arith)
closing_enough (suc n) zero sum prev bytes a b = absurd (omega arith)
closing_enough (suc n) (suc m) sum prev bytes a b =
    closing_step-same (closing_within n) (closing_within m) sum (tag_at prev bytes)
    (λ f e s p. let k = tag_at-shorter prev bytes f e in closing_enough n m s p f.rest (omega arith) (omega arith))

pub closing_at-step : (sum prev : ℕ) (bytes : List ℕ) → closing_at sum prev bytes ≡ closing_step closing_at sum (tag_at prev bytes)
unfolding closing_at closing_within
closing_at-step sum prev bytes =
    closing_step-same (closing_within (length bytes)) closing_at sum (tag_at prev bytes)
    (λ f e s p. let k = tag_at-shorter prev bytes f e in closing_enough (length bytes) (suc (length f.rest)) s p f.rest (omega arith)
    (omega arith))

pub closing_at-none : (sum prev : ℕ) (bytes : List ℕ) → tag_at prev bytes ≡ None → closing_at sum prev bytes ≡ None
closing_at-none sum prev bytes e = closing_at-step sum prev bytes ∙ ap (closing_step closing_at sum) e

pub closing_at-closed : (sum prev : ℕ) (bytes : List ℕ) (f : TagFront) → tag_at prev bytes ≡ Some f → closes f.item.word ≡ true
    → closing_at sum prev bytes ≡ Some (crc sum f.stored, f)
closing_at-closed sum prev bytes f e k =
    closing_at-step sum prev bytes ∙ ap (closing_step closing_at sum) e
    ∙ ap (λ (b : Bool). cond b (Some (crc sum f.stored, f)) (closing_at (crc (crc sum f.stored) f.item.content) f.item.word f.rest)) k

pub closing_at-more : (sum prev : ℕ) (bytes : List ℕ) (f : TagFront) → tag_at prev bytes ≡ Some f → closes f.item.word ≡ false
    → closing_at sum prev bytes ≡ closing_at (crc (crc sum f.stored) f.item.content) f.item.word f.rest
closing_at-more sum prev bytes f e k =
    closing_at-step sum prev bytes ∙ ap (closing_step closing_at sum) e
    ∙ ap (λ (b : Bool). cond b (Some (crc sum f.stored, f)) (closing_at (crc (crc sum f.stored) f.item.content) f.item.word f.rest)) k

-- ---- the commit

-- what is seen of the commit that a tag closes
abbrev pub seen_by : ℕ × TagFront → Option (ℕ × List ℕ)
seen_by c = option_map commit_seen (closed c.0 c.1)

seen_with : (t : Item) (o : Option CommitFront) → option_map commit_seen (option_map (with_tag t) o) ≡ option_map commit_seen o
seen_with t None = refl
seen_with t (Some r) = refl

commit_is_within : (n sum prev : ℕ) (bytes : List ℕ) → length bytes < n
    → option_map commit_seen (later_at sum prev bytes) ≡ option_and_then seen_by (closing_at sum prev bytes)
commit_is_within zero sum prev bytes a = absurd (omega arith)
commit_is_within (suc n) sum prev bytes a =
    by_tag (λ f e. let shorter = tag_at-shorter prev bytes f e in
    commit_is_within n (crc (crc sum f.stored) f.item.content) f.item.word f.rest (omega arith)) (tag_at prev bytes) refl
  where
    by_close : (f : TagFront) → tag_at prev bytes ≡ Some f
        → option_map commit_seen (later_at (crc (crc sum f.stored) f.item.content) f.item.word f.rest)
        ≡ option_and_then seen_by (closing_at (crc (crc sum f.stored) f.item.content) f.item.word f.rest) → (b : Bool)
        → closes f.item.word ≡ b
        → option_map commit_seen (later_at sum prev bytes) ≡ option_and_then seen_by (closing_at sum prev bytes)
    by_close f e more true k =
        ap (option_map commit_seen) (commit_by-closed closes sum prev bytes f e k)
        ∙ ap (option_and_then seen_by) (sym (closing_at-closed sum prev bytes f e k))
    by_close f e more false k =
        ap (option_map commit_seen) (commit_by-more closes sum prev bytes f e k)
        ∙ seen_with f.item (later_at (crc (crc sum f.stored) f.item.content) f.item.word f.rest)
        ∙ more
        ∙ ap (option_and_then seen_by) (sym (closing_at-more sum prev bytes f e k))

    by_tag : ((f : TagFront) → tag_at prev bytes ≡ Some f
        → option_map commit_seen (later_at (crc (crc sum f.stored) f.item.content) f.item.word f.rest)
        ≡ option_and_then seen_by (closing_at (crc (crc sum f.stored) f.item.content) f.item.word f.rest)) → (o : Option TagFront)
        → tag_at prev bytes ≡ o
        → option_map commit_seen (later_at sum prev bytes) ≡ option_and_then seen_by (closing_at sum prev bytes)
    by_tag more None e =
        ap (option_map commit_seen) (commit_by-none closes sum prev bytes e)
        ∙ ap (option_and_then seen_by) (sym (closing_at-none sum prev bytes e))
    by_tag more (Some f) e = by_close f e (more f e) (closes f.item.word) refl

-- the commit at the front of bytes is the one that the tag closes which closes what they begin with
pub commit_is : (sum prev : ℕ) (bytes : List ℕ)
    → option_map commit_seen (later_at sum prev bytes) ≡ option_and_then seen_by (closing_at sum prev bytes)
commit_is sum prev bytes = commit_is_within (suc (length bytes)) sum prev bytes (omega arith)
