-- The loops that read later commits: what is left gives what the whole gives.
use Rattle.std.proofs.Common.{◌≡◌, ℕ, ◌<◌, Bool, true, false, List, length, Option, Some, None, option_map, refl, sym, ap, subst, ◌∙◌}
use Rattle.lfs_block.specs.Checksum.{crc}
use Rattle.lfs_tag.specs.Reading.{TagFront, tag_at, CommitFront, with_tag, closed}
use Rattle.lfs_tag.proofs.ReadLoop.{map_none}
use Rattle.lfs_tag.proofs.Steps.{map_some, commit_by-none, commit_by-closed, commit_by-more, commit_by-shorter}
use Rattle.lfs_lower.specs.Commits.{closes, later_at, commits_from}
use Rattle.lfs_lower.specs.Seen.{later_commit_seen}
use Rattle.lfs_lower.specs.Told.{stated_behind, told_by}
use Rattle.lfs_lower.specs.declared.told.Told.{Told}
use Rattle.lfs_lower.proofs.LaterSteps.{commits_from-none, commits_from-more}

-- ---- the tags of a commit

-- what is seen of a commit with one tag more at its front, by what that tells
seen_with : (told : Told) (f : TagFront) (o : Option CommitFront)
    → option_map (later_commit_seen (told_by told f.item)) o ≡ option_map (later_commit_seen told) (option_map (with_tag f.item) o)
seen_with told f None = refl
seen_with told f (Some r) = refl

pub tag_more : (told next_told : Told) (sum covered next_sum prev word : ℕ) (rest : List ℕ) (f : TagFront) → tag_at prev rest ≡ Some f
    → closes f.item.word ≡ false → covered ≡ crc sum f.stored → next_sum ≡ crc covered f.item.content → word ≡ f.item.word
    → next_told ≡ told_by told f.item
    → option_map (later_commit_seen next_told) (later_at next_sum word f.rest) ≡ option_map (later_commit_seen told) (later_at sum prev rest)
tag_more told next_told sum covered next_sum prev word rest f e unclosed covers sums word_is told_is =
    let behind = crc (crc sum f.stored) f.item.content in
    let sum_is : next_sum ≡ behind = sums ∙ ap (λ (s : ℕ). crc s f.item.content) covers in
    ap (λ (v : Told). option_map (later_commit_seen v) (later_at next_sum word f.rest)) told_is
    ∙ ap (λ (s : ℕ). option_map (later_commit_seen (told_by told f.item)) (later_at s word f.rest)) sum_is
    ∙ ap (λ (w : ℕ). option_map (later_commit_seen (told_by told f.item)) (later_at behind w f.rest)) word_is
    ∙ seen_with told f (later_at behind f.item.word f.rest)
    ∙ ap (option_map (later_commit_seen told)) (sym (commit_by-more closes sum prev rest f e unclosed))

pub tag_closes : (told : Told) (sum covered prev : ℕ) (rest : List ℕ) (f : TagFront) → tag_at prev rest ≡ Some f
    → closes f.item.word ≡ true → covered ≡ crc sum f.stored
    → option_map (later_commit_seen told) (closed covered f) ≡ option_map (later_commit_seen told) (later_at sum prev rest)
tag_closes told sum covered prev rest f e closing covers =
    ap (λ (s : ℕ). option_map (later_commit_seen told) (closed s f)) covers
    ∙ ap (option_map (later_commit_seen told)) (sym (commit_by-closed closes sum prev rest f e closing))

pub no_tag : (told : Told) (sum prev : ℕ) (rest : List ℕ) → tag_at prev rest ≡ None
    → None ≡ option_map (later_commit_seen told) (later_at sum prev rest)
no_tag told sum prev rest e = ap (option_map (later_commit_seen told)) (sym (commit_by-none closes sum prev rest e))

-- ---- commits

pub commit_more : (is_there : Bool) (told : Told) (sum prev : ℕ) (rest : List ℕ) (seen : ℕ × Told × List ℕ)
    → Some seen ≡ option_map (later_commit_seen told) (later_at sum prev rest)
    → stated_behind true seen.1 (commits_from 0xffffffff seen.0 seen.2) ≡ stated_behind is_there told (commits_from sum prev rest)
commit_more is_there told sum prev rest seen e =
    let m = map_some (later_commit_seen told) (later_at sum prev rest) seen (sym e) in
    subst (λ (s : ℕ × Told × List ℕ). stated_behind true s.1 (commits_from 0xffffffff s.0 s.2)
    ≡ stated_behind is_there told (commits_from sum prev rest)) m.2
    (ap (stated_behind is_there told) (sym (commits_from-more sum prev rest m.0 m.1)))

pub commit_shorter : (told : Told) (sum prev : ℕ) (rest : List ℕ) (seen : ℕ × Told × List ℕ)
    → Some seen ≡ option_map (later_commit_seen told) (later_at sum prev rest) → length seen.2 < length rest
commit_shorter told sum prev rest seen e =
    let m = map_some (later_commit_seen told) (later_at sum prev rest) seen (sym e) in
    subst (λ (s : ℕ × Told × List ℕ). length s.2 < length rest) m.2 (commit_by-shorter closes sum prev rest m.0 m.1)

pub no_commit : (is_there : Bool) (told : Told) (sum prev : ℕ) (rest : List ℕ)
    → None ≡ option_map (later_commit_seen told) (later_at sum prev rest)
    → stated_behind is_there told (commits_from sum prev rest) ≡ record { is_there = is_there; told = told }
no_commit is_there told sum prev rest e =
    ap (stated_behind is_there told)
    (commits_from-none sum prev rest (map_none (later_commit_seen told) (later_at sum prev rest) (sym e)))
