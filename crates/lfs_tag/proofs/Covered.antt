-- What a commit's checksum covers, tag by tag: the bytes up to the word of the tag that closes it.
use Rattle.std.proofs.Common.{◌≡◌, ◌≢◌, ℕ, ◌+◌, ◌-◌, ◌≤◌, List, ◌++◌, length, take, Option, Some, None, option_map, refl, sym, ap, ◌∙◌}
use Rattle.std.proofs.Common.{append_assoc, arith}
use Rattle.std.proofs.lemmas.List.{take_at, length-append}
use Rattle.lfs_block.specs.Checksum.{crc}
use Rattle.lfs_tag.specs.Tag.{main_kind}
use Rattle.lfs_tag.specs.Reading.{TagFront, CommitFront, tag_at, closed, commit_at, with_tag}
use Rattle.lfs_tag.specs.Found.{commit_seen}
use Rattle.lfs_tag.proofs.Steps.{tag_cut, tag_at-shorter, commit_at-none, commit_at-closed, commit_at-more}
use Rattle.lfs_tag.proofs.Sums.{crc-append}

-- the bytes before the rest
abbrev pub before : List ℕ → List ℕ → List ℕ
before bytes rest = take (length bytes - length rest) bytes

before-is : (front rest bytes : List ℕ) → front ++ rest ≡ bytes → before bytes rest ≡ front
before-is front rest bytes e =
    let len : length bytes - length rest ≡ length front = omega (arith, length-append front rest, ap length e) in
    ap (λ (b : List ℕ). take (length bytes - length rest) b) (sym e) ∙ take_at front rest (length bytes - length rest) (sym len)

-- what is left of a commit, and its word and checksum so far, give what the whole gives
pub record Left (sum prev : ℕ) (bytes : List ℕ) (word : ℕ) (rest : List ℕ) : Type 0 where
  pub parts : before bytes rest ++ rest ≡ bytes
  pub seen : option_map commit_seen (commit_at (crc sum (before bytes rest)) word rest) ≡ option_map commit_seen (commit_at sum prev bytes)

-- a tag more doesn't change what is seen of a commit
seen-with : (f : TagFront) (o : Option CommitFront) → option_map commit_seen (option_map (with_tag f.item) o) ≡ option_map commit_seen o
seen-with f None = refl
seen-with f (Some r) = refl

pub left_more : (sum prev : ℕ) (bytes : List ℕ) (word : ℕ) (rest : List ℕ) (f : TagFront) → Left sum prev bytes word rest
    → tag_at word rest ≡ Some f → main_kind f.item.word ≢ 5
    → Left sum prev bytes f.item.word f.rest
left_more sum prev bytes word rest f left e kind =
    let cut = tag_cut word rest f e in
    let front : List ℕ = before bytes rest in
    let complete : (front ++ (f.stored ++ f.item.content)) ++ f.rest ≡ bytes =
    append_assoc front (f.stored ++ f.item.content) f.rest
    ∙ ap (λ (x : List ℕ). front ++ x) (append_assoc f.stored f.item.content f.rest ∙ sym cut.parts)
    ∙ left.parts in
    let is : before bytes f.rest ≡ front ++ (f.stored ++ f.item.content) =
    before-is (front ++ (f.stored ++ f.item.content)) f.rest bytes complete in
    let sums : crc sum (before bytes f.rest) ≡ crc (crc (crc sum front) f.stored) f.item.content =
    ap (crc sum) is ∙ crc-append sum front (f.stored ++ f.item.content) ∙ crc-append (crc sum front) f.stored f.item.content in
    record {
      parts = ap (λ (x : List ℕ). x ++ f.rest) is ∙ complete;
      seen =
          ap (λ (s : ℕ). option_map commit_seen (commit_at s f.item.word f.rest)) sums
          ∙ sym (seen-with f (commit_at (crc (crc (crc sum front) f.stored) f.item.content) f.item.word f.rest))
          ∙ ap (option_map commit_seen) (sym (commit_at-more (crc sum front) word rest f e kind))
          ∙ left.seen;
    }

pub left_closing : (sum prev : ℕ) (bytes : List ℕ) (word : ℕ) (rest : List ℕ) (f : TagFront) → Left sum prev bytes word rest
    → tag_at word rest ≡ Some f
    → length bytes - length rest + 4 ≤ length bytes
left_closing sum prev bytes word rest f left e =
    omega (arith, tag_at-shorter word rest f e, length-append (before bytes rest) rest, ap length left.parts)

pub left_closed : (sum prev : ℕ) (bytes : List ℕ) (word : ℕ) (rest : List ℕ) (f : TagFront) → Left sum prev bytes word rest
    → tag_at word rest ≡ Some f → main_kind f.item.word ≡ 5
    → option_map commit_seen (closed (crc sum (take (length bytes - length rest + 4) bytes)) f)
    ≡ option_map commit_seen (commit_at sum prev bytes)
left_closed sum prev bytes word rest f left e kind =
    let cut = tag_cut word rest f e in
    let front : List ℕ = before bytes rest in
    let complete : (front ++ f.stored) ++ (f.item.content ++ f.rest) ≡ bytes =
    append_assoc front f.stored (f.item.content ++ f.rest) ∙ ap (λ (x : List ℕ). front ++ x) (sym cut.parts) ∙ left.parts in
    let len : length (front ++ f.stored) ≡ length bytes - length rest + 4 =
    omega (arith, length-append front f.stored, length-append front rest, ap length left.parts, cut.len) in
    let covered : take (length bytes - length rest + 4) bytes ≡ front ++ f.stored =
    ap (λ (b : List ℕ). take (length bytes - length rest + 4) b) (sym complete)
    ∙ take_at (front ++ f.stored) (f.item.content ++ f.rest) (length bytes - length rest + 4) len in
    ap (λ (s : ℕ). option_map commit_seen (closed s f)) (ap (crc sum) covered ∙ crc-append sum front f.stored)
    ∙ ap (option_map commit_seen) (sym (commit_at-closed (crc sum front) word rest f e kind))
    ∙ left.seen

pub left_none : (sum prev : ℕ) (bytes : List ℕ) (word : ℕ) (rest : List ℕ) → Left sum prev bytes word rest → tag_at word rest ≡ None
    → None ≡ option_map commit_seen (commit_at sum prev bytes)
left_none sum prev bytes word rest left e =
    ap (option_map commit_seen) (sym (commit_at-none (crc sum (before bytes rest)) word rest e)) ∙ left.seen
