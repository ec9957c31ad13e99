-- Each tag of a log takes four bytes.
use Rattle.std.proofs.Common.{ℕ, ◌+◌, ◌*◌, ◌≤◌, List, [], ◌∷◌, ◌++◌, length, take, ap, arith, bit_xor}
use Rattle.std.specs.Int.{w32, to_be_bytes, to_le_bytes}
use Rattle.std.proofs.lemmas.List.{length-append, length-drop}
use Rattle.std.proofs.lemmas.List.Concat.{flat_map-cons}
use Rattle.std.proofs.lemmas.List.Sums.{sum_by-cons}
use Rattle.lfs_block.specs.Checksum.{crc}
use Rattle.lfs_tag.specs.Commit.{Item, Commit, tags_bytes, last_word, covered_bytes, commit_bytes, next_word}
use Rattle.lfs_tag.specs.Laws.{LogTagsAreFew}
use Rattle.lfs_tag.specs.Log.{commits_bytes, log_tags}
use Rattle.lfs_tag.specs.Reading.{Front, log_of}
use Rattle.lfs_tag.specs.Writing.{tags_len}
use Rattle.lfs_tag.proofs.Logs.{logged, commits_bytes-logged, log_of-takes}
use Rattle.lfs_tag.proofs.Puts.{length-tags_bytes}

four_each : (ts : List Item) → 4 * length ts ≤ tags_len ts
four_each [] = omega arith
four_each (t ∷ ts) = omega (arith, four_each ts, sum_by-cons (λ (u : Item). 4 + length u.content) t ts)

commit_few : (lead : List ℕ) (prev : ℕ) (c : Commit) → 4 * length c.tags ≤ length (commit_bytes lead prev c)
commit_few lead prev c =
    let tags : List ℕ = tags_bytes prev c.tags in
    let word : List ℕ = to_be_bytes w32 (bit_xor c.closing (last_word prev c.tags)) in
    let sum : List ℕ = to_le_bytes w32 (crc 0xffffffff (lead ++ covered_bytes prev c)) in
    omega (
      arith,
      four_each c.tags,
      length-tags_bytes prev c.tags,
      length-append (tags ++ word ++ sum) c.padding,
      length-append (tags ++ word) sum,
      length-append tags word,
    )

commits_few : (lead : List ℕ) (prev : ℕ) (cs : List Commit) → 4 * length (log_tags cs) ≤ length (commits_bytes lead prev cs)
unfolding commits_bytes
commits_few lead prev [] = omega arith
commits_few lead prev (c ∷ cs) =
    omega (
      arith,
      commit_few lead prev c,
      commits_few [] (next_word c) cs,
      length-append (commit_bytes lead prev c) (commits_bytes [] (next_word c) cs),
      ap length (flat_map-cons (λ (d : Commit). d.tags) c cs),
      length-append c.tags (log_tags cs),
    )

pub log_tags-few : LogTagsAreFew
log_tags-few block h =
    let f : Front = log_of block in
    let revision : List ℕ = take 4 block in
    let front : List ℕ = logged (crc 0xffffffff revision) 0xffffffff f.commits in
    omega (
      arith,
      commits_few revision 0xffffffff f.commits,
      ap length (commits_bytes-logged revision 0xffffffff f.commits),
      ap length (log_of-takes block h).parts,
      length-append front f.rest,
      length-drop 4 block,
    )
