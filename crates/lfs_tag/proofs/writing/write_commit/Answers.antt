-- The four writes one behind another are the commit.
use Rattle.std.proofs.Common.{◌≡◌, ◌≤◌, ◌+◌, ◌++◌, ◌-◌, ◌*◌, ◌/◌, ◌^◌, length, take, drop, replicate, bit_xor, ℕ, List, ap, ◌∙◌, arith}
use Rattle.std.proofs.lemmas.List.{length-append, length-replicate}
use Rattle.std.specs.Int.{w32, to_be_bytes, to_le_bytes}
use Rattle.lfs_block.specs.Checksum.{crc}
use Rattle.lfs_block.specs.Disk.{put_at}
use Rattle.lfs_tag.specs.Commit.{Item, Commit, tags_bytes, last_word, covered_bytes}
use Rattle.lfs_tag.specs.Writing.{items, tags_len, committed_end, commit_of, lead_at}
use Rattle.lfs_tag.proofs.Puts.{length-tags_bytes, four_puts, at-put_at, lead_at-put_at, items-valid, commit_of-valid, commit_len}
use Rattle.lfs_tag.proofs.writing.write_commit.Goals as goal

pub returns-clause-commit : goal.returns-clause-commit
returns-clause-commit c = commit_of-valid c.args.at (items c.args.edits.now) (items-valid c.args.edits.now)

pub returns-clause-len : goal.returns-clause-len
returns-clause-len c = commit_len (lead_at c.args.at c.args.block.now) c.args.at c.args.prev (items c.args.edits.now)

pub returns-clause-written : goal.returns-clause-written
returns-clause-written c =
    let at : ℕ = c.args.at in
    let old : List ℕ = c.args.block.now in
    let ts : List Item = items c.args.edits.now in
    let commit : Commit = commit_of at ts in
    let place : ℕ = c.put_edits-place.result.0 in
    let stored : ℕ = c.encode.result in
    let tags : List ℕ = tags_bytes c.args.prev ts in
    let word : List ℕ = to_be_bytes w32 stored in
    let sum : ℕ = c.checksum_from-checksum.result in
    let size : ℕ = (place + 8 + 16 - 1) / 16 * 16 - (place + 8) in
    let covered : List ℕ = tags ++ word in
    let reach : place ≡ at + tags_len ts = c.put_edits-place.ensures.end in
    let len : place ≡ at + length tags = omega (arith, reach, length-tags_bytes c.args.prev ts) in
    let room : committed_end at ts ≤ length old = c.requires.fits in
    let puts = four_puts at place (place + 4) (place + 8) old tags word (to_le_bytes w32 sum) (replicate size 255)
    c.put_edits-place.new.block c.put_big_word.new.block c.put_little_word.new.block c.put_padding.new.block
    c.put_edits-place.ensures.written c.put_big_word.ensures c.put_little_word.ensures c.put_padding.ensures
    len (omega arith) (omega arith) (omega (arith, room, reach, length-replicate {A = ℕ} size 255)) in
    let last : c.put_edits-place.result.1 ≡ last_word c.args.prev ts = c.put_edits-place.ensures.last in
    let closing : 0x500 * 2 ^ 20 + 0x3ff * 2 ^ 10 + ((place + 8 + 16 - 1) / 16 * 16 - (place + 4)) ≡ commit.closing =
    omega (arith, reach) in
    let stored-is : stored ≡ bit_xor commit.closing (last_word c.args.prev ts) =
    c.encode.ensures ∙ ap (λ (w : ℕ). bit_xor w c.put_edits-place.result.1) closing ∙ ap (bit_xor commit.closing) last in
    let complete : List ℕ = put_at at covered old in
    let within : at ≤ length old = omega (arith, room) in
    let count : place + 4 - at ≡ length covered = omega (arith, len, length-append tags word) in
    let sum-is : sum ≡ crc 0xffffffff (lead_at at old ++ covered_bytes c.args.prev commit) =
    c.checksum_from-checksum.ensures
    ∙ ap (λ (b : List ℕ). crc 0xffffffff (lead_at at b ++ take (place + 4 - at) (drop at b))) puts.0
    ∙ ap (λ (l : List ℕ). crc 0xffffffff (l ++ take (place + 4 - at) (drop at complete))) (lead_at-put_at at covered old c.requires.at within)
    ∙ ap (λ (n : ℕ). crc 0xffffffff (lead_at at old ++ take n (drop at complete))) count
    ∙ ap (λ (x : List ℕ). crc 0xffffffff (lead_at at old ++ x)) (at-put_at at covered old within)
    ∙ ap (λ (w : ℕ). crc 0xffffffff (lead_at at old ++ (tags ++ to_be_bytes w32 w))) stored-is in
    let size-is : size ≡ committed_end at ts - (at + tags_len ts + 8) = omega (arith, reach) in
    puts.1
    ∙ ap (λ (w : ℕ). put_at at ((tags ++ to_be_bytes w32 w) ++ to_le_bytes w32 sum ++ replicate size 255) old) stored-is
    ∙ ap (λ (s : ℕ). put_at at (covered_bytes c.args.prev commit ++ to_le_bytes w32 s ++ replicate size 255) old) sum-is
    ∙ ap (λ (n : ℕ). put_at at (covered_bytes c.args.prev commit ++ to_le_bytes w32
    (crc 0xffffffff (lead_at at old ++ covered_bytes c.args.prev commit)) ++ replicate n 255) old) size-is
