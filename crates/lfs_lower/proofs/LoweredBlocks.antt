-- Lowered blocks are read, and the live one of two stays.
use Rattle.std.proofs.Common.{◌≡◌, ℕ, ◌^◌, ◌<◌, Bool, true, false, List, length, Option, Some, None}
use Rattle.std.proofs.Common.{option_map, refl, ap, ◌∙◌, arith}
use Rattle.lfs_block.specs.Bytes.{IsBytes}
use Rattle.lfs_block.specs.Geometry.{IsBlockSize}
use Rattle.lfs_block.proofs.PutLemmas.{IsBytes-take}
use Rattle.lfs_tag.specs.Commit.{Item}
use Rattle.lfs_tag.specs.LogSeen.{LogSeen}
use Rattle.lfs_meta.specs.LiveBlock.{committed, committed_log, is_later, live_log, revision}
use Rattle.lfs_meta.proofs.LiveLemmas.{live_when}
use Rattle.lfs_lower.specs.LaterReading.{live_by}
use Rattle.lfs_lower.specs.Laws.{LoweredBlocksAreRead, LivesAreRead}
use Rattle.lfs_lower.specs.Spelled.{lowered_block, lowered_tags, spelled}
use Rattle.lfs_lower.proofs.KeptTags.{kept_of_block}
use Rattle.lfs_lower.proofs.SpelledBlocks.{LogLaws, read_back, revision_back}

pub blocks_read : LogLaws → LoweredBlocksAreRead
blocks_read laws in_root block bytes complete =
    let back = read_back laws (length block) (revision block) (lowered_tags in_root block) complete (kept_of_block in_root block bytes complete) in
    record { len = back.len; held = back.held; bytes = back.bytes }

-- ---- the live block

-- the tags of the live one of two logs
pub live-is : (late : Bool) (one two : Option LogSeen)
    → option_map (λ log. log.tags) (live_log (live_when late one two))
    ≡ live_by late (option_map (λ log. log.tags) one) (option_map (λ log. log.tags) two)
live-is true None None = refl
live-is true (Some a) None = refl
live-is true None (Some b) = refl
live-is true (Some a) (Some b) = refl
live-is false None None = refl
live-is false (Some a) None = refl
live-is false None (Some b) = refl
live-is false (Some a) (Some b) = refl

-- which one is later matters only where both have a commit
either-late : (late other : Bool) (one two : Option (List Item))
    → ((ts us : List Item) → one ≡ Some ts → two ≡ Some us → late ≡ other) → live_by late one two ≡ live_by other one two
either-late true true one two h = refl
either-late false false one two h = refl
either-late true false None None h = refl
either-late true false (Some ts) None h = refl
either-late true false None (Some us) h = refl
either-late true false (Some ts) (Some us) h = absurd (cc (h ts us refl refl))
either-late false true None None h = refl
either-late false true (Some ts) None h = refl
either-late false true None (Some us) h = refl
either-late false true (Some ts) (Some us) h = absurd (cc (h ts us refl refl))

revision-small : (block : List ℕ) → IsBytes block → revision block < 2 ^ 32
revision-small block h =
    let k = IsBytes-take 4 block h in
    omega (arith, k 0, k 1, k 2, k 3)

-- a lowered block that has a commit has the block's revision
revision-kept : (in_root : Bool) (block : List ℕ) (ts : List Item) → IsBytes block → IsBlockSize (length block)
    → lowered_tags in_root block ≡ Some ts → revision (lowered_block in_root block) ≡ revision block
revision-kept in_root block ts bytes complete e =
    ap (λ (o : Option (List Item)). revision (spelled (length block) (revision block) o)) e
    ∙ revision_back (length block) (revision block) ts (revision-small block bytes) (omega (arith, complete.0))

pub lives_read : LogLaws → LivesAreRead
lives_read laws first_root second_root first second first_bytes second_bytes first_complete second_complete =
    let one = blocks_read laws first_root first first_bytes first_complete in
    let two = blocks_read laws second_root second second_bytes second_complete in
    let late : Bool = is_later (revision (lowered_block second_root second)) (revision (lowered_block first_root first)) in
    live-is late (committed_log (lowered_block first_root first)) (committed_log (lowered_block second_root second))
    ∙ ap (λ (o : Option (List Item)). live_by late o (committed (lowered_block second_root second))) one.held
    ∙ ap (live_by late (lowered_tags first_root first)) two.held
    ∙ either-late late (is_later (revision second) (revision first)) (lowered_tags first_root first) (lowered_tags second_root second)
    (λ ts us e k. ap (λ (n : ℕ). is_later n (revision (lowered_block first_root first)))
    (revision-kept second_root second us second_bytes second_complete k)
    ∙ ap (is_later (revision second)) (revision-kept first_root first ts first_bytes first_complete e))
