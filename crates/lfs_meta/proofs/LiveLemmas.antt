-- The live block of two is read.
use Rattle.std.proofs.Common.{◌≡◌, ℕ, ◌<◌, Bool, true, false, if◌then◌else◌, List, refl, arith, Option, Some, None}
use Rattle.std.specs.Prelude.{nat_lt}
use Rattle.std.proofs.lemmas.Bool.Decides.{nat_tests}
use Rattle.lfs_tag.specs.LogSeen.{LogSeen, log_seen}
use Rattle.lfs_meta.specs.Laws.{IsLive, LiveBlocksAreRead}
use Rattle.lfs_meta.specs.declared.live_block.LiveBlock.{LiveBlock}
use Rattle.lfs_meta.specs.declared.live_block.LiveBlock.TheVariants.{Neither}
use Rattle.lfs_meta.specs.LiveBlock.{revision, is_later, committed_log, first_or, second_or}

-- the live block of two, where this is what is said of their revisions
abbrev pub live_when : Bool → Option LogSeen → Option LogSeen → LiveBlock
live_when late one two = if late then second_or two (first_or one Neither) else first_or one (second_or two Neither)

-- a log that is the block's, where there is one
abbrev IsCommitted : List ℕ → Option LogSeen → Type 0
IsCommitted block None = (log_seen block).commits ≡ 0
IsCommitted block (Some log) = (log ≡ log_seen block) × (0 < log.commits)

committed-by : (block : List ℕ) (some' : Bool) → nat_lt 0 (log_seen block).commits ≡ some'
    → IsCommitted block (if some' then Some (log_seen block) else None)
committed-by block true is = (refl, grind (arith, nat_tests))
committed-by block false is = grind (arith, nat_tests)

live-when-read : (late : Bool) (first second : List ℕ) (one two : Option LogSeen) → IsCommitted first one → IsCommitted second two
    → IsLive (live_when late one two) first second
live-when-read true first second one (Some log) h k = k
live-when-read true first second (Some log) None h k = h
live-when-read true first second None None h k = (h, k)
live-when-read false first second (Some log) two h k = h
live-when-read false first second None (Some log) h k = k
live-when-read false first second None None h k = (h, k)

pub live-read : LiveBlocksAreRead
live-read first second =
    live-when-read (is_later (revision second) (revision first)) first second (committed_log first) (committed_log second)
    (committed-by first (nat_lt 0 (log_seen first).commits) refl) (committed-by second (nat_lt 0 (log_seen second).commits) refl)
