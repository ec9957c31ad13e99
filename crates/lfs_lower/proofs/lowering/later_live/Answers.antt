-- The block that is tried first is live if it has a commit, and else the other one.
use Rattle.std.proofs.Common.{◌≡◌, ◌<◌, ℕ, true, false, List, ap, length, sym, ◌∙◌, subst, arith}
use Rattle.std.specs.Prelude.{is_some}
use Rattle.lfs_block.specs.Disk.{Disk, block_of}
use Rattle.lfs_meta.specs.Body.{Pair}
use Rattle.lfs_lower.specs.Lowered.{IsLaterLive, tried_first}
use Rattle.lfs_lower.specs.Spelled.{is_root_block, lowered_tags}
use Rattle.lfs_lower.proofs.LoweredPairs.{block_fits}
use Rattle.lfs_lower.proofs.LaterLive.{live_first, live_second, tried_within}
use Rattle.lfs_lower.proofs.lowering.later_live.Goals as goal

pub block-requires : goal.block-requires
block-requires g c =
    let d : Disk = g.B.Blocks.disk c.args.blocks.now in
    subst (λ (p : Pair). p.0 < d.count) (sym c.tried_first-tried.ensures) (tried_within d c.args.pair c.requires.first c.requires.second)

pub has_commit-requires : goal.has_commit-requires
has_commit-requires g c =
    let d : Disk = g.B.Blocks.disk c.args.blocks.now in
    let tried : ℕ = c.tried_first-tried.result.0 in
    let within : tried < d.count =
    subst (λ (p : Pair). p.0 < d.count) (sym c.tried_first-tried.ensures) (tried_within d c.args.pair c.requires.first c.requires.second) in
    omega (arith, ap length c.block.ensures, (block_fits d tried c.size-fits_the_limits.ensures.disk within).0)

pub returns-then-branch : goal.returns-then-branch
returns-then-branch g c =
    let d : Disk = g.B.Blocks.disk c.args.blocks.now in
    let tried : Pair = tried_first d c.args.pair in
    let is = c.tried_first-tried.ensures in
    let there : is_some (lowered_tags (is_root_block tried.0) (block_of d tried.0)) ≡ true =
    ap (λ (p : Pair). is_some (lowered_tags (is_root_block tried.0) (block_of d p.0))) (sym is)
    ∙ ap (λ (b : List ℕ). is_some (lowered_tags (is_root_block tried.0) b)) (sym c.block.ensures)
    ∙ c.in_ok-has_commit.ensures (is_root_block tried.0) ∙ c.if-branch.true in
    subst (λ (p : Pair). IsLaterLive d c.args.pair p.0 p.1) (sym is) (live_first d c.args.pair there)

pub returns : goal.returns
returns g c =
    let d : Disk = g.B.Blocks.disk c.args.blocks.now in
    let tried : Pair = tried_first d c.args.pair in
    let is = c.tried_first-tried.ensures in
    let there : is_some (lowered_tags (is_root_block tried.0) (block_of d tried.0)) ≡ false =
    ap (λ (p : Pair). is_some (lowered_tags (is_root_block tried.0) (block_of d p.0))) (sym is)
    ∙ ap (λ (b : List ℕ). is_some (lowered_tags (is_root_block tried.0) b)) (sym c.block.ensures)
    ∙ c.in_ok-has_commit.ensures (is_root_block tried.0) ∙ c.if-branch.false in
    subst (λ (p : Pair). IsLaterLive d c.args.pair p.1 p.0) (sym is) (live_second d c.args.pair there)
