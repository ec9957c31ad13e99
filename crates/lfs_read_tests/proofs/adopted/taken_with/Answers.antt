-- The new blocks are those of the draft.
use Rattle.std.proofs.Common.{◌≡◌, List, ℕ, ap₂, sym, subst}
use Rattle.std.specs.Prelude.{Option}
use Rattle.lfs_adopt.specs.Draft.{Drafted, IsDraft}
use Rattle.lfs_read_tests.proofs.adopted.taken_with.Goals as goal

pub returns-in-Ok : goal.returns-in-Ok
returns-in-Ok c =
    let f : Drafted = c.in-Ok.taken.draft in
    let blocks = c.into_blocks.result.items in
    let same : f ≡ record { base = c.args.image.now.disk; blocks = blocks } =
    ap₂ (λ b os. record { base = b; blocks = os }) c.in-Ok.ensures.base (sym c.into_blocks.ensures.blocks) in
    subst IsDraft same c.into_blocks.ensures.draft
