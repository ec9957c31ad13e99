use Rattle.std.proofs.Common.{◌≡◌, drop, length}
use Rattle.lfs_salvage.specs.AllMade.{marked_used}
use Rattle.lfs_salvage.proofs.saving_image.mark_used.Given as goal

-- what is left leads to what is wanted
abbrev pub invariant-each : goal.invariant-each
invariant-each l = record {
  left : marked_used l.looked l.block (drop l.block l.uses) ≡ marked_used l.fn.looked 0 l.uses;
  len : length l.looked ≡ length l.fn.looked;
}
