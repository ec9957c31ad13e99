-- Blocks are marked, one after another.
use Rattle.std.proofs.Common.{◌≡◌, ℕ, ◌+◌, ◌<◌, List, length, get_or, drop, ap, sym, ◌∙◌}
use Rattle.std.proofs.lemmas.List.{at_drop_more}
use Rattle.lfs_salvage.specs.PartsUsed.{uses_by_part, parts_uses}
use Rattle.lfs_salvage.specs.declared.block_use.BlockUse.{BlockUse}
use Rattle.lfs_salvage.specs.declared.block_use.BlockUse.TheVariants as use_of
use Rattle.lfs_survey.specs.declared.found.Found.{Found}

-- one part more
pub parts_more : (uses : List BlockUse) (area i : ℕ) (fs : List Found) (f : Found) → i < length fs → f ≡ get_or fs i f
    → parts_uses uses area i (drop i fs) ≡ parts_uses (uses_by_part uses area i f) area (i + 1) (drop (i + 1) fs)
parts_more uses area i fs f within is =
    at_drop_more (parts_uses uses area i) fs i f within
    ∙ ap (λ (x : Found). parts_uses (uses_by_part uses area i x) area (i + 1) (drop (i + 1) fs)) (sym is)
