-- A part that no tag carries to another is the other.
use Rattle.std.proofs.Common.{◌≡◌, ◌≤◌, [], length, Some, ap, sym, ◌∙◌}
use Rattle.std.specs.List.{AllByRecursion}
use Rattle.lfs_meta.specs.Complete.{IsComplete, complete_part, raw_part}
use Rattle.lfs_meta.specs.Fits.{EntryFits, TailFits}
use Rattle.lfs_meta.specs.Part.{StoredPart}
use Rattle.lfs_meta.specs.Replay.{replay_from}
use Rattle.lfs_meta.proofs.ReplayLemmas.{replay_from-none}
use Rattle.lfs_pair.specs.Difference.{Forced, part_between}
use Rattle.lfs_pair.specs.Laws.{PartsBecomeOthers, WrittenPartsAreComplete}

pub same_part : PartsBecomeOthers → WrittenPartsAreComplete → (forced : Forced) (p q : StoredPart) → AllByRecursion EntryFits p.entries
    → AllByRecursion EntryFits q.entries → length p.entries ≤ 1023 → length q.entries ≤ 1023 → TailFits q.tail → length q.delta ≡ 12
    → AllByRecursion IsComplete p.entries → AllByRecursion IsComplete q.entries → part_between forced p q ≡ [] → p ≡ q
same_part become complete forced p q p_fits q_fits p_few q_few tail twelve p_complete q_complete none =
    let raw : Some (raw_part p) ≡ Some (raw_part q) =
    sym (replay_from-none (raw_part p)) ∙ ap (replay_from (raw_part p)) (sym none)
    ∙ become forced p q p_fits q_fits p_few q_few tail twelve in
    let same : raw_part p ≡ raw_part q = cc in
    let both : Some p ≡ Some q = sym (complete p p_complete) ∙ ap complete_part same ∙ complete q q_complete in
    cc
