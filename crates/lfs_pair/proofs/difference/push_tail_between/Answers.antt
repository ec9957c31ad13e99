-- A tail that stays has no tag.
use Rattle.std.proofs.Common.{Bool, cond, List, [], ◌∷◌, ◌++◌, append-nil, sym, ap, ◌∙◌}
use Rattle.lfs_tag.specs.Commit.{Item}
use Rattle.lfs_tag.specs.Writing.{items}
use Rattle.lfs_pair.specs.Difference.{tail_item}
use Rattle.lfs_pair.proofs.difference.push_tail_between.Goals as goal

pub returns-then-is_same_tail : goal.returns-then-is_same_tail
returns-then-is_same_tail c =
    let before : List Item = items c.args.edits.now.items in
    sym (ap (λ (same : Bool). before ++ cond same [] (tail_item c.args.new ∷ [])) (sym c.is_same_tail.ensures ∙ c.if-is_same_tail.true)
    ∙ append-nil before)
