-- A delta of zero has no tag.
use Rattle.std.proofs.Common.{Bool, cond, List, [], ◌∷◌, ◌++◌, append-nil, sym, ap, ◌∙◌}
use Rattle.lfs_tag.specs.Commit.{Item}
use Rattle.lfs_tag.specs.Writing.{items}
use Rattle.lfs_pair.specs.Spelling.{tag_item}
use Rattle.lfs_pair.proofs.edits.push_delta.Goals as goal

pub returns-then-is_zero : goal.returns-then-is_zero
returns-then-is_zero c =
    let before : List Item = items c.args.edits.now.items in
    sym (ap (λ (zero : Bool). before ++ cond zero [] (tag_item 0x7ff 0x3ff c.args.delta.now ∷ [])) (sym c.is_zero.ensures ∙ c.if-is_zero.true)
    ∙ append-nil before)
