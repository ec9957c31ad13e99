use Rattle.std.proofs.Common.{take, flat_map}
use Rattle.json.specs.Tree.{json_tokens}
use Rattle.lfs_json.specs.Written.{Adds}
use Rattle.lfs_json.specs.Rows.{attribute_json}
use Rattle.lfs_json.proofs.attributes.add_each.Given as goal

-- the attributes so far
abbrev pub invariant-loop-attribute : goal.invariant-loop-attribute
invariant-loop-attribute l = Adds l.initial.line l.line (flat_map (λ a. json_tokens (attribute_json a)) (take l.attribute-index l.attributes))
