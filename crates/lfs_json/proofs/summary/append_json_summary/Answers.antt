use Rattle.std.proofs.Common.{ℕ, List, [], ◌∷◌, ◌++◌, ap, ◌∙◌}
use Rattle.std.specs.Prelude.{codes}
use Rattle.json.specs.Json.{string}
use Rattle.lfs_json.specs.Line.{line_of}
use Rattle.lfs_json.specs.Object.{Member}
use Rattle.lfs_json.proofs.AddingLemmas.{adds_first, adds_members, adds_one, begun_adds}
use Rattle.lfs_json.specs.declared.summary.Summary.{Summary}
use Rattle.lfs_json.specs.Summary.{block_members, inline_member, json_of_summary, last_members, limit_members, tree_members, version_word}
use Rattle.lfs_json.proofs.summary.append_json_summary.Goals as goal

pub returns : goal.returns
returns c =
    let s : Summary = c.args.summary.now in
    let version : Member = (codes "version", string (version_word s.version)) in
    let limits : List Member = limit_members s.limits in
    let inline : Member = inline_member s in
    let members : List Member = block_members s ++ (tree_members s ++ last_members s) in
    let is = begun_adds c.in_ok-line.line c.add_inline.new.line c.args.text.now.items members c.in_ok-line.ensures.before c.in_ok-line.ensures.tokens
    (adds_members _ c.add_blocks.new.line _ (block_members s) (tree_members s ++ last_members s) c.in_ok-add_blocks.ensures
    (adds_members _ c.add_tree.new.line _ (tree_members s) (last_members s) c.in_ok-add_tree.ensures
    (adds_first _ c.add_version.new.line _ version (limits ++ inline ∷ []) c.in_ok-add_version.ensures
    (adds_members _ c.add_limits.new.line _ limits (inline ∷ []) c.in_ok-add_limits.ensures
    (adds_one _ _ inline c.in_ok-add_inline.ensures))))) in
    c.in_ok-end_line.ensures members is.1 ∙ ap (λ (t : List ℕ). t ++ line_of (json_of_summary s)) is.0
