-- The line is begun, gets what is found, and ends.
use Rattle.std.proofs.Common.{ℕ, List, ◌++◌, ap, ◌∙◌}
use Rattle.lfs_find.specs.declared.found.Found.{Found}
use Rattle.lfs_json.specs.Line.{line_of}
use Rattle.lfs_json.specs.Object.{Member}
use Rattle.lfs_json.proofs.AddingLemmas.{adds_members, begun_adds}
use Rattle.lfs_open.specs.FoundText.{json_of_found, place_members, verdict_members}
use Rattle.lfs_open.proofs.lines.append_json.Goals as goal

pub returns : goal.returns
returns c =
    let f : Found = c.args.found.now in
    let members : List Member = place_members f.place ++ verdict_members f.fault in
    let is = begun_adds c.in_ok-line.line c.add_verdict.new.line c.args.text.now.items members c.in_ok-line.ensures.before
    c.in_ok-line.ensures.tokens
    (adds_members _ c.add_place.new.line _ (place_members f.place) (verdict_members f.fault) c.in_ok-add_place.ensures
    c.in_ok-add_verdict.ensures) in
    c.in_ok-end_line.ensures members is.1 ∙ ap (λ (t : List ℕ). t ++ line_of (json_of_found f)) is.0
