use Rattle.std.proofs.Common.{ℕ, ◌*◌, [], ◌∷◌, subst}
use Rattle.std.specs.Prelude.{codes}
use Rattle.lfs_json.specs.Object.{Member, integer}
use Rattle.lfs_json.specs.Written.{Adds, member_tokens}
use Rattle.lfs_json.proofs.AddingLemmas.{adds_first, adds_one}
use Rattle.lfs_json.specs.declared.summary.Summary.{Summary}
use Rattle.lfs_json.proofs.summary.add_blocks.Goals as goal

pub returns : goal.returns
returns c =
    let s : Summary = c.args.summary.now in
    let block : Member = (codes "block", integer s.block) in
    let count : Member = (codes "count", integer s.count) in
    let free : Member = (codes "free", integer s.free) in
    let bytes : Member = (codes "free_bytes", integer (s.free * s.block)) in
    adds_first _ c.add_count.new.line _ block (count ∷ free ∷ bytes ∷ []) c.in_ok-add_count.ensures
    (adds_first _ c.add_count-2.new.line _ count (free ∷ bytes ∷ []) c.in_ok-add_count-2.ensures
    (adds_first _ c.add_count-3.new.line _ free (bytes ∷ []) c.in_ok-add_count-3.ensures
    (adds_one _ c.add_number.new.line bytes
    (subst (λ (n : ℕ). Adds c.add_count-3.new.line c.add_number.new.line (member_tokens (codes "free_bytes", integer n))) c.free_bytes.ensures
    c.in_ok-add_number.ensures))))
