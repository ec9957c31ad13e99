-- The members are added one after another.
use Rattle.std.proofs.Common.{ℕ, ◌*◌, [], ◌∷◌, subst}
use Rattle.std.specs.Prelude.{codes}
use Rattle.json.specs.Json.{string}
use Rattle.lfs_json.specs.Object.{Member, integer}
use Rattle.lfs_json.specs.Written.{Adds, member_tokens}
use Rattle.lfs_json.proofs.AddingLemmas.{adds_first, adds_one}
use Rattle.lfs_find.specs.declared.place.Place.{Place}
use Rattle.lfs_open.specs.FoundText.{version_text}
use Rattle.lfs_open.proofs.lines.add_place.Goals as goal

pub returns : goal.returns
returns c =
    let p : Place = c.args.place.now in
    let at : Member = (codes "at", integer p.at) in
    let version : Member = (codes "version", string (version_text p.version)) in
    let block : Member = (codes "block", integer p.size) in
    let count : Member = (codes "count", integer p.count) in
    let bytes : Member = (codes "bytes", integer (p.count * p.size)) in
    adds_first _ c.add_number.new.line _ at (version ∷ block ∷ count ∷ bytes ∷ []) c.in_ok-add_number.ensures
    (adds_first _ c.add_version.new.line _ version (block ∷ count ∷ bytes ∷ []) c.in_ok-add_version.ensures
    (adds_first _ c.add_number-2.new.line _ block (count ∷ bytes ∷ []) c.in_ok-add_number-2.ensures
    (adds_first _ c.add_number-3.new.line _ count (bytes ∷ []) c.in_ok-add_number-3.ensures
    (adds_one _ c.add_number-4.new.line bytes
    (subst (λ (n : ℕ). Adds c.add_number-3.new.line c.add_number-4.new.line (member_tokens (codes "bytes", integer n))) c.bytes_of.ensures
    c.in_ok-add_number-4.ensures)))))
