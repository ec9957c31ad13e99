-- A file is begun and written to, or it has no name, or the host refuses something else.
use Rattle.std.proofs.Common.{◌≡◌, [], ◌∷◌, inr, List, ℕ, Option, Some, None, String, option_map, string_bytes, subst, sym}
use Rattle.std.specs.Global.{Global}
use Rattle.std.proofs.lemmas.Result.{err_from_is_err_and}
use Rattle.lfs_extract.specs.Extracted.{IsBegun, MakesFront}
use Rattle.lfs_extract.specs.Making.{held_bytes}
use Rattle.lfs_fs.specs.RowHeld.{row_body_held}
use Rattle.lfs_host.specs.NewFolder.{FileMade, Made, Makes}
use Rattle.lfs_host.specs.Scene.{Scene}
use Rattle.lfs_salvage.specs.Below.{HasRefusedBelow, IsNameBelow}
use Rattle.lfs_salvage.specs.Naming.{GetsFirst}
use Rattle.lfs_salvage.specs.Word.{word_in}
use Rattle.lfs_salvage.specs.declared.thing.Thing.TheVariants.{File}
use Rattle.lfs_salvage.specs.declared.wording.Wording.{Wording}
use Rattle.lfs_salvage.specs.declared.wording.Wording.TheVariants.{Own}
use Rattle.lfs_salvage.proofs.NamingLemmas.{file_under, nameless_is, none_under}
use Rattle.lfs_salvage.proofs.SavingLemmas.{begun_below, begun_front, blames, nothing_stops, one_below}
use Rattle.lfs_salvage.proofs.saving_entries.make_named.Goals as goal

-- a name is another's
made_as : (old new : Option (List Made)) (n name held : List ℕ) → n ≡ name → Makes old new (FileMade n held ∷ [])
    → Makes old new (FileMade name held ∷ [])
made_as old new n name held is made = subst (λ (m : List ℕ). Makes old new (FileMade m held ∷ [])) is made

begun_as : (old new : Option (List Made)) (n name held : List ℕ) → n ≡ name
    → (begun : List Made) × IsBegun (FileMade n held) begun × Makes old new begun → MakesFront old new (FileMade name held ∷ [])
begun_as old new n name held is front =
    subst (λ (m : List ℕ). MakesFront old new (FileMade m held ∷ [])) is (begun_front old new (FileMade n held) front.0 front.1 front.2)

-- what is answered of the name
gets_as : (names : Wording → List ℕ) (got told : Option (String Global)) (old new : Scene) → got ≡ told
    → GetsFirst File names (option_map (λ s. string_bytes s) got) old new → GetsFirst File names (option_map (λ s. string_bytes s) told) old new
gets_as names got told old new is gets =
    subst (λ (o : Option (String Global)). GetsFirst File names (option_map (λ s. string_bytes s) o) old new) is gets

pub returns-in_err-name-clause-made : goal.returns-in_err-name-clause-made
returns-in_err-name-clause-made g c =
    let name : List ℕ = word_in c.args.above.now c.args.named.block c.args.named.index c.args.named.name.now Own in
    let p = err_from_is_err_and c.from_residual.result c.from_residual.ensures.1 in
    let stop =
    nothing_stops c.in_err-name.field-0.0 (g.F.Known.known c.args.folder.now).made (g.F.Known.known c.make_first.new.folder).made
    (FileMade name (held_bytes (g.B.Blocks.disk c.args.disk.now) (row_body_held c.args.body.now))) c.in_err-name.ensures.stopped.0
    c.in_err-name.ensures.stopped.1 in
    rw (p.1, p.2) (Some Own, stop, tt)

pub returns-in_default-clause-made : goal.returns-in_default-clause-made
returns-in_default-clause-made g c =
    let old : Scene = g.F.Known.known c.args.folder.now in
    let new : Scene = g.F.Known.known c.make_first.new.folder in
    let held : List ℕ = held_bytes (g.B.Blocks.disk c.args.disk.now) (row_body_held c.args.body.now) in
    let names : Wording → List ℕ = word_in c.args.above.now c.args.named.block c.args.named.index c.args.named.name.now in
    let gets = gets_as names c.in_ok-name.field-0 None old new c.in_default.is c.in_ok-name.ensures.made in
    (gets.word, none_under (Makes old.made new.made) names gets.word held gets.is gets.made, nameless_is names gets.word None held gets.is)

pub returns-in_err-write_file-clause-made : goal.returns-in_err-write_file-clause-made
returns-in_err-write_file-clause-made g c =
    let old : Scene = g.F.Known.known c.args.folder.now in
    let mid : Scene = g.F.Known.known c.make_first.new.folder in
    let new : Scene = g.F.Known.known c.write_file.new.folder in
    let held : List ℕ = held_bytes (g.B.Blocks.disk c.args.disk.now) (row_body_held c.args.body.now) in
    let names : Wording → List ℕ = word_in c.args.above.now c.args.named.block c.args.named.index c.args.named.name.now in
    let gets = gets_as names c.in_ok-name.field-0 (Some c.in-Some.name) old mid c.in-Some.is c.in_ok-name.ensures.made in
    let name : List ℕ = string_bytes c.in-Some.name in
    let made : Makes old.made mid.made (FileMade c.as_str.result.now [] ∷ []) =
    subst (λ (n : List ℕ). Makes old.made mid.made (FileMade n [] ∷ [])) (sym c.as_str.ensures.value) gets.made in
    let begun = begun_as old.made new.made c.as_str.result.now name held c.as_str.ensures.value (c.in_err-write_file.ensures.made old.made made) in
    let p = err_from_is_err_and c.from_residual-in_err-write_file.result c.from_residual-in_err-write_file.ensures.1 in
    rw (p.1, p.2) (gets.word, file_under (MakesFront old.made new.made) names gets.word name held gets.is begun, tt)

pub returns-in_err-write_file-clause-below : goal.returns-in_err-write_file-clause-below
returns-in_err-write_file-clause-below g c = λ top above.
    let old : Scene = g.F.Known.known c.args.folder.now in
    let mid : Scene = g.F.Known.known c.make_first.new.folder in
    let new : Scene = g.F.Known.known c.write_file.new.folder in
    let names : Wording → List ℕ = word_in c.args.above.now c.args.named.block c.args.named.index c.args.named.name.now in
    let gets = gets_as names c.in_ok-name.field-0 (Some c.in-Some.name) old mid c.in-Some.is c.in_ok-name.ensures.made in
    let one : Made = FileMade c.as_str.result.now (held_bytes (g.B.Blocks.disk c.args.disk.now) (row_body_held c.args.body.now)) in
    let named = rw c.in-Some.is at c.in_ok-name.ensures.named top above in
    let is : IsNameBelow top c.as_str.result.now = subst (IsNameBelow top) (sym c.as_str.ensures.value) named in
    let made : Makes old.made mid.made (FileMade c.as_str.result.now [] ∷ []) =
    subst (λ (n : List ℕ). Makes old.made mid.made (FileMade n [] ∷ [])) (sym c.as_str.ensures.value) gets.made in
    let front = c.in_err-write_file.ensures.made old.made made in
    begun_below top old.made new.made one front.0 is front.1 front.2

pub returns-in_err-write_file-clause-blamed : goal.returns-in_err-write_file-clause-blamed
returns-in_err-write_file-clause-blamed g c = λ top above.
    let new : Scene = g.F.Known.known c.write_file.new.folder in
    let named = rw c.in-Some.is at c.in_ok-name.ensures.named top above in
    blames {P = HasRefusedBelow new top} c.from_residual-in_err-write_file.result (
      FileMade c.as_str.result.now (held_bytes (g.B.Blocks.disk c.args.disk.now) (row_body_held c.args.body.now)),
      subst (IsNameBelow top) (sym c.as_str.ensures.value) named,
      inr c.in_err-write_file.ensures.blamed,
    )

pub returns-clause-made : goal.returns-clause-made
returns-clause-made g c =
    let old : Scene = g.F.Known.known c.args.folder.now in
    let mid : Scene = g.F.Known.known c.make_first.new.folder in
    let new : Scene = g.F.Known.known c.write_file.new.folder in
    let held : List ℕ = held_bytes (g.B.Blocks.disk c.args.disk.now) (row_body_held c.args.body.now) in
    let names : Wording → List ℕ = word_in c.args.above.now c.args.named.block c.args.named.index c.args.named.name.now in
    let gets = gets_as names c.in_ok-name.field-0 (Some c.in-Some.name) old mid c.in-Some.is c.in_ok-name.ensures.made in
    let name : List ℕ = string_bytes c.in-Some.name in
    let made : Makes old.made mid.made (FileMade c.as_str.result.now [] ∷ []) =
    subst (λ (n : List ℕ). Makes old.made mid.made (FileMade n [] ∷ [])) (sym c.as_str.ensures.value) gets.made in
    let file = made_as old.made new.made c.as_str.result.now name held c.as_str.ensures.value (c.in_ok-write_file.ensures.made old.made made) in (
      gets.word,
      file_under (Makes old.made new.made) names gets.word name held gets.is file,
      nameless_is names gets.word (Some name) held gets.is,
    )

pub returns-clause-below : goal.returns-clause-below
returns-clause-below g c = λ top above.
    let old : Scene = g.F.Known.known c.args.folder.now in
    let mid : Scene = g.F.Known.known c.make_first.new.folder in
    let new : Scene = g.F.Known.known c.write_file.new.folder in
    let names : Wording → List ℕ = word_in c.args.above.now c.args.named.block c.args.named.index c.args.named.name.now in
    let gets = gets_as names c.in_ok-name.field-0 (Some c.in-Some.name) old mid c.in-Some.is c.in_ok-name.ensures.made in
    let named = rw c.in-Some.is at c.in_ok-name.ensures.named top above in
    let is : IsNameBelow top c.as_str.result.now = subst (IsNameBelow top) (sym c.as_str.ensures.value) named in
    let made : Makes old.made mid.made (FileMade c.as_str.result.now [] ∷ []) =
    subst (λ (n : List ℕ). Makes old.made mid.made (FileMade n [] ∷ [])) (sym c.as_str.ensures.value) gets.made in
    one_below top old.made new.made
    (FileMade c.as_str.result.now (held_bytes (g.B.Blocks.disk c.args.disk.now) (row_body_held c.args.body.now))) is
    (c.in_ok-write_file.ensures.made old.made made)
