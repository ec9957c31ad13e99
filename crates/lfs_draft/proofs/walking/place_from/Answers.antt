-- The directories that are passed over don't begin at the pair.
use Rattle.std.proofs.Common.{◌≡◌, ℕ, ◌+◌, Some, find, drop, take, ap, sym, ◌∙◌, arith}
use Rattle.std.specs.List.{position}
use Rattle.std.specs.Option.{unwrap_or}
use Rattle.std.proofs.lemmas.List.Quantifiers.{position-Some}
use Rattle.lfs_fs.specs.Directory.{begins_at}
use Rattle.lfs_command.specs.Edited.{empty_directory}
use Rattle.lfs_draft.proofs.PlacesFrom.{found_before, found_behind, place_within}
use Rattle.lfs_draft.proofs.walking.place_from.Goals as goal

pub returns-in-Some-clause-found : goal.returns-in-Some-clause-found
returns-in-Some-clause-found c =
    let t = begins_at c.args.pair in
    ap (λ (k : ℕ). find t (drop (k + c.in-Some.at) c.args.directories.now)) c.split_at.ensures.front_len
    ∙ found_behind t c.args.directories.now c.min.result c.in-Some.at (empty_directory c.args.pair) c.requires
    (sym (c.directory_of.ensures ∙ ap (position t) c.split_at.ensures.back) ∙ c.in-Some.is)

pub returns-in-Some-clause-within : goal.returns-in-Some-clause-within
returns-in-Some-clause-within c =
    let here = position-Some (begins_at c.args.pair) c.split_at.result.1.now c.in-Some.at (empty_directory c.args.pair)
    (sym c.directory_of.ensures ∙ c.in-Some.is) in
    omega (arith, here.0, c.split_at.ensures.back_len, c.split_at.ensures.front_len)

pub returns-in-None-clause-found : goal.returns-in-None-clause-found
returns-in-None-clause-found c =
    let t = begins_at c.args.pair in
    ap (λ (k : ℕ). find t (drop k c.args.directories.now)) c.unwrap_or.ensures
    ∙ found_before t c.args.directories.now c.min.result (empty_directory c.args.pair) c.directory_of-in-None.result (omega arith)
    (sym (c.directory_of-in-None.ensures ∙ ap (position t) c.split_at.ensures.front))

pub returns-in-None-clause-within : goal.returns-in-None-clause-within
returns-in-None-clause-within c =
    let short = place_within (begins_at c.args.pair) c.split_at.result.0.now (empty_directory c.args.pair) c.directory_of-in-None.result
    (sym c.directory_of-in-None.ensures) in
    omega (arith, short, c.unwrap_or.ensures, c.split_at.ensures.back_len, c.split_at.ensures.front_len)
