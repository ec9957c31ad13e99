-- Nothing has gone out where memory is refused before the first line.
use Rattle.std.proofs.Common.{List, subst, sym, ◌∙◌, ℕ}
use Rattle.std.specs.Result.{result_err}
use Rattle.lfs_fs.specs.Sound.{IsSound}
use Rattle.lfs_listing.specs.Unsent.{SendsListing}
use Rattle.lfs_listing.proofs.BlockMapLemmas.{map_text}
use Rattle.lfs_listing.proofs.BufferLemmas.{under_way}
use Rattle.lfs_listing.proofs.UnsentLemmas.{refused}
use Rattle.lfs_listing.proofs.block_map.send_block_map.Goals as goal

pub users_with_parts-requires : goal.users_with_parts-requires
users_with_parts-requires g c =
    let is = c.requires.mounted.1 in
    subst IsSound (sym is.outline) (c.outlines_are_sound.ensures is.volume is.sound)

pub returns-in_err-users-clause-sent : goal.returns-in_err-users-clause-sent
returns-in_err-users-clause-sent g c =
    refused c.from_residual.result _ _ _ _ _ c.from_residual.ensures.1 (under_way (g.S.Sink.sent c.args.out.now) _)

pub returns-clause-sent : goal.returns-clause-sent
returns-clause-sent g c =
    let m = c.args.mounted.now in
    subst (λ (text : List ℕ). SendsListing (result_err c.send_runs.result) (g.S.Sink.sent c.args.out.now) (g.S.Sink.sent c.send_runs.new.out) text)
    (map_text c.args.form m.outline m.rows c.deref.result.now c.in_ok-users.parts (c.deref.ensures.value ∙ c.in_ok-users.ensures.users) c.in_ok-users.ensures.parts)
    c.send_runs.ensures.sent
