-- The table says whether the pair is new.
use Rattle.std.proofs.Common.{◌≡◌, true, Bool, ap, sym, ◌∙◌, subst, true≢false}
use Rattle.std.proofs.lemmas.Result.{err_from_is_err_and}
use Rattle.lfs_meta.specs.Body.{Pair}
use Rattle.lfs_pair.specs.DifferenceSeen.{forced_seen}
use Rattle.lfs_fs.specs.Directory.{Part}
use Rattle.lfs_law.specs.PairWritten.{link_to}
use Rattle.lfs_law.specs.PlansHold.{is_unmarked}
use Rattle.lfs_law.specs.SuperblockBytes.{volume_bytes}
use Rattle.lfs_law.specs.WrittenLinks.{IsPairWritten}
use Rattle.lfs_write.proofs.PairWrites.{link_filled, link_changed}
use Rattle.lfs_write.proofs.link_writing.write_part.Goals as goal
use Rattle.lfs_write.proofs.link_writing.write_part.Goals.{then-is_unmarked+in_ok-fill_pair, else-is_unmarked+in_ok-change_part}

pub returns-clause-adds : goal.returns-clause-adds
returns-clause-adds g c =
    let d = g.B.Blocks.disk c.args.image.now in
    let bytes = volume_bytes c.args.outline.now in
    let attributes = c.args.outline.now.attributes in
    let is_new = is_unmarked c.args.used.now in
    let l = link_to c.args.part.now c.args.tail in
    let stored = c.in_ok-stored.stored in
    let old = c.args.changes.now.items in
    let told : c.is_unmarked.result ≡ is_new c.args.part.now.pair = c.is_unmarked.ensures
    ∙ ap (λ (p : Part). is_new p.pair) c.part.view_is in
    elim c.if-is_unmarked.branch [
      | then-is_unmarked+in_ok-fill_pair w ↦
          (let new : is_new c.args.part.now.pair ≡ true = sym told ∙ w.if-is_unmarked.true in
          rw w.changes-is (link_filled d bytes attributes is_new l stored old w.fill_pair.new.changes.items new
          (c.requires.fresh new) c.in_ok-stored.ensures w.in_ok-fill_pair.ensures.adds w.in_ok-fill_pair.ensures.filled))
      | else-is_unmarked+in_ok-change_part w ↦
          rw w.changes-is (link_changed d bytes attributes is_new l stored old w.change_part.new.changes.items (sym told
          ∙ w.if-is_unmarked.false) c.in_ok-stored.ensures w.in_ok-change_part.ensures.adds)
    ]

pub returns-clause-changed : goal.returns-clause-changed
returns-clause-changed g c =
    let d = g.B.Blocks.disk c.args.image.now in
    let is_new = is_unmarked c.args.used.now in
    let forced = forced_seen c.args.forced in
    let told : c.is_unmarked.result ≡ is_new c.args.part.now.pair = c.is_unmarked.ensures
    ∙ ap (λ (p : Part). is_new p.pair) c.part.view_is in
    elim c.if-is_unmarked.branch [
      | then-is_unmarked+in_ok-fill_pair w ↦ λ known. absurd (true≢false (sym w.if-is_unmarked.true ∙ told ∙ known))
      | else-is_unmarked+in_ok-change_part w ↦
          (let new = w.change_part.new.changes.items in
          let pair = c.in_ok-stored.stored.0 in
          rw w.changes-is (λ known. subst (λ (cut : Bool). IsPairWritten d cut forced c.args.part.now.pair new) w.is_cut-is_cut.ensures
          (subst (λ (p : Pair). IsPairWritten d w.is_cut-is_cut.result forced p new) c.in_ok-stored.ensures.pair
          w.in_ok-change_part.ensures.changed)))
    ]

pub returns-in_err-stored-clause-adds : goal.returns-in_err-stored-clause-adds
returns-in_err-stored-clause-adds g c = rw (err_from_is_err_and c.from_residual.result c.from_residual.ensures.1).1 tt

pub returns-in_err-stored-clause-changed : goal.returns-in_err-stored-clause-changed
returns-in_err-stored-clause-changed g c = rw (err_from_is_err_and c.from_residual.result c.from_residual.ensures.1).1 tt

pub returns-in_err-fill_pair-clause-adds : goal.returns-in_err-fill_pair-clause-adds
returns-in_err-fill_pair-clause-adds g c = rw (err_from_is_err_and c.from_residual-in_err-fill_pair.result c.from_residual-in_err-fill_pair.ensures.1).1 tt

pub returns-in_err-fill_pair-clause-changed : goal.returns-in_err-fill_pair-clause-changed
returns-in_err-fill_pair-clause-changed g c = rw (err_from_is_err_and c.from_residual-in_err-fill_pair.result c.from_residual-in_err-fill_pair.ensures.1).1 tt

pub returns-in_err-change_part-clause-adds : goal.returns-in_err-change_part-clause-adds
returns-in_err-change_part-clause-adds g c = rw (err_from_is_err_and c.from_residual-in_err-change_part.result c.from_residual-in_err-change_part.ensures.1).1 tt

pub returns-in_err-change_part-clause-changed : goal.returns-in_err-change_part-clause-changed
returns-in_err-change_part-clause-changed g c = rw (err_from_is_err_and c.from_residual-in_err-change_part.result c.from_residual-in_err-change_part.ensures.1).1 tt
