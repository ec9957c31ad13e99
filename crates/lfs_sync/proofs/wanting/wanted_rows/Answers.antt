use Rattle.std.proofs.Common.{None, [], subst, sym, ◌≡◌, ◌+◌, List, take, refl}
use Rattle.lfs_sync.specs.Sides.{wanted_all}
use Rattle.lfs_sync.specs.declared.sync_row.SyncRow.{SyncRow}
use Rattle.lfs_sync.specs.declared.wanted_row.WantedRow.{WantedRow}
use Rattle.lfs_sync.proofs.WantedLemmas.{all_are, one_more, spelled_at}
use Rattle.lfs_sync.proofs.wanting.wanted_rows.Goals as goal

no_row : SyncRow
no_row = record { path = record { ref_ptr = (0, 0); now = [] }; bytes = None }

pub names_of-requires : goal.names_of-requires
unfolding no_row
names_of-requires c = spelled_at c.args.rows.now c.each.place no_row c.requires c.each-test.true

pub each-preserved : goal.each-preserved
unfolding no_row
each-preserved c wanted are =
    let w : WantedRow = record { path = c.in_ok-path.path; place = c.each.place } in
    subst (λ (l : List WantedRow). wanted_all c.args.rows.now l ≡ take (c.each.place + 1) wanted) (sym c.in_ok-push.ensures.items)
    (one_more c.texts_spell_one_path.ensures c.args.rows.now wanted c.each.place no_row w c.each.all.items are c.each-test.true
    c.in_ok-path.ensures refl (c.each.invariant wanted are))

pub returns : goal.returns
returns c wanted are = all_are c.args.rows.now wanted c.each.place c.each.all.items are c.each-test.false (c.each.invariant wanted are)
