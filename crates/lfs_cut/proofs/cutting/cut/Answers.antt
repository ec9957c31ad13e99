-- Directories behind have no parts that are set, and where no pairs are at hand none is cut.
use Rattle.std.proofs.Common.{List, length, map, ap, sym, ◌∙◌, subst}
use Rattle.std.proofs.lemmas.Bool.{eqb-true}
use Rattle.std.proofs.lemmas.List.{nil_from_length}
use Rattle.lfs_fs.specs.Directory.{Directory}
use Rattle.lfs_fs.specs.Volume.{Volume}
use Rattle.lfs_fs.specs.Weight.{superblock_weight}
use Rattle.lfs_command.specs.Cut.{cut, room}
use Rattle.lfs_cut.specs.Chosen.{chosen_for}
use Rattle.lfs_cut.specs.CutParts.{directory_by}
use Rattle.lfs_cut.specs.Front.{IsCleanFrom}
use Rattle.lfs_cut.proofs.CutPartLemmas.{nothing_to_cut}
use Rattle.lfs_cut.proofs.FrontLemmas.{cut_from, cut_in_front}
use Rattle.lfs_cut.proofs.cutting.cut.Goals as goal

pub returns-then-is_empty-clause-cut : goal.returns-then-is_empty-clause-cut
returns-then-is_empty-clause-cut c =
    nothing_to_cut c.entries_are_cut_greedily.ensures.joined c.args.outline.now c.args.rows.now
    (nil_from_length c.args.rows.now (eqb-true (length c.args.rows.now) 0 (sym c.is_empty.ensures ∙ c.if-is_empty.true))) c.requires.enough

pub returns-clause-cut : goal.returns-clause-cut
returns-clause-cut c =
    let bytes = c.block_room-room.result.bytes in
    let superblock = c.block_room-room.result.superblock in
    let rows = c.args.rows.now in
    let items = c.outline.inside.directories.items in
    let o = c.args.outline.now in
    let with : List Directory → Volume = λ ds. record {
      size = c.outline.inside.size;
      count = c.outline.inside.count;
      limits = c.outline.inside.limits;
      attributes = c.outline.inside.attributes.items;
      directories = ds;
    } in
    ap with (c.in_ok-cut_directories.ensures ∙ cut_in_front bytes superblock rows c.args.front items
    (subst (λ (v : Volume). IsCleanFrom c.args.front v.directories) (sym c.outline.view_is) c.requires.front)
    ∙ ap (λ b. map (directory_by b superblock rows) items) (c.block_room-room.ensures.bytes ∙ ap room (sym c.outline.view_is))
    ∙ ap (λ b. map (directory_by (room (with items)) b rows) items)
    (c.block_room-room.ensures.superblock ∙ ap (λ (v : Volume). superblock_weight v.attributes) (sym c.outline.view_is)))
    ∙ ap (cut (chosen_for rows)) c.outline.view_is

pub returns-clause-front : goal.returns-clause-front
returns-clause-front c =
    let bytes = c.block_room-room.result.bytes in
    let superblock = c.block_room-room.result.superblock in
    let rows = c.args.rows.now in
    let items = c.outline.inside.directories.items in
    let behind : IsCleanFrom c.args.front items = subst (λ (v : Volume). IsCleanFrom c.args.front v.directories) (sym c.outline.view_is)
    c.requires.front in
    subst (IsCleanFrom c.args.front) (sym (c.in_ok-cut_directories.ensures ∙ cut_in_front bytes superblock rows c.args.front items behind))
    (cut_from bytes superblock rows c.args.front items behind)
