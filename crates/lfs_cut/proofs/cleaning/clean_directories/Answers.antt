-- One more directory is gone through.
use Rattle.std.proofs.Common.{ap, ◌∙◌, slice_set, arith}
use Rattle.std.proofs.lemmas.List.{length-set}
use Rattle.std.proofs.lemmas.List.Edits.{map_over_more}
use Rattle.lfs_fs.specs.Directory.{Directory}
use Rattle.lfs_command.specs.Clean.{cleaned}
use Rattle.lfs_command.specs.DirectoryEdit.{each_part}
use Rattle.lfs_cut.proofs.FrontLemmas.{in_front_done}
use Rattle.lfs_cut.proofs.cleaning.clean_directories.Goals as goal

pub each-preserved : goal.each-preserved
each-preserved c =
    let old = c.args.directories.now.items in
    let items = c.each.directories.items in
    record {
      len = length-set items c.each.at c.clean_directory.new.directory ∙ c.each.invariant.len;
      items = ap (λ (d : Directory). slice_set items c.each.at d) c.clean_directory.ensures
          ∙ map_over_more (each_part cleaned) old items c.each.at c.index_mut.result.now
          (omega (arith, c.each-test.true, c.min-end.ensures, c.len.ensures, c.args.directories.now.ok)) c.each.invariant.items
          c.index_mut.ensures.value;
    }

pub returns : goal.returns
returns c =
    in_front_done (each_part cleaned) c.args.front c.each.at c.args.directories.now.items c.each.directories.items
    (omega (arith, c.each-test.false, c.each.auto.at-end, c.min-end.ensures, c.len.ensures, c.args.directories.now.ok)) c.each.invariant.items
