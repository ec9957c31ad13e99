-- The directory of the pair is taken out where it stands.
use Rattle.std.proofs.Common.{ap, sym, ◌∙◌, arith}
use Rattle.std.specs.List.{position}
use Rattle.lfs_fs.specs.Directory.{begins_at}
use Rattle.lfs_command.specs.Edited.{empty_directory}
use Rattle.lfs_draft.proofs.TakenDirectories.{taken_behind, none_taken, first_stays}
use Rattle.lfs_draft.proofs.thread_edit.drop_directory.Goals as goal

pub returns-then-at-gt0 : goal.returns-then-at-gt0
returns-then-at-gt0 c =
    taken_behind c.args.pair c.args.directories.now.items c.remove-gone.new.self.items c.in-Some.at c.remove-gone.result
    c.index_mut.result.now c.absorb.new.directory
    (ap (position (begins_at c.args.pair)) (sym c.deref.ensures.value) ∙ sym c.directory_of.ensures ∙ c.in-Some.is)
    c.if-at-gt0.true
    c.remove-gone.ensures.items
    c.remove-gone.ensures.value
    c.index_mut.ensures.value
    c.absorb.ensures

pub returns-else-at-gt0 : goal.returns-else-at-gt0
returns-else-at-gt0 c =
    first_stays c.args.pair c.args.directories.now.items c.in-Some.at (empty_directory c.args.pair)
    (ap (position (begins_at c.args.pair)) (sym c.deref.ensures.value) ∙ sym c.directory_of.ensures ∙ c.in-Some.is)
    (omega (arith, c.if-at-gt0.false))
    c.requires

pub returns-in_default : goal.returns-in_default
returns-in_default c =
    none_taken c.args.pair c.args.directories.now.items
    (ap (position (begins_at c.args.pair)) (sym c.deref.ensures.value) ∙ sym c.directory_of.ensures ∙ c.in_default.is)
