-- Names of the directory rise, and a name that comes behind all of them isn't there.
use Rattle.std.proofs.Common.{None}
use Rattle.lfs_fs.specs.Directory.{entries}
use Rattle.lfs_draft.proofs.LastNames.{found_there, none_named, rises_there}
use Rattle.lfs_draft.proofs.last_names.entry_in.Goals as goal

pub comes_last-requires : goal.comes_last-requires
comes_last-requires c = rises_there c.args.pair c.args.directories.now c.in_ok-directory.directory.now c.requires c.in_ok-directory.ensures

pub returns-then-comes_last : goal.returns-then-comes_last
returns-then-comes_last c =
    found_there c.args.pair c.args.name.now c.args.directories.now c.in_ok-directory.directory.now None c.in_ok-directory.ensures
    (none_named c.names_are_ordered.ensures c.args.name.now (entries c.in_ok-directory.directory.now) (c.comes_last.ensures c.if-comes_last.true))

pub last_named-requires : goal.last_named-requires
last_named-requires c = rises_there c.args.pair c.args.directories.now c.in_ok-directory.directory.now c.requires c.in_ok-directory.ensures
