-- One more directory is noted.
use Rattle.std.proofs.Common.{◌++◌, ◌+◌, List, drop, ap, sym, ◌∙◌, arith}
use Rattle.std.specs.Prelude.{flat_map}
use Rattle.lfs_fs.specs.Directory.{Directory, parts, thread}
use Rattle.lfs_cut.specs.declared.overflow.Overflow.{Overflow}
use Rattle.lfs_cut.specs.Overflow.{overflows_of}
use Rattle.lfs_cut.proofs.OverflowLemmas.{room_for_one, one_gathered, all_gathered, overflows_in_turn}
use Rattle.lfs_cut.proofs.overflow.overflows_of.Goals as goal

pub note_directory-requires : goal.note_directory-requires
note_directory-requires c =
    let room = room_for_one (λ (d : Directory). overflows_of c.args.room.bytes c.args.room.superblock (parts d))
    c.args.directories.now c.each.directory-index c.directory-item.result c.each.overflows.items
    (overflows_of c.args.room.bytes c.args.room.superblock (thread c.args.directories.now)) c.each-test.true
    c.directory-item.is c.each.invariant in
    omega (arith, room, c.requires)

pub each-init : goal.each-init
each-init c =
    ap (λ (gs : List Overflow). gs ++ flat_map (λ (d : Directory). overflows_of c.args.room.bytes c.args.room.superblock (parts d))
    c.args.directories.now) c.new-overflows.ensures
    ∙ sym (overflows_in_turn c.args.room.bytes c.args.room.superblock c.args.directories.now)

pub each-preserved : goal.each-preserved
each-preserved c =
    ap (λ (gs : List Overflow). gs ++ flat_map (λ (d : Directory). overflows_of c.args.room.bytes c.args.room.superblock (parts d))
    (drop (c.each.directory-index + 1) c.args.directories.now)) c.note_directory.ensures
    ∙ one_gathered (λ (d : Directory). overflows_of c.args.room.bytes c.args.room.superblock (parts d)) c.args.directories.now
    c.each.directory-index c.directory-item.result c.each.overflows.items
    (overflows_of c.args.room.bytes c.args.room.superblock (thread c.args.directories.now)) c.each-test.true c.directory-item.is
    c.each.invariant

pub returns : goal.returns
returns c =
    all_gathered (λ (d : Directory). overflows_of c.args.room.bytes c.args.room.superblock (parts d)) c.args.directories.now
    c.each.directory-index c.each.overflows.items
    (overflows_of c.args.room.bytes c.args.room.superblock (thread c.args.directories.now)) c.each-test.false c.each.invariant
