use Rattle.std.proofs.Common.{◌≡◌, false, take}
use Rattle.std.specs.Io.KnownBytes.{Appends}
use Rattle.std.specs.List.{flat_map}
use Rattle.lfs_journal.specs.Book.{patch_bytes}
use Rattle.lfs_journal.proofs.writing.send_patches.Given as goal

abbrev pub invariant-loop-patch : goal.invariant-loop-patch
invariant-loop-patch g l =
    Appends (g.S.Sink.sent l.initial.out) (g.S.Sink.sent l.out) (flat_map patch_bytes (take l.patch-index l.patches))
    × (g.S.Sink.failed l.out ≡ false)
    × (g.S.Sink.kept l.out ≡ g.S.Sink.kept l.initial.out)
