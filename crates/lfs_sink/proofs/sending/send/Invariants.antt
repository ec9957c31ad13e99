use Rattle.std.proofs.Common.{◌≡◌, false, ℕ, ◌≤◌, length, take, drop}
use Rattle.std.specs.Io.KnownBytes.{Appends}
use Rattle.lfs_sink.proofs.sending.send.Given as goal

abbrev pub invariant-rest : goal.invariant-rest
invariant-rest g l =
    (n : ℕ) × (n ≤ length l.text) × (l.rest ≡ drop n l.text) × Appends (g.S.Sink.sent l.initial.out) (g.S.Sink.sent l.out) (take n l.text)
    × (g.S.Sink.failed l.out ≡ false)
    × (g.S.Sink.kept l.out ≡ g.S.Sink.kept l.initial.out)

abbrev pub decreases-rest : goal.decreases-rest
decreases-rest g l = length l.rest
