use Rattle.std.proofs.Common.{◌≡◌}
use Rattle.lfs_report.proofs.reporting.report_lines.Given as goal

abbrev pub invariant-loop-line : goal.invariant-loop-line
invariant-loop-line g l = g.H.Known.known l.host ≡ g.H.Known.known l.fn.host
