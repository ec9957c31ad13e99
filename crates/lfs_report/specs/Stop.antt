-- The fault that a run ends early with (own).
use Rattle.std.specs.Prelude.{Option, Some, None, Result, Ok, Err}
use Rattle.lfs_request.specs.declared.fault.Fault.{Fault}
use Rattle.lfs_report.specs.declared.stop.Stop.{Stop}

-- the fault that a run stopped with, if any
abbrev pub stopped_by : {T : Type 0} → Result T Stop → Option Fault
stopped_by (Ok value) = None
stopped_by (Err stop) = Some stop.fault
