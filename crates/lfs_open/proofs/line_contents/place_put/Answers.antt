-- The file isn't read.
use Rattle.std.proofs.Common.{subst, sym}
use Rattle.lfs_exchange.specs.Handing.{IsUnreadBy}
use Rattle.lfs_history.specs.declared.source.Source.TheVariants.{File}
use Rattle.lfs_host.specs.HostCall.{ReadingContents}
use Rattle.lfs_request.specs.declared.fault.Fault.{Fault}
use Rattle.lfs_open.proofs.line_contents.place_put.Goals as goal

pub returns-in-Err-clause-refused : goal.returns-in-Err-clause-refused
returns-in-Err-clause-refused g c = (
  File c.in-Some.file,
  subst (λ (f : Fault). IsUnreadBy (ReadingContents c.in-Some.file.now) (g.H.Known.known c.place_of.new.host) f) (sym c.stop_at.ensures.fault)
      c.in-Err.ensures.refused,
)
