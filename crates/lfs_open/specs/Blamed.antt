-- What a host is blamed for (own).
use Rattle.std.specs.Prelude.{⊤, Option, Some}
use Rattle.lfs_exchange.specs.Printing.{HasRefusedOutput}
use Rattle.lfs_host.specs.Scene.{Scene}
use Rattle.lfs_request.specs.declared.fault.Fault.{Fault}
use Rattle.lfs_request.specs.declared.fault.Fault.TheVariants.{CannotWrite}

-- standard output is blamed only if the host has refused it
abbrev pub IsBlamed : Option Fault → Scene → Type 0
IsBlamed (Some CannotWrite) s = HasRefusedOutput s
IsBlamed _ s = ⊤
