-- How looking for images in a file of a host ends.
use Rattle.std.proofs.Common.{◌≡◌, ℕ, List, Option, Some, None, subst}
use Rattle.std.specs.Prelude.{take}
use Rattle.std.specs.Io.KnownBytes.{Appends}
use Rattle.lfs_exchange.specs.Printing.{PrintsBeginning}
use Rattle.lfs_host.specs.Scene.{Scene}
use Rattle.lfs_request.specs.declared.fault.Fault.{Fault}
use Rattle.lfs_request.specs.declared.fault.Fault.TheVariants.{CannotWrite, Refused}
use Rattle.lfs_open.specs.Finding.{PrintsText}

-- what is printed behind what was printed before
pub prints_from : (fault : Option Fault) (mid old new : Scene) (text : List ℕ) → mid.printed ≡ old.printed → PrintsText fault mid new text
    → PrintsText fault old new text
prints_from None mid old new text same (prints, flushed) =
    (subst (λ (p : Option (List ℕ)). Appends p new.printed text) same prints, flushed)
prints_from (Some CannotWrite) mid old new text same (prints, refused) =
    (subst (λ (p : Option (List ℕ)). PrintsBeginning p new.printed text) same prints, refused)
prints_from (Some (Refused refusal)) mid old new text same (memory, (n, within, prints)) =
    (memory, (n, within, subst (λ (p : Option (List ℕ)). Appends p new.printed (take n text)) same prints))
prints_from (Some _) mid old new text same none = absurd none
