-- What is answered of a text that goes out piece by piece.
use Rattle.std.proofs.Common.{◌≡◌, ℕ, List, [], Option, Some, Result, Ok, Err, IsErrAnd, MatchResult, sym, subst, ◌∙◌}
use Rattle.std.specs.Result.{result_err}
use Rattle.std.specs.Io.KnownBytes.{Appends}
use Rattle.lfs_sink.specs.Send.{SendsBeginning}
use Rattle.lfs_listing.specs.declared.unsent.Unsent.{Unsent}
use Rattle.lfs_listing.specs.declared.unsent.Unsent.TheVariants.{Memory, CannotWrite}
use Rattle.lfs_listing.specs.Unsent.{SendsListing}
use Rattle.lfs_listing.proofs.BufferLemmas.{IsUnderWay, all_goes, beginning_goes, nothing_goes}

-- an error that is passed on
pub same_error : {A : Type 0} (r : Result A Unsent) (error e : Unsent) → IsErrAnd r (λ u. u ≡ error) → error ≡ e → IsErrAnd r (λ u. u ≡ e)
same_error (Ok done) error e is same = absurd is
same_error (Err u) error e is same = is ∙ same

-- memory is refused
pub refused : {A : Type 0} (r : Result A Unsent) (old new : Option (List ℕ)) (waits rest complete : List ℕ) → IsErrAnd r (λ e. e ≡ Memory)
    → IsUnderWay old new waits rest complete → SendsListing (result_err r) old new complete
refused (Ok done) old new waits rest complete is h = absurd is
refused (Err e) old new waits rest complete is h =
    subst (λ (u : Unsent). SendsListing (Some u) old new complete) (sym is) (nothing_goes old new waits rest complete h)

-- the sink fails
pub failed : {A : Type 0} (r : Result A Unsent) (old mid new : Option (List ℕ)) (waits rest complete : List ℕ) → IsErrAnd r (λ e. e ≡ CannotWrite)
    → IsUnderWay old mid waits rest complete → SendsBeginning mid new waits → SendsListing (result_err r) old new complete
failed (Ok done) old mid new waits rest complete is h sent = absurd is
failed (Err e) old mid new waits rest complete is h sent =
    subst (λ (u : Unsent). SendsListing (Some u) old new complete) (sym is) (beginning_goes old mid new waits rest complete h sent)

-- the rest is sent, or the sink fails
pub ends : {A : Type 0} (r : Result A Unsent) (old mid new : Option (List ℕ)) (waits complete : List ℕ) → IsUnderWay old mid waits [] complete
    → MatchResult r (λ done. Appends mid new waits) (λ e. (e ≡ CannotWrite) × SendsBeginning mid new waits)
    → SendsListing (result_err r) old new complete
ends {A} (Ok done) old mid new waits complete h sent = all_goes old mid new waits complete h sent
ends {A} (Err e) old mid new waits complete h (is, sent) = failed {A = A} (Err e) old mid new waits [] complete is h sent
