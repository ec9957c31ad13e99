-- What of all that is to be saved is made (own).
use Rattle.std.specs.Prelude.{◌≡◌, List, ◌++◌, Option, Result, MatchResult, OnOk}
use Rattle.lfs_extract.specs.Extracted.{MakesFront}
use Rattle.lfs_extract.specs.declared.extract_fault.ExtractFault.{ExtractFault}
use Rattle.lfs_extract.specs.declared.extract_fault.ExtractFault.TheVariants.{Memory, HostName, CannotWrite}
use Rattle.lfs_host.specs.NewFolder.{Made, Makes}
use Rattle.lfs_salvage.specs.declared.unsaved.Unsaved.{Unsaved}

-- those in front were made, perhaps all, and no other
pub record MakesFirst (old new : Option (List Made)) (complete : List Made) : Type 0 where
  pub prefix : List Made
  pub rest : List Made
  pub split : prefix ++ rest ≡ complete
  pub made : Makes old new prefix

-- what is made if a fault ends it: those before one that the host refuses, and a beginning of that one at most, or those in front if memory
-- is refused
abbrev pub Stops : ExtractFault → Option (List Made) → Option (List Made) → List Made → Type 0
Stops CannotWrite old new complete = MakesFront old new complete
Stops Memory old new complete = MakesFirst old new complete
Stops HostName old new complete = ⊥

-- all is made, or what is so far
abbrev pub Saves : {T : Type 0} → Result T ExtractFault → Option (List Made) → Option (List Made) → List Made → Type 0
Saves result old new complete = MatchResult result (λ _. Makes old new complete) (λ fault. Stops fault old new complete)

-- all is made, and of these entries it is kept that they aren't saved; or what is made so far
abbrev pub SavesBut : {T : Type 0} → Result T ExtractFault → Option (List Made) → Option (List Made) → List Made → List Unsaved → List Unsaved
    → List Unsaved → Type 0
SavesBut result old new complete before told more = Saves result old new complete × OnOk result (told ≡ before ++ more)
