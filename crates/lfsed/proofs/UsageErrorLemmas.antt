-- Why words say no request: never for want of memory.
use Rattle.std.proofs.Common.{◌≡◌, ℕ, List, Option, inl, inr, subst}
use Rattle.clap.specs.Words.{Row, Text}
use Rattle.lfs_arguments.specs.declared.auto_sizes.AutoSizes.{AutoSizes}
use Rattle.lfs_arguments.specs.declared.usage_error.UsageError.{UsageError}
use Rattle.lfs_arguments.specs.declared.usage_error.UsageError.TheVariants.{Memory}
use Rattle.lfs_arguments.specs.Words.{IsCommandUsageError, IsExtentUsageError, IsHexUsageError, IsMissaid, IsUsageError, IsSizeUsageError}

no_extent : (rows : List Row) (block : ℕ) → IsExtentUsageError Memory rows block → ⊥
no_extent rows block (inl (not, none)) = none
no_extent rows block (inr (is, none, said)) = none

no_size : (name : Text) (rows : List Row) (block : ℕ) → IsSizeUsageError Memory name rows block → ⊥
no_size name rows block (inl (is, none)) = none
no_size name rows block (inr (inl (is, extent))) = no_extent rows block extent
no_size name rows block (inr (inr (is, said, extent))) = no_extent rows block extent

no_hex : (name : Text) (rows : List Row) → IsHexUsageError Memory name rows → ⊥
no_hex name rows (inl none) = none
no_hex name rows (inr (kind, none)) = none

no_command : (name : Text) (rows : List Row) (block : ℕ) → IsCommandUsageError Memory name rows block → ⊥
no_command name rows block (inl size) = no_size name rows block size
no_command name rows block (inr (inl (is, hex))) = no_hex name rows hex
no_command name rows block (inr (inr (inl (is, none)))) = none
no_command name rows block (inr (inr (inr none))) = none

no_usage_error : (name : Text) (rows : List Row) (stated : AutoSizes) → IsUsageError Memory name rows stated → ⊥
no_usage_error name rows stated (inl none) = none
no_usage_error name rows stated (inr (inl none)) = none
no_usage_error name rows stated (inr (inr (block, has, command))) = no_command name rows block command

pub not_for_memory : (named : Option (Text × List Row)) (stated : AutoSizes) (usage_error : UsageError) → IsMissaid named stated usage_error
    → usage_error ≡ Memory → ⊥
not_for_memory named stated usage_error (name, rows, is, why) memory =
    no_usage_error name rows stated (subst (λ (m : UsageError). IsUsageError m name rows stated) memory why)
