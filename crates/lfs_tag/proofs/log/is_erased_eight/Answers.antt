-- Eight bytes of 0xff are the greatest number, and no others are.
use Rattle.std.proofs.Common.{ℕ, nat_eq, ap, ◌∙◌}
use Rattle.lfs_tag.proofs.ErasedEights.{erased-eight}
use Rattle.lfs_tag.proofs.log.is_erased_eight.Goals as goal

pub returns : goal.returns
returns c = ap (λ (n : ℕ). nat_eq n 18446744073709551615) c.from_le_bytes.ensures ∙ erased-eight c.args.bytes.now c.told-bytes c.fits-bytes
