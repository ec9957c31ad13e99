-- Limits of a new image, as far as they are said (own).
use Rattle.std.specs.Prelude.{◌≤◌, IfSome}
use Rattle.std.specs.Option.{unwrap_or}
use Rattle.lfs_fs.specs.Limits.{most_file, most_held}
use Rattle.lfs_fs.specs.declared.limits.Limits.{Limits}
use Rattle.lfs_request.specs.declared.said_limits.SaidLimits.{SaidLimits}

-- those that are said, and these in the place of the others
abbrev pub limits_or : SaidLimits → Limits → Limits
limits_or said limits = record {
  name = unwrap_or said.name limits.name;
  file = unwrap_or said.file limits.file;
  attribute = unwrap_or said.attribute limits.attribute;
}

-- those that are said are such that an image may have
pub record AreSaidInRange (said : SaidLimits) : Type 0 where
  pub name : IfSome said.name (λ n. (1 ≤ n) × (n ≤ most_held))
  pub file : IfSome said.file (λ n. (1 ≤ n) × (n ≤ most_file))
  pub attribute : IfSome said.attribute (λ n. (1 ≤ n) × (n ≤ most_held))
