-- Commits of later disk versions in what a step is done on (own).
use Rattle.std.specs.Prelude.{ℕ, List, None}
use Rattle.lfs_lower.specs.Version.{later_version}
use Rattle.lfs_open.specs.Later.{later_alone}
use Rattle.lfs_report.specs.declared.later.Later.{Later}
use Rattle.lfs_request.specs.declared.query.Query.TheVariants.{Diff}
use Rattle.lfs_step.specs.declared.step.Step.{Step}
use Rattle.lfs_step.specs.declared.step.Step.TheVariants.{Adopt, Ask}

-- those in the image, and in the one that it is compared with; an image is taken over with them
abbrev pub later_read : Step → ℕ → List ℕ → Later
later_read (Ask (Diff other other_size quiet) form) size image =
    record { image = later_version image size; other = later_version other.items other_size }
later_read (Adopt form replaces) size image = record { image = None; other = None }
later_read step size image = later_alone size image
