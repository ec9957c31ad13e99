-- How an image is looked at in its file (own).
use Rattle.std.specs.Prelude.{ℕ, None, false}
use Rattle.std.specs.Option.{unwrap_or}
use Rattle.lfs_request.specs.declared.view.View.{View}

-- as all of its file, as it is
abbrev pub complete_view : View
complete_view = record { by_device = false; offset = None }

-- where in its file it begins
abbrev pub start_of : View → ℕ
start_of view = unwrap_or view.offset 0
