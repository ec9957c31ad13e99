-- The directory is the one that begins at the pair.
use Rattle.std.proofs.Common.{ap, ◌∙◌}
use Rattle.std.specs.Prelude.{find}
use Rattle.std.specs.Option.{option_and_then, option_map}
use Rattle.lfs_fs.specs.Directory.{Directory, entries}
use Rattle.lfs_fs.specs.Entry.{is_named}
use Rattle.lfs_fs.proofs.finding.entry_in.Goals as goal

pub returns-in_err-directory_at : goal.returns-in_err-directory_at
returns-in_err-directory_at c =
    ap (option_map (λ e. e.now)) c.from_residual.ensures
    ∙ ap (option_and_then (λ (d : Directory). find (is_named c.args.name.now) (entries d))) c.in_err-directory_at.ensures

pub returns : goal.returns
returns c = c.named.ensures
    ∙ ap (option_and_then (λ (d : Directory). find (is_named c.args.name.now) (entries d))) c.in_ok-directory_at.ensures
