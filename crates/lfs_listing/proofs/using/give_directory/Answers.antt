-- The first part, and then the others.
use Rattle.std.proofs.Common.{◌≡◌, ◌++◌, ◌∙◌, List, Option, ℕ, Some, ap, flat_map, fold, subst}
use Rattle.lfs_fs.specs.declared.outline_directory.OutlineParts.{OutlineParts}
use Rattle.lfs_fs.specs.Directory.{Directory, Part}
use Rattle.lfs_listing.specs.BlockMap.{blocks_of_directory, blocks_of_part}
use Rattle.lfs_listing.specs.Using.{give}
use Rattle.lfs_listing.proofs.using.give_directory.Goals as goal

pub returns : goal.returns
returns c =
    let old : List (Option ℕ) = c.args.users.now in
    let give' : List (Option ℕ) → ℕ → List (Option ℕ) = give c.args.number in
    subst (λ (d : Directory). c.give_parts.new.users ≡ fold give' old (blocks_of_directory (Some d))) c.directory.view_is
    (c.give_parts.ensures ∙ ap (λ (us : List (Option ℕ)). fold give' us (flat_map blocks_of_part c.deref-3.result.now))
    (c.give_part.ensures ∙ ap (λ (ps : OutlineParts). fold give' old (blocks_of_part ps.first)) c.deref.ensures)
    ∙ ap (λ (ps : List Part). fold give' old (blocks_of_part c.directory.inside.parts.value.first ++ flat_map blocks_of_part ps))
    (c.deref-3.ensures.value ∙ ap (λ (ps : OutlineParts). ps.more.items) c.deref-2.ensures))
