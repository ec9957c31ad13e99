-- The length of the last name, if there is one.
use Rattle.std.proofs.Common.{◌≡◌, Option, Some, None, length, map, refl, ap, ◌∙◌, Bor}
use Rattle.std.specs.Option.{option_map, unwrap_or}
use Rattle.lfs_meta.specs.Name.{Name}
use Rattle.lfs_fs.specs.Path.{Path}
use Rattle.lfs_command.specs.Parent.{split_last}
use Rattle.lfs_draft.proofs.standing.last_length.Goals as goal

of_last : (s : Option (Path × Name)) → unwrap_or (option_map length (option_map (λ (x : Path × Name). x.1) s)) 0
    ≡ unwrap_or (option_map (λ (x : Path × Name). length x.1) s) 0
of_last None = refl
of_last (Some x) = refl

pub returns-in-Some : goal.returns-in-Some
returns-in-Some c =
    ap (λ (n : Option Name). unwrap_or (option_map length n) 0) c.in-Some.ensures
    ∙ of_last (split_last (map (λ (n : Bor Name). n.now) c.args.names.now))

pub returns-in-None : goal.returns-in-None
returns-in-None c =
    ap (λ (n : Option Name). unwrap_or (option_map length n) 0) c.in-None.ensures
    ∙ of_last (split_last (map (λ (n : Bor Name). n.now) c.args.names.now))
