-- The command that makes what a row has.
use Rattle.std.proofs.Common.{◌≡◌, Option, Some, None, List, ℕ, map, ap, refl, ◌∙◌, Bor}
use Rattle.std.specs.Global.{Vec}
use Rattle.std.specs.Option.{option_map}
use Rattle.lfs_meta.specs.Name.{Name}
use Rattle.lfs_command.specs.AskedFor.{making_said, named_command}
use Rattle.lfs_pack.specs.Packed.{made_by}
use Rattle.lfs_pack.proofs.rows.making.Goals as goal

named_making : (path : Vec (Bor Name)) (bytes : Option (Bor (List ℕ))) (most : ℕ) → named_command (making_said path bytes most)
    ≡ made_by (map (λ (n : Bor Name). n.now) path.items) (option_map (λ (b : Bor (List ℕ)). b.now) bytes) most
named_making path None most = refl
named_making path (Some bytes) most = refl

pub returns : goal.returns
returns c = ap named_command c.making.ensures ∙ named_making c.args.path c.args.bytes c.args.most
