use Rattle.std.proofs.Common.{Bor, Some, ap, arith, ◌∙◌}
use Rattle.std.proofs.lemmas.List.{length-map}
use Rattle.std.proofs.lemmas.Result.{IfOk-weaker}
use Rattle.lfs_meta.specs.Name.{Name}
use Rattle.lfs_fs.specs.Path.{Path}
use Rattle.lfs_listing.specs.Below.{names}
use Rattle.lfs_listing.proofs.BelowLemmas.{below_long, below_rest, read}
use Rattle.lfs_sync.proofs.holding.rest_of.Goals as goal

pub returns : goal.returns
returns c =
    IfOk-weaker c.from_slice.result _ _ (λ rest h. below_rest (names c.args.at.now) (names c.args.path.now) c.requires
    ∙ ap (λ (p : Path). Some p) (read c.args.at.now c.args.path.now rest.items h)) c.from_slice.ensures.items

pub prove-unreachable-requires : goal.prove-unreachable-requires
prove-unreachable-requires c =
    omega (
      arith,
      below_long (names c.args.at.now) (names c.args.path.now) c.requires,
      length-map c.args.at.now (λ (n : Bor Name). n.now),
      length-map c.args.path.now (λ (n : Bor Name). n.now),
    )
