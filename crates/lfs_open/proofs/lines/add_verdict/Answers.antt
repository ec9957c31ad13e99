-- Nothing is added of an image that mounts.
use Rattle.std.proofs.Common.{Option, None, subst, sym}
use Rattle.lfs_find.specs.declared.unmounted.Unmounted.{Unmounted}
use Rattle.lfs_json.specs.Written.{Adds, members_tokens}
use Rattle.lfs_json.proofs.AddingLemmas.{adds_none}
use Rattle.lfs_open.specs.FoundText.{verdict_members}
use Rattle.lfs_open.proofs.lines.add_verdict.Goals as goal

pub returns-in-None : goal.returns-in-None
returns-in-None c =
    let line = c.args.line.now in
    subst (λ (fault : Option Unmounted). Adds line line (members_tokens (verdict_members fault))) (sym c.in-None.is) (adds_none line)
