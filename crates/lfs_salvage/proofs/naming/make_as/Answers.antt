-- It is made under a name, or the host has refused that.
use Rattle.std.proofs.Common.{◌∙◌, List, Option, subst, sym}
use Rattle.lfs_host.specs.NewFolder.{Made}
use Rattle.lfs_salvage.specs.Below.{IsNameBelow}
use Rattle.lfs_salvage.specs.Naming.{thing_made}
use Rattle.lfs_salvage.proofs.NamingLemmas.{refused_thing, thing_below}
use Rattle.lfs_salvage.proofs.SavingLemmas.{one_below}
use Rattle.lfs_salvage.proofs.naming.make_as.Goals as goal

pub returns-in-Ok-clause-named : goal.returns-in-Ok-clause-named
returns-in-Ok-clause-named g c = λ top above.
    subst (IsNameBelow top) (sym c.in_ok-name.ensures.value) (c.word_below.ensures.below top above)

pub returns-in-Ok-clause-below : goal.returns-in-Ok-clause-below
returns-in-Ok-clause-below g c = λ top above.
    let old : Option (List Made) = (g.F.Known.known c.args.folder.now).made in
    let new : Option (List Made) = (g.F.Known.known c.make.new.folder).made in
    one_below top old new (thing_made c.args.what c.as_str.result.now)
    (thing_below c.args.what top c.as_str.result.now
    (subst (IsNameBelow top) (sym (c.as_str.ensures.value ∙ c.in_ok-name.ensures.value)) (c.word_below.ensures.below top above)))
    c.in-Ok.ensures.made

pub returns-clause-blamed : goal.returns-clause-blamed
returns-clause-blamed g c = λ top above same.
    refused_thing c.args.what top c.as_str.result.now (g.F.Known.known c.make.new.folder)
    (subst (IsNameBelow top) (sym (c.as_str.ensures.value ∙ c.in_ok-name.ensures.value)) (c.word_below.ensures.below top above))
    c.in-Err-Other.ensures.noted.0
