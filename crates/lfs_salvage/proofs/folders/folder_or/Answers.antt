-- One of the folders.
use Rattle.std.proofs.Common.{ap, sym, subst, ◌∙◌, string_bytes}
use Rattle.lfs_salvage.specs.Below.{IsNameBelow}
use Rattle.lfs_salvage.proofs.folders.folder_or.Goals as goal

pub returns-in-Some-clause-below : goal.returns-in-Some-clause-below
returns-in-Some-clause-below c = λ top above all.
    let h = c.in-Some.ensures.lookup in
    subst (IsNameBelow top) (sym (c.as_str.ensures.value ∙ ap (λ s. string_bytes s) h.1)) (all c.args.from c.in-Some.folder.now h.3.0)
