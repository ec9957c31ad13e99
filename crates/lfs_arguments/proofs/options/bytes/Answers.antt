use Rattle.std.proofs.Common.{rules, ◌≡◌, ◌∙◌, List, ℕ, None, Some, ap, refl, sym}
use Rattle.clap.specs.Words.{found_of}
use Rattle.clap.proofs.WalkLemmas.{first_value-rows}
use Rattle.lfs_arguments.proofs.OptionLemmas.{text_there}
use Rattle.lfs_arguments.proofs.options.bytes.Goals as goal

pub returns-in-Some-clause-some : goal.returns-in-Some-clause-some
returns-in-Some-clause-some c =
    let options = found_of c.args.options.now in
    let same : c.as_bytes.result.now ≡ c.in-Some.text.now = search rules in
    sym (c.in-Some.ensures ∙ first_value-rows options c.args.id.now) ∙ ap (λ (bytes : List ℕ). Some bytes) (sym same)

pub returns-in-None-clause-none : goal.returns-in-None-clause-none
returns-in-None-clause-none c =
    (refl, λ rule is said. text_there (found_of c.args.options.now) c.args.id.now None rule c.in-None.ensures refl is said)
