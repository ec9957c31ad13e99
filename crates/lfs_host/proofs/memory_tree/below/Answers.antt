use Rattle.std.proofs.Common.{rules, ◌≡◌, ◌∷◌, None, ◌++◌, ◌∙◌, ℕ, List, ap, sym, arith}
use Rattle.std.proofs.lemmas.Str.Pattern.{strip_prefix_char}
use Rattle.lfs_host.specs.MemoryTree.{name_behind}
use Rattle.lfs_host.proofs.MemoryTreeLemmas.{below_cut, not_below}
use Rattle.lfs_host.proofs.memory_tree.below.Goals as goal

pub returns-in_err-strip_prefix : goal.returns-in_err-strip_prefix
returns-in_err-strip_prefix c =
    let none : name_behind c.args.folder.now c.args.file.now ≡ None =
    not_below c.args.folder.now c.args.file.now (λ rest is. c.in_err-strip_prefix.ensures.cases (47 ∷ rest) is) in
    rw none (search rules)

pub returns : goal.returns
returns c =
    let cut = c.in_ok-strip_prefix.ensures.cases in
    let is : c.args.file.now ≡ c.args.folder.now ++ c.in_ok-strip_prefix.field-0.now =
    cut.1.1 ∙ ap (λ (xs : List ℕ). c.args.folder.now ++ xs) (sym cut.2) in
    below_cut c.args.folder.now c.args.file.now c.in_ok-strip_prefix.field-0.now c.strip_prefix-2.result is
    (strip_prefix_char 47 c.in_ok-strip_prefix.field-0.now c.strip_prefix-2.result c.strip_prefix-2.ensures.cases (omega arith))
