use Rattle.std.proofs.Common.{rules, string_bytes}
use Rattle.std.proofs.lemmas.List.Sorted.{answers_always}
use Rattle.lfs_fs.specs.NameOrder.{precedes}
use Rattle.lfs_extract.proofs.host_names.rise.Goals as goal

pub returns : goal.returns
returns c = c.is_sorted_by.ensures.cases (λ x y. precedes (string_bytes x) (string_bytes y))
    (answers_always _ _ _ (λ f a r after called. search rules))
