use Rattle.std.proofs.Common.{rules, string_bytes}
use Rattle.std.proofs.lemmas.Result.{on_ok_weaker}
use Rattle.std.proofs.lemmas.List.Sorted.{answers_always}
use Rattle.lfs_fs.specs.NameOrder.{precedes}
use Rattle.lfs_extract.proofs.HostNameLemmas.{names_rank, sorted_map}
use Rattle.lfs_extract.proofs.host_names.sort.Goals as goal

pub returns-clause-sorted : goal.returns-clause-sorted
returns-clause-sorted c = on_ok_weaker c.sort_by.result (λ by. sorted_map (λ s. string_bytes s) c.sort_by.new.self.items
    (by (λ x y. precedes (string_bytes x) (string_bytes y))
    (record {
      one_way = λ x y. names_rank.one_way (string_bytes x) (string_bytes y);
      chain = λ x y z. names_rank.chain (string_bytes x) (string_bytes y) (string_bytes z);
    })
    (answers_always _ _ _ (λ f a r after called. search rules)))) c.sort_by.ensures.sorted
