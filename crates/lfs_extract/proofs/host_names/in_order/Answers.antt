use Rattle.std.proofs.Common.{◌≡◌, true, false, ap, sym, ◌∙◌, string_bytes, length}
use Rattle.std.specs.List.{All, list_all}
use Rattle.std.proofs.lemmas.Str.{IsUtf8-string_bytes}
use Rattle.std.proofs.lemmas.List.Elements.{All-map, All-weaker}
use Rattle.std.proofs.lemmas.List.Sorted.{All-permutation, IsPermutation-map}
use Rattle.lfs_fs.proofs.ContainsLemmas.{contains_mapped}
use Rattle.lfs_extract.specs.HostNames.{IsHostName, is_host_name}
use Rattle.lfs_extract.proofs.HostNameLemmas.{is_host_name-decides, no_host_name, all_pass, some_fails, items_rise, items_twice}
use Rattle.lfs_extract.proofs.host_names.in_order.Goals as goal

pub returns-then-not-are_host_names-clause-refused : goal.returns-then-not-are_host_names-clause-refused
returns-then-not-are_host_names-clause-refused c =
    let names = c.args.names.items in
    let none : list_all (λ n. is_host_name (string_bytes n)) names ≡ false =
    ap (list_all (λ n. is_host_name (string_bytes n))) (sym c.deref.ensures.value) ∙ sym c.are_host_names.ensures
    ∙ c.if-not-are_host_names.true in
    let one = some_fails (λ n. is_host_name (string_bytes n)) names none in (
      string_bytes one.0,
      contains_mapped (λ n. string_bytes n) names one.0 one.1,
      no_host_name (string_bytes one.0) (IsUtf8-string_bytes one.0) one.2,
    )

pub returns-then-rise-clause-ordered : goal.returns-then-rise-clause-ordered
returns-then-rise-clause-ordered c =
    let names = c.args.names.items in
    let sorted = c.sort.new.names.items in
    let every : list_all (λ n. is_host_name (string_bytes n)) names ≡ true =
    ap (list_all (λ n. is_host_name (string_bytes n))) (sym c.deref.ensures.value) ∙ sym c.are_host_names.ensures
    ∙ c.if-not-are_host_names.false in
    let fit : All (λ n. IsHostName (string_bytes n)) names = All-weaker (λ n. is_host_name (string_bytes n) ≡ true)
    (λ n. IsHostName (string_bytes n)) (λ n is. (is_host_name-decides (string_bytes n) (IsUtf8-string_bytes n)).0 is) names
    (all_pass (λ n. is_host_name (string_bytes n)) names every) in
    record {
      rise = items_rise (λ n. string_bytes n) sorted (rw (← c.deref-2.ensures.value) c.if-rise.ensures);
      fit = All-map IsHostName (λ n. string_bytes n) sorted
          (All-permutation (λ n. IsHostName (string_bytes n)) names sorted c.sort.ensures.same fit);
      same = IsPermutation-map (λ n. string_bytes n) names sorted c.sort.ensures.same;
    }

pub returns-else-rise-clause-refused : goal.returns-else-rise-clause-refused
returns-else-rise-clause-refused c =
    let pair = c.if-rise.ensures in
    let len = ap length c.deref-2.ensures.value in
    items_twice (λ n. string_bytes n) c.args.names.items c.sort.new.names.items pair.0 c.sort.ensures.same c.in_ok-sort.ensures.sorted
    (rw (← c.deref-2.ensures.value) pair.1) (λ d. rw (← c.deref-2.ensures.value) (pair.2 d))
