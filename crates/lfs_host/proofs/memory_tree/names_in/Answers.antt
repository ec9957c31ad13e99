use Rattle.std.proofs.Common.{rules, ◌≡◌, Some, None, String, List, ℕ, Bor, map, string_bytes, sym, ap, ◌∙◌}
use Rattle.std.specs.BTreeMap.{keys}
use Rattle.std.specs.BTreeSet.{contains_text}
use Rattle.std.specs.Global.{Global}
use Rattle.std.specs.List.{list_any}
use Rattle.std.specs.Map.Iter.{deref}
use Rattle.std.specs.Str.{bytes_eq}
use Rattle.std.proofs.lemmas.Iterator.{items_from_collect}
use Rattle.std.proofs.lemmas.Iterator.Consumers.{YieldsList-from_rest}
use Rattle.std.proofs.lemmas.Map.Iter.{iter_end}
use Rattle.std.proofs.lemmas.Result.{IfOk-weaker}
use Rattle.std.proofs.lemmas.Simd.{map-map}
use Rattle.lfs_host.specs.HostTree.{AreNamesIn}
use Rattle.lfs_host.specs.MemoryTree.{name_through, file_names_of, names_through}
use Rattle.lfs_host.proofs.MemoryTreeLemmas.{gathered, none_more, some_more}
use Rattle.lfs_host.proofs.memory_tree.names_in.Goals as goal

abbrev text : Bor (String Global) → List ℕ
text k = string_bytes k.now

pub loop-file-preserved-in_ok-insert : goal.loop-file-preserved-in_ok-insert
loop-file-preserved-in_ok-insert c =
    let folder = c.args.folder.now in
    let name = c.in-Some-name_through.name.now in
    let through : Some name ≡ name_through folder (text c.in-Some.file) =
    c.in-Some-name_through.ensures ∙ ap (name_through folder) c.as_str.ensures.value in
    record {
      has = λ q. some_more text folder q name c.loop-file.yielded c.in-Some.file c.loop-file.names c.insert.new.self c.in_ok-from_str.field-0
          through c.in_ok-from_str.ensures.ok c.in_ok-insert.ensures.updates (c.loop-file.invariant.has q);
      ordered = c.insert.ensures.ordered;
    }

pub loop-file-preserved : goal.loop-file-preserved
loop-file-preserved c =
    let folder = c.args.folder.now in
    let through : None ≡ name_through folder (text c.in-Some.file) = c.in_default.ensures ∙ ap (name_through folder) c.as_str.ensures.value in
    record {
      has = λ q. none_more text folder q c.loop-file.yielded c.in-Some.file _ through (c.loop-file.invariant.has q);
      ordered = c.loop-file.invariant.ordered;
    }

pub returns : goal.returns
returns c =
    let files = c.args.files.now in
    let folder = c.args.folder.now in
    let complete : map deref c.loop-file.yielded ≡ keys files = search (rules, iter_end) in
    let texts : map text c.loop-file.yielded ≡ file_names_of files =
    sym (map-map (λ k. string_bytes k) deref c.loop-file.yielded) ∙ ap (λ (ks : List (String Global)). map (λ k. string_bytes k) ks) complete in
    let names = c.loop-file.names in
    let there : List (List ℕ) = names_through folder (file_names_of files) in
    let has : (q : List ℕ) → contains_text names q ≡ list_any (bytes_eq q) there = λ q. c.loop-file.invariant.has q
    ∙ ap (λ (files : List (List ℕ)). list_any (bytes_eq q) (names_through folder files)) texts in
    IfOk-weaker c.collect.result (λ listed. listed.items ≡ names.keys) (λ listed. AreNamesIn there (map (λ n. string_bytes n) listed.items))
    (λ listed is. gathered there names listed.items is c.loop-file.invariant.ordered has)
    (items_from_collect c.collect.result c.collect.ensures.ran (YieldsList-from_rest names.keys c.into_iter.ensures.into_iter_gives.0))
