use Rattle.std.proofs.Common.{rules, ◌≡◌, false, string_bytes, sym, ◌∙◌}
use Rattle.std.specs.Prelude.{is_some}
use Rattle.std.specs.BTreeMap.{keys}
use Rattle.lfs_host.specs.declared.host_kind.HostKind.TheVariants.{Folder, Missing}
use Rattle.lfs_host.specs.MemoryFiles.{files_of}
use Rattle.lfs_host.specs.MemoryTree.{file_names_of, names_through}
use Rattle.lfs_host.proofs.MemoryTreeLemmas.{leads_in, no_file_there, none_leads_in}
use Rattle.lfs_host.proofs.memory_tree.kind_of.Goals as goal

pub returns-then-has_below : goal.returns-then-has_below
returns-then-has_below c =
    let files = c.args.files.now in
    let name = c.args.name.now in
    let none : is_some (files_of files name) ≡ false = grind (rules) in
    no_file_there (files_of files name) (names_through name (file_names_of files)) Folder none
    (leads_in (λ k. string_bytes k) name (keys files) (sym c.has_below.ensures ∙ c.if-has_below.true))

pub returns-else-has_below : goal.returns-else-has_below
returns-else-has_below c =
    let files = c.args.files.now in
    let name = c.args.name.now in
    let none : is_some (files_of files name) ≡ false = grind (rules) in
    no_file_there (files_of files name) (names_through name (file_names_of files)) Missing none
    (none_leads_in (λ k. string_bytes k) name (keys files) (sym c.has_below.ensures ∙ c.if-has_below.false))
