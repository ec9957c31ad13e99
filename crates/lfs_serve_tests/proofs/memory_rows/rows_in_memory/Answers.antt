use Rattle.lfs_host.specs.MemoryFiles.{files_of}
use Rattle.lfs_host.specs.MemoryTree.{file_names_of, names_through, tree_of}
use Rattle.std.proofs.lemmas.Option.{same_Some}
use Rattle.lfs_serve_tests.proofs.MemoryRowLemmas.{entry_noted, node_is_known, refuses_in_memory, scene_of}
use Rattle.lfs_serve_tests.proofs.memory_rows.rows_in_memory.Goals as goal

pub returns-clause-refused : goal.returns-clause-refused
returns-clause-refused c =
    let files = c.args.host.now.files in
    refuses_in_memory (tree_of files) c.args.dir.now (scene_of c.folder_rows.new.host) c.folder_rows.new.host c.folder_rows.result c.memory_folders_have_no_gap.ensures
    (λ name. node_is_known (files_of files name) (names_through name (file_names_of files))) (λ name is. entry_noted is)
    c.folder_rows.ensures.refused c.folder_rows.ensures.blamed

pub returns-clause-kept : goal.returns-clause-kept
returns-clause-kept c = same_Some (files_of c.folder_rows.new.host.files) (files_of c.args.host.now.files) c.folder_rows.ensures.kept.0.0
