use Rattle.std.proofs.Common.{◌≡◌, List, ap, ◌∙◌}
use Rattle.std.specs.Prelude.{find}
use Rattle.lfs_fs.specs.Entry.{is_named}
use Rattle.lfs_fs.specs.Directory.{Part, Directory}
use Rattle.lfs_fs.specs.declared.outline_directory.OutlineParts.{OutlineParts}
use Rattle.lfs_fs.specs.Gathering.{part_entries}
use Rattle.lfs_fs.proofs.FindLemmas.{found_first, missed_first}
use Rattle.lfs_fs.proofs.outline_directory.OutlineDirectory.named.Goals as goal

pub returns-in-Some : goal.returns-in-Some
returns-in-Some c =
    let d = c.args.self.now in
    let test = is_named c.args.name.now in
    found_first test d.first d.more c.in-Some.entry.now (c.in-Some.ensures ∙ ap (λ (ps : OutlineParts). find test ps.first.entries) c.deref.ensures
    ∙ ap (λ (x : Directory). find test x.first.entries) c.self.view_is)

pub returns-in-None : goal.returns-in-None
returns-in-None c =
    let d = c.args.self.now in
    let test = is_named c.args.name.now in
    let more : c.deref-in-None-2.result.now ≡ d.more =
    c.deref-in-None-2.ensures.value ∙ ap (λ (ps : OutlineParts). ps.more.items) c.deref-in-None.ensures ∙ ap (λ (x : Directory). x.more) c.self.view_is in
    c.named_in.ensures ∙ ap (λ (ps : List Part). find test (part_entries ps)) more
    ∙ missed_first test d.first d.more (c.in-None.ensures ∙ ap (λ (ps : OutlineParts). find test ps.first.entries) c.deref.ensures
    ∙ ap (λ (x : Directory). find test x.first.entries) c.self.view_is)
