-- A file that was read stands where its name is looked up.
use Rattle.std.proofs.Common.{◌∙◌}
use Rattle.lfs_open.proofs.ContentsLemmas.{found_stands}
use Rattle.lfs_open.proofs.line_contents.FilesRead.find.Goals as goal

pub returns : goal.returns
returns c = found_stands c.args.self.now c.args.file.now c.copied.result (c.copied.ensures ∙ c.get.ensures.value)
