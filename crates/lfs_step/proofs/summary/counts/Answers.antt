-- The line says what the image and its files have.
use Rattle.lfs_step.proofs.summary.counts.Goals as goal

pub returns : goal.returns
returns c =
    rw (
      ← c.size-size.ensures.value,
      ← c.count-count.ensures,
      ← c.free_count-free.ensures,
      ← c.directories-directories.ensures.rows,
      ← c.files-files.ensures.rows,
    ) c.format.ensures.ok
