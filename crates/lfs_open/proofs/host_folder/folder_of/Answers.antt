-- The rows that are read are handed on.
use Rattle.lfs_open.proofs.host_folder.folder_of.Goals as goal

pub returns-in-Ok-clause-read : goal.returns-in-Ok-clause-read
returns-in-Ok-clause-read g c = c.in-Ok.ensures.rows
