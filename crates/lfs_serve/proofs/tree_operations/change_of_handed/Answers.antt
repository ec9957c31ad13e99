-- The step is that of the image's files.
use Rattle.lfs_serve.proofs.tree_operations.change_of_handed.Goals as goal

pub stepped-requires-clause-kind : goal.stepped-requires-clause-kind
stepped-requires-clause-kind g c = c.requires.kind

pub stepped-requires-clause-range : goal.stepped-requires-clause-range
stepped-requires-clause-range g c = (c.requires.keep, c.requires.range)

pub stepped-requires-clause-target : goal.stepped-requires-clause-target
stepped-requires-clause-target g c = c.requires.target

pub stepped-requires-clause-claimed : goal.stepped-requires-clause-claimed
stepped-requires-clause-claimed g c = c.requires.claimed

pub stepped-requires-clause-handed : goal.stepped-requires-clause-handed
stepped-requires-clause-handed g c = c.requires.handed
