use Rattle.std.proofs.lemmas.List.Elements.{All-from_recursion}
use Rattle.lfs_meta.specs.Fits.{AttributeFits}
use Rattle.lfs_meta.proofs.FitsLemmas.{RiseFrom-each}
use Rattle.lfs_meta.proofs.complete.entry_of.Goals as goal

pub attributes_of-requires : goal.attributes_of-requires
attributes_of-requires c =
    All-from_recursion AttributeFits c.args.attributes.now (RiseFrom-each 0 c.args.attributes.now c.requires.rise)
