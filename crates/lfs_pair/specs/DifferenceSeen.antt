-- What the code's fates, and what it forces, mean.
use Rattle.std.specs.Prelude.{option_map}
use Rattle.lfs_pair.specs.Difference.{Fate, Goes, Stays, Comes, Forced, Nothing, Struct, Value}
use Rattle.lfs_pair.specs.declared.forced.Forced as declared
use Rattle.lfs_pair.specs.declared.forced.Forced.TheVariants as force
use Rattle.lfs_pair.specs.declared.fate.Fate as fate_declared
use Rattle.lfs_pair.specs.declared.fate.Fate.TheVariants as fate

abbrev pub forced_seen : declared.Forced → Forced
forced_seen force.Nothing = Nothing
forced_seen (force.Struct name) = Struct (option_map (λ n. n.now) name)
forced_seen (force.Value name kind) = Value (option_map (λ n. n.now) name) kind

abbrev pub fate_seen : fate_declared.Fate → Fate
fate_seen (fate.Goes old) = Goes old.now
fate_seen (fate.Stays old new) = Stays old.now new.now
fate_seen (fate.Comes new) = Comes new.now
