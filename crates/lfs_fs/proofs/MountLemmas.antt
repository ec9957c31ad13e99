-- What is gathered of an image and listed by the walk is what it mounts to; what the walk refuses is a cause.
use Rattle.std.proofs.Common.{◌≡◌, ◌≤◌, ℕ, List, ap, sym, ◌∙◌, subst, arith, inl, inr}
use Rattle.lfs_block.specs.Disk.{Disk}
use Rattle.lfs_block.specs.declared.mount_fault.MountFault.{MountFault}
use Rattle.lfs_block.specs.declared.mount_fault.MountFault.TheVariants.{MissingDirectory, BlockTwice, Orphan, Memory}
use Rattle.lfs_fs.specs.Volume.{Volume}
use Rattle.lfs_fs.specs.Unused.{unused}
use Rattle.lfs_fs.specs.Sound.{IsSound}
use Rattle.lfs_fs.specs.Row.{Row}
use Rattle.lfs_fs.specs.Reading.{reading_of}
use Rattle.lfs_fs.specs.Superblock.{header_of}
use Rattle.lfs_fs.specs.Holds.{Holds}
use Rattle.lfs_fs.specs.EntryFault.{NamesNoDirectory, LosesDirectory}
use Rattle.lfs_fs.specs.Named.{named}
use Rattle.lfs_fs.specs.Cause.{HasCause}
use Rattle.lfs_fs.specs.Mounted.{MountedValue, IsMountOf}
use Rattle.lfs_fs.specs.Gathered.{IsSoundUnwalked, IsGathered}
use Rattle.lfs_fs.specs.Outlined.{outlined}
use Rattle.lfs_fs.specs.Ordered.{IsWalkable, IsListed, WalkCause}
use Rattle.lfs_fs.specs.declared.gathering.Gathered.{Gathered}
use Rattle.lfs_fs.proofs.CountLemmas.{count_uses}
use Rattle.lfs_fs.proofs.OutlinedLemmas.{outlined_begins, outlined_named, all_rise_outlined, all_reached}
use Rattle.lfs_fs.proofs.OutlinedFaultLemmas.{starts_outlined, names_none, loses_one}
use Rattle.lfs_fs.proofs.UnusedLemmas.{unused_free}

-- ---- the walk

pub walkable : (d : Disk) (g : Gathered) (found : IsGathered d g) → IsWalkable g.outline
walkable d g found = rw found.outline (record {
  starts = starts_outlined found.volume.directories found.sound.starts;
  once = λ k. omega (arith, outlined_begins k found.volume, (count_uses k found.volume).0, found.sound.once k.0);
  order = all_rise_outlined found.volume.directories found.sound.order;
})

pub walked_sound : (v : Volume) (rows : List Row) → IsSoundUnwalked v → IsListed (outlined v) rows → IsSound v
walked_sound v rows most listed = record {
  starts = most.starts;
  order = most.order;
  proper = most.proper;
  root_attributes = most.root_attributes;
  once = most.once;
  within = most.within;
  names = λ k. sym (outlined_named k v) ∙ listed.names k ∙ outlined_begins k v;
  reached = all_reached v v.directories listed.reached;
  settled = most.settled;
}

-- what is wrong with an outline is wrong with its volume
outline_cause : (v : Volume) (fault : MountFault) → WalkCause (outlined v) fault → WalkCause v fault
outline_cause v MissingDirectory cause = names_none v cause
outline_cause v BlockTwice cause = (cause.0, subst (λ (n : ℕ). 2 ≤ n) (outlined_named cause.0 v) cause.1)
outline_cause v Orphan cause = loses_one v cause
outline_cause v Memory cause = tt
outline_cause v fault cause = absurd cause

-- what is wrong with the volume that an image holds is a cause of the image
volume_cause : (d : Disk) (v : Volume) (fault : MountFault) → Holds (reading_of d) v → WalkCause v fault → HasCause d fault
volume_cause d v MissingDirectory holds cause = record {
  header = header_of holds.bytes holds.attributes;
  pairs = holds.pairs;
  is_thread = holds.is_thread;
  missing = subst NamesNoDirectory holds.is cause;
}
volume_cause d v BlockTwice holds cause = record {
  header = header_of holds.bytes holds.attributes;
  front = holds.pairs;
  is_front = holds.is_thread.front;
  twice = inr (cause.0, subst (λ (w : Volume). 2 ≤ named cause.0 w) holds.is cause.1);
}
volume_cause d v Orphan holds cause = inl (record {
  header = header_of holds.bytes holds.attributes;
  pairs = holds.pairs;
  is_thread = holds.is_thread;
  orphan = subst LosesDirectory holds.is cause;
})
volume_cause d v Memory holds cause = tt
volume_cause d v fault holds cause = absurd cause

pub walk_cause : (d : Disk) (g : Gathered) (found : IsGathered d g) (fault : MountFault) → WalkCause g.outline fault → HasCause d fault
walk_cause d g found fault cause = volume_cause d found.volume fault found.holds
    (outline_cause found.volume fault (subst (λ (v : Volume). WalkCause v fault) found.outline cause))

-- ---- the answer

pub mounted_by : (d : Disk) (g : Gathered) (found : IsGathered d g) (rows : List Row) (m : MountedValue) → IsListed g.outline rows
    → m ≡ record { outline = g.outline; rows = rows; free = unused g.used.items } → IsMountOf d m
mounted_by d g found rows m listed is = rw is (record {
  volume = found.volume;
  holds = found.holds;
  sound = walked_sound found.volume rows found.sound (subst (λ (v : Volume). IsListed v rows) found.outline listed);
  outline = found.outline;
  rows = listed.listed;
  free = unused_free found.volume g.used.items (found.len ∙ ap (λ (v : Volume). v.count) (sym found.holds.is)) found.marks;
})
