-- What is wrong with an outline is wrong with its volume.
use Rattle.std.proofs.Common.{◌≡◌, List, [], ◌∷◌, map, zero, suc, refl, ap, sym, ◌∙◌, subst, arith}
use Rattle.std.specs.Prelude.{Contains}
use Rattle.lfs_fs.specs.Entry.{Entry, target}
use Rattle.lfs_fs.specs.Directory.{Directory, entries, key}
use Rattle.lfs_fs.specs.Volume.{Volume}
use Rattle.lfs_fs.specs.Tree.{Reached}
use Rattle.lfs_fs.specs.Sound.{StartsAtRoot}
use Rattle.lfs_fs.specs.EntryFault.{NamesNoDirectory, LosesDirectory}
use Rattle.lfs_fs.specs.Outlined.{outlined_entry, outlined_directory, outlined_directories, outlined}
use Rattle.lfs_fs.proofs.OutlinedLemmas.{outlined_entries, outlined_target, outlined_begins, outlined_reached}

-- what one item is mapped to
record MappedFrom {X : Type 0} (f : X → X) (xs : List X) (y : X) : Type 0 where
  from : X
  there : Contains xs from
  is : f from ≡ y

later_mapped : {X : Type 0} (f : X → X) (x : X) (xs : List X) (y : X) → MappedFrom f xs y → MappedFrom f (x ∷ xs) y
later_mapped f x xs y h = record { from = h.from; there = (suc h.there.0, omega (arith, h.there.1), h.there.2); is = h.is }

mapped_from : {X : Type 0} (f : X → X) (xs : List X) (y : X) → Contains (map f xs) y → MappedFrom f xs y
mapped_from f [] y (k, within, at) = absurd (omega arith)
mapped_from f (x ∷ xs) y (zero, within, at) = record { from = x; there = (0, omega arith, refl); is = at }
mapped_from f (x ∷ xs) y (suc k, within, at) = later_mapped f x xs y (mapped_from f xs y (k, omega arith, at))

pub starts_outlined : (ds : List Directory) → StartsAtRoot ds → StartsAtRoot (outlined_directories ds)
starts_outlined [] starts = starts
starts_outlined (d ∷ ds) starts = starts

-- an entry of the outline that names no directory is one of the volume
pub names_none : (v : Volume) → NamesNoDirectory (outlined v) → NamesNoDirectory v
names_none v h =
    let d = mapped_from outlined_directory v.directories h.directory h.there in
    let es : entries h.directory ≡ map outlined_entry (entries d.from) = ap entries (sym d.is) ∙ outlined_entries d.from in
    let e = mapped_from outlined_entry (entries d.from) h.entry (subst (λ (xs : List Entry). Contains xs h.entry) es h.member) in
    record {
      directory = d.from;
      there = d.there;
      entry = e.from;
      member = e.there;
      pair = h.pair;
      leads = sym (outlined_target e.from) ∙ ap target e.is ∙ h.leads;
      none = sym (outlined_begins h.pair v) ∙ h.none;
    }

-- a directory that the outline doesn't reach is one of the volume
pub loses_one : (v : Volume) → LosesDirectory (outlined v) → LosesDirectory v
loses_one v h =
    let d = mapped_from outlined_directory v.directories h.directory h.there in
    record {
      directory = d.from;
      there = d.there;
      lost = λ reached. h.lost (subst (λ (x : Directory). Reached (outlined v) (key x)) d.is (outlined_reached v (key d.from) reached));
    }
