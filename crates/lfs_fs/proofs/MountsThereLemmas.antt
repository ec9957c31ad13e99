-- An image without a cause mounts.
use Rattle.std.proofs.Common.{◌≡◌, ◌≢◌, ◌⊎◌, ℕ, List, [], ◌∷◌, get_or, Some, suc, refl, ap, ◌∙◌, arith}
use Rattle.std.specs.Prelude.{All, Contains, IsSome}
use Rattle.std.specs.List.{slice_get}
use Rattle.std.proofs.lemmas.List.Elements.{All-nil, All-cons, All-contains}
use Rattle.std.proofs.lemmas.Option.{slice_get-get_or}
use mathlib.Core.Logic.{inl, inr}
use Rattle.lfs_block.specs.Disk.{Disk}
use Rattle.lfs_block.specs.declared.mount_fault.MountFault.TheVariants as fault
use Rattle.lfs_meta.specs.Body.{Pair}
use Rattle.lfs_meta.specs.Entry.{StoredEntry}
use Rattle.lfs_meta.specs.HeldLaws.{PairsWithoutAPartHaveACause, HeldPartsAreComplete}
use Rattle.lfs_meta.specs.Laws.{NamesAreDecided}
use Rattle.lfs_meta.specs.Part.{StoredPart}
use Rattle.lfs_file.specs.Laws.{FoundAreChains, ContentHasLength, ChainsDiffer}
use Rattle.lfs_fs.specs.Pair.{root}
use Rattle.lfs_fs.specs.Directory.{Directory, key}
use Rattle.lfs_fs.specs.Volume.{Volume}
use Rattle.lfs_fs.specs.Tree.{Reached, tree}
use Rattle.lfs_fs.specs.Sound.{IsSound, IsProper}
use Rattle.lfs_fs.specs.Reading.{reading_of}
use Rattle.lfs_fs.specs.Front.{IsThread}
use Rattle.lfs_fs.specs.Superblock.{header_of, superblock_entry, word_at, IsLimits}
use Rattle.lfs_fs.specs.Held.{directories_at}
use Rattle.lfs_fs.specs.SuperblockCause.{SuperblockIs}
use Rattle.lfs_fs.specs.Holds.{Holds, IsResolved}
use Rattle.lfs_fs.specs.Mounts.{WithoutCauseMount}
use Rattle.lfs_fs.proofs.BothSidesLemmas.{some_part}
use Rattle.lfs_fs.proofs.ThreadThereLemmas.{thread_there}
use Rattle.lfs_fs.proofs.EntriesThereLemmas.{IsClear, HasFound, limits_of, stored_on, entry_resolved, attributes_fit, entry_proper, each_in}
use Rattle.lfs_fs.proofs.EntriesThereLemmas.{thread_root, root_there, root_stored}
use Rattle.lfs_fs.proofs.SoundThereLemmas.{volume_of, starts, in_order, used_once, used_within, named_as_counted, not_lost, settled}

-- ---- what the image holds

resolved_at : (d : Disk) (c : IsClear d) (f : HasFound d) (p : Pair) (s : StoredPart) → Contains f.pairs p → p ≢ root
    → (reading_of d).part p ≡ Some s → All (IsResolved (reading_of d)) s.entries
unfolding stored_on
resolved_at d c f p s there other read i dflt within =
    entry_resolved d (get_or s.entries i dflt) c (stored_on d f p s i (get_or s.entries i dflt) there read
    (slice_get-get_or s.entries i dflt within)) (inl other)

resolved_first : (d : Disk) (c : IsClear d) (f : HasFound d) → All (IsResolved (reading_of d)) f.superblock.others
unfolding stored_on
resolved_first d c f i dflt within =
    let e : StoredEntry = get_or f.superblock.others i dflt in
    let member : slice_get f.superblock.part.entries (suc i) ≡ Some e =
    ap (λ es. slice_get es (suc i)) f.superblock.is ∙ slice_get-get_or f.superblock.others i dflt within in
    entry_resolved d e c (stored_on d f root f.superblock.part (suc i) e (root_there d f) f.superblock.read member) (inr (omega arith))

-- the words of the superblock are those of the image
record IsFitting (d : Disk) (f : HasFound d) : Type 0 where
  version : word_at f.bytes 0 ≡ 0x00020000
  size : word_at f.bytes 1 ≡ d.size
  count : word_at f.bytes 2 ≡ d.count
  limits : IsLimits (limits_of f)

holds : (d : Disk) (c : IsClear d) (f : HasFound d) → IsFitting d f → Holds (reading_of d) (volume_of d f)
holds d c f fits = record {
  pairs = f.pairs;
  is_thread = f.is_thread;
  bytes = f.bytes;
  attributes = f.attributes;
  superblock = f.superblock;
  version = fits.version;
  size = fits.size;
  count = fits.count;
  limits = fits.limits;
  resolved = resolved_first d c f;
  resolved_later = resolved_at d c f;
  is = refl;
}

sound : (d : Disk) (c : IsClear d) (f : HasFound d) → All (λ x. Reached (volume_of d f) (key x)) (directories_at (reading_of d) f.pairs)
    → IsSound (volume_of d f)
sound d c f reached = record {
  starts = starts d f;
  order = in_order d c f;
  proper = each_in (IsProper (limits_of f)) d f (λ e s other. entry_proper d e c f s other);
  root_attributes = attributes_fit d (superblock_entry f.bytes f.attributes) c f (root_stored d f);
  once = λ b. used_once d b c f;
  within = λ b. used_within d b c f;
  names = λ k. named_as_counted d k c f reached;
  reached = reached;
  settled = settled d c f;
}

-- ---- nothing refutes it

-- where none of a list is refuted, not all of it is
none_refuted : {X : Type 0} (P : X → Type 0) (xs : List X) → ((x : X) → Contains xs x → ¬ ¬ P x) → ¬ ¬ All P xs
none_refuted P [] each never = never (All-nil P)
none_refuted P (x ∷ xs) each never =
    each x (0, omega arith, refl) (λ here. none_refuted P xs (λ y (i, within, is). each y (suc i, omega arith, is))
    (λ rest. never (All-cons P x xs here rest)))

-- what is read mounts, unless a directory is lost
mounts_unless : (d : Disk) (c : IsClear d) (f : HasFound d) → ¬ ¬ IsFitting d f → ¬ ¬ ((v : Volume) × Holds (reading_of d) v × IsSound v)
mounts_unless d c f fits never =
    fits (λ fit. none_refuted (λ (x : Directory). Reached (volume_of d f) (key x)) (directories_at (reading_of d) f.pairs)
    (λ x there. not_lost d x c f there)
    (λ reached. never (volume_of d f, holds d c f fit, sound d c f reached)))

-- the words fit, or one of them is a cause
words_fit : (d : Disk) (c : IsClear d) (f : HasFound d) → ¬ ¬ IsFitting d f
words_fit d c f never =
    let words : (these : List ℕ → Type 0) → these f.bytes → SuperblockIs (reading_of d) these =
    λ (these : List ℕ → Type 0) is. record { bytes = f.bytes; attributes = f.attributes; superblock = f.superblock; is = is } in
    c.none fault.Version tt (words (λ (bytes : List ℕ). word_at bytes 0 ≢ 0x00020000)
    (λ version. c.none fault.Geometry tt (words (λ (bytes : List ℕ). (word_at bytes 1 ≢ d.size) ⊎ (word_at bytes 2 ≢ d.count))
    (inl (λ size. c.none fault.Geometry tt (words (λ (bytes : List ℕ). (word_at bytes 1 ≢ d.size) ⊎ (word_at bytes 2 ≢ d.count))
    (inr (λ count. c.none fault.Limits tt (words (λ (bytes : List ℕ). ¬ IsLimits (header_of bytes []).limits)
    (λ limits. never (record { version = version; size = size; count = count; limits = limits })))))))))))

root_part : (d : Disk) (ps : List Pair) → IsThread (reading_of d) ps → Contains ps root
    → (s : StoredPart) × ((reading_of d).part root ≡ Some s)
root_part d ps thread there = some_part (reading_of d) root ((reading_of d).part root) refl
    (All-contains (λ (p : Pair). IsSome ((reading_of d).part p)) ps root thread.parts there)

pub without_cause_mount : PairsWithoutAPartHaveACause → HeldPartsAreComplete → NamesAreDecided → FoundAreChains → ContentHasLength
    → ChainsDiffer → WithoutCauseMount
without_cause_mount partless held names chains lengths differ d disk none never =
    let c : IsClear d = record {
      disk = disk;
      none = none;
      held = held;
      names = names;
      lengths = λ head size blocks found. lengths d head size blocks disk (chains d head size blocks disk found);
      differ = differ;
    } in
    let thread = thread_there d partless none in
    let root_is = root_part d thread.0 thread.1 (thread_root (reading_of d) thread.0 thread.1) in
    none fault.NoSuperblock tt (record {
      part = root_is.0;
      read = root_is.1;
      none = λ bytes attributes superblock.
          let f : HasFound d = record {
            pairs = thread.0;
            is_thread = thread.1;
            bytes = bytes;
            attributes = attributes;
            superblock = superblock;
          } in
          mounts_unless d c f (words_fit d c f) (λ found. never (tree found.0, (found.0, found.1, found.2, λ p. refl)));
    })
