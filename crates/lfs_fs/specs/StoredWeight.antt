-- Entries weigh what the stored ones do that stand for them (own).
use Rattle.std.specs.Prelude.{◌≡◌, ◌≢◌, ℕ, List, [], ◌∷◌, length, map, flat_map, All}
use Rattle.lfs_meta.specs.declared.kind.Kind.TheVariants.{Super}
use Rattle.lfs_meta.specs.Attribute.{Attributes}
use Rattle.lfs_meta.specs.Entry.{StoredEntry}
use Rattle.lfs_meta.specs.Weighing.{weight_as_stored as stored_weight}
use Rattle.lfs_meta.specs.Runs.{runs_after}
use Rattle.lfs_fs.specs.Entry.{Entry}
use Rattle.lfs_fs.specs.Weight.{weight, superblock_weight}
use Rattle.lfs_fs.specs.Reading.{Reading}
use Rattle.lfs_fs.specs.Superblock.{superblock_entry}
use Rattle.lfs_fs.specs.Held.{resolved}

-- the law: an entry weighs what the stored one does
abbrev pub EntriesWeighAsStored : Type 0
EntriesWeighAsStored = (r : Reading) (s : StoredEntry) (e : Entry) → resolved r s ≡ e ∷ [] → stored_weight s ≡ weight e

-- the law: so does the superblock entry
abbrev pub SuperblocksWeighAsStored : Type 0
SuperblocksWeighAsStored = (bytes : List ℕ) (attributes : Attributes) → length bytes ≡ 24
    → stored_weight (superblock_entry bytes attributes) ≡ superblock_weight attributes

-- the law: stored entries that aren't superblocks are cut where what they stand for is
abbrev pub RunsResolve : Type 0
RunsResolve = (r : Reading) (room weighs number : ℕ) (es : List StoredEntry) → All (λ s. s.kind ≢ Super) es
    → map (flat_map (resolved r)) (runs_after stored_weight room weighs number es)
    ≡ runs_after weight room weighs number (flat_map (resolved r) es)
