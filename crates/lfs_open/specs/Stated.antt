-- The block size that an image's file states (own).
use Rattle.std.specs.Prelude.{◌≡◌, ◌⊎◌, ℕ, List, Option}
use Rattle.std.specs.Option.{unwrap_or}
use Rattle.lfs_exchange.specs.Handing.{most_image}
use Rattle.lfs_host.specs.Files.{ReadsFrom}
use Rattle.lfs_host.specs.HostCall.{Reading}
use Rattle.lfs_host.specs.Scene.{HasRefused, Scene}
use Rattle.lfs_lower.specs.Beginning.{IsSize}

-- the block size where none is stated
abbrev pub usual_size : ℕ
usual_size = 4096

-- this is the block size of an image that begins at a place of its file, or the usual one if none does, or if the host has refused to
-- read it
abbrev pub IsStatedSize : Scene → Scene → List ℕ → ℕ → ℕ → Type 0
IsStatedSize old new name place size =
    ((bytes : List ℕ) × ReadsFrom old.files name place most_image bytes
    × ((stated : Option ℕ) × IsSize bytes stated × (size ≡ unwrap_or stated usual_size)))
    ⊎ (HasRefused new (Reading name) × (size ≡ usual_size))
