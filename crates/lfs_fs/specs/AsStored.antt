-- How entries of a volume are stored (SPEC.md, "Metadata types").
use Rattle.std.specs.Prelude.{ℕ, ◌-◌, List, length, slice_get, unwrap_or}
use Rattle.lfs_meta.specs.declared.kind.Kind.{Kind}
use Rattle.lfs_meta.specs.declared.kind.Kind.TheVariants.{File, Dir}
use Rattle.lfs_meta.specs.Body.{StoredBody, Inline as Stored_inline, Chain as Stored_chain, Directory_at as Stored_directory}
use Rattle.lfs_meta.specs.Entry.{StoredEntry}
use Rattle.lfs_fs.specs.Entry.{Body, Inline, Chain, Directory_at, Entry}

-- the block that a chain is read from, its last one
abbrev pub head_of : List ℕ → ℕ
head_of blocks = unwrap_or (slice_get blocks (length blocks - 1)) 0

-- a file or a directory
abbrev pub stored_kind : Body → Kind
stored_kind (Inline bytes) = File
stored_kind (Chain blocks bytes) = File
stored_kind (Directory_at pair) = Dir

-- a chain is stored as its head and its length
abbrev pub stored_body : Body → StoredBody
stored_body (Inline bytes) = Stored_inline bytes
stored_body (Chain blocks bytes) = Stored_chain (head_of blocks) (length bytes)
stored_body (Directory_at pair) = Stored_directory pair.0 pair.1

-- an entry
abbrev pub stored_entry : Entry → StoredEntry
stored_entry e = record { kind = stored_kind e.body; name = e.name; body = stored_body e.body; attributes = e.attributes }
