-- Rows with the digests of files' contents (own).
use Rattle.std.specs.Prelude.{ℕ, List, [], ◌∷◌, ◌++◌, Option, Some, None, codes}
use Rattle.std.specs.Option.{option_map}
use Rattle.hex.specs.Hex.{encode_lower}
use Rattle.sha2.specs.Sha256.{sha256}
use Rattle.lfs_block.specs.Disk.{Disk}
use Rattle.lfs_fs.specs.Entry.{Body}
use Rattle.lfs_fs.specs.Row.{Row}
use Rattle.lfs_json.specs.Line.{line_of}
use Rattle.lfs_json.specs.Rows.{json_of_digested}
use Rattle.lfs_json.specs.declared.form.Form.{Form}
use Rattle.lfs_json.specs.declared.form.Form.TheVariants.{Text, Json}
use Rattle.lfs_listing.specs.Comparing.{contents_of}
use Rattle.lfs_listing.specs.Forms.{row_text}

-- the SHA-256 of a file's bytes; a directory has none
abbrev pub digest_of : Disk → Body → Option (List ℕ)
digest_of d body = option_map sha256 (contents_of d body)

-- its line
abbrev pub digest_line : List ℕ → List ℕ
digest_line digest = codes "# " ++ encode_lower digest ++ 10 ∷ []

-- a row with a digest, in a form: its lines with one line more, or its object with one member more
abbrev pub with_digest : Form → List ℕ → Row → List ℕ
with_digest Text digest r = row_text Text r ++ digest_line digest
with_digest Json digest r = line_of (json_of_digested r.path r.entry digest)

-- with the digest where it has one
abbrev pub digested_as : Form → Option (List ℕ) → Row → List ℕ
digested_as form None r = row_text form r
digested_as form (Some digest) r = with_digest form digest r

-- with the digest of what it holds
abbrev pub digested_text : Form → Disk → Row → List ℕ
digested_text form d r = digested_as form (digest_of d r.entry.body) r
