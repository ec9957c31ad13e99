-- What the definitions say of small rows, computed.
use Rattle.std.proofs.Common.{◌≡◌, [], ◌∷◌, codes, refl}
use Rattle.std.specs.Fmt as fmt
use Rattle.std.specs.Str.{chars, is_utf8}
use lib.Utf8.{encode}
use Rattle.hex.specs.Hex.{encode_with}
use Rattle.json.specs.Print.{escape_byte, print_from}
use Rattle.lfs_fs.specs.Entry.{Inline, Directory_at}
use Rattle.lfs_json.specs.Line.{line_of}
use Rattle.lfs_json.specs.Rows.{json_of_row}

-- a file with an attribute
file_is_told : line_of (json_of_row (codes "a\"" ∷ []) (record { name = codes "a\""; body = Inline (1 ∷ []); attributes = (116, 0 ∷ 255 ∷ []) ∷ [] }))
    ≡ codes "{\"kind\":\"file\",\"size\":1,\"path\":\"/a\\\"\",\"attributes\":[{\"kind\":116,\"value\":\"00ff\"}]}\n"
unfolding print_from escape_byte encode_with fmt.digits is_utf8 chars encode
file_is_told = refl

-- a directory whose name isn't UTF-8
directory_is_told : line_of (json_of_row ((255 ∷ []) ∷ []) (record { name = 255 ∷ []; body = Directory_at (2, 3); attributes = [] }))
    ≡ codes "{\"kind\":\"directory\",\"path_hex\":\"2fff\"}\n"
unfolding print_from escape_byte encode_with fmt.digits is_utf8 chars encode
directory_is_told = refl
