-- What the definition says of a small tree, computed.
use Rattle.std.proofs.Common.{◌≡◌, [], ◌∷◌, ◌++◌, codes, refl}
use Rattle.std.specs.Prelude.{replicate}
use Rattle.std.specs.Fmt.{digits}
use Rattle.hex.specs.Hex.{encode_with}
use Rattle.lfs_meta.specs.Attribute.{Attributes}
use Rattle.lfs_meta.specs.Name.{Name}
use Rattle.lfs_fs.specs.Path.{Path}
use Rattle.lfs_fs.specs.Entry.{Body, Inline, Chain, Directory_at}
use Rattle.lfs_fs.specs.Row.{Row}
use Rattle.lfs_listing.specs.Listing.{listing}

abbrev row : Path → Name → Body → Attributes → Row
row p n body attributes = record { path = p; entry = record { name = n; body = body; attributes = attributes } }

-- a directory with a file of 65 bytes that has an attribute
tree_is_listed : listing (row [] [] (Directory_at (0, 1)) [] ∷ row (codes "d" ∷ []) (codes "d") (Directory_at (2, 3)) []
    ∷ row (codes "d" ∷ codes "f" ∷ []) (codes "f") (Chain (4 ∷ []) (replicate 65 0)) ((116, 1 ∷ []) ∷ []) ∷ [])
    ≡ codes "d          - /\n" ++ codes "d          - /d\n" ++ codes "f         65 /d/f\n" ++ codes "@ 74 01\n"
unfolding encode_with digits
tree_is_listed = refl

-- names and values of any bytes
bytes_are_listed : listing (row ((97 ∷ 10 ∷ 92 ∷ []) ∷ []) (97 ∷ 10 ∷ 92 ∷ []) (Inline []) ((0, []) ∷ (255, 0 ∷ 171 ∷ []) ∷ [])
    ∷ row ((32 ∷ 31 ∷ 126 ∷ 127 ∷ 195 ∷ 164 ∷ []) ∷ []) (32 ∷ 31 ∷ 126 ∷ 127 ∷ 195 ∷ 164 ∷ []) (Inline (1 ∷ [])) [] ∷ [])
    ≡ codes "f          0 /a\\x0a\\x5c\n" ++ codes "@ 00 \n" ++ codes "@ ff 00ab\n" ++ codes "f          1 / \\x1f~\\x7f\\xc3\\xa4\n"
unfolding encode_with digits
bytes_are_listed = refl
