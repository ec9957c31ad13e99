-- The directories of a thread are those that it was written for.
use Rattle.std.proofs.Common.{◌≡◌, false, List, [], ◌∷◌, ◌++◌, refl, ap, ◌∙◌}
use Rattle.lfs_meta.specs.declared.tail.Tail.{Tail}
use Rattle.lfs_fs.specs.Directory.{Part, Directory}
use Rattle.lfs_fs.specs.Thread.{Link, is_hard, joined_to, pieces, links_of, tail_to, links, PiecesOfLinks}

-- the parts of one directory, of which the last one has no hard tail
pieces_of_directory : (p : Part) (ps : List Part) (tail : Tail) (rest : List Link) → is_hard tail ≡ false
    → pieces (links_of p ps tail ++ rest) ≡ record { first = p; more = ps } ∷ pieces rest
pieces_of_directory p [] tail rest soft = rw soft refl
pieces_of_directory p (q ∷ ps) tail rest soft = ap (joined_to p) (pieces_of_directory q ps tail rest soft)

tail_is_soft : (ds : List Directory) → is_hard (tail_to ds) ≡ false
tail_is_soft [] = refl
tail_is_soft (d ∷ ds) = refl

pub links_make_their_directories : PiecesOfLinks
links_make_their_directories [] = refl
links_make_their_directories (d ∷ ds) = pieces_of_directory d.first d.more (tail_to ds) (links ds) (tail_is_soft ds)
    ∙ ap (λ x. d ∷ x) (links_make_their_directories ds)
