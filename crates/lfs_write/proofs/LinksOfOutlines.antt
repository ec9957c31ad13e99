-- The links of a directory, and of directories, one after another.
use Rattle.std.proofs.Common.{◌≡◌, ℕ, ◌+◌, ◌<◌, ◌≤◌, List, [], ◌∷◌, ◌++◌, ap, sym, ◌∙◌, subst, length, drop, get_or, append_assoc}
use Rattle.std.proofs.lemmas.List.{drop_all}
use Rattle.lfs_meta.specs.declared.tail.Tail.{Tail}
use Rattle.lfs_fs.specs.Directory.{Part, Directory}
use Rattle.lfs_fs.specs.Thread.{Link, links_of, links, hard_to, soft_to}
use Rattle.lfs_fs.proofs.ItemLemmas.{drop_at}
use Rattle.lfs_law.specs.PairWritten.{link_to}

-- of a part behind which there is another one
pub part_next : (p : Part) (seen more : List Part) (i : ℕ) (q : Part) (tail to_next : Tail) → seen ≡ more → i < length seen
    → q ≡ get_or seen i q → to_next ≡ hard_to q.pair
    → links_of p (drop i more) tail ≡ (link_to p to_next ∷ []) ++ links_of q (drop (i + 1) more) tail
part_next p seen more i q tail to_next same below is hard =
    subst (λ (ps : List Part). links_of p (drop i ps) tail ≡ (link_to p to_next ∷ []) ++ links_of q (drop (i + 1) ps) tail) same
    (ap (λ (ps : List Part). links_of p ps tail) (drop_at seen i q below is)
    ∙ ap (λ (t : Tail). link_to p t ∷ links_of q (drop (i + 1) seen) tail) (sym hard))

-- of a directory behind which there is another one
pub directory_next : (e : Directory) (more : List Directory) (i : ℕ) (f : Directory) (to_next : Tail) → i < length more
    → f ≡ get_or more i f → to_next ≡ soft_to f.first.pair
    → links (e ∷ drop i more) ≡ links_of e.first e.more to_next ++ links (f ∷ drop (i + 1) more)
directory_next e more i f to_next below is soft =
    ap (λ (ds : List Directory). links (e ∷ ds)) (drop_at more i f below is)
    ∙ ap (λ (t : Tail). links_of e.first e.more t ++ links (f ∷ drop (i + 1) more)) (sym soft)

-- a front of what is left comes behind what is there
pub moved : (xs front later all complete new : List Link) → new ≡ xs ++ front → all ≡ front ++ later → xs ++ all ≡ complete
    → new ++ later ≡ complete
moved xs front later all complete new added is before =
    ap (λ (l : List Link). l ++ later) added ∙ append_assoc xs front later ∙ ap (λ (l : List Link). xs ++ l) (sym is) ∙ before

pub one_moved : (xs : List Link) (x : Link) (later all complete new : List Link) → new ≡ xs ++ (x ∷ []) → all ≡ (x ∷ []) ++ later
    → xs ++ all ≡ complete
    → new ++ later ≡ complete
one_moved xs x later all complete new added is before = moved xs (x ∷ []) later all complete new added is before

-- the last part of a directory
pub last_added : (xs : List Link) (p : Part) (seen more : List Part) (i : ℕ) (tail : Tail) (complete new : List Link) → seen ≡ more
    → length seen ≤ i
    → new ≡ xs ++ (link_to p tail ∷ []) → xs ++ links_of p (drop i more) tail ≡ complete → new ≡ complete
last_added xs p seen more i tail complete new same past added before =
    let none : drop i more ≡ [] = ap (drop i) (sym same) ∙ drop_all i seen past in
    added ∙ sym (ap (λ (ps : List Part). xs ++ links_of p ps tail) none) ∙ before

-- the links that are left from one on, as it is seen
pub one_left : (all : List Link) (i : ℕ) (x seen : Link) → seen ≡ x → i < length all → x ≡ get_or all i x
    → drop i all ≡ (seen ∷ []) ++ drop (i + 1) all
one_left all i x seen same within is = drop_at all i x within is ∙ ap (λ (l : Link). l ∷ drop (i + 1) all) (sym same)
