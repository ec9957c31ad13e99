-- What a beginning of a thread makes, and what the whole thread makes.
use Rattle.std.proofs.Common.{◌≡◌, ℕ, ◌+◌, Bool, true, false, List, [], ◌∷◌, ◌++◌, refl, ap, sym, ◌∙◌, arith, append_assoc, append-nil}
use Rattle.std.proofs.Common.{zero, suc}
use Rattle.std.specs.Prelude.{if◌then◌else◌, sum_by, Contains}
use Rattle.std.proofs.lemmas.List.Sums.{sum_by-cons}
use Rattle.lfs_fs.specs.Entry.{Entry}
use Rattle.lfs_fs.specs.Directory.{Part, Directory, parts, entries}
use Rattle.lfs_fs.specs.Thread.{Link, is_hard, joined_to, pieces}

-- ---- sums over directories are sums over parts

-- H of a directory is the sum of h of its parts
pub record IsSum (H : Directory → ℕ) (h : Part → ℕ) : Type 0 where
  pub one : (p : Part) → H (record { first = p; more = [] }) ≡ h p
  pub more : (p : Part) (d : Directory) → H (record { first = p; more = parts d }) ≡ h p + H d

sum_joined : (H : Directory → ℕ) (h : Part → ℕ) (p : Part) (ds : List Directory) → IsSum H h → sum_by H (joined_to p ds) ≡ h p + sum_by H ds
sum_joined H h p [] is = sum_by-cons H _ [] ∙ ap (λ x. x + sum_by H []) (is.one p)
sum_joined H h p (d ∷ ds) is = omega (arith, sum_by-cons H (record { first = p; more = parts d }) ds, sum_by-cons H d ds, is.more p d)

sum_step : (hard : Bool) (H : Directory → ℕ) (h : Part → ℕ) (p : Part) (ds : List Directory) → IsSum H h
    → sum_by H (if hard then joined_to p ds else record { first = p; more = [] } ∷ ds) ≡ h p + sum_by H ds
sum_step true H h p ds is = sum_joined H h p ds is
sum_step false H h p ds is = omega (arith, sum_by-cons H (record { first = p; more = [] }) ds, is.one p)

pub sum_pieces : (H : Directory → ℕ) (h : Part → ℕ) (ls : List Link) → IsSum H h → sum_by H (pieces ls) ≡ sum_by (λ (l : Link). h l.part) ls
sum_pieces H h [] is = refl
sum_pieces H h (l ∷ ls) is = sum_step (is_hard l.tail) H h l.part (pieces ls) is ∙ ap (λ x. h l.part + x) (sum_pieces H h ls is)
    ∙ sym (sum_by-cons (λ (k : Link). h k.part) l ls)

-- ---- directories of a beginning are beginnings of directories

-- each directory of one list begins the one in its place of another
abbrev pub Extends : List Directory → List Directory → Type 0
Extends [] ys = Unit {0}
Extends (d ∷ ds) [] = ⊥
Extends (d ∷ ds) (e ∷ es) = ((rest : List Entry) × (entries e ≡ entries d ++ rest)) × Extends ds es

extends_joined : (p : Part) (xs ys : List Directory) → Extends xs ys → Extends (joined_to p xs) (joined_to p ys)
extends_joined p [] [] h = (([], sym (append-nil _)), tt)
extends_joined p [] (e ∷ es) h = ((entries e, ap (λ x. x ++ entries e) (sym (append-nil p.entries))), tt)
extends_joined p (d ∷ ds) [] h = absurd h
extends_joined p (d ∷ ds) (e ∷ es) h = ((h.0.0, ap (λ x. p.entries ++ x) h.0.1 ∙ sym (append_assoc p.entries (entries d) h.0.0)), h.1)

extends_step : (hard : Bool) (p : Part) (xs ys : List Directory) → Extends xs ys
    → Extends (if hard then joined_to p xs else record { first = p; more = [] } ∷ xs)
    (if hard then joined_to p ys else record { first = p; more = [] } ∷ ys)
extends_step true p xs ys h = extends_joined p xs ys h
extends_step false p xs ys h = (([], sym (append-nil _)), h)

pub pieces_extend : (ls ms : List Link) → Extends (pieces ls) (pieces (ls ++ ms))
pieces_extend [] ms = tt
pieces_extend (l ∷ ls) ms = extends_step (is_hard l.tail) l.part (pieces ls) (pieces (ls ++ ms)) (pieces_extend ls ms)

-- the directory that goes on where one of a beginning ends
pub record Extension (es : List Directory) (d : Directory) : Type 0 where
  pub directory : Directory
  pub there : Contains es directory
  pub rest : List Entry
  pub is : entries directory ≡ entries d ++ rest

pub contains_more : {X : Type 0} (x y : X) (xs : List X) → Contains xs x → Contains (y ∷ xs) x
contains_more x y xs (k, within, is) = (suc k, omega arith, is)

pub extension : (ds es : List Directory) (d : Directory) → Extends ds es → Contains ds d → Extension es d
extension [] es d h there = absurd (omega arith)
extension (x ∷ ds) [] d h there = absurd h
extension (x ∷ ds) (e ∷ es) d h (zero, within, is) = record {
  directory = e;
  there = (0, omega arith, refl);
  rest = h.0.0;
  is = h.0.1 ∙ ap (λ y. entries y ++ h.0.0) is;
}
extension (x ∷ ds) (e ∷ es) d h (suc k, within, is) =
    let more = extension ds es d h.1 (k, omega arith, is) in
    record { directory = more.directory; there = contains_more more.directory e es more.there; rest = more.rest; is = more.is }
