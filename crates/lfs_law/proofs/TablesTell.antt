-- A table of the blocks that a volume uses tells its pairs from new ones.
use Rattle.std.proofs.Common.{◌≡◌, ℕ, ◌==◌, Bool, true, false, cond, List, [], ◌∷◌, ◌++◌, refl, ap, ◌∙◌, arith, subst}
use Rattle.std.specs.Prelude.{not, slice_index_or, if◌then◌else◌}
use Rattle.lfs_block.specs.Change.{Change}
use Rattle.lfs_meta.specs.declared.tail.Tail.{Tail}
use Rattle.lfs_meta.specs.declared.tail.Tail.TheVariants.{End, Soft, Hard}
use Rattle.lfs_meta.specs.Body.{Pair}
use Rattle.lfs_command.specs.PairChanged.{is_cut_by}
use Rattle.lfs_fs.specs.Directory.{Part}
use Rattle.lfs_fs.specs.Volume.{Volume}
use Rattle.lfs_fs.specs.Thread.{Link}
use Rattle.lfs_fs.specs.Used.{Marks}
use Rattle.lfs_fs.specs.Uses.{times, uses}
use Rattle.lfs_law.specs.WrittenLinks.{IsPairWritten, number_in, set_blocks, links_blocks}
use Rattle.lfs_command.specs.Need.{is_new_to}
use Rattle.lfs_law.specs.PlansHold.{is_unmarked, TablesTellChanged, TablesTellNew}

told : (t : Bool) (n : ℕ) → cond {A = ℕ} t 1 0 ≡ n → not t ≡ (n == 0)
told true n h = ap (λ (m : ℕ). m == 0) h
told false n h = ap (λ (m : ℕ). m == 0) h

pub told_so : (v : Volume) (used : List Bool) → Marks used (λ b. uses b v) → (pair : Pair) → is_unmarked used pair ≡ is_new_to v pair
told_so v used marks pair = told (slice_index_or used pair.0 false) (uses pair.0 v) (marks pair.0)

part_alike : (cs : List Change) (f g : Pair → Bool) → ((pair : Pair) → f pair ≡ g pair) → (p : Part) → set_blocks cs f p ≡ set_blocks cs g p
part_alike cs f g same p = ap (λ (t : Bool). if p.dirty then (if t then p.pair.0 ∷ p.pair.1 ∷ [] else number_in cs p.pair ∷ []) else [])
    (same p.pair)

links_alike : (cs : List Change) (f g : Pair → Bool) → ((pair : Pair) → f pair ≡ g pair) → (ls : List Link)
    → links_blocks cs f ls ≡ links_blocks cs g ls
links_alike cs f g same [] = refl
links_alike cs f g same (l ∷ ls) =
    ap (λ (bs : List ℕ). bs ++ links_blocks cs f ls) (part_alike cs f g same l.part)
    ∙ ap (λ (bs : List ℕ). set_blocks cs g l.part ++ bs) (links_alike cs f g same ls)

pub tables_tell_new : TablesTellNew
tables_tell_new v used marks d bytes attributes base ls cs written = record {
  rising = written.rising;
  made = written.made;
  named = λ n. omega (arith, written.named n, ap (times n) (links_alike cs (is_unmarked used) (is_new_to v) (told_so v used marks) ls));
  kept = written.kept;
  makes = λ l there set.
      let made = written.makes l there set in
      record {
        delta = made.delta;
        delta_is = made.delta_is;
        part = made.part;
        filled = λ new. made.filled (told_so v used marks l.part.pair ∙ new);
      };
}

-- a part was cut by the one where it was by the other
cut_alike : (f g : Pair → Bool) → ((pair : Pair) → f pair ≡ g pair) → (tail : Tail) → is_cut_by f tail ≡ is_cut_by g tail
cut_alike f g same End = refl
cut_alike f g same (Soft first second) = refl
cut_alike f g same (Hard first second) = same (first, second)

pub tables_tell_changed : TablesTellChanged
tables_tell_changed v used marks d forced ls cs changed l there set old =
    subst (λ (t : Bool). IsPairWritten d t forced l.part.pair cs) (cut_alike (is_unmarked used) (is_new_to v) (told_so v used marks) l.tail)
    (changed l there set (told_so v used marks l.part.pair ∙ old))
