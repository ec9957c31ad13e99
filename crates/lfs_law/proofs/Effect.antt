-- What an edit does to the directories of a volume: to the uses of blocks, to the names of directories, to their number.
use Rattle.std.proofs.Common.{◌≡◌, ℕ, ◌+◌, List, [], ◌∷◌, ◌∙◌, arith}
use Rattle.std.specs.Prelude.{All, sum_by, count_by}
use Rattle.lfs_meta.specs.Body.{Pair}
use Rattle.lfs_fs.specs.declared.limits.Limits.{Limits}
use Rattle.lfs_fs.specs.Entry.{Entry, target}
use Rattle.lfs_fs.specs.Directory.{Part, Directory, entries, begins_at, thread}
use Rattle.lfs_fs.specs.Uses.{entry_uses, pair_uses, directory_uses}
use Rattle.lfs_fs.specs.Named.{leads_to, names_of}
use Rattle.lfs_fs.specs.State.{delta_of}
use Rattle.lfs_fs.specs.Sound.{StartsAtRoot, Rise, IsProper}

-- how often blocks are used, directories named, and how many directories begin at a pair
pub record Counts : Type 0 where
  pub uses : ℕ → ℕ
  pub names : Pair → ℕ
  pub directories : Pair → ℕ

-- those of nothing
abbrev pub none : Counts
none = record { uses = λ b. 0; names = λ k. 0; directories = λ k. 0 }

-- those of an entry
abbrev pub of_entry : Entry → Counts
of_entry e = record { uses = λ b. entry_uses b e; names = λ k. leads_to k (target e); directories = λ k. 0 }

-- those of an entry, and of parts that leave its directory
abbrev pub with_parts : Entry → List Part → Counts
with_parts e ps = record {
  uses = λ b. entry_uses b e + sum_by (pair_uses b) ps;
  names = λ k. leads_to k (target e);
  directories = λ k. 0;
}

-- those of a directory
abbrev pub of_directory : Directory → Counts
of_directory d = record { uses = λ b. directory_uses b d; names = λ k. names_of k d; directories = λ k. count_by (begins_at k) (d ∷ []) }

-- those of two
abbrev pub of_both : Counts → Counts → Counts
of_both c d = record {
  uses = λ b. c.uses b + d.uses b;
  names = λ k. c.names k + d.names k;
  directories = λ k. c.directories k + d.directories k;
}

-- es are ds less what is in `gone`, with what is in `came`: without subtraction, after + gone ≡ before + came
pub record Effect (gone came : Counts) (ds es : List Directory) : Type 0 where
  pub uses : (b : ℕ) → sum_by (directory_uses b) es + gone.uses b ≡ sum_by (directory_uses b) ds + came.uses b
  pub names : (k : Pair) → sum_by (names_of k) es + gone.names k ≡ sum_by (names_of k) ds + came.names k
  pub directories : (k : Pair) → count_by (begins_at k) es + gone.directories k ≡ count_by (begins_at k) ds + came.directories k
  pub starts : StartsAtRoot ds → StartsAtRoot es
  pub delta : delta_of (thread es) ≡ delta_of (thread ds)

-- one edit after another
pub in_a_row : (gone came later_gone later_came : Counts) (ds es fs : List Directory) → Effect gone came ds es
    → Effect later_gone later_came es fs
    → Effect (of_both gone later_gone) (of_both came later_came) ds fs
in_a_row gone came later_gone later_came ds es fs first second = record {
  uses = λ b. omega (arith, first.uses b, second.uses b);
  names = λ k. omega (arith, first.names k, second.names k);
  directories = λ k. omega (arith, first.directories k, second.directories k);
  starts = λ h. second.starts (first.starts h);
  delta = second.delta ∙ first.delta;
}

-- each directory's names rise, and its entries are within the limits
pub record AreGood (limits : Limits) (ds : List Directory) : Type 0 where
  pub order : All (λ d. Rise (entries d)) ds
  pub proper : All (λ d. All (IsProper limits) (entries d)) ds
