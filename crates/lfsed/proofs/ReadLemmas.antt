-- How words end that are read as they are, and with `--` before the first stray one.
use Rattle.std.proofs.Common.{◌≡◌, ◌∙◌, ℕ, List, Option, Some, None, IfSome, IsNone, MatchOption, inl, inr, refl, sym, ap, subst, true}
use Rattle.clap.specs.Words.{HasKind, IsAmong, Kinds, Row, Text, fault_of, kind_of, subcommand_rows_of}
use Rattle.clap.specs.declared.error.Error.{Error}
use Rattle.clap.specs.declared.error.kind.ErrorKind.TheVariants.{OutOfMemory}
use Rattle.clap.specs.declared.parser.matches.ArgMatches.{ArgMatches}
use Rattle.lfs_host.specs.Scene.{KeepsAll, Scene}
use Rattle.lfs_grammar.specs.Grammar.{IsMatched, IsTaken, grammar}
use Rattle.lfs_grammar.specs.Hyphens.{dashed, names_files_plainly}
use Rattle.lfs_open.specs.Stated.{IsStatedSize}
use Rattle.lfs_arguments.specs.declared.auto_file.AutoFile.{AutoFile}
use Rattle.lfsed.specs.Words.{EndsNamed, EndsWords, Looks}

-- words that are refused with an error other than want of memory aren't taken
pub not_taken : (words : List Text) (e : Error) → HasKind (fault_of grammar words) e → (kind_of e ≡ OutOfMemory → ⊥) → IsTaken words → ⊥
not_taken words e (inl memory) other taken = other memory
not_taken words e (inr among) other taken = subst (λ (kinds : Kinds). IsAmong (kind_of e) kinds) taken among

pub ends_as_read : (words : List Text) (m : ArgMatches) (old new : Scene) (status : ℕ) → IsMatched words m
    → EndsNamed (subcommand_rows_of m) old new status → EndsWords words old new status
ends_as_read words m old new status matched ends =
    inl (words, inl (matched.taken, refl), subst (λ (named : Option (Text × List Row)). EndsNamed named old new status) matched.named ends)

pub ends_as_dashed : (words read : List Text) (m : ArgMatches) (old new : Scene) (status : ℕ) → (IsTaken words → ⊥) → read ≡ dashed words
    → IsMatched read m → names_files_plainly (subcommand_rows_of m) ≡ true → EndsNamed (subcommand_rows_of m) old new status
    → EndsWords words old new status
ends_as_dashed words read m old new status refused is matched plain ends =
    inl (
      read,
      inr (refused, is, matched.taken, ap names_files_plainly (sym matched.named) ∙ plain),
      subst (λ (named : Option (Text × List Row)). EndsNamed named old new status) matched.named ends,
    )

-- a look at the file that is named, or at none
pub looks : (says : AutoFile → Type 0) (none : ℕ) (file : Option AutoFile) (old new : Scene) (size : ℕ) → IfSome file says
    → (IsNone file → (other : AutoFile) → says other → ⊥) → KeepsAll old new
    → MatchOption file (size ≡ none) (λ f. IsStatedSize old new f.name.now f.place size) → Looks says none old new size
looks says none (Some f) old new size is unsaid keeps stated = (keeps, inl (f, is, stated))
looks says none None old new size is unsaid keeps stated = (keeps, inr (unsaid refl, stated))
