-- What is said of a usage error that is handed on, and of a value.
use Rattle.std.proofs.Common.{◌≡◌, ◌∙◌, Option, Some, None, subst, sym}
use Rattle.std.specs.Prelude.{Result, Ok, Err, IfErr, IfOk, IfSome, IsNone, option_map}
use Rattle.std.specs.Borrow.{Bor}
use Rattle.std.specs.Result.{IsErrAnd}
use Rattle.clap.specs.Matches.{first_value}
use Rattle.clap.specs.Words.{Text, first_of, rows_of}
use Rattle.clap.specs.declared.parser.matches.Found.{Found}
use Rattle.clap.proofs.WalkLemmas.{first_value-rows}
use Rattle.lfs_arguments.specs.declared.usage_error.UsageError.{UsageError}

pub handed_on : {T : Type 0} (r : Result T UsageError) (m : UsageError) (P : UsageError → Type 0) → IsErrAnd r (λ f. f ≡ m) → P m → IfErr r P
handed_on (Ok x) m P is p = tt
handed_on (Err f) m P is p = subst P (sym is) p

pub ok_weaker : {T E : Type 0} (r : Result T E) (P Q : T → Type 0) → ((x : T) → P x → Q x) → IfOk r P → IfOk r Q
ok_weaker (Ok x) P Q weaker p = weaker x p
ok_weaker (Err e) P Q weaker p = tt

pub some_weaker : {T : Type 0} (o : Option T) (P Q : T → Type 0) → ((x : T) → P x → Q x) → IfSome o P → IfSome o Q
some_weaker (Some x) P Q weaker p = weaker x p
some_weaker None P Q weaker p = tt

-- a text that isn't there
pub none_there : (f : Found) (id : Text) (o : Option (Bor Text)) → option_map (λ s. s.now) o ≡ first_value f id → IsNone o
    → None ≡ first_of id (rows_of f)
none_there f id None gives none = gives ∙ first_value-rows f id
none_there f id (Some x) gives none = absurd (cc)
