-- What differs goes out row by row.
use Rattle.std.proofs.Common.{◌≡◌, ◌⊎◌, inl, inr, ◌==◌, ◌&&◌, ◌||◌, ℕ, suc, arith, not, Bool, true}
use Rattle.std.proofs.Common.{false, List, [], ◌∷◌, ◌++◌, Option, length, refl, sym, ap, subst, ◌∙◌, append-nil}
use Rattle.std.proofs.lemmas.Bool.{eqb-true}
use Rattle.std.proofs.lemmas.Bool.Decides.{nat_tests}
use Rattle.std.proofs.lemmas.List.{nil_from_length}
use Rattle.lfs_block.specs.Disk.{Disk}
use Rattle.lfs_fs.specs.Row.{Row}
use Rattle.lfs_listing.specs.Buffer.{SendsFront}
use Rattle.lfs_json.specs.declared.form.Form.{Form}
use Rattle.lfs_listing.specs.Difference.{difference, is_some_text}
use Rattle.lfs_sink.specs.Send.{SendsBeginning}
use Rattle.lfs_listing.specs.Unsent.{SendsListing}
use Rattle.lfs_listing.specs.declared.unsent.Unsent.{Unsent}
use Rattle.lfs_listing.specs.declared.unsent.Unsent.TheVariants.{CannotWrite}
use Rattle.lfs_listing.proofs.BufferLemmas.{IsUnderWay, front_goes}
use Rattle.lfs_listing.proofs.UnsentLemmas.{failed}
use Rattle.std.specs.Result.{result_err}
use Rattle.std.proofs.Common.{Result, IsErrAnd}

-- more waits, and less is to come
pub same_waits : (old new : Option (List ℕ)) (waits rest longer less complete : List ℕ) → IsUnderWay old new waits rest complete
    → longer ++ less ≡ waits ++ rest → IsUnderWay old new longer less complete
same_waits old new waits rest longer less complete h same = record {
  gone = h.gone;
  sent = h.sent;
  all = ap (λ (l : List ℕ). h.gone ++ l) same ∙ h.all;
}

-- and a beginning of what waits goes out
pub next_goes : (old mid new : Option (List ℕ)) (waits rest longer less after complete : List ℕ) → IsUnderWay old mid waits rest complete
    → longer ++ less ≡ waits ++ rest → SendsFront mid new longer after → IsUnderWay old new after less complete
next_goes old mid new waits rest longer less after complete h same front =
    front_goes old mid new longer after less complete (same_waits old mid waits rest longer less complete h same) front

-- or the sink fails
pub next_fails : {A : Type 0} (r : Result A Unsent) (old mid new : Option (List ℕ)) (waits rest longer less complete : List ℕ)
    → IsUnderWay old mid waits rest complete → longer ++ less ≡ waits ++ rest → IsErrAnd r (λ e. e ≡ CannotWrite)
    → SendsBeginning mid new longer → SendsListing (result_err r) old new complete
next_fails r old mid new waits rest longer less complete h same is sent =
    failed r old mid new longer less complete is (same_waits old mid waits rest longer less complete h same) sent

both : (a b : Bool) → (a && b) ≡ true → (a ≡ true) × (b ≡ true)
both true b are = (refl, are)
both false b are = (cc, cc)

-- no rows are left
pub none_differ : (form : Form) (d e : Disk) (left right : List Row) → (length left == 0 && length right == 0) ≡ true → difference form d left e right ≡ []
none_differ form d e left right none =
    let are = both (length left == 0) (length right == 0) none in
    let first : left ≡ [] = nil_from_length left (eqb-true (length left) 0 are.0) in
    let second : right ≡ [] = nil_from_length right (eqb-true (length right) 0 are.1) in
    ap (λ (rows : List Row). difference form d rows e right) first ∙ ap (λ (rows : List Row). difference form d [] e rows) second

-- ---- whether anything differs

pub some_length : (text : List ℕ) → not (length text == 0) ≡ is_some_text text
some_length [] = refl
some_length (byte ∷ bytes) = ap not (longer (length bytes))
  where
    longer : (n : ℕ) → (suc n == 0) ≡ false
    longer n = grind (arith, nat_tests)

some_of : (a b : List ℕ) → is_some_text (a ++ b) ≡ (is_some_text a || is_some_text b)
some_of [] b = refl
some_of (x ∷ a) b = refl

joined : (told gone waits less : Bool) → ((told || (gone || waits)) || (waits || less)) ≡ (told || ((gone || waits) || less))
joined true gone waits less = refl
joined false true waits less = refl
joined false false true less = refl
joined false false false less = refl

held : (told gone waits : Bool) → waits ≡ true → (told || (gone || waits)) ≡ true
held true gone waits is = refl
held false true waits is = refl
held false false waits is = is

twice : (front rest : Bool) → (front || rest) ≡ (front || (front || rest))
twice true rest = refl
twice false rest = refl

-- what is known so far of a whole text: that some of it was told, or some waits or is to come; and what waits is told
pub record IsTold (told : Bool) (waits rest complete : List ℕ) : Type 0 where
  pub some : is_some_text complete ≡ (told || is_some_text (waits ++ rest))
  pub waiting : is_some_text waits ≡ true → told ≡ true

told_on : (mid new : Option (List ℕ)) (told : Bool) (waits rest longer less after complete : List ℕ) → IsTold told waits rest complete
    → longer ++ less ≡ waits ++ rest → SendsFront mid new longer after → IsTold (told || is_some_text longer) after less complete
told_on mid new told waits rest longer less after complete h same (gone, sent, is) =
    let parts : is_some_text longer ≡ (is_some_text gone || is_some_text after) = ap is_some_text is ∙ some_of gone after in
    record {
      some = h.some ∙ ap (λ (l : List ℕ). told || is_some_text l) (sym same) ∙ ap (λ (b : Bool). told || b) (some_of longer less)
          ∙ ap (λ (b : Bool). told || (b || is_some_text less)) parts ∙ sym (joined told (is_some_text gone) (is_some_text after) (is_some_text less))
          ∙ ap (λ (b : Bool). (told || b) || (is_some_text after || is_some_text less)) (sym parts)
          ∙ ap (λ (b : Bool). (told || is_some_text longer) || b) (sym (some_of after less));
      waiting = λ some. ap (λ (b : Bool). told || b) parts ∙ held told (is_some_text gone) (is_some_text after) some;
    }

-- more waits, and a beginning of it goes out
pub next_told : (mid new : Option (List ℕ)) (told now : Bool) (waits rest longer read less after complete : List ℕ) → IsTold told waits rest complete
    → longer ++ less ≡ waits ++ rest → SendsFront mid new longer after → now ≡ (told || is_some_text read) → read ≡ longer
    → IsTold now after less complete
next_told mid new told now waits rest longer read less after complete h same front now_is read_is =
    subst (λ (b : Bool). IsTold b after less complete) (sym (now_is ∙ ap (λ (l : List ℕ). told || is_some_text l) read_is))
    (told_on mid new told waits rest longer less after complete h same front)

when_told : (told waits : Bool) → (waits ≡ true → told ≡ true) → told ≡ (told || waits)
when_told true waits h = refl
when_told false true h = h refl
when_told false false h = refl

-- nothing is to come
pub all_told : (told : Bool) (waits rest complete : List ℕ) → IsTold told waits rest complete → rest ≡ [] → told ≡ is_some_text complete
all_told told waits rest complete h none =
    when_told told (is_some_text waits) h.waiting
    ∙ ap (λ (l : List ℕ). told || is_some_text l) (sym (append-nil waits)) ∙ ap (λ (l : List ℕ). told || is_some_text (waits ++ l)) (sym none)
    ∙ sym h.some

-- what is there decides, where there is a byte of it, or nothing is to come
pub all_known : (text rest complete : List ℕ) → text ++ rest ≡ complete → (is_some_text text ≡ true) ⊎ (rest ≡ [])
    → is_some_text text ≡ is_some_text complete
all_known text rest complete is (inl some) = some ∙ ap (λ (b : Bool). b || is_some_text rest) (sym some) ∙ sym (some_of text rest) ∙ ap is_some_text is
all_known text rest complete is (inr none) =
    ap is_some_text (sym (append-nil text)) ∙ ap (λ (l : List ℕ). is_some_text (text ++ l)) (sym none) ∙ ap is_some_text is
