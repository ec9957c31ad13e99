-- A text that goes out piece by piece.
use Rattle.std.proofs.Common.{◌≡◌, ℕ, ◌+◌, ◌≤◌, List, [], ◌++◌, Option, length, take, refl, sym, ap, subst, ◌∙◌, append-nil, append_assoc}
use Rattle.std.proofs.Common.{length-append, arith}
use Rattle.std.proofs.Math.Seq.{take-append_seam, take-append-add}
use Rattle.std.proofs.lemmas.List.{take-append-le}
use Rattle.std.specs.Io.KnownBytes.{Appends}
use Rattle.lfs_sink.specs.Send.{SendsBeginning}
use Rattle.lfs_listing.specs.Buffer.{SendsFront}
use Rattle.lfs_sink.proofs.SendLemmas.{appends_then, appends_none}

-- of a whole text something has gone out, something waits, and the rest is to come
pub record IsUnderWay (old new : Option (List ℕ)) (waits rest complete : List ℕ) : Type 0 where
  pub gone : List ℕ
  pub sent : Appends old new gone
  pub all : gone ++ (waits ++ rest) ≡ complete

pub under_way : (old : Option (List ℕ)) (complete : List ℕ) → IsUnderWay old old [] complete complete
under_way old complete = record { gone = []; sent = appends_none old; all = refl }

-- more waits
pub more_waits : (old new : Option (List ℕ)) (waits more rest longer complete : List ℕ) → IsUnderWay old new waits (more ++ rest) complete
    → longer ≡ waits ++ more → IsUnderWay old new longer rest complete
more_waits old new waits more rest longer complete h is = record {
  gone = h.gone;
  sent = h.sent;
  all = ap (λ l. h.gone ++ (l ++ rest)) is ∙ ap (λ l. h.gone ++ l) (append_assoc waits more rest) ∙ h.all;
}

-- a beginning of what waits goes out
pub front_goes : (old mid new : Option (List ℕ)) (waited waits rest complete : List ℕ) → IsUnderWay old mid waited rest complete
    → SendsFront mid new waited waits → IsUnderWay old new waits rest complete
front_goes old mid new waited waits rest complete h (front, sent, is) = record {
  gone = h.gone ++ front;
  sent = appends_then old mid new h.gone front h.sent sent;
  all = append_assoc h.gone front (waits ++ rest) ∙ ap (λ l. h.gone ++ l) (sym (append_assoc front waits rest))
      ∙ ap (λ l. h.gone ++ (l ++ rest)) (sym is) ∙ h.all;
}

-- all that waits goes out, and nothing is to come
pub all_goes : (old mid new : Option (List ℕ)) (waits complete : List ℕ) → IsUnderWay old mid waits [] complete → Appends mid new waits
    → Appends old new complete
all_goes old mid new waits complete h sent =
    let all : h.gone ++ waits ≡ complete = ap (λ l. h.gone ++ l) (sym (append-nil waits)) ∙ h.all in
    subst (Appends old new) all (appends_then old mid new h.gone waits h.sent sent)

-- a beginning of what waits goes out, and no more
pub beginning_goes : (old mid new : Option (List ℕ)) (waits rest complete : List ℕ) → IsUnderWay old mid waits rest complete
    → SendsBeginning mid new waits → SendsBeginning old new complete
beginning_goes old mid new waits rest complete h (n, within, sent) =
    let few : n ≤ length waits = omega arith in
    let cut : h.gone ++ take n waits ≡ take (length h.gone + n) complete =
    ap (λ l. h.gone ++ l) (sym (take-append-le n waits rest few))
    ∙ sym (take-append-add h.gone (waits ++ rest) n) ∙ ap (take (length h.gone + n)) h.all in (
      length h.gone + n,
      omega (arith, length-append h.gone (waits ++ rest), length-append waits rest, ap length h.all),
      subst (Appends old new) cut (appends_then old mid new h.gone (take n waits) h.sent sent),
    )

-- nothing more goes out
pub nothing_goes : (old new : Option (List ℕ)) (waits rest complete : List ℕ) → IsUnderWay old new waits rest complete
    → (n : ℕ) × (n ≤ length complete) × Appends old new (take n complete)
nothing_goes old new waits rest complete h = (
  length h.gone,
  omega (arith, length-append h.gone (waits ++ rest), ap length h.all),
  subst (Appends old new) (sym (take-append_seam h.gone (waits ++ rest)) ∙ ap (take (length h.gone)) h.all) h.sent,
)
