-- What sends, one after another, send of a text.
use Rattle.std.proofs.Common.{◌≡◌, ◌<◌, ◌≤◌, ◌+◌, ℕ, List, ◌∷◌, ◌++◌, Option, take, length, sym, ap, subst, ◌∙◌, append_assoc, arith}
use Rattle.std.proofs.Common.{length-append}
use Rattle.std.proofs.Math.Seq.{take-append-add}
use Rattle.std.proofs.lemmas.List.{take-append-le}
use Rattle.std.specs.List.{concat}
use Rattle.std.specs.Io.KnownBytes.{Appends}
use Rattle.lfs_sink.specs.Send.{SendsBeginning}
use Rattle.lfs_sink.proofs.SendLemmas.{appends_then}

-- one more slice goes out
pub slice_sent : (a b c : Option (List ℕ)) (text front slice : List ℕ) (later : List (List ℕ)) → front ++ concat (slice ∷ later) ≡ text
    → Appends a b front → Appends b c slice → (more : List ℕ) × (more ++ concat later ≡ text) × Appends a c more
slice_sent a b c text front slice later is p q =
    (front ++ slice, append_assoc front slice (concat later) ∙ is, appends_then a b c front slice p q)

-- or a beginning of it
pub slice_cut : (a b c : Option (List ℕ)) (text front slice : List ℕ) (later : List (List ℕ)) → front ++ concat (slice ∷ later) ≡ text
    → Appends a b front → SendsBeginning b c slice → SendsBeginning a c text
slice_cut a b c text front slice later is p (n, within, q) =
    let fits : n ≤ length slice = omega (arith, within) in
    let complete : take (length front + n) (front ++ (slice ++ concat later)) ≡ front ++ take n slice =
    take-append-add front (slice ++ concat later) n ∙ ap (λ (l : List ℕ). front ++ l) (take-append-le n slice (concat later) fits) in
    let long : length front + n < length text =
    omega (arith, within, ap length (sym is), length-append front (slice ++ concat later), length-append slice (concat later)) in
    (length front + n, long, subst (Appends a c) (sym complete ∙ ap (take (length front + n)) is) (appends_then a b c front (take n slice) p q))
