-- What writes, one after another, send of a text, and what is sent of texts that stand one behind another.
use Rattle.std.proofs.Common.{◌≡◌, ℕ, ◌+◌, Bool, true, false, List, [], ◌++◌, Option, None, Some, length, take, drop, sym, ap, subst, ◌∙◌, arith}
use Rattle.std.proofs.Common.{append_assoc, append-nil, length-append}
use Rattle.std.proofs.Math.Seq.{take-add, take-append-add}
use Rattle.std.proofs.lemmas.List.{take-append-le}
use Rattle.std.specs.Io.KnownBytes.{Appends}
use Rattle.lfs_sink.specs.Send.{Sends, SendsBeginning}

pub appends_none : (a : Option (List ℕ)) → Appends a a []
appends_none None = tt
appends_none (Some xs) = sym (append-nil xs)

pub appends_then : (a b c : Option (List ℕ)) (first second : List ℕ) → Appends a b first → Appends b c second → Appends a c (first ++ second)
appends_then None b c first second p q = tt
appends_then (Some xs) None c first second p q = absurd p
appends_then (Some xs) (Some ys) None first second p q = absurd q
appends_then (Some xs) (Some ys) (Some zs) first second p q = q ∙ ap (λ l. l ++ second) p ∙ append_assoc xs first second

-- one more write, of the bytes that are left
pub sends_more : (a b c : Option (List ℕ)) (text rest : List ℕ) (n k : ℕ) → rest ≡ drop n text → Appends a b (take n text)
    → Appends b c (take k rest) → Appends a c (take (n + k) text)
sends_more a b c text rest n k e p q =
    let joined = appends_then a b c (take n text) (take k rest) p q in
    let complete : take n text ++ take k rest ≡ take (n + k) text = ap (λ l. take n text ++ take k l) e ∙ sym (take-add n k text) in
    subst (Appends a c) complete joined

-- a beginning of a text is one of the text with another one behind it
pub sends_front : (a b : Option (List ℕ)) (first second : List ℕ) → SendsBeginning a b first → SendsBeginning a b (first ++ second)
sends_front a b first second (n, less, sent) =
    let longer : length (first ++ second) ≡ length first + length second = length-append first second in
    let same : take n (first ++ second) ≡ take n first = take-append-le n first second (omega (arith, less)) in
    (n, omega (arith, less, longer), subst (Appends a b) (sym same) sent)

-- behind a text that went out, another one goes out, or a beginning of it
pub sends_then : (complete : Bool) (a b c : Option (List ℕ)) (first second : List ℕ) → Appends a b first → Sends complete b c second
    → Sends complete a c (first ++ second)
sends_then true a b c first second front sent = appends_then a b c first second front sent
sends_then false a b c first second front (n, less, sent) =
    let longer : length (first ++ second) ≡ length first + length second = length-append first second in
    let same : take (length first + n) (first ++ second) ≡ first ++ take n second = take-append-add first second n in
    (length first + n, omega (arith, less, longer), subst (Appends a c) (sym same) (appends_then a b c first (take n second) front sent))
