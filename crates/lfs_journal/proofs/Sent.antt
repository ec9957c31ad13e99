-- What goes out of texts that stand one behind another.
use Rattle.std.proofs.Common.{◌≡◌, ℕ, ◌+◌, ◌<◌, false, List, [], ◌∷◌, ◌++◌, Option, length, take, drop, get_or, sym, ap, subst, ◌∙◌, append-nil, Bool}
use Rattle.std.specs.Io.KnownBytes.{Appends}
use Rattle.std.specs.List.{flat_map}
use Rattle.std.proofs.lemmas.Grind.{flat_map-append}
use Rattle.std.proofs.lemmas.List.{take-append-drop, take_more}
use Rattle.lfs_sink.specs.Send.{Sends, SendsBeginning}
use Rattle.lfs_sink.proofs.SendLemmas.{appends_then, sends_front, sends_then}

-- the texts of one element more
texts_more : {X : Type 0} (f : X → List ℕ) (xs : List X) (i : ℕ) (x : X) → i < length xs → x ≡ get_or xs i x
    → flat_map f (take (i + 1) xs) ≡ flat_map f (take i xs) ++ f x
texts_more {X} f xs i x less is =
    ap (flat_map f) (take_more xs i x less) ∙ ap (λ (y : X). flat_map f (take i xs ++ y ∷ [])) (sym is) ∙ flat_map-append f (take i xs) (x ∷ [])
    ∙ ap (λ (l : List ℕ). flat_map f (take i xs) ++ l) (append-nil (f x))

-- behind the texts of some elements, that of one more went out
pub sent_more : {X : Type 0} (f : X → List ℕ) (a b c : Option (List ℕ)) (xs : List X) (i : ℕ) (x : X) → i < length xs
    → x ≡ get_or xs i x → Appends a b (flat_map f (take i xs)) → Appends b c (f x) → Appends a c (flat_map f (take (i + 1) xs))
sent_more {X} f a b c xs i x less is before sent =
    subst (Appends a c) (sym (texts_more f xs i x less is)) (appends_then a b c (flat_map f (take i xs)) (f x) before sent)

-- behind the texts of some elements, a beginning of one more went out
pub sent_partly : {X : Type 0} (f : X → List ℕ) (a b c : Option (List ℕ)) (xs : List X) (i : ℕ) (x : X) → i < length xs
    → x ≡ get_or xs i x → Appends a b (flat_map f (take i xs)) → SendsBeginning b c (f x) → SendsBeginning a c (flat_map f xs)
sent_partly {X} f a b c xs i x less is before sent =
    let front = flat_map f (take (i + 1) xs) in
    let back = flat_map f (drop (i + 1) xs) in
    let complete : flat_map f xs ≡ front ++ back =
    ap (flat_map f) (sym (take-append-drop (i + 1) xs)) ∙ flat_map-append f (take (i + 1) xs) (drop (i + 1) xs) in
    let partly : SendsBeginning a c front =
    subst (SendsBeginning a c) (sym (texts_more f xs i x less is)) (sends_then false a b c (flat_map f (take i xs)) (f x) before sent) in
    subst (SendsBeginning a c) (sym complete) (sends_front a c front back partly)

-- behind one text, a beginning of the next of two went out
pub second_partly : (a b c : Option (List ℕ)) (one two three : List ℕ) → Appends a b one → SendsBeginning b c two
    → SendsBeginning a c (one ++ two ++ three)
second_partly a b c one two three first second =
    sends_front a c (one ++ two) three (sends_then false a b c one two first second)

-- behind two texts, a third one went out, or a beginning of it
pub third_sent : (complete : Bool) (a b c d : Option (List ℕ)) (one two three : List ℕ) → Appends a b one → Appends b c two
    → Sends complete c d three → Sends complete a d (one ++ two ++ three)
third_sent complete a b c d one two three first second third =
    sends_then complete a c d (one ++ two) three (appends_then a b c one two first second) third
