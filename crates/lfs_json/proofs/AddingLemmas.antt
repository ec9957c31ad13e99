-- Tokens that are added one after another.
use Rattle.std.proofs.Common.{◌≡◌, ℕ, Bool, true, false, if◌then◌else◌, List, [], ◌∷◌, ◌++◌, refl, ap, sym, ◌∙◌, append_assoc, append-nil, flat_map}
use Rattle.std.proofs.lemmas.Grind.{flat_map-append}
use Rattle.std.specs.Str.{IsUtf8, is_utf8}
use Rattle.std.proofs.lemmas.Str.{IsUtf8-from_is_utf8, is_utf8-from_IsUtf8}
use Rattle.json.specs.Token.{Token}
use Rattle.json.specs.Json.{Json, string}
use Rattle.json.specs.Tree as tree
use Rattle.json.specs.Written.{Written}
use Rattle.lfs_json.specs.Object.{Member, members_of, items_of, object_of, array_of, bytes_member, digits}
use Rattle.lfs_json.specs.Written.{member_tokens, members_tokens, begun, Adds}

-- none is added
pub adds_none : (w : Written) → Adds w w []
adds_none w = record { before = refl; tokens = sym (append-nil w.tokens) }

-- more are added behind them
pub adds_more : (a b c : Written) (ts us : List Token) → Adds a b ts → Adds b c us → Adds a c (ts ++ us)
adds_more a b c ts us h k = record {
  before = k.before ∙ h.before;
  tokens = k.tokens ∙ ap (λ (l : List Token). l ++ us) h.tokens ∙ append_assoc a.tokens ts us;
}

-- ---- members

-- one member
pub adds_one : (a b : Written) (m : Member) → Adds a b (member_tokens m) → Adds a b (members_tokens (m ∷ []))
adds_one a b m h = record {
  before = h.before;
  tokens = h.tokens ∙ ap (λ (l : List Token). a.tokens ++ l) (sym (append-nil (member_tokens m)));
}

-- one, and others behind it
pub adds_first : (a b c : Written) (m : Member) (ms : List Member) → Adds a b (member_tokens m) → Adds b c (members_tokens ms)
    → Adds a c (members_tokens (m ∷ ms))
adds_first a b c m ms h k = adds_more a b c (member_tokens m) (members_tokens ms) h k

-- some, and others behind them
pub adds_members : (a b c : Written) (ms ns : List Member) → Adds a b (members_tokens ms) → Adds b c (members_tokens ns)
    → Adds a c (members_tokens (ms ++ ns))
adds_members a b c ms ns h k = record {
  before = k.before ∙ h.before;
  tokens = (adds_more a b c (members_tokens ms) (members_tokens ns) h k).tokens
      ∙ ap (λ (l : List Token). a.tokens ++ l) (sym (flat_map-append member_tokens ms ns));
}

-- a line that is begun has those that are added
pub begun_adds : (a b : Written) (before : List ℕ) (ms : List Member) → a.before ≡ before → a.tokens ≡ begun [] → Adds a b (members_tokens ms)
    → (b.before ≡ before) × (b.tokens ≡ begun ms)
begun_adds a b before ms stood fresh h = (h.before ∙ stood, h.tokens ∙ ap (λ (l : List Token). l ++ members_tokens ms) fresh)

-- ---- objects and arrays

-- an object's tokens by its members
pub members_end : (ms : List Member) → tree.members_tokens (members_of ms) ≡ members_tokens ms ++ Token.end_object ∷ []
members_end [] = refl
members_end (m ∷ ms) =
    ap (λ (l : List Token). Token.key m.0 ∷ (tree.json_tokens m.1 ++ l)) (members_end ms)
    ∙ sym (append_assoc (member_tokens m) (members_tokens ms) (Token.end_object ∷ []))

pub object_tokens : (ms : List Member) → tree.json_tokens (object_of ms) ≡ begun ms ++ Token.end_object ∷ []
object_tokens ms = ap (λ (l : List Token). Token.begin_object ∷ l) (members_end ms)

-- an array's by its values
items_end : (js : List Json) → tree.items_tokens (items_of js) ≡ flat_map tree.json_tokens js ++ Token.end_array ∷ []
items_end [] = refl
items_end (j ∷ js) =
    ap (λ (l : List Token). tree.json_tokens j ++ l) (items_end js)
    ∙ sym (append_assoc (tree.json_tokens j) (flat_map tree.json_tokens js) (Token.end_array ∷ []))

pub array_tokens : (js : List Json) → tree.json_tokens (array_of js) ≡ Token.begin_array ∷ (flat_map tree.json_tokens js ++ Token.end_array ∷ [])
array_tokens js = ap (λ (l : List Token). Token.begin_array ∷ l) (items_end js)

-- ---- bytes that are text, and others

not_true : (b : Bool) → (b ≡ true → ⊥) → b ≡ false
not_true true h = absurd (h refl)
not_true false h = refl

pub text_member : (name digits_name bytes : List ℕ) → IsUtf8 bytes → bytes_member name digits_name bytes ≡ (name, string bytes)
text_member name digits_name bytes h =
    ap (λ (b : Bool). if b then (name, string bytes) else (digits_name, digits bytes)) (is_utf8-from_IsUtf8 bytes h)

pub digits_member : (name digits_name bytes : List ℕ) → ¬ IsUtf8 bytes → bytes_member name digits_name bytes ≡ (digits_name, digits bytes)
digits_member name digits_name bytes h =
    ap (λ (b : Bool). if b then (name, string bytes) else (digits_name, digits bytes))
    (not_true (is_utf8 bytes) (λ e. h (IsUtf8-from_is_utf8 bytes e)))
