-- Words that a host can have.
use Rattle.std.proofs.Common.{◌≡◌, ◌≢◌, ℕ, ◌<◌, ◌≤◌, ◌&&◌, ◌==◌, ◌/◌, ◌%◌, ◌⊎◌, inl, inr, Bool, true, false, List, [], ◌∷◌, ◌++◌, length, append_assoc, refl, ap, sym, ◌∙◌, arith}
use Rattle.std.specs.Prelude.{not, flat_map, nat_le, nat_lt, if◌then◌else◌, All, slice_index, codes}
use Rattle.std.specs.Str.{IsUtf8, is_utf8}
use Rattle.std.proofs.lemmas.Bool.{and_parts}
use Rattle.std.proofs.lemmas.Grind.{flat_map-append}
use Rattle.std.proofs.lemmas.Bool.Decides.{nat_tests}
use Rattle.std.proofs.lemmas.Str.{IsUtf8-from_ascii, IsUtf8-from_is_utf8, is_utf8-from_IsUtf8}
use Rattle.std.proofs.lemmas.Str.Ascii.{IsAscii-from_all}
use Rattle.std.proofs.lemmas.List.Elements.{All-append, All-cons, All-get_or, All-head, All-nil, All-push, All-tail, All-weaker}
use Rattle.hex.specs.Hex.{encode_lower, encode_with, lower_digits}
use Rattle.lfs_extract.specs.HostNames.{IsHostName, is_host_name}
use Rattle.lfs_extract.specs.PathBelow.{host_name, name_in}
use Rattle.lfs_extract.proofs.HostNameLemmas.{all_pass, is_host_name-decides}
use Rattle.lfs_extract.proofs.PathBelowLemmas.{name_below, name_of_root}
use Rattle.lfs_fs.specs.Path.{Path}
use Rattle.lfs_listing.specs.Listing.{shown_byte}
use Rattle.lfs_meta.specs.Name.{Name, IsName, is_name}
use Rattle.lfs_meta.proofs.NameLemmas.{is_name-decides}
use Rattle.lfs_salvage.specs.Below.{IsNameBelow}
use Rattle.lfs_salvage.specs.Word.{is_own_word, other_word, host_word}

-- ---- bytes as they are shown

-- a byte of ASCII that a host's name may hold
pub record IsPlain (b : ℕ) : Type 0 where
  pub ascii : b < 128
  pub some' : b ≢ 0
  pub no_slash : b ≢ 47

abbrev pub is_plain : ℕ → Bool
is_plain b = nat_lt b 128 && not (b == 0) && not (b == 47)

pub plain_by : (b : ℕ) → is_plain b ≡ true → IsPlain b
plain_by b is = record { ascii = grind (arith, nat_tests); some' = grind (arith, nat_tests); no_slash = grind (arith, nat_tests) }

digits_plain : All IsPlain lower_digits
digits_plain = All-weaker (λ (b : ℕ). is_plain b ≡ true) IsPlain plain_by lower_digits (all_pass is_plain lower_digits refl)

digit_plain : (n : ℕ) → n < 16 → IsPlain (slice_index lower_digits n)
digit_plain n few = All-get_or IsPlain lower_digits n 0 few digits_plain

-- it is shown as itself, or as an escape
shown_cases : (b : ℕ) → ((shown_byte b ≡ b ∷ []) × (32 ≤ b) × (b ≤ 126)) ⊎ (shown_byte b ≡ 92 ∷ 120 ∷ encode_lower (b ∷ []))
shown_cases b = by (nat_le 32 b && nat_le b 126 && not (b == 92)) refl where
  by : (t : Bool) → (nat_le 32 b && nat_le b 126 && not (b == 92)) ≡ t
      → ((shown_byte b ≡ b ∷ []) × (32 ≤ b) × (b ≤ 126)) ⊎ (shown_byte b ≡ 92 ∷ 120 ∷ encode_lower (b ∷ []))
  by true is = inl (ap (λ (t : Bool). if t then b ∷ [] else 92 ∷ 120 ∷ encode_lower (b ∷ [])) is, grind (arith, nat_tests), grind (arith, nat_tests))
  by false is = inr (ap (λ (t : Bool). if t then b ∷ [] else 92 ∷ 120 ∷ encode_lower (b ∷ [])) is)

escape_is : (b : ℕ) → encode_lower (b ∷ []) ≡ slice_index lower_digits (b / 16) ∷ slice_index lower_digits (b % 16) ∷ []
unfolding encode_with
escape_is b = refl

shown_plain : (b : ℕ) → b < 256 → b ≢ 47 → All IsPlain (shown_byte b)
shown_plain b small other = elim (shown_cases b) [
  | inl h ↦ rw h.0 (All-cons IsPlain b [] (record { ascii = omega arith; some' = λ z. omega arith; no_slash = other }) (All-nil IsPlain))
  | inr h ↦
      let high : ℕ = slice_index lower_digits (b / 16) in
      let low : ℕ = slice_index lower_digits (b % 16) in
      rw (h, escape_is b) (All-cons IsPlain 92 (120 ∷ high ∷ low ∷ []) (plain_by 92 refl)
      (All-cons IsPlain 120 (high ∷ low ∷ []) (plain_by 120 refl)
      (All-cons IsPlain high (low ∷ []) (digit_plain (b / 16) (omega arith))
      (All-cons IsPlain low [] (digit_plain (b % 16) (omega arith)) (All-nil IsPlain)))))
]

-- bytes of a name
abbrev pub AreSmall : List ℕ → Type 0
AreSmall n = All (λ b. b < 256) n

all_plain : (n : Name) → AreSmall n → All (λ b. b ≢ 47) n → All IsPlain (flat_map shown_byte n)
all_plain [] small other = All-nil IsPlain
all_plain (b ∷ n) small other =
    All-append IsPlain (shown_byte b) (flat_map shown_byte n)
    (shown_plain b (All-head (λ (x : ℕ). x < 256) b n small) (All-head (λ (x : ℕ). x ≢ 47) b n other))
    (all_plain n (All-tail (λ (x : ℕ). x < 256) b n small) (All-tail (λ (x : ℕ). x ≢ 47) b n other))

-- ---- dots

nothing_shown : (n : Name) → flat_map shown_byte n ≡ [] → n ≡ []
nothing_shown [] is = refl
nothing_shown (b ∷ n) is = elim (shown_cases b) [
  | inl h ↦ absurd (let e : b ∷ flat_map shown_byte n ≡ [] = ap (λ (x : List ℕ). x ++ flat_map shown_byte n) (sym h.0) ∙ is in cc)
  | inr h ↦ absurd (let e : 92 ∷ 120 ∷ encode_lower (b ∷ []) ++ flat_map shown_byte n ≡ [] = ap (λ (x : List ℕ). x ++ flat_map shown_byte n) (sym h) ∙ is in cc)
]

-- what is shown as a dot and more begins with a dot
dot_shown : (b : ℕ) (n : Name) (more : List ℕ) → flat_map shown_byte (b ∷ n) ≡ 46 ∷ more → (b ≡ 46) × (flat_map shown_byte n ≡ more)
dot_shown b n more is = elim (shown_cases b) [
  | inl h ↦ (let e : b ∷ flat_map shown_byte n ≡ 46 ∷ more = ap (λ (x : List ℕ). x ++ flat_map shown_byte n) (sym h.0) ∙ is in (cc, cc))
  | inr h ↦ absurd (let e : 92 ∷ 120 ∷ encode_lower (b ∷ []) ++ flat_map shown_byte n ≡ 46 ∷ more =
      ap (λ (x : List ℕ). x ++ flat_map shown_byte n) (sym h) ∙ is in
      let first : ◌≡◌ {A = ℕ} 92 46 = cc in cc)
]

one_dot : (n : Name) → flat_map shown_byte n ≡ 46 ∷ [] → n ≡ 46 ∷ []
one_dot [] is = absurd (cc)
one_dot (b ∷ n) is = let h = dot_shown b n [] is in let rest = nothing_shown n h.1 in let first = h.0 in cc

two_dots : (n : Name) → flat_map shown_byte n ≡ 46 ∷ 46 ∷ [] → n ≡ 46 ∷ 46 ∷ []
two_dots [] is = absurd (cc)
two_dots (b ∷ n) is = let h = dot_shown b n (46 ∷ []) is in let rest = one_dot n h.1 in let first = h.0 in cc

long_shown : (n : Name) → 0 < length n → 0 < length (flat_map shown_byte n)
long_shown n some = by (flat_map shown_byte n) refl where
  by : (xs : List ℕ) → flat_map shown_byte n ≡ xs → 0 < length xs
  by [] is = let none = ap length (nothing_shown n is) in omega arith
  by (x ∷ xs) is = omega arith

-- ---- words

-- what is UTF-8 is its own host_word where it is a host's name, and nothing else is
pub is_own : (n : Name) → is_host_name n ≡ true → IsUtf8 n → is_own_word n ≡ true
is_own n is text = let also = is_utf8-from_IsUtf8 n text in rw (is, also) refl

pub is_not_own : (n : Name) → ¬ IsUtf8 n → is_own_word n ≡ false
is_not_own n other = by (is_host_name n) (is_utf8 n) refl where
  by : (a b : Bool) → is_utf8 n ≡ b → (a && b) ≡ false
  by false b is = refl
  by true false is = refl
  by true true is = absurd (other (IsUtf8-from_is_utf8 n is))

pub plain_text : (w : List ℕ) → All IsPlain w → IsUtf8 w
plain_text w plain = IsUtf8-from_ascii w (IsAscii-from_all w (All-weaker IsPlain (λ (b : ℕ). b < 128) (λ b is. is.ascii) w plain))

pub plain_word : (w : List ℕ) → All IsPlain w → 0 < length w → w ≢ 46 ∷ [] → w ≢ 46 ∷ 46 ∷ [] → IsHostName w
plain_word w plain some dot dots = record {
  name = record {
    some' = some;
    no_slash = All-weaker IsPlain (λ (b : ℕ). b ≢ 47) (λ b is. is.no_slash) w plain;
    no_dot = dot;
    no_dots = dots;
  };
  no_zero = All-weaker IsPlain (λ (b : ℕ). b ≢ 0) (λ b is. is.some') w plain;
  text = plain_text w plain;
}

-- the bytes of a name as a listing shows them
shown_word : (n : Name) → AreSmall n → IsName n → IsHostName (flat_map shown_byte n)
shown_word n small is =
    plain_word (flat_map shown_byte n) (all_plain n small is.no_slash) (long_shown n is.some') (λ e. is.no_dot (one_dot n e))
    (λ e. is.no_dots (two_dots n e))

pub shown_is_text : (n : Name) → AreSmall n → is_name n ≡ true → IsUtf8 (flat_map shown_byte n)
shown_is_text n small is = (shown_word n small ((is_name-decides n).0 is)).text

tilde_word : IsHostName (codes "~")
tilde_word = plain_word (codes "~") (All-cons IsPlain 126 [] (plain_by 126 refl) (All-nil IsPlain)) (omega arith) (λ e. absurd (cc)) (λ e. absurd (cc))

other_is_host : (n : Name) → AreSmall n → IsHostName (other_word n)
other_is_host n small = by (is_name n) refl where
  by : (t : Bool) → is_name n ≡ t → IsHostName (if t then flat_map shown_byte n else codes "~")
  by true is = shown_word n small ((is_name-decides n).0 is)
  by false is = tilde_word

-- each host_word is one that a host can have
pub word_is_host : (n : Name) → AreSmall n → IsHostName (host_word n)
word_is_host n small = by (is_own_word n) refl where
  by : (t : Bool) → is_own_word n ≡ t → IsHostName (if t then n else other_word n)
  by true is =
      let both = and_parts (is_host_name n) (is_utf8 n) is in
      (is_host_name-decides n (IsUtf8-from_is_utf8 n both.1)).0 both.0
  by false is = other_is_host n small

-- ---- names below a folder

-- a path behind another one
name_beyond : (top : List ℕ) (p q : Path) → host_name top (p ++ q) ≡ host_name (host_name top p) q
name_beyond top p q =
    ap (λ (t : List ℕ). top ++ t) (flat_map-append (λ (n : Name). 47 ∷ n) p q)
    ∙ sym (append_assoc top (flat_map (λ (n : Name). 47 ∷ n) p) (flat_map (λ (n : Name). 47 ∷ n) q))

-- what has a host's name in a folder below is below
pub below_in : (top folder w : List ℕ) → IsNameBelow top folder → IsHostName w → IsNameBelow top (name_in folder w)
below_in top folder w (path, fits, is) host = (
  path ++ w ∷ [],
  All-push IsHostName path w fits host,
  ap (λ (f : List ℕ). name_in f w) is ∙ sym (name_below top path w),
)

-- a folder is below itself
pub below_itself : (top : List ℕ) → IsNameBelow top top
below_itself top = ([], All-nil IsHostName, sym (name_of_root top))

-- what is below a folder below is below
pub below_below : (top folder name : List ℕ) → IsNameBelow top folder → IsNameBelow folder name → IsNameBelow top name
below_below top folder name (p, fits, at) (q, also, is) = (
  p ++ q,
  All-append IsHostName p q fits also,
  is ∙ ap (λ (f : List ℕ). host_name f q) at ∙ sym (name_beyond top p q),
)
