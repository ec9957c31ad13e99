-- What is spelled of texts and whole numbers.
use Rattle.std.proofs.Common.{◌≤◌, Bool, true, false, cond, List, [], ◌∷◌, ◌++◌, decimal, refl, sym, subst, arith}
use Rattle.std.specs.Prelude.{⊤}
use Rattle.std.specs.Str.{IsUtf8}
use Rattle.std.specs.List.{AllByRecursion}
use Rattle.std.proofs.lemmas.List.Elements.{All-from_recursion}
use Rattle.std.proofs.lemmas.Str.{IsUtf8-append, IsUtf8-nil, IsUtf8-from_ascii}
use Rattle.std.proofs.lemmas.Fmt.{IsAscii-decimal}
use Rattle.json.specs.Json.{Json, null, boolean, number, string, array, object, Items, no_items, item, Members, no_members, member}
use Rattle.json.specs.Token.{Token}
use Rattle.json.specs.Tree.{json_tokens, items_tokens, members_tokens, HasNumbers, ItemsHaveNumbers, MembersHaveNumbers}
use Rattle.json.specs.Print.{print_from, separator, token_text, quoted, ends}
use Rattle.json.proofs.Printed.Utf8.{IsUtf8-are_ascii, IsUtf8-quoted, IsUtf8-key, IsUtf8-boolean, IsUtf8-separator}
use Rattle.json.proofs.Printed.Decimals.{IsNumber-decimal}
use Rattle.json.proofs.Printed.Trees.{document-print}
use Rattle.lfs_json.specs.Line.{spelling}
use Rattle.lfs_json.specs.Texts.{IsInteger, HasTexts, ItemsHaveTexts, MembersHaveTexts, SpellingsAreUtf8, SpellingsAreOneLine, SpellingsReadBack}
use Rattle.lfs_json.proofs.ShownLemmas.{Shown, shown_append, shown_quoted, shown_decimal}

-- ---- tokens of texts and whole numbers

abbrev IsText : Token → Type 0
IsText Token.begin_object = ⊤
IsText Token.end_object = ⊤
IsText Token.begin_array = ⊤
IsText Token.end_array = ⊤
IsText (Token.key s) = IsUtf8 s
IsText (Token.string s) = IsUtf8 s
IsText (Token.number s) = IsInteger s
IsText (Token.boolean b) = ⊤
IsText Token.null = ⊤
IsText Token.bad = ⊤

abbrev AreTexts : List Token → Type 0
AreTexts ts = AllByRecursion IsText ts

texts_append : (ts us : List Token) → AreTexts ts → AreTexts us → AreTexts (ts ++ us)
texts_append [] us h k = k
texts_append (t ∷ ts) us h k = (h.0, texts_append ts us h.1 k)

mutual
  value_texts : (j : Json) → HasTexts j → AreTexts (json_tokens j)
  value_texts null h = (tt, tt)
  value_texts (boolean b) h = (tt, tt)
  value_texts (number s) h = (h, tt)
  value_texts (string s) h = (h, tt)
  value_texts (array js) h = (tt, items_texts js h)
  value_texts (object ms) h = (tt, members_texts ms h)

  items_texts : (js : Items) → ItemsHaveTexts js → AreTexts (items_tokens js)
  items_texts no_items h = (tt, tt)
  items_texts (item j js) h = texts_append _ _ (value_texts j h.0) (items_texts js h.1)

  members_texts : (ms : Members) → MembersHaveTexts ms → AreTexts (members_tokens ms)
  members_texts no_members h = (tt, tt)
  members_texts (member k j ms) h = (h.0, texts_append _ _ (value_texts j h.1.0) (members_texts ms h.1.1))

-- ---- what they are printed as

text_utf8 : (t : Token) → IsText t → IsUtf8 (token_text t)
text_utf8 Token.begin_object h = IsUtf8-are_ascii _ refl
text_utf8 Token.end_object h = IsUtf8-are_ascii _ refl
text_utf8 Token.begin_array h = IsUtf8-are_ascii _ refl
text_utf8 Token.end_array h = IsUtf8-are_ascii _ refl
text_utf8 (Token.key s) h = IsUtf8-key s h
text_utf8 (Token.string s) h = IsUtf8-quoted s h
text_utf8 (Token.number s) h = subst IsUtf8 (sym h.2) (IsUtf8-from_ascii (decimal h.0) (IsAscii-decimal h.0 h.1))
text_utf8 (Token.boolean b) h = IsUtf8-boolean b
text_utf8 Token.null h = IsUtf8-are_ascii _ refl
text_utf8 Token.bad h = IsUtf8-nil

text_shown : (t : Token) → IsText t → Shown (token_text t)
text_shown Token.begin_object h = (omega arith, tt)
text_shown Token.end_object h = (omega arith, tt)
text_shown Token.begin_array h = (omega arith, tt)
text_shown Token.end_array h = (omega arith, tt)
text_shown (Token.key s) h = shown_append (quoted s) (58 ∷ []) (shown_quoted s) (omega arith, tt)
text_shown (Token.string s) h = shown_quoted s
text_shown (Token.number s) h = subst Shown (sym h.2) (shown_decimal h.0 h.1)
text_shown (Token.boolean true) h = (omega arith, (omega arith, (omega arith, (omega arith, tt))))
text_shown (Token.boolean false) h = (omega arith, (omega arith, (omega arith, (omega arith, (omega arith, tt)))))
text_shown Token.null h = (omega arith, (omega arith, (omega arith, (omega arith, tt))))
text_shown Token.bad h = tt

comma_shown : (b : Bool) → Shown (cond b (44 ∷ []) [])
comma_shown true = (omega arith, tt)
comma_shown false = tt

printed_utf8 : (c : Bool) (ts : List Token) → AreTexts ts → IsUtf8 (print_from c ts)
unfolding print_from
printed_utf8 c [] h = IsUtf8-nil
printed_utf8 c (t ∷ ts) h =
    IsUtf8-append _ _ (IsUtf8-separator c t) (IsUtf8-append _ _ (text_utf8 t h.0) (printed_utf8 (ends t) ts h.1))

printed_shown : (c : Bool) (ts : List Token) → AreTexts ts → Shown (print_from c ts)
unfolding print_from
printed_shown c [] h = tt
printed_shown c (t ∷ ts) h =
    shown_append (separator c t) _ (comma_shown _) (shown_append (token_text t) _ (text_shown t h.0) (printed_shown (ends t) ts h.1))

-- ---- the laws

pub spellings_are_utf8 : SpellingsAreUtf8
spellings_are_utf8 j h = printed_utf8 false (json_tokens j) (value_texts j h)

pub spellings_are_one_line : SpellingsAreOneLine
spellings_are_one_line j h = All-from_recursion (λ b. 32 ≤ b) (spelling j) (printed_shown false (json_tokens j) (value_texts j h))

mutual
  value_numbers : (j : Json) → HasTexts j → HasNumbers j
  value_numbers null h = tt
  value_numbers (boolean b) h = tt
  value_numbers (number s) h = rw h.2 (IsNumber-decimal h.0 h.1)
  value_numbers (string s) h = tt
  value_numbers (array js) h = items_numbers js h
  value_numbers (object ms) h = members_numbers ms h

  items_numbers : (js : Items) → ItemsHaveTexts js → ItemsHaveNumbers js
  items_numbers no_items h = tt
  items_numbers (item j js) h = (value_numbers j h.0, items_numbers js h.1)

  members_numbers : (ms : Members) → MembersHaveTexts ms → MembersHaveNumbers ms
  members_numbers no_members h = tt
  members_numbers (member k j ms) h = (value_numbers j h.1.0, members_numbers ms h.1.1)

pub spellings_read_back : SpellingsReadBack
spellings_read_back j h shallow = document-print j (value_numbers j h) shallow
