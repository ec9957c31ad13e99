-- Attributes as the value of a member.
use Rattle.std.proofs.Common.{◌≡◌, ◌==◌, false, List, [], ◌∷◌, ◌++◌, refl, ap, sym, ◌∙◌, flat_map, length, map}
use Rattle.std.specs.Prelude.{codes}
use Rattle.json.specs.Token.{Token}
use Rattle.json.specs.Tree.{json_tokens}
use Rattle.json.specs.Written.{Written}
use Rattle.lfs_meta.specs.Attribute.{Attributes}
use Rattle.lfs_json.specs.Object.{array_of}
use Rattle.lfs_json.specs.Written.{members_tokens, Adds}
use Rattle.lfs_json.proofs.AddingLemmas.{adds_more, adds_one, array_tokens}
use Rattle.lfs_json.specs.Rows.{attribute_json, attribute_members}

-- their tokens, one after another
abbrev pub each_tokens : Attributes → List Token
each_tokens xs = flat_map (λ a. json_tokens (attribute_json a)) xs

each_same : (xs : Attributes) → each_tokens xs ≡ flat_map json_tokens (map attribute_json xs)
each_same [] = refl
each_same (a ∷ xs) = ap (λ (l : List Token). json_tokens (attribute_json a) ++ l) (each_same xs)

-- where there are some, they are added between brackets
pub attributes_added : (a b c d e : Written) (xs : Attributes) → (length xs == 0) ≡ false → Adds a b (Token.key (codes "attributes") ∷ [])
    → Adds b c (Token.begin_array ∷ []) → Adds c d (each_tokens xs) → Adds d e (Token.end_array ∷ []) → Adds a e (members_tokens (attribute_members xs))
attributes_added a b c d e [] some h i j k = cc
attributes_added a b c d e (a' ∷ xs) some h i j k =
    let key : Token = Token.key (codes "attributes") in
    let front : Adds a d (key ∷ Token.begin_array ∷ each_tokens (a' ∷ xs)) =
    adds_more a c d (key ∷ Token.begin_array ∷ []) (each_tokens (a' ∷ xs)) (adds_more a b c (key ∷ []) (Token.begin_array ∷ []) h i) j in
    let integer : Adds a e (key ∷ Token.begin_array ∷ (each_tokens (a' ∷ xs) ++ Token.end_array ∷ [])) =
    adds_more a d e (key ∷ Token.begin_array ∷ each_tokens (a' ∷ xs)) (Token.end_array ∷ []) front k in
    adds_one a e (codes "attributes", array_of (map attribute_json (a' ∷ xs))) (record {
      before = integer.before;
      tokens = integer.tokens ∙ ap (λ (l : List Token). a.tokens ++ key ∷ l)
          (ap (λ (l : List Token). Token.begin_array ∷ (l ++ Token.end_array ∷ [])) (each_same (a' ∷ xs))
          ∙ sym (array_tokens (map attribute_json (a' ∷ xs))));
    })
