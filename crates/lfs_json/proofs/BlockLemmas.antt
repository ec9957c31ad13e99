-- The line of a run, by its front and the rest.
use Rattle.std.proofs.Common.{◌≡◌, ℕ, List, [], ◌∷◌, ◌++◌, Bool, Option, Some, None, true, false, if◌then◌else◌, refl, ap, ◌∙◌, append_assoc, decimal}
use Rattle.std.specs.Prelude.{codes}
use Rattle.std.specs.Str.{is_utf8}
use Rattle.std.proofs.lemmas.Grind.{flat_map-append}
use Rattle.json.specs.Json.{string}
use Rattle.json.specs.Token.{Token}
use Rattle.json.specs.Print.{print, print_from, ends_value, escape_byte}
use Rattle.json.specs.Tree.{json_tokens}
use Rattle.json.proofs.Printed.Tokens.{print_from-append}
use Rattle.lfs_fs.specs.Path.{path_text}
use Rattle.lfs_fs.specs.Row.{Row}
use Rattle.lfs_json.specs.Line.{line_of}
use Rattle.lfs_json.specs.Object.{Member, digits, object_of, integer}
use Rattle.lfs_json.specs.Written.{begun, member_tokens, members_tokens}
use Rattle.lfs_json.proofs.AddingLemmas.{object_tokens}
use Rattle.lfs_json.specs.Blocks.{json_of_run, user_front, user_members, run_rest}
use Rattle.lfs_json.specs.Rows.{kind_word}

-- what is printed behind some members
abbrev rest : ℕ → ℕ → List Token
rest first last = members_tokens ((codes "first", integer first) ∷ (codes "last", integer last) ∷ []) ++ Token.end_object ∷ []

rest_is : (first last : ℕ) → print_from true (rest first last) ++ 10 ∷ [] ≡ run_rest first last
unfolding print_from escape_byte
rest_is first last =
    ap (λ (l : List ℕ). codes ",\"first\":" ++ l)
    (append_assoc (decimal first) (codes ",\"last\":" ++ (decimal last ++ 125 ∷ [])) (10 ∷ [])
    ∙ ap (λ (l : List ℕ). decimal first ++ (codes ",\"last\":" ++ l)) (append_assoc (decimal last) (125 ∷ []) (10 ∷ [])))

-- the tokens of an object, cut between its members
cut_tokens : (ms ns : List Member) → json_tokens (object_of (ms ++ ns)) ≡ begun ms ++ (members_tokens ns ++ Token.end_object ∷ [])
cut_tokens ms ns =
    object_tokens (ms ++ ns)
    ∙ ap (λ (l : List Token). Token.begin_object ∷ (l ++ Token.end_object ∷ [])) (flat_map-append member_tokens ms ns)
    ∙ ap (λ (l : List Token). Token.begin_object ∷ l) (append_assoc (members_tokens ms) (members_tokens ns) (Token.end_object ∷ []))

-- what takes blocks ends with a value
after_path : (kind name digits_name bytes : List ℕ) (b : Bool)
    → ends_value (begun ((codes "kind", string kind) ∷ (if b then (name, string bytes) else (digits_name, digits bytes)) ∷ [])) ≡ true
after_path kind name digits_name bytes true = refl
after_path kind name digits_name bytes false = refl

after_user : (u : Option Row) → ends_value (begun (user_members u)) ≡ true
after_user None = refl
after_user (Some r) = after_path (kind_word r.entry) (codes "path") (codes "path_hex") (path_text r.path) (is_utf8 (path_text r.path))

pub run_line_is : (u : Option Row) (first last : ℕ) → line_of (json_of_run u first last) ≡ user_front u ++ run_rest first last
run_line_is u first last =
    ap (λ (ts : List Token). print ts ++ 10 ∷ []) (cut_tokens (user_members u) ((codes "first", integer first) ∷ (codes "last", integer last) ∷ []))
    ∙ ap (λ (l : List ℕ). l ++ 10 ∷ []) (print_from-append false (begun (user_members u)) (rest first last)
    ∙ ap (λ (b : Bool). user_front u ++ print_from b (rest first last)) (after_user u))
    ∙ append_assoc (user_front u) (print_from true (rest first last)) (10 ∷ [])
    ∙ ap (λ (l : List ℕ). user_front u ++ l) (rest_is first last)

-- the front of the object of free blocks
pub free_front_is : codes "{\"kind\":\"free\"" ≡ user_front None
unfolding print_from escape_byte
free_front_is = refl
