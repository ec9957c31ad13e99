-- What there is under names among files in memory.
use Rattle.std.proofs.Common.{◌≡◌, ◌≢◌, ◌==◌, ◌+◌, ℕ, Bool, true, false, List, [], ◌∷◌, ◌++◌, Option, Some, None, String, length, refl, ap, sym, ◌∙◌, arith, take, map, string_bytes, get_or, Bor, ◌⊎◌, inl, inr, append_assoc, suc}
use Rattle.std.specs.Prelude.{◌||◌, if◌then◌else◌, is_some, MatchOption, cond}
use Rattle.std.specs.BTreeMap.{BTreeMap, get_by_text, is_at, keys}
use Rattle.std.specs.BTreeSet.{BTreeSet, IsOrdered, UpdatesBy, contains_text}
use Rattle.std.specs.Cmp.Lexicographic.{slice_cmp}
use Rattle.std.specs.Global.{Vec}
use Rattle.std.specs.List.{All, AllByRecursion, Contains, IsDistinct, cons_option, list_any, position_or_len}
use Rattle.std.specs.Option.{option_map}
use Rattle.std.specs.Ordering.{eq_by_cmp, nat_cmp}
use Rattle.std.specs.Str.{bytes_eq}
use Rattle.std.specs.String.{string_cmp}
use Rattle.std.proofs.Math.Seq.{take-length}
use Rattle.std.proofs.lemmas.Bool.Decides.{nat_tests}
use Rattle.std.proofs.lemmas.Cmp.{nat_list_eq_equiv}
use Rattle.std.proofs.lemmas.List.{append_cancel_left, get_or_default, map-append}
use Rattle.std.proofs.lemmas.List.Elements.{filter_map-append}
use Rattle.std.proofs.lemmas.List.Folds.{list_any-append}
use Rattle.std.proofs.lemmas.Map.Made.{is_some-lookup}
use Rattle.std.proofs.lemmas.Map.Keys.{IsDistinct-from_sorted}
use Rattle.std.proofs.lemmas.Map.Text.{btree_set_updates_text, is_eq-slice_cmp}
use Rattle.std.proofs.lemmas.Map.Views.{Contains-from_any, list_any-from_Contains}
use Rattle.std.proofs.lemmas.Slice.Eq.{bytes_eq-Decides}
use Rattle.lfs_host.specs.declared.host_kind.HostKind.{HostKind}
use Rattle.lfs_host.specs.declared.host_kind.HostKind.TheVariants.{Folder, Missing}
use Rattle.lfs_host.specs.HostTree.{AreNamesIn, FolderOf, NothingThere, host_kind_of}
use Rattle.lfs_host.specs.MemoryFiles.{files_of}
use Rattle.lfs_host.specs.MemoryTree.{HasNoGap, name_behind, first_name, name_through, file_names_of, names_through, host_node_of, tree_of}

-- ---- what is name_behind a folder

-- a name with a folder's name and a slash in front
pub below_of : (folder rest : List ℕ) → name_behind folder (folder ++ 47 ∷ rest) ≡ Some rest
below_of [] rest = refl
below_of (a ∷ folder) rest = grind (arith, nat_tests, below_of folder rest)

split_by : (same : Bool) (a b : ℕ) (folder file rest : List ℕ) → (a == b) ≡ same → (if same then name_behind folder file else None) ≡ Some rest
    → (name_behind folder file ≡ Some rest → file ≡ folder ++ 47 ∷ rest) → b ∷ file ≡ a ∷ folder ++ 47 ∷ rest
split_by true a b folder file rest is h by = let e : file ≡ folder ++ 47 ∷ rest = by h in let same : a ≡ b = grind (arith, nat_tests) in cc
split_by false a b folder file rest is h by = cc

slash_by : (same : Bool) (b : ℕ) (file rest : List ℕ) → (b == 47) ≡ same → (if same then Some file else None) ≡ Some rest → b ∷ file ≡ 47 ∷ rest
slash_by true b file rest is h = let same : b ≡ 47 = grind (arith, nat_tests) in cc
slash_by false b file rest is h = cc

-- what is name_behind a folder has such a name
pub below_is : (folder file rest : List ℕ) → name_behind folder file ≡ Some rest → file ≡ folder ++ 47 ∷ rest
below_is [] [] rest h = cc
below_is [] (b ∷ file) rest h = slash_by (b == 47) b file rest refl h
below_is (a ∷ folder) [] rest h = cc
below_is (a ∷ folder) (b ∷ file) rest h = split_by (a == b) a b folder file rest refl h (below_is folder file rest)

none_by : (found : Option (List ℕ)) (folder file : List ℕ) → name_behind folder file ≡ found → ((rest : List ℕ) → file ≢ folder ++ 47 ∷ rest) → found ≡ None
none_by None folder file is not = refl
none_by (Some rest) folder file is not = absurd (not rest (below_is folder file rest is))

-- and what has no such name isn't name_behind it
pub not_below : (folder file : List ℕ) → ((rest : List ℕ) → file ≢ folder ++ 47 ∷ rest) → name_behind folder file ≡ None
not_below folder file not = none_by (name_behind folder file) folder file refl not

-- a name that is cut after a folder's name, and then after a slash
pub below_cut : (folder file rest : List ℕ) (cut : Option (Bor (List ℕ))) → file ≡ folder ++ rest
    → MatchOption cut ((more : List ℕ) → rest ≢ 47 ∷ more) (λ more. rest ≡ 47 ∷ more.now) → option_map (λ more. more.now) cut ≡ name_behind folder file
below_cut folder file rest None is not = sym (not_below folder file
    (λ more slashed. not more (append_cancel_left folder rest (47 ∷ more) (sym is ∙ slashed))))
below_cut folder file rest (Some more) is slashed = sym (
    ap (name_behind folder) (is ∙ ap (λ (xs : List ℕ). folder ++ xs) slashed) ∙ below_of folder more.now)

-- all of a name without a slash is its first name
pub complete_name : (name : List ℕ) → position_or_len (λ b. b == 47) name ≡ length name → first_name name ≡ name
complete_name name none = ap (λ (n : ℕ). take n name) none ∙ take-length name

-- the name that a file leads through
pub name_is : (folder file rest name : List ℕ) → Some rest ≡ name_behind folder file → name ≡ first_name rest → Some name ≡ name_through folder file
name_is folder file rest name here is = ap Some is ∙ ap (option_map first_name) here

-- ---- what is under a name

leads_by : {K : Type 0} (test : K → Bool) (ks : List K) (names : List (List ℕ)) (through : Option (List ℕ)) → (is_some through || list_any test ks) ≡ true
    → (list_any test ks ≡ true → Folder ≡ host_kind_of (host_node_of None names)) → Folder ≡ host_kind_of (host_node_of None (cons_option through names))
leads_by test ks names None some rest = rest some
leads_by test ks names (Some n) some rest = refl

-- some file's name leads through a folder
pub leads_in : {K : Type 0} (text : K → List ℕ) (folder : List ℕ) (ks : List K) → list_any (λ k. is_some (name_through folder (text k))) ks ≡ true
    → Folder ≡ host_kind_of (host_node_of None (names_through folder (map text ks)))
leads_in text folder [] h = cc
leads_in text folder (k ∷ ks) h = leads_by (λ x. is_some (name_through folder (text x))) ks (names_through folder (map text ks))
    (name_through folder (text k)) h (leads_in text folder ks)

none_by_all : {K : Type 0} (test : K → Bool) (ks : List K) (names : List (List ℕ)) (through : Option (List ℕ)) → (is_some through || list_any test ks) ≡ false
    → (list_any test ks ≡ false → Missing ≡ host_kind_of (host_node_of None names)) → Missing ≡ host_kind_of (host_node_of None (cons_option through names))
none_by_all test ks names None none rest = rest none
none_by_all test ks names (Some n) none rest = cc

-- and none does
pub none_leads_in : {K : Type 0} (text : K → List ℕ) (folder : List ℕ) (ks : List K) → list_any (λ k. is_some (name_through folder (text k))) ks ≡ false
    → Missing ≡ host_kind_of (host_node_of None (names_through folder (map text ks)))
none_leads_in text folder [] h = refl
none_leads_in text folder (k ∷ ks) h = none_by_all (λ x. is_some (name_through folder (text x))) ks (names_through folder (map text ks))
    (name_through folder (text k)) h (none_leads_in text folder ks)

-- where there is no file of a name
pub no_file_there : (file : Option (List ℕ)) (names : List (List ℕ)) (kind : HostKind) → is_some file ≡ false → kind ≡ host_kind_of (host_node_of None names)
    → kind ≡ host_kind_of (host_node_of file names)
no_file_there None names kind none is = is
no_file_there (Some bytes) names kind none is = cc

-- ---- names that are gathered

-- a name is the one that was found
abbrev pub is_found : List ℕ → Option (List ℕ) → Bool
is_found q None = false
is_found q (Some n) = bytes_eq q n

any_cons : (q : List ℕ) (found : Option (List ℕ)) → list_any (bytes_eq q) (cons_option found []) ≡ is_found q found
any_cons q None = refl
any_cons q (Some n) = grind arith

-- one file more
found_more : (folder file q : List ℕ) (files : List (List ℕ)) → list_any (bytes_eq q) (names_through folder (files ++ file ∷ []))
    ≡ (list_any (bytes_eq q) (names_through folder files) || is_found q (name_through folder file))
found_more folder file q files =
    ap (list_any (bytes_eq q)) (filter_map-append (name_through folder) files (file ∷ []))
    ∙ list_any-append (bytes_eq q) (names_through folder files) (cons_option (name_through folder file) [])
    ∙ ap (λ (b : Bool). list_any (bytes_eq q) (names_through folder files) || b) (any_cons q (name_through folder file))

key_more : {K : Type 0} (text : K → List ℕ) (folder q : List ℕ) (files : List K) (file : K)
    → list_any (bytes_eq q) (names_through folder (map text (files ++ file ∷ [])))
    ≡ (list_any (bytes_eq q) (names_through folder (map text files)) || is_found q (name_through folder (text file)))
key_more text folder q files file =
    ap (λ (texts : List (List ℕ)). list_any (bytes_eq q) (names_through folder texts)) (map-append text files (file ∷ []))
    ∙ found_more folder (text file) q (map text files)

or_false : (b : Bool) → (b || false) ≡ b
or_false true = refl
or_false false = refl

-- where it leads to no name, nothing more is found
pub none_more : {K : Type 0} (text : K → List ℕ) (folder q : List ℕ) (files : List K) (file : K) (has : Bool) → None ≡ name_through folder (text file)
    → has ≡ list_any (bytes_eq q) (names_through folder (map text files))
    → has ≡ list_any (bytes_eq q) (names_through folder (map text (files ++ file ∷ [])))
none_more text folder q files file has none is = is ∙ sym (key_more text folder q files file
    ∙ ap (λ (found : Option (List ℕ)). list_any (bytes_eq q) (names_through folder (map text files)) || is_found q found) (sym none)
    ∙ or_false (list_any (bytes_eq q) (names_through folder (map text files))))

put_or : (same has : Bool) → cond same true has ≡ (has || same)
put_or true true = refl
put_or true false = refl
put_or false true = refl
put_or false false = refl

-- and else just that name
pub some_more : {K Y : Type 0} (text : K → List ℕ) (folder q name : List ℕ) (files : List K) (file : K) (old new : BTreeSet (String Y)) (key : String Y)
    → Some name ≡ name_through folder (text file) → string_bytes key ≡ name → UpdatesBy string_cmp (string_cmp key) old new true
    → contains_text old q ≡ list_any (bytes_eq q) (names_through folder (map text files))
    → contains_text new q ≡ list_any (bytes_eq q) (names_through folder (map text (files ++ file ∷ [])))
some_more text folder q name files file old new key through is updates has =
    let n : List ℕ = string_bytes key in
    let found : is_found q (name_through folder (text file)) ≡ bytes_eq n q = ap (is_found q) (sym through) ∙ ap (bytes_eq q) (sym is) ∙ nat_list_eq_equiv.symm q n in
    btree_set_updates_text n old new true updates q
    ∙ put_or (bytes_eq n q) (contains_text old q)
    ∙ ap (λ (b : Bool). b || bytes_eq n q) has
    ∙ sym (key_more text folder q files file
    ∙ ap (λ (b : Bool). list_any (bytes_eq q) (names_through folder (map text files)) || b) found)

-- a set of texts by their bytes
set_texts : {Y : Type 0} (q : List ℕ) (ks : List (String Y))
    → list_any (is_at (λ k. slice_cmp nat_cmp q (string_bytes k))) ks ≡ list_any (bytes_eq q) (map (λ k. string_bytes k) ks)
set_texts q [] = refl
set_texts q (k ∷ ks) = cong_or (is_eq-slice_cmp q (string_bytes k)) (set_texts q ks)
  where
    cong_or : {a b c d : Bool} → a ≡ b → c ≡ d → (a || c) ≡ (b || d)
    cong_or e f = cc

distinct_texts : {Y : Type 0} (ks : List (String Y)) → IsDistinct (eq_by_cmp string_cmp) ks → IsDistinct bytes_eq (map (λ k. string_bytes k) ks)
unfolding IsDistinct
distinct_texts [] h = tt
distinct_texts (k ∷ ks) h = (apart k ks h.0, distinct_texts ks h.1)
  where
    apart : {Y : Type 0} (k : String Y) (ks : List (String Y)) → AllByRecursion (λ y. eq_by_cmp string_cmp k y ≡ false) ks
        → AllByRecursion (λ n. bytes_eq (string_bytes k) n ≡ false) (map (λ k. string_bytes k) ks)
    apart k [] h = tt
    apart k (y ∷ ks) h = (sym (is_eq-slice_cmp (string_bytes k) (string_bytes y)) ∙ h.0, apart k ks h.1)

-- the texts of a set are the names of a list, where it has just these
pub gathered : {Y : Type 0} (there : List (List ℕ)) (names : BTreeSet (String Y)) (listed : List (String Y)) → listed ≡ names.keys
    → IsOrdered string_cmp names → ((q : List ℕ) → contains_text names q ≡ list_any (bytes_eq q) there)
    → AreNamesIn there (map (λ k. string_bytes k) listed)
gathered there names listed is ordered has =
    let texts : List (List ℕ) = map (λ k. string_bytes k) names.keys in
    let same : (q : List ℕ) → list_any (bytes_eq q) texts ≡ list_any (bytes_eq q) there = λ q. sym (set_texts q names.keys) ∙ has q in
    let equal : (x y : List ℕ) → bytes_eq x y ≡ true → x ≡ y = λ x y. (bytes_eq-Decides x y).0 in
    let every : (P : List ℕ → Type 0) (ns : List (List ℕ)) → ((n : List ℕ) → Contains ns n → P n) → All P ns =
    λ P ns h. λ i d within. h (get_or ns i d) (i, within, get_or_default ns i (get_or ns i d) d within) in
    rw is (record {
      right = every (Contains there) texts (λ n in_texts. Contains-from_any equal n there (sym (same n) ∙ list_any-from_Contains nat_list_eq_equiv n texts in_texts));
      complete = every (Contains texts) there (λ n in_there. Contains-from_any equal n texts (same n ∙ list_any-from_Contains nat_list_eq_equiv n there in_there));
      once = distinct_texts names.keys (IsDistinct-from_sorted string_cmp names.keys ordered);
    })

-- ---- what is named is there

-- some text leads through a folder to a name
abbrev LeadsThrough : List ℕ → List (List ℕ) → List ℕ → Type 0
LeadsThrough folder texts n = (text : List ℕ) × (list_any (bytes_eq text) texts ≡ true) × (name_through folder text ≡ Some n)

or_later : (a b : Bool) → b ≡ true → (a || b) ≡ true
or_later true b h = refl
or_later false b h = h

or_either : (a b : Bool) → (a || b) ≡ true → (a ≡ true) ⊎ (b ≡ true)
or_either true b h = inl refl
or_either false b h = inr h

leads_later : (folder n t : List ℕ) (texts : List (List ℕ)) → LeadsThrough folder texts n → LeadsThrough folder (t ∷ texts) n
leads_later folder n t texts (text, there, through) = (text, or_later (bytes_eq text t) (list_any (bytes_eq text) texts) there, through)

leads_first : (folder n t : List ℕ) (texts : List (List ℕ)) → name_through folder t ≡ Some n → LeadsThrough folder (t ∷ texts) n
leads_first folder n t texts through = (t, ap (λ (b : Bool). b || list_any (bytes_eq t) texts) (nat_list_eq_equiv.refl t), through)

found_by : (folder n t : List ℕ) (texts : List (List ℕ)) (through : Option (List ℕ)) → name_through folder t ≡ through
    → list_any (bytes_eq n) (cons_option through (names_through folder texts)) ≡ true
    → (list_any (bytes_eq n) (names_through folder texts) ≡ true → LeadsThrough folder texts n) → LeadsThrough folder (t ∷ texts) n
found_by folder n t texts None is h rest = leads_later folder n t texts (rest h)
found_by folder n t texts (Some m) is h rest = elim (or_either (bytes_eq n m) (list_any (bytes_eq n) (names_through folder texts)) h) [
  | inl same ↦ leads_first folder n t texts (is ∙ ap Some (sym ((bytes_eq-Decides n m).0 same)))
  | inr late ↦ leads_later folder n t texts (rest late)
]

found_text : (folder n : List ℕ) (texts : List (List ℕ)) → list_any (bytes_eq n) (names_through folder texts) ≡ true → LeadsThrough folder texts n
found_text folder n [] h = cc
found_text folder n (t ∷ texts) h = found_by folder n t texts (name_through folder t) refl h (found_text folder n texts)

-- a text that leads on makes a folder
leads_on : (name : List ℕ) (texts : List (List ℕ)) (text m : List ℕ) → list_any (bytes_eq text) texts ≡ true → name_through name text ≡ Some m
    → host_node_of None (names_through name texts) ≢ NothingThere
leads_on name [] text m there through = cc
leads_on name (t ∷ texts) text m there through = elim (or_either (bytes_eq text t) (list_any (bytes_eq text) texts) there) [
  | inl same ↦ on_first name texts (name_through name t) (ap (name_through name) (sym ((bytes_eq-Decides text t).0 same)) ∙ through)
  | inr late ↦ on_later name texts (name_through name t) (leads_on name texts text m late through)
]
  where
    on_first : (name : List ℕ) (texts : List (List ℕ)) (found : Option (List ℕ)) → found ≡ Some m
        → host_node_of None (cons_option found (names_through name texts)) ≢ NothingThere
    on_first name texts None is = cc
    on_first name texts (Some n) is = λ none. cc

    on_later : (name : List ℕ) (texts : List (List ℕ)) (found : Option (List ℕ)) → host_node_of None (names_through name texts) ≢ NothingThere
        → host_node_of None (cons_option found (names_through name texts)) ≢ NothingThere
    on_later name texts None some = some
    on_later name texts (Some n) some = λ none. cc

through_by : (folder text n : List ℕ) (found : Option (List ℕ)) → name_behind folder text ≡ found → option_map first_name found ≡ Some n
    → (rest : List ℕ) × (text ≡ folder ++ 47 ∷ rest) × (first_name rest ≡ n)
through_by folder text n None is h = cc
through_by folder text n (Some rest) is h = (rest, below_is folder text rest is, some_same h)
  where
    some_same : {a b : List ℕ} → Some a ≡ Some b → a ≡ b
    some_same e = cc

take_more : (n b : ℕ) (rest : List ℕ) → take (1 + n) (b ∷ rest) ≡ b ∷ take n rest
take_more n b rest = let e : 1 + n ≡ suc n = omega arith in ap (λ (m : ℕ). take m (b ∷ rest)) e

cut_by : (slash : Bool) (b : ℕ) (rest : List ℕ) → (b == 47) ≡ slash → (rest ≡ first_name rest) ⊎ ((more : List ℕ) × (rest ≡ first_name rest ++ 47 ∷ more))
    → (b ∷ rest ≡ first_name (b ∷ rest)) ⊎ ((more : List ℕ) × (b ∷ rest ≡ first_name (b ∷ rest) ++ 47 ∷ more))
cut_by true b rest is h =
    let none : first_name (b ∷ rest) ≡ [] = rw is refl in
    let slash : b ≡ 47 = grind (arith, nat_tests) in
    inr (rest, ap (λ (x : ℕ). x ∷ rest) slash ∙ ap (λ (xs : List ℕ). xs ++ 47 ∷ rest) (sym none))
cut_by false b rest is h =
    let more : first_name (b ∷ rest) ≡ b ∷ first_name rest = rw is (take_more (position_or_len (λ x. x == 47) rest) b rest) in
    elim h [
      | inl complete ↦ inl (ap (λ (xs : List ℕ). b ∷ xs) complete ∙ sym more)
      | inr behind ↦ inr (behind.0, ap (λ (xs : List ℕ). b ∷ xs) behind.1 ∙ ap (λ (xs : List ℕ). xs ++ 47 ∷ behind.0) (sym more))
    ]

cut_at_slash : (rest : List ℕ) → (rest ≡ first_name rest) ⊎ ((more : List ℕ) × (rest ≡ first_name rest ++ 47 ∷ more))
cut_at_slash [] = inl refl
cut_at_slash (b ∷ rest) = cut_by (b == 47) b rest refl (cut_at_slash rest)

file_there : (file : Option (List ℕ)) (names : List (List ℕ)) → is_some file ≡ true → host_node_of file names ≢ NothingThere
file_there None names some = cc
file_there (Some bytes) names some = λ none. cc

folder_there : (file : Option (List ℕ)) (names : List (List ℕ)) → host_node_of None names ≢ NothingThere → host_node_of file names ≢ NothingThere
folder_there None names some = some
folder_there (Some bytes) names some = λ none. cc

is_some_mapped : {X Y : Type 0} (f : X → Y) (o : Option X) → is_some (option_map f o) ≡ is_some o
is_some_mapped f None = refl
is_some_mapped f (Some x) = refl

-- there is a file of each name that a map has
file_of_name : {Y : Type 0} (files : BTreeMap (String Y) (Vec ℕ)) (name : List ℕ) → list_any (bytes_eq name) (file_names_of files) ≡ true
    → is_some (files_of files name) ≡ true
file_of_name files name has =
    is_some_mapped (λ bytes. bytes.items) (get_by_text files name)
    ∙ is_some-lookup (is_at (λ k. slice_cmp nat_cmp name (string_bytes k))) files.entries
    ∙ set_texts name (keys files) ∙ has

names_there : (file : Option (List ℕ)) (names others : List (List ℕ)) → host_node_of file names ≡ FolderOf others → names ≡ others
names_there (Some bytes) names others h = cc
names_there None [] others h = cc
names_there None (n ∷ names) others h = cc

pub no_gap : {Y : Type 0} (files : BTreeMap (String Y) (Vec ℕ)) → HasNoGap (tree_of files)
no_gap files folder n names folder_is there =
    let texts : List (List ℕ) = file_names_of files in
    let name : List ℕ = folder ++ 47 ∷ n in
    let same : names_through folder texts ≡ names = names_there (files_of files folder) (names_through folder texts) names folder_is in
    let named : list_any (bytes_eq n) (names_through folder texts) ≡ true =
    ap (list_any (bytes_eq n)) same ∙ list_any-from_Contains nat_list_eq_equiv n names there in
    let leads = found_text folder n texts named in
    let text : List ℕ = leads.0 in
    let cut = through_by folder text n (name_behind folder text) refl leads.2 in
    let rest : List ℕ = cut.0 in
    elim (cut_at_slash rest) [
      | inl complete ↦ let is : text ≡ name = cut.1 ∙ ap (λ (xs : List ℕ). folder ++ 47 ∷ xs) (complete ∙ cut.2) in
          file_there (files_of files name) (names_through name texts)
          (file_of_name files name (ap (λ (t : List ℕ). list_any (bytes_eq t) texts) (sym is) ∙ leads.1))
      | inr behind ↦ let more : List ℕ = behind.0 in
          let rest_is : rest ≡ n ++ 47 ∷ more = behind.1 ∙ ap (λ (xs : List ℕ). xs ++ 47 ∷ more) cut.2 in
          let is : text ≡ name ++ 47 ∷ more = cut.1 ∙ ap (λ (xs : List ℕ). folder ++ 47 ∷ xs) rest_is ∙ sym (append_assoc folder (47 ∷ n) (47 ∷ more)) in
          let on : name_through name text ≡ Some (first_name more) = ap (name_through name) is ∙ ap (option_map first_name) (below_of name more) in
          folder_there (files_of files name) (names_through name texts) (leads_on name texts text (first_name more) leads.1 on)
    ]
