-- The last of what was made, filled.
use Rattle.std.proofs.Common.{◌≡◌, ◌<◌, ℕ, ◌+◌, ◌-◌, List, [], ◌∷◌, ◌++◌, Option, None, Some, Result, Ok, Err, MatchResult, refl, ap, sym, ◌∙◌, arith, length, map, slice_set}
use Rattle.std.proofs.Common.{append_assoc}
use Rattle.std.specs.Prelude.{IfSome, slice_index_or}
use Rattle.std.specs.Option.{option_map}
use Rattle.std.specs.Io.KnownBytes.{Appends, Keeps}
use Rattle.lfs_host.specs.NewFolder.{FileMade, Fills, FolderMade, Made, Makes, bytes_filled, bytes_made, emptied, filled, last_bytes, last_emptied, last_filled, made_before}

-- of things that mean what was made, the last one is replaced
set_last : {X : Type 0} (f : X → Made) (g : Made → Made) (x : X) (xs : List X) (d new : X) → f new ≡ g (f (slice_index_or (x ∷ xs) (length xs) d))
    → (fill : List Made → List Made) → ((m : Made) → fill (m ∷ []) ≡ g m ∷ []) → ((m n : Made) (ms : List Made) → fill (m ∷ n ∷ ms) ≡ m ∷ fill (n ∷ ms))
    → map f (slice_set (x ∷ xs) (length xs) new) ≡ fill (map f (x ∷ xs))
set_last f g x [] d new is fill one more = ap (λ m. m ∷ []) is ∙ sym (one (f x))
set_last f g x (y ∷ xs) d new is fill one more =
    ap (λ ms. f x ∷ ms) (set_last f g y xs d new is fill one more) ∙ sym (more (f x) (f y) (map f xs))

fills_one : (more : List ℕ) (m : Made) → last_filled more (m ∷ []) ≡ filled more m ∷ []
unfolding last_filled
fills_one more m = refl

fills_more : (more : List ℕ) (m n : Made) (ms : List Made) → last_filled more (m ∷ n ∷ ms) ≡ m ∷ last_filled more (n ∷ ms)
unfolding last_filled
fills_more more m n ms = refl

pub filled_last : {X : Type 0} (f : X → Made) (more : List ℕ) (xs : List X) (i : ℕ) (old new : X) → i + 1 ≡ length xs
    → old ≡ slice_index_or xs i old → f new ≡ filled more (f old) → map f (slice_set xs i new) ≡ last_filled more (map f xs)
filled_last f more [] i old new at taken written = absurd (omega (arith, at))
filled_last f more (x ∷ xs) i old new at taken written =
    let here : i ≡ length xs = omega (arith, at) in
    ap (λ (k : ℕ). map f (slice_set (x ∷ xs) k new)) here
    ∙ set_last f (filled more) x xs old new (written ∙ ap (λ o. filled more (f o)) (taken ∙ ap (λ (k : ℕ). slice_index_or (x ∷ xs) k old) here))
    (last_filled more) (fills_one more) (fills_more more)

pub kept_last : {X : Type 0} (f : X → Made) (xs : List X) (i : ℕ) (old new : X) → i + 1 ≡ length xs
    → old ≡ slice_index_or xs i old → f new ≡ f old → map f (slice_set xs i new) ≡ map f xs
kept_last f [] i old new at taken written = absurd (omega (arith, at))
kept_last f (x ∷ xs) i old new at taken written =
    let here : i ≡ length xs = omega (arith, at) in
    ap (λ (k : ℕ). map f (slice_set (x ∷ xs) k new)) here
    ∙ set_last f (λ m. m) x xs old new (written ∙ ap f (taken ∙ ap (λ (k : ℕ). slice_index_or (x ∷ xs) k old) here))
    (λ ms. ms) (λ m. refl) (λ m n ms. refl)

pub last_by : {X T E : Type 0} (f : X → Made) (more : List ℕ) (xs : List X) (i : ℕ) (old new : X) (result : Result T E) → i + 1 ≡ length xs
    → old ≡ slice_index_or xs i old → MatchResult result (λ _. f new ≡ filled more (f old)) (λ _. f new ≡ f old)
    → MatchResult result (λ _. map f (slice_set xs i new) ≡ last_filled more (map f xs)) (λ _. map f (slice_set xs i new) ≡ map f xs)
last_by f more xs i old new (Ok done) at taken written = filled_last f more xs i old new at taken written
last_by f more xs i old new (Err why) at taken written = kept_last f xs i old new at taken written

pub fills_none : {X : Type 0} (f : X → Made) (more : List ℕ) (xs : List X) → length xs ≡ 0 → map f xs ≡ last_filled more (map f xs)
unfolding last_filled
fills_none f more [] none = refl
fills_none f more (x ∷ xs) some = absurd (omega (arith, some))

-- ---- the file that is being made

appends_none : (bytes : Option (List ℕ)) → Keeps bytes bytes
appends_none None = tt
appends_none (Some bytes) = refl

-- what was written stays
pub keeps_filled : (old new : Option (List Made)) → new ≡ old → Keeps (bytes_filled old) (bytes_filled new)
keeps_filled old new same = rw same (appends_none (bytes_filled old))

appends_to : (more : List ℕ) (m : Made) → Appends (bytes_made m) (bytes_made (filled more m)) more
appends_to more (FolderMade name) = tt
appends_to more (FileMade name bytes) = refl

appends_last : (more : List ℕ) (ms : List Made) → Appends (last_bytes ms) (last_bytes (last_filled more ms)) more
unfolding last_bytes last_filled
appends_last more [] = tt
appends_last more (m ∷ []) = appends_to more m
appends_last more (m ∷ n ∷ []) = appends_to more n
appends_last more (m ∷ n ∷ o ∷ ms) = appends_last more (n ∷ o ∷ ms)

-- or grows
pub appends_filled : (more : List ℕ) (old new : Option (List Made)) → Fills old new more → Appends (bytes_filled old) (bytes_filled new) more
appends_filled more None new fills = tt
appends_filled more (Some ms) new fills = rw fills (appends_last more ms)

empties_filled : (more : List ℕ) (m : Made) → emptied (filled more m) ≡ emptied m
empties_filled more (FolderMade name) = refl
empties_filled more (FileMade name bytes) = refl

empties_last : (more : List ℕ) (ms : List Made) → last_emptied (last_filled more ms) ≡ last_emptied ms
unfolding last_emptied last_filled
empties_last more [] = refl
empties_last more (m ∷ []) = ap (λ e. e ∷ []) (empties_filled more m)
empties_last more (m ∷ n ∷ []) = ap (λ e. m ∷ e ∷ []) (empties_filled more n)
empties_last more (m ∷ n ∷ o ∷ ms) = ap (λ es. m ∷ es) (empties_last more (n ∷ o ∷ ms))

-- what was made but for that stays
pub before_filled : (more : List ℕ) (old new : Option (List Made)) → Fills old new more → made_before new ≡ made_before old
before_filled more None new fills = ap made_before fills
before_filled more (Some ms) new fills = ap made_before fills ∙ ap (λ l. Some l) (empties_last more ms)

-- ---- a file that was begun

last_of : (name bytes : List ℕ) (ms : List Made) → last_bytes (ms ++ FileMade name bytes ∷ []) ≡ Some bytes
unfolding last_bytes
last_of name bytes [] = refl
last_of name bytes (m ∷ []) = refl
last_of name bytes (m ∷ n ∷ ms) = last_of name bytes (n ∷ ms)

-- nothing was written to it
pub none_filled : (before old : Option (List Made)) (name : List ℕ) → Makes before old (FileMade name [] ∷ [])
    → IfSome before (λ ms. bytes_filled old ≡ Some [])
none_filled None old name makes = tt
none_filled (Some ms) None name makes = absurd makes
none_filled (Some ms) (Some old) name makes = ap last_bytes makes ∙ last_of name [] ms

some_left : (m : Made) (ms : List Made) → last_emptied (m ∷ ms) ≡ [] → ⊥
unfolding last_emptied
some_left m [] none = absurd cc
some_left m (n ∷ ms) none = absurd cc

-- a list is ended by the file whose bytes these are
ends_with : (name bytes : List ℕ) (ms new : List Made) → last_emptied new ≡ last_emptied (ms ++ FileMade name [] ∷ []) → last_bytes new ≡ Some bytes
    → new ≡ ms ++ FileMade name bytes ∷ []
unfolding last_emptied last_bytes
ends_with name bytes [] [] same is = absurd cc
ends_with name bytes [] (FolderMade folder ∷ []) same is = absurd cc
ends_with name bytes [] (FileMade other there ∷ []) same is = by (cc) (cc)
  where
    by : other ≡ name → there ≡ bytes → FileMade other there ∷ [] ≡ FileMade name bytes ∷ []
    by n b = ap (λ o. FileMade o there ∷ []) n ∙ ap (λ t. FileMade name t ∷ []) b
ends_with name bytes [] (m ∷ n ∷ new) same is = absurd (some_left n new cc)
ends_with name bytes (m ∷ []) [] same is = absurd cc
ends_with name bytes (m ∷ n ∷ ms) [] same is = absurd cc
ends_with name bytes (m ∷ []) (n ∷ []) same is = absurd cc
ends_with name bytes (m ∷ o ∷ ms) (n ∷ []) same is = absurd (some_left o (ms ++ FileMade name [] ∷ []) (cc))
ends_with name bytes (m ∷ []) (n ∷ p ∷ new) same is = by (cc) (ends_with name bytes [] (p ∷ new) (cc) is)
  where
    by : n ≡ m → p ∷ new ≡ FileMade name bytes ∷ [] → n ∷ p ∷ new ≡ m ∷ FileMade name bytes ∷ []
    by first rest = ap (λ f. f ∷ p ∷ new) first ∙ ap (λ r. m ∷ r) rest
ends_with name bytes (m ∷ o ∷ ms) (n ∷ p ∷ new) same is = by (cc) (ends_with name bytes (o ∷ ms) (p ∷ new) (cc) is)
  where
    by : n ≡ m → p ∷ new ≡ o ∷ ms ++ FileMade name bytes ∷ [] → n ∷ p ∷ new ≡ m ∷ o ∷ ms ++ FileMade name bytes ∷ []
    by first rest = ap (λ f. f ∷ p ∷ new) first ∙ ap (λ r. m ∷ r) rest

-- it is made with what was written to it
pub begun_filled : (before old new : Option (List Made)) (name bytes : List ℕ) → Makes before old (FileMade name [] ∷ [])
    → made_before new ≡ made_before old → IfSome before (λ ms. bytes_filled new ≡ Some bytes) → Makes before new (FileMade name bytes ∷ [])
begun_filled None old new name bytes makes same is = tt
begun_filled (Some ms) None new name bytes makes same is = absurd makes
begun_filled (Some ms) (Some old) None name bytes makes same is = absurd cc
begun_filled (Some ms) (Some old) (Some new) name bytes makes same is =
    ends_with name bytes ms new (by same ∙ ap last_emptied makes) is
  where
    by : Some (last_emptied new) ≡ Some (last_emptied old) → last_emptied new ≡ last_emptied old
    by eq = cc
