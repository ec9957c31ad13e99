-- Paths that are found again from depths and names.
use Rattle.std.proofs.Common.{◌≡◌, ◌≢◌, ℕ, zero, suc, ◌-◌, List, [], ◌∷◌, ◌++◌, Bor, map, take, refl, ap, sym, ◌∙◌, arith}
use Rattle.std.proofs.lemmas.List.{map-append, take-map}
use Rattle.lfs_meta.specs.Name.{Name}
use Rattle.lfs_fs.specs.Listed.{path_after}

below : {A : Type 0} (q : List A) (depth : ℕ) (n : A) → depth ≢ 0 → take (depth - 1) q ++ n ∷ [] ≡ path_after q depth n
below q zero n some' = absurd (some' refl)
below q (suc k) n some' = let same : suc k - 1 ≡ k = omega arith in ap (λ i. take i q ++ n ∷ []) same

-- a name behind the first ones
pub path_follows : {A : Type 0} (q front new : List A) (depth : ℕ) (n : A) → depth ≢ 0 → front ≡ take (depth - 1) q
    → new ≡ front ++ n ∷ [] → new ≡ path_after q depth n
path_follows q front new depth n some' cut is = is ∙ ap (λ l. l ++ n ∷ []) cut ∙ below q depth n some'

-- the names of a path in another form
pub path_after-map : {A B : Type 0} (f : A → B) (q : List A) (depth : ℕ) (n : A)
    → map f (path_after q depth n) ≡ path_after (map f q) depth (f n)
path_after-map f q zero n = refl
path_after-map f q (suc k) n = map-append f (take k q) (n ∷ []) ∙ ap (λ l. l ++ f n ∷ []) (sym (take-map f k q))

-- a path of borrowed names, as they are read
pub path_after-read : (q new : List (Bor Name)) (depth : ℕ) (text : Bor Name) (n : Name) → new ≡ path_after q depth text → text.now ≡ n
    → map (λ (m : Bor Name). m.now) new ≡ path_after (map (λ (m : Bor Name). m.now) q) depth n
path_after-read q new depth text n is same =
    ap (map (λ (m : Bor Name). m.now)) is ∙ path_after-map (λ (m : Bor Name). m.now) q depth text
    ∙ ap (path_after (map (λ (m : Bor Name). m.now) q) depth) same
