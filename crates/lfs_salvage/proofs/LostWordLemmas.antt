-- No name of the root's tree is the word of the folder for what no path leads to.
use Rattle.std.proofs.Common.{◌≡◌, ℕ, ◌+◌, ◌-◌, ◌≤◌, Bool, true, List, [], ◌∷◌, ◌++◌, ap, arith, length, refl, replicate, ◌∙◌}
use Rattle.std.proofs.lemmas.List.{length-append, length-replicate}
use Rattle.std.proofs.lemmas.List.Elements.{All-cons, All-contains, All-nil, All-weaker}
use Rattle.std.specs.List.{starts_with}
use Rattle.std.specs.Prelude.{max, All, fold, if◌then◌else◌, nat_eq}
use Rattle.lfs_meta.specs.Entry.{StoredEntry}
use Rattle.lfs_salvage.specs.Lost.{LostWordIsNew, lost_name, tildes_for, tildes_in, tildes_of}
use Rattle.lfs_survey.specs.AllPlaces.{found_entries}
use Rattle.lfs_survey.specs.declared.found.Found.{Found}

-- ---- as many tildes as the longest asks for

entries_grow : (most : ℕ) (es : List StoredEntry) → most ≤ tildes_of most es
entries_grow most [] = omega arith
entries_grow most (e ∷ es) =
    let more : max most (tildes_for e.name) ≤ tildes_of (max most (tildes_for e.name)) es = entries_grow (max most (tildes_for e.name)) es in
    omega (arith, more)

each_entry : (most : ℕ) (es : List StoredEntry) → All (λ e. tildes_for e.name ≤ tildes_of most es) es
each_entry most [] = All-nil (λ (e : StoredEntry). tildes_for e.name ≤ most)
each_entry most (e ∷ es) =
    let next : ℕ = max most (tildes_for e.name) in
    let more : next ≤ tildes_of next es = entries_grow next es in
    All-cons (λ (x : StoredEntry). tildes_for x.name ≤ tildes_of next es) e es (omega (arith, more)) (each_entry next es)

found_grow : (most : ℕ) (fs : List Found) → most ≤ fold (λ m f. tildes_of m (found_entries f)) most fs
found_grow most [] = omega arith
found_grow most (f ∷ fs) =
    let here : most ≤ tildes_of most (found_entries f) = entries_grow most (found_entries f) in
    let more = found_grow (tildes_of most (found_entries f)) fs in
    omega (arith, here, more)

-- an entry of what is found asks for no more
abbrev Asks : ℕ → Found → Type 0
Asks n f = All (λ e. tildes_for e.name ≤ n) (found_entries f)

each_found : (most : ℕ) (fs : List Found) → All (Asks (fold (λ m f. tildes_of m (found_entries f)) most fs)) fs
each_found most [] = All-nil (Asks most)
each_found most (f ∷ fs) =
    let next : ℕ = tildes_of most (found_entries f) in
    let all : ℕ = fold (λ m g. tildes_of m (found_entries g)) next fs in
    let more : next ≤ all = found_grow next fs in
    let here : Asks all f =
    All-weaker (λ (x : StoredEntry). tildes_for x.name ≤ next) (λ (x : StoredEntry). tildes_for x.name ≤ all) (λ x less. omega (arith, less, more))
    (found_entries f) (each_entry most (found_entries f)) in
    All-cons (Asks all) f fs here (each_found next fs)

-- ---- the word itself asks for one more

word_asks : (k : ℕ) → tildes_for (lost_name ++ replicate k 126) ≡ k + 1
word_asks k =
    let tail : List ℕ = replicate k 126 in
    let long : length (lost_name ++ tail) ≡ length lost_name + length tail = length-append lost_name tail in
    let tildes : length tail ≡ k = length-replicate {A = ℕ} k 126 in
    let ten : length lost_name ≡ 10 = refl in
    let begins : starts_with nat_eq (lost_name ++ tail) lost_name ≡ true = refl in
    let less : length (lost_name ++ tail) - 9 ≡ k + 1 = omega (arith, long, tildes, ten) in
    ap (λ (t : Bool). if t then length (lost_name ++ tail) - 9 else 0) begins ∙ less

pub word_is_new : LostWordIsNew
word_is_new found f e is has same =
    let asks : tildes_for e.name ≤ tildes_in found =
    All-contains (λ (x : StoredEntry). tildes_for x.name ≤ tildes_in found) (found_entries f) e
    (All-contains (Asks (tildes_in found)) found f (each_found 0 found) is) has in
    let more : tildes_for e.name ≡ tildes_in found + 1 = ap tildes_for same ∙ word_asks (tildes_in found) in
    omega (arith, asks, more)
