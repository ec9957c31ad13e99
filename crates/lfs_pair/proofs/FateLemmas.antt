-- The fates of entries that become others: whose they are, and that they fit.
use Rattle.std.proofs.Common.{◌≡◌, true, if◌then◌else◌, List, [], ◌∷◌, refl, ap}
use Rattle.std.specs.List.{AllByRecursion, list_any}
use Rattle.std.proofs.lemmas.Bool.{cond_both}
use Rattle.lfs_meta.specs.Entry.{StoredEntry}
use Rattle.lfs_meta.specs.Fits.{EntryFits}
use Rattle.lfs_pair.specs.Difference.{Fate, Goes, Stays, Comes, fates, is_same_name, news, olds}

-- the old entries that stay
unfoldable pub staying : List Fate → List StoredEntry
staying [] = []
staying (Goes e ∷ more) = staying more
staying (Stays e f ∷ more) = e ∷ staying more
staying (Comes f ∷ more) = staying more

-- a fate of entries that fit their tags
abbrev pub FateFits : Fate → Type 0
FateFits (Goes e) = Unit {0}
FateFits (Stays e f) = EntryFits e × EntryFits f × (is_same_name e f ≡ true)
FateFits (Comes f) = EntryFits f

-- what holds of each of three ways in which the first entries fare
by_first : (P : List Fate → Type 0) (e f : StoredEntry) (es fs : List StoredEntry)
    → (is_same_name e f ≡ true → P (Stays e f ∷ fates es fs)) → P (Comes f ∷ fates (e ∷ es) fs) → P (Goes e ∷ fates es (f ∷ fs))
    → P (fates (e ∷ es) (f ∷ fs))
unfolding fates
by_first P e f es fs stays comes goes =
    let waits : List Fate = Comes f ∷ fates (e ∷ es) fs in
    let gone : List Fate = Goes e ∷ fates es (f ∷ fs) in
    cond_both (is_same_name e f) (Stays e f ∷ fates es fs) (if list_any (is_same_name e) fs then waits else gone) P stays
    (λ _. cond_both (list_any (is_same_name e) fs) waits gone P (λ _. comes) (λ _. goes))

pub olds-fates : (es fs : List StoredEntry) → olds (fates es fs) ≡ es
unfolding fates olds
olds-fates [] [] = refl
olds-fates [] (f ∷ fs) = olds-fates [] fs
olds-fates (e ∷ es) [] = ap (λ (xs : List StoredEntry). e ∷ xs) (olds-fates es [])
olds-fates (e ∷ es) (f ∷ fs) =
    by_first (λ (xs : List Fate). olds xs ≡ e ∷ es) e f es fs (λ _. ap (λ (xs : List StoredEntry). e ∷ xs) (olds-fates es fs))
    (olds-fates (e ∷ es) fs) (ap (λ (xs : List StoredEntry). e ∷ xs) (olds-fates es (f ∷ fs)))

pub news-fates : (es fs : List StoredEntry) → news (fates es fs) ≡ fs
unfolding fates news
news-fates [] [] = refl
news-fates [] (f ∷ fs) = ap (λ (xs : List StoredEntry). f ∷ xs) (news-fates [] fs)
news-fates (e ∷ es) [] = news-fates es []
news-fates (e ∷ es) (f ∷ fs) =
    by_first (λ (xs : List Fate). news xs ≡ f ∷ fs) e f es fs (λ _. ap (λ (xs : List StoredEntry). f ∷ xs) (news-fates es fs))
    (ap (λ (xs : List StoredEntry). f ∷ xs) (news-fates (e ∷ es) fs)) (news-fates es (f ∷ fs))

pub fates-fit : (es fs : List StoredEntry) → AllByRecursion EntryFits es → AllByRecursion EntryFits fs → AllByRecursion FateFits (fates es fs)
unfolding fates
fates-fit [] [] old new = tt
fates-fit [] (f ∷ fs) old new = (new.0, fates-fit [] fs old new.1)
fates-fit (e ∷ es) [] old new = (tt, fates-fit es [] old.1 new)
fates-fit (e ∷ es) (f ∷ fs) old new =
    by_first (λ (xs : List Fate). AllByRecursion FateFits xs) e f es fs
    (λ same. ((old.0, new.0, same), fates-fit es fs old.1 new.1))
    (new.0, fates-fit (e ∷ es) fs old new.1) (tt, fates-fit es (f ∷ fs) old.1 new)
