-- What lines put, by places of what was read.
use Rattle.std.proofs.Common.{◌≡◌, ◌<◌, ◌≤◌, ◌+◌, ℕ, zero, suc, Bool, true, false, List, [], ◌∷◌, ◌++◌, Option, None, Some, length, map, refl, sym, ap, subst, ◌∙◌, arith, cond}
use Rattle.std.proofs.lemmas.List.{length-append, map-append}
use Rattle.std.proofs.lemmas.List.Elements.{All-append, All-from_recursion, All-head, All-tail}
use Rattle.std.proofs.lemmas.Slice.Eq.{bytes_eq-Decides}
use Rattle.std.specs.BTreeMap.{get_by}
use Rattle.std.specs.Cmp.Lexicographic.{slice_cmp}
use Rattle.std.specs.Global.{Vec}
use Rattle.std.specs.Ordering.{nat_cmp}
use Rattle.std.specs.Prelude.{All, IfSome}
use Rattle.std.specs.Str.{bytes_eq}
use Rattle.lfs_fs.specs.Limits.{most_file}
use Rattle.lfs_host.specs.Files.{Files, ReadsFile}
use Rattle.lfs_open.specs.LineContents.{AreFilesRead, Lengthens, StandsAt, content_at, contents_by}
use Rattle.lfs_open.specs.declared.line_contents.FilesRead.{FilesRead}

-- what stood before stands still
pub stands_still : (old more : List (Vec ℕ)) (k : ℕ) → k < length old → content_at (old ++ more) k ≡ content_at old k
stands_still [] more k less = absurd (omega (arith, less))
stands_still (b ∷ old) more zero less = refl
stands_still (b ∷ old) more (suc k) less = stands_still old more k (omega (arith, less))

-- what stands last
pub stands_last : (old : List (Vec ℕ)) (b : Vec ℕ) → content_at (old ++ b ∷ []) (length old) ≡ b.items
stands_last [] b = refl
stands_last (a ∷ old) b = stands_last old b

pub all_stand_still : (old more : List (Vec ℕ)) (ks : List ℕ) → All (λ k. k < length old) ks → contents_by (old ++ more) ks ≡ contents_by old ks
all_stand_still old more [] less = refl
all_stand_still old more (k ∷ ks) less =
    ap (λ (b : List ℕ). b ∷ contents_by (old ++ more) ks) (stands_still old more k (All-head (λ (n : ℕ). n < length old) k ks less))
    ∙ ap (λ (bs : List (List ℕ)). content_at old k ∷ bs) (all_stand_still old more ks (All-tail (λ (n : ℕ). n < length old) k ks less))

-- a file stands where it stood
pub stands_more : (files : Option Files) (old more : List (Vec ℕ)) (name : List ℕ) (k : ℕ) → StandsAt files old name k
    → StandsAt files (old ++ more) name k
stands_more files old more name k stands = (
  omega (arith, stands.0, length-append old more),
  subst (ReadsFile files name most_file) (sym (stands_still old more k stands.0)) stands.1,
)

-- a file that is added stands last
pub stands_added : (files : Option Files) (old new : List (Vec ℕ)) (name : List ℕ) (b : Vec ℕ) (k : ℕ) → new ≡ old ++ b ∷ [] → k ≡ length old
    → ReadsFile files name most_file b.items → StandsAt files new name k
stands_added files old new name b k is at reads =
    subst (λ (read : List (Vec ℕ)). StandsAt files read name k) (sym is) (
      omega (arith, at, length-append old (b ∷ [])),
      subst (ReadsFile files name most_file) (sym (ap (content_at (old ++ b ∷ [])) at ∙ stands_last old b)) reads,
    )

-- places of files are right after one more is added
pub each_added : (files : Option Files) (old new : List (Vec ℕ)) (file : List ℕ) (b : Vec ℕ) (k : ℕ) (was now : List ℕ → Option ℕ)
    → new ≡ old ++ b ∷ [] → k ≡ length old → ((q : List ℕ) → now q ≡ cond (bytes_eq file q) (Some k) (was q))
    → ReadsFile files file most_file b.items → ((q : List ℕ) (n : ℕ) → was q ≡ Some n → StandsAt files old q n)
    → (q : List ℕ) (n : ℕ) → now q ≡ Some n → StandsAt files new q n
each_added files old new file b k was now is at updates reads each q n found = by (bytes_eq file q) refl
  where
    by : (t : Bool) → bytes_eq file q ≡ t → StandsAt files new q n
    by true same =
        let name : file ≡ q = search (arith, bytes_eq-Decides file q, same) in
        let place : k ≡ n = cc (updates q, found, same) in
        subst (λ (m : ℕ). StandsAt files new q m) place
        (subst (λ (name : List ℕ). StandsAt files new name k) name (stands_added files old new file b k is at reads))
    by false other =
        let before : was q ≡ Some n = sym (updates q ∙ ap (λ (t : Bool). cond t (Some k) (was q)) other) ∙ found in
        subst (λ (read : List (Vec ℕ)). StandsAt files read q n) (sym is) (stands_more files old (b ∷ []) q n (each q n before))

-- a file that is looked up stands where its name leads
pub found_stands : (known : FilesRead) (file : List ℕ) (o : Option ℕ) → o ≡ get_by (λ n. slice_cmp nat_cmp file n.now) known.places
    → IfSome o (λ k. (files : Option Files) → AreFilesRead files known → StandsAt files known.read.items file k)
found_stands known file None is = tt
found_stands known file (Some k) is = λ files are. are.each file k (sym is)

-- one line more
pub contents_more : (old more : List (Vec ℕ)) (ks : List ℕ) (k : ℕ) → All (λ m. m < length old) ks
    → contents_by (old ++ more) (ks ++ k ∷ []) ≡ contents_by old ks ++ content_at (old ++ more) k ∷ []
contents_more old more ks k less =
    map-append (content_at (old ++ more)) ks (k ∷ [])
    ∙ ap (λ (bs : List (List ℕ)). bs ++ content_at (old ++ more) k ∷ []) (all_stand_still old more ks less)

pub within_more : (old new : List (Vec ℕ)) (ks : List ℕ) (k : ℕ) → Lengthens old new → All (λ m. m < length old) ks → k < length new
    → All (λ m. m < length new) (ks ++ k ∷ [])
within_more old new ks k longer less this =
    let long : length old ≤ length new = omega (arith, ap length longer.1, length-append old longer.0) in
    All-append (λ (m : ℕ). m < length new) ks (k ∷ []) (λ i d at. omega (arith, less i d at, long)) (All-from_recursion (λ (m : ℕ). m < length new) (k ∷ []) (this, tt))
