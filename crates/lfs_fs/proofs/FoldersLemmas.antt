-- The directories that are gathered are those of the thread.
use Rattle.std.proofs.Common.{◌≡◌, ℕ, Bool, true, false, List, [], ◌∷◌, ◌++◌, length, map, suc, refl, ap, ◌∙◌, arith}
use Rattle.std.specs.Prelude.{All, if◌then◌else◌}
use Rattle.std.proofs.lemmas.List.{length-append}
use Rattle.std.proofs.lemmas.List.Elements.{All-cons, All-nil, All-head, All-tail, All-append}
use Rattle.lfs_fs.specs.Pair.{root}
use Rattle.lfs_fs.specs.Entry.{Entry}
use Rattle.lfs_fs.specs.Directory.{Part, Directory, parts, entries, thread}
use Rattle.lfs_fs.specs.Thread.{Link, is_hard, joined_to, pieces}
use Rattle.lfs_fs.specs.Sound.{StartsAtRoot}
use Rattle.lfs_fs.specs.Outlined.{outlined_part, outlined_directories}
use Rattle.lfs_fs.specs.Gathering.{as_directory}

-- ---- one pass makes what cutting the thread makes

-- a part before directories, which it joins or not
abbrev pub cut_here : Bool → Part → List Directory → List Directory
cut_here hard p ds = if hard then joined_to p ds else record { first = p; more = [] } ∷ ds

-- parts before directories, each of which joins what follows
abbrev pub all_joined : List Part → List Directory → List Directory
all_joined [] ds = ds
all_joined (p ∷ ps) ds = joined_to p (all_joined ps ds)

pub outlined_cut : (hard : Bool) (p : Part) (ds : List Directory) → outlined_directories (cut_here hard p ds)
    ≡ cut_here hard (outlined_part p) (outlined_directories ds)
outlined_cut true p [] = refl
outlined_cut true p (d ∷ ds) = refl
outlined_cut false p ds = refl

-- one part more that joins what follows
pub joined_more : (ps : List Part) (p : Part) (ds : List Directory) → all_joined ps (cut_here true p ds) ≡ all_joined (ps ++ p ∷ []) ds
joined_more [] p ds = refl
joined_more (q ∷ ps) p ds = ap (joined_to q) (joined_more ps p ds)

join_one : (q : Part) (ps : List Part) (ds : List Directory) → (some' : ℕ) → length ps ≡ suc some'
    → joined_to q (as_directory ps ++ ds) ≡ as_directory (q ∷ ps) ++ ds
join_one q [] ds n is = absurd (omega (arith, is))
join_one q (p ∷ ps) ds n is = refl

-- one that ends a directory
pub joined_ends : (ps : List Part) (p : Part) (ds : List Directory) → all_joined ps (cut_here false p ds)
    ≡ as_directory (ps ++ p ∷ []) ++ ds
joined_ends [] p ds = refl
joined_ends (q ∷ ps) p ds = ap (joined_to q) (joined_ends ps p ds) ∙ join_one q (ps ++ p ∷ []) ds (length ps)
    (omega (arith, length-append ps (p ∷ [])))

-- no directory follows
pub joined_last : (ps : List Part) → all_joined ps [] ≡ as_directory ps
joined_last [] = refl
joined_last (p ∷ []) = refl
joined_last (p ∷ q ∷ ps) = ap (joined_to p) (joined_last (q ∷ ps))

-- ---- what holds of the parts of a thread holds of its directories

starts_by : (hard : Bool) (p : Part) (ds : List Directory) → p.pair ≡ root → StartsAtRoot (cut_here hard p ds)
starts_by true p [] at = at
starts_by true p (d ∷ ds) at = at
starts_by false p ds at = at

pub starts_at_root : (l : Link) (ls : List Link) → l.part.pair ≡ root → StartsAtRoot (pieces (l ∷ ls))
starts_at_root l ls at = starts_by (is_hard l.tail) l.part (pieces ls) at

-- each entry of each directory
abbrev pub EachEntry : (Entry → Type 0) → List Directory → Type 0
EachEntry P ds = All (λ d. All P (entries d)) ds

joined_each : (P : Entry → Type 0) (hard : Bool) (p : Part) (ds : List Directory) → All P p.entries → EachEntry P ds
    → EachEntry P (cut_here hard p ds)
joined_each P true p [] here rest = All-cons (λ (d : Directory). All P (entries d)) (record { first = p; more = [] }) []
    (All-append P p.entries [] here (All-nil P)) rest
joined_each P true p (d ∷ ds) here rest =
    All-cons (λ (x : Directory). All P (entries x)) (record { first = p; more = parts d }) ds
    (All-append P p.entries (entries d) here (All-head (λ (x : Directory). All P (entries x)) d ds rest))
    (All-tail (λ (x : Directory). All P (entries x)) d ds rest)
joined_each P false p ds here rest = All-cons (λ (d : Directory). All P (entries d)) (record { first = p; more = [] }) ds
    (All-append P p.entries [] here (All-nil P)) rest

pub each_entry : (P : Entry → Type 0) (ls : List Link) → All (λ l. All P l.part.entries) ls → EachEntry P (pieces ls)
each_entry P [] all = All-nil (λ (d : Directory). All P (entries d))
each_entry P (l ∷ ls) all =
    joined_each P (is_hard l.tail) l.part (pieces ls) (All-head (λ (x : Link). All P x.part.entries) l ls all)
    (each_entry P ls (All-tail (λ (x : Link). All P x.part.entries) l ls all))

thread_joined : (hard : Bool) (p : Part) (ds : List Directory) → thread (cut_here hard p ds) ≡ p ∷ thread ds
thread_joined true p [] = refl
thread_joined true p (d ∷ ds) = refl
thread_joined false p ds = refl

pub thread_of_pieces : (ls : List Link) → thread (pieces ls) ≡ map (λ (l : Link). l.part) ls
thread_of_pieces [] = refl
thread_of_pieces (l ∷ ls) = thread_joined (is_hard l.tail) l.part (pieces ls) ∙ ap (λ (ps : List Part). l.part ∷ ps) (thread_of_pieces ls)
