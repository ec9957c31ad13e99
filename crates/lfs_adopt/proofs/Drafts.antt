-- Drafts: what stands in their blocks, and what does once one more is written anew.
use Rattle.std.proofs.Common.{◌≡◌, ◌≢◌, ℕ, zero, suc, ◌+◌, ◌<◌, ◌≤◌, Bool, true, false, List, [], ◌∷◌, length, take, get_or, set, replicate}
use Rattle.std.proofs.Common.{refl, ap, sym, ◌∙◌, subst, arith}
use Rattle.std.specs.Prelude.{Option, Some, None, nat_eq, not}
use Rattle.std.specs.List.{AllByRecursion}
use Rattle.std.proofs.lemmas.Bool.Decides.{nat_tests}
use Rattle.std.proofs.lemmas.List.{get_or-set_other, get_or-set_same, length-replicate, length-set}
use Rattle.std.proofs.lemmas.Slice.Eq.{bytes_eq-Decides}
use Rattle.lfs_block.specs.Disk.{Disk, IsDisk, block_of, put}
use Rattle.lfs_block.specs.PatchLaws.{BlockPut, BlockPutOther, DisksAreTheirBlocks, PutIsDisk}
use Rattle.lfs_adopt.specs.Changed.{is_changed}
use Rattle.lfs_adopt.specs.Draft.{Drafted, IsDraft, IsNewBlock, drafted, put_from, put_new}

-- the new block, or the old one if there is none
abbrev pub new_or : Option (List ℕ) → List ℕ → List ℕ
new_or None block = block
new_or (Some bytes) block = bytes

-- ---- lists of new blocks

pub none_each : (size n : ℕ) → AllByRecursion (IsNewBlock size) (replicate n None)
none_each size zero = tt
none_each size (suc n) = (tt, none_each size n)

pub each_at : (size : ℕ) (os : List (Option (List ℕ))) (n : ℕ) → AllByRecursion (IsNewBlock size) os → IsNewBlock size (get_or os n None)
each_at size [] n each = tt
each_at size (o ∷ os) zero each = each.0
each_at size (o ∷ os) (suc n) each = each_at size os n each.1

pub each_set : (size : ℕ) (os : List (Option (List ℕ))) (n : ℕ) (o : Option (List ℕ)) → IsNewBlock size o
    → AllByRecursion (IsNewBlock size) os → AllByRecursion (IsNewBlock size) (set os n o)
each_set size [] n o new each = tt
each_set size (old ∷ os) zero o new each = (new, each.1)
each_set size (old ∷ os) (suc n) o new each = (each.0, each_set size os n o new each.1)

-- a draft without a new block is its image
pub none_put : (count n : ℕ) (d : Disk) → put_from n (replicate count None) d ≡ d
none_put zero n d = refl
none_put (suc count) n d = none_put count (n + 1) d

pub begins : (d : Disk) (blocks : List (Option (List ℕ))) → IsDisk d → blocks ≡ replicate d.count None
    → IsDraft (record { base = d; blocks = blocks })
begins d blocks disk none = record {
  disk = disk;
  len = ap length none ∙ length-replicate d.count None;
  each = subst (AllByRecursion (IsNewBlock d.size)) (sym none) (none_each d.size d.count);
}

pub begins_same : (d : Disk) (blocks : List (Option (List ℕ))) → blocks ≡ replicate d.count None
    → drafted (record { base = d; blocks = blocks }) ≡ d
begins_same d blocks none = ap (λ (os : List (Option (List ℕ))). put_from 0 os d) none ∙ none_put d.count 0 d

-- ---- sizes and counts

one_size : (n : ℕ) (o : Option (List ℕ)) (d : Disk) → (put_new n o d).size ≡ d.size
one_size n None d = refl
one_size n (Some bytes) d = refl

one_count : (n : ℕ) (o : Option (List ℕ)) (d : Disk) → (put_new n o d).count ≡ d.count
one_count n None d = refl
one_count n (Some bytes) d = refl

all_size : (n : ℕ) (os : List (Option (List ℕ))) (d : Disk) → (put_from n os d).size ≡ d.size
all_size n [] d = refl
all_size n (o ∷ os) d = all_size (n + 1) os (put_new n o d) ∙ one_size n o d

all_count : (n : ℕ) (os : List (Option (List ℕ))) (d : Disk) → (put_from n os d).count ≡ d.count
all_count n [] d = refl
all_count n (o ∷ os) d = all_count (n + 1) os (put_new n o d) ∙ one_count n o d

pub drafted_size : (f : Drafted) → (drafted f).size ≡ f.base.size
drafted_size f = all_size 0 f.blocks f.base

pub drafted_count : (f : Drafted) → (drafted f).count ≡ f.base.count
drafted_count f = all_count 0 f.blocks f.base

-- ---- blocks

module _ (put_here : BlockPut) (put_other : BlockPutOther) (put_disk : PutIsDisk) where
  one_disk : (n : ℕ) (o : Option (List ℕ)) (d : Disk) → IsDisk d → n < d.count → IsNewBlock d.size o → IsDisk (put_new n o d)
  one_disk n None d disk below new = disk
  one_disk n (Some bytes) d disk below new = put_disk d n bytes disk below new.0 new.1

  one_here : (n : ℕ) (o : Option (List ℕ)) (d : Disk) → IsDisk d → n < d.count → IsNewBlock d.size o
      → block_of (put_new n o d) n ≡ new_or o (block_of d n)
  one_here n None d disk below new = refl
  one_here n (Some bytes) d disk below new = put_here d n bytes disk below new.0

  one_other : (n m : ℕ) (o : Option (List ℕ)) (d : Disk) → IsDisk d → n < d.count → m ≢ n → IsNewBlock d.size o
      → block_of (put_new n o d) m ≡ block_of d m
  one_other n m None d disk below other new = refl
  one_other n m (Some bytes) d disk below other new = put_other d n m bytes disk below other new.0

  -- the new blocks from block n on are of the disk
  record Fits (n : ℕ) (os : List (Option (List ℕ))) (d : Disk) : Type 0 where
    disk : IsDisk d
    each : AllByRecursion (IsNewBlock d.size) os
    within : n + length os ≤ d.count

  rest_fits : (n : ℕ) (o : Option (List ℕ)) (os : List (Option (List ℕ))) (d : Disk) → Fits n (o ∷ os) d → Fits (n + 1) os (put_new n o d)
  rest_fits n o os d fits = record {
    disk = one_disk n o d fits.disk (omega (arith, fits.within)) fits.each.0;
    each = subst (λ (size : ℕ). AllByRecursion (IsNewBlock size) os) (sym (one_size n o d)) fits.each.1;
    within = omega (arith, fits.within, one_count n o d);
  }

  all_disk : (n : ℕ) (os : List (Option (List ℕ))) (d : Disk) → Fits n os d → IsDisk (put_from n os d)
  all_disk n [] d fits = fits.disk
  all_disk n (o ∷ os) d fits = all_disk (n + 1) os (put_new n o d) (rest_fits n o os d fits)

  all_before : (n : ℕ) (os : List (Option (List ℕ))) (d : Disk) (b : ℕ) → b < n → Fits n os d
      → block_of (put_from n os d) b ≡ block_of d b
  all_before n [] d b below fits = refl
  all_before n (o ∷ os) d b below fits =
      all_before (n + 1) os (put_new n o d) b (omega (arith, below)) (rest_fits n o os d fits)
      ∙ one_other n b o d fits.disk (omega (arith, fits.within)) (omega (arith, below)) fits.each.0

  all_at : (n : ℕ) (os : List (Option (List ℕ))) (d : Disk) (i b : ℕ) → i < length os → b ≡ n + i → Fits n os d
      → block_of (put_from n os d) b ≡ new_or (get_or os i None) (block_of d b)
  all_at n [] d i b below is fits = absurd (omega (arith, below))
  all_at n (o ∷ os) d zero b below is fits =
      let here : b ≡ n = omega (arith, is) in
      subst (λ (k : ℕ). block_of (put_from (n + 1) os (put_new n o d)) k ≡ new_or o (block_of d k)) (sym here)
      (all_before (n + 1) os (put_new n o d) n (omega arith) (rest_fits n o os d fits)
      ∙ one_here n o d fits.disk (omega (arith, fits.within)) fits.each.0)
  all_at n (o ∷ os) d (suc i) b below is fits =
      all_at (n + 1) os (put_new n o d) i b (omega (arith, below)) (omega (arith, is)) (rest_fits n o os d fits)
      ∙ ap (new_or (get_or os i None)) (one_other n b o d fits.disk (omega (arith, fits.within)) (omega (arith, is)) fits.each.0)

  fits_all : (f : Drafted) → IsDraft f → Fits 0 f.blocks f.base
  fits_all f is = record { disk = is.disk; each = is.each; within = omega (arith, is.len) }

  pub drafted_disk : (f : Drafted) → IsDraft f → IsDisk (drafted f)
  drafted_disk f is = all_disk 0 f.blocks f.base (fits_all f is)

  -- a block of the draft is the new one, or else the image's
  pub drafted_block : (f : Drafted) (b : ℕ) → IsDraft f → b < f.base.count
      → block_of (drafted f) b ≡ new_or (get_or f.blocks b None) (block_of f.base b)
  drafted_block f b is below =
      all_at 0 f.blocks f.base b b (omega (arith, is.len, below)) (omega arith) (fits_all f is)

  pub drafted_new : (f : Drafted) (b : ℕ) (bytes : List ℕ) → IsDraft f → b < f.base.count → get_or f.blocks b None ≡ Some bytes
      → block_of (drafted f) b ≡ bytes
  drafted_new f b bytes is below new =
      drafted_block f b is below ∙ ap (λ (o : Option (List ℕ)). new_or o (block_of f.base b)) new

  pub drafted_old : (f : Drafted) (b : ℕ) → IsDraft f → b < f.base.count → get_or f.blocks b None ≡ None
      → block_of (drafted f) b ≡ block_of f.base b
  drafted_old f b is below none =
      drafted_block f b is below ∙ ap (λ (o : Option (List ℕ)). new_or o (block_of f.base b)) none

  -- ---- one more new block

  module _ (same : DisksAreTheirBlocks) (f : Drafted) (n : ℕ) (bytes : List ℕ) (is : IsDraft f) (below : n < f.base.count)
      (new : IsNewBlock f.base.size (Some bytes)) where
    abbrev written : Drafted
    written = record { base = f.base; blocks = set f.blocks n (Some bytes) }

    pub written_draft : IsDraft written
    written_draft = record {
      disk = is.disk;
      len = length-set f.blocks n (Some bytes) ∙ is.len;
      each = each_set f.base.size f.blocks n (Some bytes) new is.each;
    }

    inside : n < (drafted f).count
    inside = omega (arith, below, drafted_count f)

    complete : length bytes ≡ (drafted f).size
    complete = new.0 ∙ sym (drafted_size f)

    one_block : (b : ℕ) (t : Bool) → nat_eq b n ≡ t → b < f.base.count
        → block_of (drafted written) b ≡ block_of (put n bytes (drafted f)) b
    one_block b true here within =
        let at : b ≡ n = grind (arith, nat_tests) in
        subst (λ (k : ℕ). block_of (drafted written) k ≡ block_of (put n bytes (drafted f)) k) (sym at)
        (drafted_new written n bytes written_draft below (get_or-set_same f.blocks n (Some bytes) None (omega (arith, below, is.len)))
        ∙ sym (put_here (drafted f) n bytes (drafted_disk f is) inside complete))
    one_block b false apart within =
        let other : b ≢ n = grind (arith, nat_tests) in
        drafted_block written b written_draft within
        ∙ ap (λ (o : Option (List ℕ)). new_or o (block_of f.base b)) (get_or-set_other f.blocks n b (Some bytes) None other)
        ∙ sym (drafted_block f b is within)
        ∙ sym (put_other (drafted f) n b bytes (drafted_disk f is) inside other complete)

    pub written_is : drafted written ≡ put n bytes (drafted f)
    written_is =
        same (drafted written) (put n bytes (drafted f)) (drafted_disk written written_draft)
        (put_disk (drafted f) n bytes (drafted_disk f is) inside complete new.1) (drafted_size written ∙ sym (drafted_size f))
        (drafted_count written ∙ sym (drafted_count f))
        (λ b within. one_block b (nat_eq b n) refl (omega (arith, within, drafted_count written)))

-- ---- what differs

pub same_is_unchanged : (d e : Disk) (b : ℕ) → block_of e b ≡ block_of d b → is_changed d e b ≡ false
same_is_unchanged d e b is = ap not ((bytes_eq-Decides (block_of d b) (block_of e b)).1 (sym is))

-- ---- new blocks written into the image, one after another

one_more : (k : ℕ) (os : List (Option (List ℕ))) (n : ℕ) (d : Disk) → n < length os
    → put_from k (take (suc n) os) d ≡ put_new (k + n) (get_or os n None) (put_from k (take n os) d)
one_more k [] n d below = absurd (omega (arith, below))
one_more k (o ∷ os) zero d below = ap (λ (m : ℕ). put_new m o d) (let at : k ≡ k + 0 = omega arith in at)
one_more k (o ∷ os) (suc n) d below =
    one_more (k + 1) os n (put_new k o d) (omega (arith, below))
    ∙ ap (λ (m : ℕ). put_new m (get_or os n None) (put_from (k + 1) (take n os) (put_new k o d)))
    (let at : k + 1 + n ≡ k + suc n = omega arith in at)

pub next_put : (f : Drafted) (n : ℕ) (o : Option (List ℕ)) → n < length f.blocks → get_or f.blocks n None ≡ o
    → put_from 0 (take (n + 1) f.blocks) f.base ≡ put_new n o (put_from 0 (take n f.blocks) f.base)
next_put f n o below is =
    ap (λ (m : ℕ). put_from 0 (take m f.blocks) f.base) (let at : n + 1 ≡ suc n = omega arith in at)
    ∙ one_more 0 f.blocks n f.base below
    ∙ ap (λ (m : ℕ). put_new m (get_or f.blocks n None) (put_from 0 (take n f.blocks) f.base)) (let at : 0 + n ≡ n = omega arith in at)
    ∙ ap (λ (x : Option (List ℕ)). put_new n x (put_from 0 (take n f.blocks) f.base)) is

pub so_far_size : (f : Drafted) (n : ℕ) → (put_from 0 (take n f.blocks) f.base).size ≡ f.base.size
so_far_size f n = all_size 0 (take n f.blocks) f.base

pub so_far_count : (f : Drafted) (n : ℕ) → (put_from 0 (take n f.blocks) f.base).count ≡ f.base.count
so_far_count f n = all_count 0 (take n f.blocks) f.base
