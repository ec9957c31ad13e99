-- Changes that can be made of an image, and that rise, are a patch of it, which keeps its count.
use Rattle.std.proofs.Common.{◌≡◌, ◌≢◌, ◌<◌, ◌≤◌, ℕ, nat_lt, true, false, List, [], ◌∷◌, refl, sym, ◌∙◌, arith}
use Rattle.std.specs.List.{AllByRecursion}
use Rattle.std.proofs.lemmas.Bool.Decides.{nat_tests}
use Rattle.lfs_block.specs.Change.{Change, IsRising}
use Rattle.lfs_block.specs.Disk.{Disk, IsDisk, block_at, block_of, erased_block, resized}
use Rattle.lfs_block.specs.Geometry.{IsGeometry}
use Rattle.lfs_block.specs.Patch.{AgreesAt, AgreesOld, ChangeSet, IsChangeIn, IsGrowth}
use Rattle.lfs_block.proofs.ResizeLemmas.{resized-block}
use Rattle.lfs_law.specs.WrittenLinks.{CanBeMade}

-- changes as a patch that keeps the count
abbrev pub kept_patch : ℕ → ℕ → List Change → ChangeSet
kept_patch size count cs = record { size = size; before = count; after = count; changes = cs }

pub same_patch : (d : Disk) (size count : ℕ) (cs : List Change) → size ≡ d.size → count ≡ d.count
    → kept_patch size count cs ≡ kept_patch d.size d.count cs
same_patch d size count cs is many = rw (is, many) refl

-- ---- one change

-- a block of the image
at_inside : (d : Disk) (n : ℕ) → n < d.count → block_at d n ≡ block_of d n
at_inside d n below = let test : nat_lt n d.count ≡ true = grind (arith, nat_tests) in rw test refl

-- one behind its end
at_behind : (d : Disk) (n : ℕ) → d.count ≤ n → block_at d n ≡ erased_block d.size
at_behind d n behind = let test : nat_lt n d.count ≡ false = grind (arith, nat_tests) in rw test refl

change_in : (d : Disk) (c : Change) → CanBeMade d c → IsChangeIn d.size d.count d.count c
change_in d c made = record {
  complete = made.complete;
  within = omega (arith, made.stands.0);
  old = λ behind. absurd (omega (arith, behind, made.stands.0));
  new = λ behind. absurd (omega (arith, behind, made.stands.0));
}

-- ---- all changes

each_in : (d : Disk) (cs : List Change) → AllByRecursion (CanBeMade d) cs → AllByRecursion (IsChangeIn d.size d.count d.count) cs
each_in d [] made = tt
each_in d (c ∷ cs) made = (change_in d c made.0, each_in d cs made.1)

each_agrees : (d : Disk) (cs : List Change) → AllByRecursion (CanBeMade d) cs → AllByRecursion (AgreesAt d) cs
each_agrees d [] made = tt
each_agrees d (c ∷ cs) made = (at_inside d c.number made.0.stands.0 ∙ made.0.stands.1, each_agrees d cs made.1)

pub kept_growth : (d : Disk) (cs : List Change) → IsDisk d → cs ≢ [] → IsRising cs → AllByRecursion (CanBeMade d) cs
    → IsGrowth (kept_patch d.size d.count cs)
kept_growth d cs disk some rising made = record {
  patch = record {
    some = some;
    rising = rising;
    before = disk.geometry;
    after = disk.geometry;
    each = each_in d cs made;
  };
  rise = omega arith;
}

pub kept_agrees : (d : Disk) (cs : List Change) → AllByRecursion (CanBeMade d) cs → AgreesOld (kept_patch d.size d.count cs) d
kept_agrees d cs made = record {
  size = refl;
  count = refl;
  stand = each_agrees d cs made;
  rest = λ n behind unnamed. at_behind d n behind;
}

-- ---- an image that is lengthened

-- changes of the lengthened image as a patch of the image itself
abbrev pub grown_patch : ℕ → ℕ → ℕ → List Change → ChangeSet
grown_patch size before after cs = record { size = size; before = before; after = after; changes = cs }

grown_change : (d : Disk) (n : ℕ) (c : Change) → IsDisk d → d.count ≤ n → CanBeMade (resized n d) c → IsChangeIn d.size d.count n c
grown_change d n c disk more made = record {
  complete = made.complete;
  within = omega (arith, made.stands.0, more);
  old = λ behind. sym made.stands.1 ∙ resized-block d n c.number disk made.stands.0 ∙ at_behind d c.number behind;
  new = λ behind. absurd (omega (arith, behind, made.stands.0));
}

grown_each : (d : Disk) (n : ℕ) (cs : List Change) → IsDisk d → d.count ≤ n → AllByRecursion (CanBeMade (resized n d)) cs
    → AllByRecursion (IsChangeIn d.size d.count n) cs
grown_each d n [] disk more made = tt
grown_each d n (c ∷ cs) disk more made = (grown_change d n c disk more made.0, grown_each d n cs disk more made.1)

grown_stand : (d : Disk) (n : ℕ) (cs : List Change) → IsDisk d → AllByRecursion (CanBeMade (resized n d)) cs
    → AllByRecursion (AgreesAt d) cs
grown_stand d n [] disk made = tt
grown_stand d n (c ∷ cs) disk made = (
  sym (resized-block d n c.number disk made.0.stands.0) ∙ made.0.stands.1,
  grown_stand d n cs disk made.1,
)

pub grown_growth : (d : Disk) (n : ℕ) (cs : List Change) → IsDisk d → IsGeometry d.size n → d.count ≤ n → cs ≢ [] → IsRising cs
    → AllByRecursion (CanBeMade (resized n d)) cs → IsGrowth (grown_patch d.size d.count n cs)
grown_growth d n cs disk fits more some rising made = record {
  patch = record {
    some = some;
    rising = rising;
    before = disk.geometry;
    after = fits;
    each = grown_each d n cs disk more made;
  };
  rise = more;
}

pub grown_agrees : (d : Disk) (n : ℕ) (cs : List Change) → IsDisk d → d.count ≤ n → AllByRecursion (CanBeMade (resized n d)) cs
    → AgreesOld (grown_patch d.size d.count n cs) d
grown_agrees d n cs disk more made = record {
  size = refl;
  count = refl;
  stand = grown_stand d n cs disk made;
  rest = λ b behind unnamed. at_behind d b (omega (arith, behind, more));
}
