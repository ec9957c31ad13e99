-- Changes made one after another.
use Rattle.std.proofs.Common.{◌≡◌, ℕ, ◌+◌, ◌<◌, ◌≤◌, List, ◌∷◌, length, drop, get_or, refl, ap, sym, subst, ◌∙◌, arith, map}
use Rattle.std.specs.List.{AllByRecursion}
use Rattle.std.proofs.Math.ListN.{drop_of_length-le}
use Rattle.std.proofs.lemmas.List.{drop_more, get_or-map, length-map}
use Rattle.std.proofs.lemmas.List.Elements.{All-from_recursion, All-get_or}
use Rattle.lfs_block.specs.Change.{Change, IsBlockChange, flip}
use Rattle.lfs_block.specs.Disk.{Disk, IsDisk, put, resized}
use Rattle.lfs_block.specs.Geometry.{IsGeometry}
use Rattle.lfs_block.specs.Patch.{ChangeSet, IsGrowth, AgreesNew, applied, put_all, reverted}
use Rattle.lfs_block.specs.PatchLaws.{IsDiskAs, IsDiskOf, FitsDisk}
use Rattle.lfs_block.proofs.PatchLemmas.{cut-made, grown-fits, grown-is_disk, grown-made, reverted-is_disk}
use Rattle.lfs_block.proofs.PutLemmas.{put-is_disk}

-- the first i of changes that fit are made: what is left of them makes the whole change
pub record IsChangedTo (cs : List Change) (i : ℕ) (first now : Disk) : Type 0 where
  pub fits : AllByRecursion (FitsDisk first) cs
  pub complete : put_all (drop i cs) now ≡ put_all cs first
  pub disk : IsDiskAs first now

-- c is the change at i
pub record IsAt (cs : List Change) (i : ℕ) (c : Change) : Type 0 where
  pub within : i < length cs
  pub is : c ≡ get_or cs i c

-- a record that is read of those of a patch
pub at-read : (p q : ChangeSet) (rs : List Change) (i : ℕ) (c : Change) → q ≡ p → rs ≡ q.changes → i < length rs → c ≡ get_or rs i c
    → IsAt p.changes i c
at-read p q rs i c seen same within is =
    subst (λ (es : List Change). IsAt es i c) (same ∙ ap (λ (r : ChangeSet). r.changes) seen) (record { within = within; is = is })

pub at-flipped : (cs : List Change) (i : ℕ) (c : Change) → IsAt cs i c → IsAt (map flip cs) i (flip c)
at-flipped cs i c at =
    record {
      within = omega (arith, at.within, length-map cs flip);
      is = ap flip at.is ∙ sym (get_or-map flip cs i c (flip c) at.within);
    }

pub changed-none : (cs : List Change) (d : Disk) → IsDisk d → AllByRecursion (FitsDisk d) cs → IsChangedTo cs 0 d d
changed-none cs d disk fits = record { fits = fits; complete = refl; disk = record { disk = disk; size = refl; count = refl } }

next-fits : (cs : List Change) (i : ℕ) (c : Change) (first now : Disk) → IsChangedTo cs i first now → IsAt cs i c → FitsDisk now c
next-fits cs i c first now so_far at =
    let here : FitsDisk first c = subst (FitsDisk first) (sym at.is) (All-get_or (FitsDisk first) cs i c at.within
    (All-from_recursion (FitsDisk first) cs so_far.fits)) in
    (subst (λ (k : ℕ). c.number < k) (sym so_far.disk.count) here.0, subst (λ (k : ℕ). IsBlockChange k c) (sym so_far.disk.size) here.1)

-- what writing the change at i asks, where its number and bytes are read of r
pub next-writes : (cs : List Change) (i : ℕ) (r c : Change) (bytes : List ℕ) (first now : Disk) → IsChangedTo cs i first now → IsAt cs i c
    → r ≡ c → bytes ≡ r.new
    → (r.number < now.count) × (length bytes ≡ now.size)
next-writes cs i r c bytes first now so_far at seen read =
    let fits : FitsDisk now r = subst (FitsDisk now) (sym seen) (next-fits cs i c first now so_far at) in
    (fits.0, ap length read ∙ fits.1.new)

pub next-put : (r c : Change) (bytes : List ℕ) (now next : Disk) → r ≡ c → bytes ≡ r.new → next ≡ put r.number bytes now
    → next ≡ put c.number c.new now
next-put r c bytes now next seen read put_is =
    put_is ∙ ap (λ (bs : List ℕ). put r.number bs now) read ∙ ap (λ (e : Change). put e.number e.new now) seen

pub changed-next : (cs : List Change) (i : ℕ) (c : Change) (first now next : Disk) → IsChangedTo cs i first now → IsAt cs i c
    → next ≡ put c.number c.new now
    → IsChangedTo cs (i + 1) first next
changed-next cs i c first now next so_far at put_is =
    let rest : List Change = drop (i + 1) cs in
    let left : drop i cs ≡ c ∷ rest = drop_more cs i c at.within ∙ ap (λ (e : Change). e ∷ rest) (sym at.is) in
    let fit : FitsDisk now c = next-fits cs i c first now so_far at in
    record {
      fits = so_far.fits;
      complete = ap (put_all rest) put_is ∙ ap (λ (es : List Change). put_all es now) (sym left) ∙ so_far.complete;
      disk = subst (IsDiskAs first) (sym put_is) (record {
        disk = put-is_disk now c.number c.new so_far.disk.disk fit.0 fit.1.new fit.1.new_bytes;
        size = so_far.disk.size;
        count = so_far.disk.count;
      });
    }

pub changed-all : (cs : List Change) (i : ℕ) (first now : Disk) → length cs ≤ i → IsChangedTo cs i first now → now ≡ put_all cs first
changed-all cs i first now done so_far = ap (λ (es : List Change). put_all es now) (sym (drop_of_length-le cs done)) ∙ so_far.complete

-- ---- a patch that lengthens: q is how its fields are seen

-- the image that is lengthened is one
pub grown-geometry : (p q : ChangeSet) (d : Disk) → q ≡ p → IsGrowth q → p.size ≡ d.size → IsGeometry d.size q.after
grown-geometry p q d seen grows size =
    subst (λ (k : ℕ). IsGeometry k q.after) (ap (λ (r : ChangeSet). r.size) seen ∙ size) grows.patch.after

-- it is lengthened, and nothing is written yet
pub grown-none : (p q : ChangeSet) (d now : Disk) → q ≡ p → IsGrowth q → IsDisk d → p.size ≡ d.size → now ≡ resized q.after d
    → IsChangedTo p.changes 0 (resized p.after d) now
grown-none p q d now seen grows disk size now_is =
    let is : IsGrowth p = subst IsGrowth seen grows in
    let from : now ≡ resized p.after d = now_is ∙ ap (λ (r : ChangeSet). resized r.after d) seen in
    subst (IsChangedTo p.changes 0 (resized p.after d)) (sym from)
    (changed-none p.changes (resized p.after d) (grown-is_disk p d disk is size) (grown-fits p d is size))

-- all is written
pub grown-all : (p : ChangeSet) (i : ℕ) (d now : Disk) → IsGrowth p → IsDisk d → p.size ≡ d.size → length p.changes ≤ i
    → IsChangedTo p.changes i (resized p.after d) now → (now ≡ applied p d) × IsDiskOf p.size p.after now
grown-all p i d now grows disk size done so_far = (
  changed-all p.changes i (resized p.after d) now done so_far ∙ grown-made p d disk grows size,
  record { disk = so_far.disk.disk; size = so_far.disk.size ∙ sym size; count = so_far.disk.count },
)

-- ---- and backwards

-- the image that is cut is one
pub cut-geometry : (p q : ChangeSet) (d now : Disk) → q ≡ p → IsGrowth q → p.size ≡ d.size → IsDiskAs d now → IsGeometry now.size q.before
cut-geometry p q d now seen grows size kept =
    subst (λ (k : ℕ). IsGeometry k q.before) (ap (λ (r : ChangeSet). r.size) seen ∙ size ∙ sym kept.size) grows.patch.before

-- all is written, and the image is cut
pub cut-all : (p q : ChangeSet) (i : ℕ) (d now next : Disk) → q ≡ p → IsGrowth p → IsDisk d → AgreesNew p d
    → length (map flip p.changes) ≤ i → IsChangedTo (map flip p.changes) i d now → next ≡ resized q.before now
    → (next ≡ reverted p d) × IsDiskOf p.size p.before next
cut-all p q i d now next seen grows disk agrees done so_far next_is =
    let is : next ≡ reverted p d =
    next_is
    ∙ ap (λ (r : ChangeSet). resized r.before now) seen
    ∙ ap (resized p.before) (changed-all (map flip p.changes) i d now done so_far)
    ∙ cut-made p d disk grows agrees in
    let back = reverted-is_disk p d disk grows.patch agrees in (
      is,
      subst (IsDiskOf p.size p.before) (sym is)
          (record { disk = back.disk; size = back.size ∙ sym agrees.size; count = back.count }),
    )
