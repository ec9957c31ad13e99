-- An entry that is a superblock, and attributes within a limit.
use Rattle.std.proofs.Common.{◌≡◌, ℕ, ◌+◌, ◌<◌, ◌≤◌, List, [], ◌∷◌, refl, sym, arith, length}
use Rattle.std.specs.Prelude.{All}
use Rattle.std.proofs.lemmas.List.Elements.{All-cons, All-nil, All-head, All-tail}
use Rattle.lfs_meta.specs.Attribute.{Attributes}
use Rattle.lfs_meta.specs.Entry.{StoredEntry}
use Rattle.lfs_meta.specs.Fits.{RiseFrom}
use Rattle.lfs_fs.specs.Sound.{AreAttributes}
use Rattle.lfs_fs.specs.Superblock.{IsSuperblock, superblock_entry}

pub super_by : (e : StoredEntry) (bytes : List ℕ) → IsSuperblock e bytes → e ≡ superblock_entry bytes e.attributes
super_by e bytes is = rw (sym is.kind, sym is.name, sym is.body) refl

-- attributes that rise from some kind on have no lesser one
above : (m n : ℕ) (more : Attributes) → m < n → RiseFrom n more → All (λ (b : ℕ × List ℕ). m < b.0) more
above m n [] less rise = All-nil (λ (b : ℕ × List ℕ). m < b.0)
above m n (a ∷ more) less rise =
    let least = rise.0 in
    All-cons (λ (b : ℕ × List ℕ). m < b.0) a more (omega arith) (above m (a.0 + 1) more (omega arith) rise.2)

-- attributes of an entry, within a limit
pub are_attributes : (limit least : ℕ) (a : Attributes) → RiseFrom least a → All (λ (x : ℕ × List ℕ). length x.1 ≤ limit) a
    → AreAttributes limit a
are_attributes limit least [] rise fit = tt
are_attributes limit least (x ∷ more) rise fit = (
  All-head (λ (x : ℕ × List ℕ). length x.1 ≤ limit) x more fit,
  above x.0 (x.0 + 1) more (omega arith) rise.2,
  are_attributes limit (x.0 + 1) more rise.2 (All-tail (λ (x : ℕ × List ℕ). length x.1 ≤ limit) x more fit),
)
