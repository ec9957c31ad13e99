-- What an image mounts to whose root's first pair holds its superblock alone.
use Rattle.std.proofs.Common.{◌≡◌, ℕ, ◌<◌, ◌≤◌, List, [], ◌∷◌, refl, ap, arith, ◌∙◌, sym, length}
use Rattle.std.specs.Prelude.{Some, None, replicate, IsSome, true, zero, suc}
use Rattle.std.proofs.lemmas.Option.{none-some}
use Rattle.std.specs.List.{Contains}
use Rattle.std.proofs.lemmas.Bool.Decides.{nat_tests}
use Rattle.std.proofs.lemmas.List.Elements.{All-cons, All-nil}
use Rattle.lfs_meta.specs.declared.tail.Tail.TheVariants.{End}
use Rattle.lfs_meta.specs.Attribute.{Attributes}
use Rattle.lfs_meta.specs.Body.{Pair}
use Rattle.lfs_meta.specs.LiveBlock.{stored_part_of}
use Rattle.lfs_meta.specs.Part.{StoredPart}
use Rattle.lfs_fs.specs.declared.limits.Limits.{Limits as LimitsOf}
use Rattle.lfs_fs.specs.Path.{Path}
use Rattle.lfs_fs.specs.Graph.{walk}
use Rattle.lfs_fs.specs.Pair.{root}
use Rattle.lfs_fs.specs.Entry.{Entry, target}
use Rattle.lfs_fs.specs.Directory.{Directory}
use Rattle.lfs_fs.specs.Volume.{Volume}
use Rattle.lfs_fs.specs.Tree.{entry_in, entry_at, top}
use Rattle.lfs_fs.specs.Row.{Row, path_precedes, AreRows}
use Rattle.lfs_fs.specs.Reading.{Reading, reading_of}
use Rattle.lfs_fs.specs.Front.{IsFront, IsThread, pairs_name}
use Rattle.lfs_fs.specs.Superblock.{HasSuperblock, header_of, superblock_entry}
use Rattle.lfs_fs.specs.Holds.{Holds, IsResolved}
use Rattle.lfs_fs.specs.Formatted.{empty_volume}
use Rattle.lfs_fs.specs.Header.{IsHeader}
use Rattle.lfs_fs.specs.LoneSuperblock.{IsLoneSuperblock, LoneSuperblockMounts}
use Rattle.lfs_fs.proofs.FormattedLemmas.{empty_is_sound, empty_leaves_the_rest}

-- ---- the root's first pair

root_names_within : (b count : ℕ) → 2 ≤ count → 0 < pairs_name b (root ∷ []) → b < count
root_names_within b count h named = grind (arith, nat_tests)

root_names_once : (b : ℕ) → pairs_name b (root ∷ []) ≤ 1
root_names_once b = grind (arith, nat_tests)

root_front : (r : Reading) → 2 ≤ r.count → IsFront r (root ∷ [])
root_front r h = record { follow = (refl, tt); within = λ b named. root_names_within b r.count h named; once = root_names_once }

-- the superblock alone
abbrev super_part : List ℕ → Attributes → StoredPart
super_part bytes attributes = record { entries = superblock_entry bytes attributes ∷ []; tail = End; delta = replicate 12 0 }

lone_part : (p : StoredPart) (bytes : List ℕ) (attributes : Attributes) → IsLoneSuperblock p bytes attributes
    → p ≡ super_part bytes attributes
lone_part p bytes attributes alone = rw (sym alone.is, sym alone.tail, sym alone.delta) refl

-- ---- what it mounts to

has_superblock : (r : Reading) (bytes : List ℕ) (attributes : Attributes) → length bytes ≡ 24
    → r.part root ≡ Some (super_part bytes attributes) → HasSuperblock r bytes attributes
has_superblock r bytes attributes len read = record { part = super_part bytes attributes; read = read; others = []; is = refl; len = len }

root_thread : (r : Reading) (bytes : List ℕ) (attributes : Attributes) → 2 ≤ r.count → r.part root ≡ Some (super_part bytes attributes)
    → IsThread r (root ∷ [])
root_thread r bytes attributes h read = record {
  front = root_front r h;
  parts = All-cons (λ (p : Pair). IsSome (r.part p)) root [] (rw read refl) (All-nil (λ (p : Pair). IsSome (r.part p)));
  ends = rw read refl;
}

contains_one : (x y : Pair) → Contains (x ∷ []) y → y ≡ x
contains_one x y (zero, within, is) = sym is
contains_one x y (suc k, within, is) = absurd (omega arith)

root_holds : (r : Reading) (bytes : List ℕ) (attributes : Attributes) → 2 ≤ r.count → length bytes ≡ 24
    → r.part root ≡ Some (super_part bytes attributes) → IsHeader r.size r.count bytes
    → Holds r (empty_volume r.size r.count (header_of bytes attributes).limits attributes)
unfolding has_superblock
root_holds r bytes attributes h len read header = record {
  pairs = root ∷ [];
  is_thread = root_thread r bytes attributes h read;
  bytes = bytes;
  attributes = attributes;
  superblock = has_superblock r bytes attributes len read;
  version = header.version;
  size = header.size_is;
  count = header.count_is;
  limits = header.limits;
  resolved = All-nil (IsResolved r);
  resolved_later = λ p s there other is. absurd (other (contains_one root p there));
  is = rw read refl;
}

-- nothing stands below the root
none_below : (ds : List Directory) (path : Path) → walk target (entry_in ds) None path ≡ None
none_below ds [] = refl
none_below ds (n ∷ path) = none_below ds path

abbrev root_row : Volume → Row
root_row v = record { path = []; entry = top v }

only_root : (size count : ℕ) (l : LimitsOf) (a : Attributes) (path : Path) (e : Entry)
    → entry_at (empty_volume size count l a) path ≡ Some e → Contains (root_row (empty_volume size count l a) ∷ [])
    (record { path = path; entry = e })
only_root size count l a [] e is = let same : top (empty_volume size count l a) ≡ e = cc in
    (0, omega arith, ap (λ (x : Entry). record { path = []; entry = x }) same)
only_root size count l a (n ∷ path) e is = absurd (none-some e (sym (none_below (empty_volume size count l a).directories path) ∙ is))

root_rows : (size count : ℕ) (l : LimitsOf) (a : Attributes) → AreRows (entry_at (empty_volume size count l a))
    (root_row (empty_volume size count l a) ∷ [])
root_rows size count l a =
    let v = empty_volume size count l a in
    record {
      rise = (All-nil (λ (s : Row). path_precedes [] s.path ≡ true), tt);
      right = All-cons (λ (r : Row). entry_at v r.path ≡ Some r.entry) (root_row v) [] refl
          (All-nil (λ (r : Row). entry_at v r.path ≡ Some r.entry));
      complete = λ p e is. only_root size count l a p e is;
    }

-- the value that is mounted
pub mounted_root : LoneSuperblockMounts
mounted_root d p bytes attributes disk is alone header fit =
    let read : stored_part_of d root ≡ Some (super_part bytes attributes) = is ∙ ap Some (lone_part p bytes attributes alone) in
    let two : 2 ≤ d.count = disk.geometry.count_fits.0 in
    record {
      volume = empty_volume d.size d.count (header_of bytes []).limits attributes;
      holds = root_holds (reading_of d) bytes attributes two alone.len read header;
      sound = empty_is_sound d.size d.count (header_of bytes []).limits attributes two fit;
      outline = refl;
      rows = root_rows d.size d.count (header_of bytes []).limits attributes;
      free = sym (empty_leaves_the_rest d.size d.count (header_of bytes []).limits attributes two);
    }
