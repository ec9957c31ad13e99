-- Each entry that is read along a thread stands in a directory of the volume.
use Rattle.std.proofs.Common.{◌≡◌, ◌≢◌, ℕ, Bool, true, false, List, [], ◌∷◌, refl, sym, subst, arith, map, Option, Some, None, zero}
use Rattle.std.proofs.Common.{suc}
use Rattle.std.specs.Prelude.{Contains, flat_map, if◌then◌else◌}
use Rattle.std.specs.List.{slice_get}
use Rattle.std.proofs.lemmas.List.Elements.{Contains-append_left, Contains-append_right}
use Rattle.lfs_meta.specs.declared.kind.Kind.{Kind}
use Rattle.lfs_meta.specs.declared.kind.Kind.TheVariants.{File, Dir, Super}
use Rattle.lfs_meta.specs.Body.{Pair}
use Rattle.lfs_meta.specs.Entry.{StoredEntry}
use Rattle.lfs_meta.specs.Part.{StoredPart}
use Rattle.lfs_fs.specs.Entry.{Entry}
use Rattle.lfs_fs.specs.Directory.{Part, Directory, parts, entries}
use Rattle.lfs_fs.specs.Thread.{Link, is_hard, joined_to, pieces}
use Rattle.lfs_fs.specs.Reading.{Reading}
use Rattle.lfs_fs.specs.Front.{IsThread}
use Rattle.lfs_fs.specs.FrontCause.{StoredOn}
use Rattle.lfs_fs.specs.Held.{resolved_as, resolved, link_of, link_at, directories_at}
use Rattle.lfs_fs.proofs.PrefixLemmas.{contains_more}
use Rattle.lfs_fs.proofs.StoredLemmas.{front_of_thread, there_in_thread}
use Rattle.lfs_fs.proofs.ContainsLemmas.{contains_mapped}
use Rattle.lfs_fs.proofs.ResolvedLemmas.{stood_for}

-- a directory with all entries of a list
pub record Parent (ds : List Directory) (es : List Entry) : Type 0 where
  pub directory : Directory
  pub there : Contains ds directory
  pub all : (x : Entry) → Contains es x → Contains (entries directory) x

parent_joined : (p : Part) (ds : List Directory) → Parent (joined_to p ds) p.entries
parent_joined p [] = record {
  directory = record { first = p; more = [] };
  there = (0, omega arith, refl);
  all = λ x there. Contains-append_left p.entries [] x there;
}
parent_joined p (d ∷ ds) = record {
  directory = record { first = p; more = parts d };
  there = (0, omega arith, refl);
  all = λ x there. Contains-append_left p.entries (entries d) x there;
}

parent_later_at : (p : Part) (ds : List Directory) (d : Directory) → Contains ds d → Parent (joined_to p ds) (entries d)
parent_later_at p [] d there = absurd (omega arith)
parent_later_at p (e ∷ ds) d (zero, within, is) = record {
  directory = record { first = p; more = parts e };
  there = (0, omega arith, refl);
  all = λ x there. Contains-append_right p.entries (entries e) x (subst (λ (y : Directory). Contains (entries y) x) (sym is) there);
}
parent_later_at p (e ∷ ds) d (suc k, within, is) = record { directory = d; there = (suc k, omega arith, is); all = λ x there. there }

parent_step_first : (hard : Bool) (p : Part) (ds : List Directory) → Parent
    (if hard then joined_to p ds else record { first = p; more = [] } ∷ ds) p.entries
parent_step_first true p ds = parent_joined p ds
parent_step_first false p ds = record {
  directory = record { first = p; more = [] };
  there = (0, omega arith, refl);
  all = λ x there. Contains-append_left p.entries [] x there;
}

parent_step_later : (hard : Bool) (p : Part) (ds : List Directory) (es : List Entry) → Parent ds es
    → Parent (if hard then joined_to p ds else record { first = p; more = [] } ∷ ds) es
parent_step_later true p ds es h =
    let later = parent_later_at p ds h.directory h.there in
    record { directory = later.directory; there = later.there; all = λ x there. later.all x (h.all x there) }
parent_step_later false p ds es h = record {
  directory = h.directory;
  there =
      contains_more h.directory (record { first = p; more = [] }) ds h.there;
  all = h.all;
}

parent : (ls : List Link) (l : Link) → Contains ls l → Parent (pieces ls) l.part.entries
parent [] l there = absurd (omega arith)
parent (m ∷ ls) l (zero, within, is) = subst (λ (x : Link). Parent (pieces (m ∷ ls)) x.part.entries) is
    (parent_step_first (is_hard m.tail) m.part (pieces ls))
parent (m ∷ ls) l (suc k, within, is) = parent_step_later (is_hard m.tail) m.part (pieces ls) l.part.entries (parent ls l (k, omega arith, is))

contains_flat : {X Y : Type 0} (f : X → List Y) (xs : List X) (i : ℕ) (x : X) (y : Y) → slice_get xs i ≡ Some x → Contains (f x) y
    → Contains (flat_map f xs) y
contains_flat f [] i x y is there = cc
contains_flat f (z ∷ xs) zero x y is there = let same : z ≡ x = cc in
    Contains-append_left (f z) (flat_map f xs) y (subst (λ w. Contains (f w) y) (sym same) there)
contains_flat f (z ∷ xs) (suc i) x y is there = Contains-append_right (f z) (flat_map f xs) y (contains_flat f xs i x y is there)

is_resolved_as : (r : Reading) (e : StoredEntry) (kind : Kind) → kind ≢ Super → Contains (resolved_as r e kind) (stood_for r e)
is_resolved_as r e File other = (0, omega arith, refl)
is_resolved_as r e Dir other = (0, omega arith, refl)
is_resolved_as r e Super other = absurd (other refl)

in_link : (r : Reading) (p : Pair) (o : Option StoredPart) (s : StoredPart) (i : ℕ) (e : StoredEntry) → o ≡ Some s
    → slice_get s.entries i ≡ Some e → e.kind ≢ Super → Contains (link_of r p o).part.entries (stood_for r e)
in_link r p None s i e is at other = cc
in_link r p (Some t) s i e is at other =
    let same : t ≡ s = cc in
    subst (λ (x : StoredPart). Contains (link_of r p (Some x)).part.entries (stood_for r e)) (sym same)
    (contains_flat (resolved r) s.entries i e (stood_for r e) at (is_resolved_as r e e.kind other))

-- an entry of a directory
pub record IsEntryAmong (ds : List Directory) (e : Entry) : Type 0 where
  pub directory : Directory
  pub there : Contains ds directory
  pub member : Contains (entries directory) e

pub stands : (r : Reading) (ps : List Pair) (e : StoredEntry) (s : StoredOn r e) → IsThread r ps → e.kind ≢ Super
    → IsEntryAmong (directories_at r ps) (stood_for r e)
stands r ps e s thread other =
    let there = there_in_thread s.front ps s.pair (front_of_thread r ps s.front thread s.is_front) s.there in
    let h = parent (map (link_at r) ps) (link_at r s.pair) (contains_mapped (link_at r) ps s.pair there) in
    record {
      directory = h.directory;
      there = h.there;
      member = h.all (stood_for r e)
          (in_link r s.pair (r.part s.pair) s.part s.index e s.read s.member other);
    }
