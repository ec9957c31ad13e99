-- An erased image is one of the root alone.
use Rattle.std.proofs.Common.{◌≡◌, ◌≤◌, ℕ, false, List, [], length, refl, ap, sym, subst, arith}
use Rattle.std.specs.Prelude.{Contains}
use Rattle.std.proofs.lemmas.List.Elements.{All-cons, All-nil}
use Rattle.lfs_block.specs.Disk.{Disk}
use Rattle.lfs_block.specs.Geometry.{IsGeometry}
use Rattle.lfs_fs.specs.declared.limits.Limits.{Limits}
use Rattle.lfs_fs.specs.Directory.{Part}
use Rattle.lfs_fs.specs.Entry.{Entry}
use Rattle.lfs_fs.specs.Formatted.{empty_volume}
use Rattle.lfs_fs.specs.Thread.{Link}
use Rattle.lfs_fs.proofs.FormattedLemmas.{empty_is_sound}
use Rattle.lfs_law.proofs.LinksAdded.{contains_one}
use Rattle.lfs_pack.specs.OutlinesTaken.{FitsNewPair}
use Rattle.lfs_pack.specs.NewImages.{AllAreLaid}
use Rattle.lfs_pack.specs.Unwritten.{AreThere, ErasedAreUnwritten}

-- it has no files
none_inside : (x : Entry) → Contains [] x → ⊥
none_inside x there = omega arith

none_there : (size count : ℕ) (d : Disk) (l : Limits) → AreThere d (empty_volume size count l [])
none_there size count d l k there x inside =
    let bare : k.part.entries ≡ [] = ap (λ (m : Link). m.part.entries) (contains_one _ k there) in
    absurd (none_inside x (subst (λ (es : List Entry). Contains es x) bare inside))

none_laid : (size count : ℕ) (d : Disk) (l : Limits) → AllAreLaid d (empty_volume size count l [])
none_laid size count d l k there x inside =
    let bare : k.part.entries ≡ [] = ap (λ (m : Link). m.part.entries) (contains_one _ k there) in
    absurd (none_inside x (subst (λ (es : List Entry). Contains es x) bare inside))

pub erased_are_unwritten : ErasedAreUnwritten
erased_are_unwritten size count d limits is ranges =
    let many : 2 ≤ d.count = is.disk.geometry.count_fits.0 in
    let large : 256 ≤ d.size = is.disk.geometry.size_fits.0 in
    record {
      disk = is.disk;
      size = sym is.size_is;
      count = sym is.count_is;
      holdable = record {
        sound = empty_is_sound size count limits [] (omega (arith, many, is.count_is)) tt;
        clean = All-cons (λ (p : Part). p.dirty ≡ false) _ [] refl (All-nil (λ (p : Part). p.dirty ≡ false));
        limits = ranges;
        fits = subst (λ (n : ℕ). IsGeometry n count) is.size_is (subst (IsGeometry d.size) is.count_is is.disk.geometry);
        few = All-cons (λ (p : Part). length p.entries ≤ 65536) _ [] (omega arith) (All-nil (λ (p : Part). length p.entries ≤ 65536));
      };
      fit = All-cons (FitsNewPair d (empty_volume size count limits [])) _ []
          (record { few = omega arith; light = omega (arith, large, is.size_is); none = refl; erased = is.erased 1 (omega (arith, many)) })
          (All-nil (FitsNewPair d (empty_volume size count limits [])));
      erased = λ b below none. is.erased b below;
      there = none_there size count d limits;
      laid = none_laid size count d limits;
    }
