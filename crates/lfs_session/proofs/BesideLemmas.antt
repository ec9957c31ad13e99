-- What is known of an image beside one whose outline is known.
use Rattle.std.proofs.Common.{◌≡◌, ℕ, List, [], ◌∷◌, Option, None, Some, refl, ap, sym, ◌∙◌, subst, map}
use Rattle.std.specs.Prelude.{IfSome}
use Rattle.lfs_block.specs.Change.{Change, flip}
use Rattle.lfs_block.specs.Disk.{Disk, IsDisk, block_of}
use Rattle.lfs_block.specs.Patch.{AgreesNew, AgreesOld, ChangeSet, IsPatch, applied, flipped, reverted}
use Rattle.lfs_block.specs.PatchLaws.{FlippedIsPatch, KeptBlocks, KeptIsDisk}
use Rattle.lfs_fs.specs.Mounted.{IsOutlineOf}
use Rattle.lfs_fs.specs.Uses.{times}
use Rattle.lfs_fs.specs.Volume.{Volume}
use Rattle.lfs_law.specs.WrittenLinks.{changed_blocks}
use Rattle.lfs_law.proofs.ChangesAt.{overlaid_none}
use Rattle.lfs_law.proofs.OutlinesWritten.{none_named}
use Rattle.lfs_session.specs.Beside.{IsBeside}

pub beside_applied : KeptIsDisk → KeptBlocks → (p : ChangeSet) (d : Disk) (o : Volume) → IsDisk d → IsPatch p → AgreesOld p d
    → IsOutlineOf d o → IsBeside p (applied p d) o
beside_applied is_disk blocks p d o disk patch agrees known kept = record {
  before = d;
  disk = disk;
  outline = known;
  but = record {
    disk = is_disk p d disk patch agrees kept;
    others = λ n none. blocks p d n disk patch agrees kept ∙ overlaid_none p.changes n (block_of d n) (none_named n p.changes none);
  };
}

same_numbers : (cs : List Change) → changed_blocks (map flip cs) ≡ changed_blocks cs
same_numbers [] = refl
same_numbers (c ∷ cs) = ap (λ (ns : List ℕ). c.number ∷ ns) (same_numbers cs)

pub beside_reverted : FlippedIsPatch → KeptIsDisk → KeptBlocks → (p : ChangeSet) (d : Disk) (o : Volume) → IsDisk d → IsPatch p
    → AgreesNew p d → IsOutlineOf d o → IsBeside p (reverted p d) o
beside_reverted backwards is_disk blocks p d o disk patch agrees known kept = record {
  before = d;
  disk = disk;
  outline = known;
  but = record {
    disk = is_disk (flipped p) d disk (backwards p patch) agrees (sym kept);
    others = λ n none. blocks (flipped p) d n disk (backwards p patch) agrees (sym kept)
        ∙ overlaid_none (flipped p).changes n (block_of d n)
        (none_named n (flipped p).changes (ap (times n) (same_numbers p.changes) ∙ none));
  };
}

-- what is known, if anything is
pub known_behind : KeptIsDisk → KeptBlocks → (p : ChangeSet) (d e : Disk) (known : Option Volume) → IsDisk d → IsPatch p → AgreesOld p d
    → e ≡ applied p d → IfSome known (λ o. IsOutlineOf d o) → IfSome known (λ o. IsBeside p e o)
known_behind is_disk blocks p d e None disk patch agrees is known = tt
known_behind is_disk blocks p d e (Some o) disk patch agrees is known =
    subst (λ (x : Disk). IsBeside p x o) (sym is) (beside_applied is_disk blocks p d o disk patch agrees known)

pub known_before : FlippedIsPatch → KeptIsDisk → KeptBlocks → (p : ChangeSet) (d e : Disk) (known : Option Volume) → IsDisk d → IsPatch p
    → AgreesNew p d → e ≡ reverted p d → IfSome known (λ o. IsOutlineOf d o) → IfSome known (λ o. IsBeside p e o)
known_before backwards is_disk blocks p d e None disk patch agrees is known = tt
known_before backwards is_disk blocks p d e (Some o) disk patch agrees is known =
    subst (λ (x : Disk). IsBeside p x o) (sym is) (beside_reverted backwards is_disk blocks p d o disk patch agrees known)
