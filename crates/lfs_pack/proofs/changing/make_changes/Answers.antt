-- The changes are a patch of the image, which keeps its count.
use Rattle.std.proofs.Common.{◌≡◌, ◌≢◌, ◌==◌, ℕ, Bool, false, List, [], length, ap, sym, ◌∙◌, subst, refl, vec_len}
use Rattle.std.specs.List.{AllByRecursion}
use Rattle.std.proofs.lemmas.Bool.{eqb-false}
use Rattle.lfs_block.specs.Change.{Change, IsRising}
use Rattle.lfs_block.specs.Disk.{Disk, IsDisk}
use Rattle.lfs_block.specs.Patch.{AgreesOld, ChangeSet, IsGrowth, applied, put_all}
use Rattle.lfs_block.specs.PatchLaws.{AppliedChanges}
use Rattle.lfs_law.specs.WrittenLinks.{CanBeMade}
use Rattle.lfs_law.proofs.KeptPatches.{kept_agrees, kept_growth, kept_patch, same_patch}
use Rattle.lfs_pack.proofs.changing.make_changes.Goals as goal

some : (cs : List Change) (len : ℕ) (empty : Bool) → len ≡ length cs → empty ≡ (len == 0) → empty ≡ false → cs ≢ []
some cs len empty len_is is some_there none = eqb-false len 0 (sym is ∙ some_there) (len_is ∙ ap length none)

made : AppliedChanges → (d : Disk) (cs : List Change) (p : ChangeSet) → IsDisk d → cs ≢ [] → IsRising cs → AllByRecursion (CanBeMade d) cs
    → p ≡ kept_patch d.size d.count cs → applied p d ≡ put_all cs d
made law d cs p disk some' rising can is =
    ap (λ (q : ChangeSet). applied q d) is
    ∙ (law (kept_patch d.size d.count cs) d disk (kept_growth d cs disk some' rising can).patch (kept_agrees d cs can) refl).1

pub of-patch-requires : goal.of-patch-requires
of-patch-requires c =
    let d = c.args.image.now.disk in
    let cs = c.args.changes.items in
    subst IsGrowth (sym (same_patch d c.size-size.result c.count-count.result cs c.size-size.ensures.value c.count-count.ensures))
    (kept_growth d cs c.size-size.ensures.disk
    (some cs (vec_len c.args.changes) c.is_empty.result c.args.changes.ok.0 c.is_empty.ensures c.if-is_empty.false)
    c.requires.rising c.requires.can)

pub apply-requires-clause-agrees : goal.apply-requires-clause-agrees
apply-requires-clause-agrees c =
    let d = c.args.image.now.disk in
    let cs = c.args.changes.items in
    let same = c.of-patch.ensures
    ∙ same_patch d c.size-size.result c.count-count.result cs c.size-size.ensures.value c.count-count.ensures in
    subst (λ (p : ChangeSet). AgreesOld p d) (sym same) (kept_agrees d cs c.requires.can)

pub returns-clause-made : goal.returns-clause-made
returns-clause-made c =
    let d = c.args.image.now.disk in
    let cs = c.args.changes.items in
    let same = c.of-patch.ensures
    ∙ same_patch d c.size-size.result c.count-count.result cs c.size-size.ensures.value c.count-count.ensures in
    c.apply.ensures.applied
    ∙ made c.kept_counts_change_their_blocks.ensures.changes d cs c.of-patch.result c.size-size.ensures.disk
    (some cs (vec_len c.args.changes) c.is_empty.result c.args.changes.ok.0 c.is_empty.ensures c.if-is_empty.false)
    c.requires.rising c.requires.can same

pub returns-clause-disk : goal.returns-clause-disk
returns-clause-disk c =
    let d = c.args.image.now.disk in
    let cs = c.args.changes.items in
    let same = c.of-patch.ensures
    ∙ same_patch d c.size-size.result c.count-count.result cs c.size-size.ensures.value c.count-count.ensures in
    record {
      disk = c.apply.ensures.disk.disk;
      size = c.apply.ensures.disk.size ∙ ap (λ (p : ChangeSet). p.size) same;
      count = c.apply.ensures.disk.count ∙ ap (λ (p : ChangeSet). p.after) same;
    }
