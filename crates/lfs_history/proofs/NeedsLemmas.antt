-- How much longer commands that are carried out together make a journal.
use Rattle.std.proofs.Common.{◌≡◌, ◌+◌, ◌*◌, ◌≤◌, List, [], ◌∷◌, length, ap, arith}
use Rattle.std.proofs.lemmas.Nat.{mul-le}
use Rattle.lfs_block.specs.Disk.{Disk, IsDisk}
use Rattle.lfs_block.specs.Patch.{ChangeSet, applied}
use Rattle.lfs_journal.specs.Joined.{together}
use Rattle.lfs_journal.specs.JointLaws.{TogetherIsShort, blocks_named}
use Rattle.lfs_fs.specs.Stored.{HeldAreHeldByLinks}
use Rattle.lfs_journal.specs.Book.{patch_bytes}
use Rattle.lfs_journal.proofs.Lengths.{patch_len}
use Rattle.lfs_command.specs.Command.{Asked}
use Rattle.lfs_law.specs.Laws.{FewPartsChange}
use Rattle.lfs_law.specs.Written.{HeldAreClean}
use Rattle.lfs_history.specs.Together.{PlansAll, PlansTogether, needs}
use Rattle.lfs_history.specs.TogetherLaws.{JournalsGrowByTheNeeds, KeptJournalsGrowByTheNeeds, TogetherIsOneByOne}
use Rattle.lfs_history.proofs.GrowthLemmas.{changes_few, longer_than_all, longer_than_kept}

-- what is owed by the layers below
pub record Few : Type 0 where
  pub parts : FewPartsChange
  pub clean : HeldAreClean
  pub links : HeldAreHeldByLinks
  pub short : TogetherIsShort
  pub one : TogetherIsOneByOne

-- the commands change no more blocks than they need, and two more each
all_few : Few → (d : Disk) (asked : List Asked) (ps : List ChangeSet) (plans : PlansAll d asked ps) → blocks_named ps ≤ needs d asked ps plans
all_few law d [] [] plans = omega arith
all_few law d (a ∷ asked) (p ∷ ps) plans =
    let first = changes_few law.parts law.clean law.links d a p plans.0 in
    let rest = all_few law (applied p d) asked ps plans.1 in
    omega arith
all_few law d [] (p ∷ ps) plans = absurd plans
all_few law d (a ∷ asked) [] plans = absurd plans

together_few : Few → (d : Disk) (asked : List Asked) (r : ChangeSet) (plans : PlansTogether d asked r) → IsDisk d
    → length (patch_bytes r) ≤ 12 + needs d asked (plans.first ∷ plans.later) plans.plans * (2 * d.size + 4)
together_few law d asked r plans disk =
    let joint = law.one d asked r plans disk in
    let size = joint.stands.size in
    let len = patch_len r joint.growth.patch in
    let named = law.short plans.first plans.later in
    let same : length r.changes ≡ length (together plans.first plans.later).changes =
    ap (λ (q : ChangeSet). length q.changes) plans.is in
    let few = all_few law d asked (plans.first ∷ plans.later) plans.plans in
    let many = needs d asked (plans.first ∷ plans.later) plans.plans in
    let most : length r.changes ≤ many = omega arith in
    let bytes : 2 * r.size + 4 ≤ 2 * d.size + 4 = omega arith in
    let times = mul-le (length r.changes) (2 * r.size + 4) many (2 * d.size + 4) most bytes in
    omega arith

pub kept_journal_grows_by_all : Few → KeptJournalsGrowByTheNeeds
kept_journal_grows_by_all law asked keep old new version does h =
    let more = together_few law old.present asked does.change does.plans h.disk in
    let longer = longer_than_kept does.change _ keep old new version does.room does.pushes more in
    omega arith

pub journal_grows_by_all : Few → JournalsGrowByTheNeeds
journal_grows_by_all law asked keep old new version does h =
    let more = together_few law old.present asked does.change does.plans h.disk in
    let longer = longer_than_all does.change _ keep old new version does.room does.pushes more in
    omega arith
