-- Before the changes that are still to be made stands the next.
use Rattle.std.proofs.Common.{◌≡◌, ◌<◌, ◌∷◌, length, sym, ap, ◌∙◌, subst, arith, ◌↔◌, IsTrue}
use Rattle.std.specs.List.{AllByRecursion}
use Rattle.lfs_block.specs.Patch.{IsGrowth, AgreesOld, AgreesNew, applied, reverted}
use Rattle.lfs_session.specs.Known.{HasRoom}
use Rattle.lfs_session.proofs.RoomLemmas.{room_same}
use Rattle.std.proofs.lemmas.Bool.{false≢true}
use Rattle.lfs_block.specs.Disk.{Disk}
use Rattle.lfs_history.specs.History.{GoesForward}
use Rattle.lfs_session.proofs.OpeningLemmas.{none_on, on_agrees, on_disagrees}
use Rattle.lfs_session.proofs.agreeing.+goes_on.Goals as goal

pub apply-requires-clause-room : goal.apply-requires-clause-room
apply-requires-clause-room t c =
    let is : c.args.patches.now ≡ c.in-Some.first.now ∷ c.in-Some.later.now = c.in-Some.ensures.cases.0 in
    (subst (HasRoom c.args.image.now.room) is c.requires.room).0

pub goes_on-agrees-requires : goal.goes_on-agrees-requires
goes_on-agrees-requires t c =
    let is : c.args.patches.now ≡ c.in-Some.first.now ∷ c.in-Some.later.now = c.in-Some.ensures.cases.0 in
    let len = ap length is in
    let fewer : length c.in-Some.later.now < t = omega (arith, len, c.decreases) in
    let more = room_same c.args.image.now.room c.apply.new.image.room c.in-Some.later.now c.apply.ensures.room
    (subst (HasRoom c.args.image.now.room) is c.requires.room).1 in
    (fewer, (c.apply.ensures.disk.disk, ((subst (AllByRecursion IsGrowth) is c.requires.patches).1, more)))

pub revert-requires : goal.revert-requires
revert-requires t c =
    let p = c.in-Some.first.now in
    let d = c.args.image.now.disk in
    let is : c.args.patches.now ≡ p ∷ c.in-Some.later.now = c.in-Some.ensures.cases.0 in
    let growth : IsGrowth p = (subst (AllByRecursion IsGrowth) is c.requires.patches).0 in
    let agrees : AgreesOld p d = c.agrees_old.ensures.0 c.if-not-agrees_old.false in
    let to : c.goes_on-agrees.new.image.disk ≡ applied p d = c.goes_on-agrees.ensures.disk ∙ c.apply.ensures.applied in
    subst (AgreesNew p) (sym to) (c.applied_patches_revert.ensures.agrees p d c.requires.disk growth.patch agrees)

pub returns-clause-disk : goal.returns-clause-disk
returns-clause-disk t c =
    let p = c.in-Some.first.now in
    let d = c.args.image.now.disk in
    let is : c.args.patches.now ≡ p ∷ c.in-Some.later.now = c.in-Some.ensures.cases.0 in
    let growth : IsGrowth p = (subst (AllByRecursion IsGrowth) is c.requires.patches).0 in
    let agrees : AgreesOld p d = c.agrees_old.ensures.0 c.if-not-agrees_old.false in
    let to : c.goes_on-agrees.new.image.disk ≡ applied p d = c.goes_on-agrees.ensures.disk ∙ c.apply.ensures.applied in
    c.revert.ensures.reverted ∙ ap (reverted p) to ∙ c.applied_patches_revert.ensures.back p d c.requires.disk growth.patch agrees

pub apply-requires-clause-agrees : goal.apply-requires-clause-agrees
apply-requires-clause-agrees t c = c.agrees_old.ensures.0 c.if-not-agrees_old.false

pub returns-in_default-clause-agrees : goal.returns-in_default-clause-agrees
returns-in_default-clause-agrees t c = none_on c.args.patches.now c.args.image.now.disk c.in_default.ensures.cases

pub returns-then-not-agrees_old-clause-agrees : goal.returns-then-not-agrees_old-clause-agrees
returns-then-not-agrees_old-clause-agrees t c =
    on_disagrees c.args.patches.now c.in-Some.later.now c.in-Some.first.now c.args.image.now.disk c.in-Some.ensures.cases.0
    (λ agrees. false≢true (sym c.if-not-agrees_old.true ∙ c.agrees_old.ensures.1 agrees))

pub returns-clause-agrees : goal.returns-clause-agrees
returns-clause-agrees t c =
    let p = c.in-Some.first.now in
    let ps = c.in-Some.later.now in
    let d = c.args.image.now.disk in
    let is = c.in-Some.ensures.cases.0 in
    let growth : IsGrowth p = (subst (AllByRecursion IsGrowth) is c.requires.patches).0 in
    let both : IsTrue c.goes_on-agrees.result ↔ GoesForward ps (applied p d) =
    subst (λ (e : Disk). IsTrue c.goes_on-agrees.result ↔ GoesForward ps e) c.apply.ensures.applied c.goes_on-agrees.ensures.agrees in
    on_agrees c.args.patches.now ps p d c.goes_on-agrees.result is growth (c.agrees_old.ensures.0 c.if-not-agrees_old.false) both

pub returns-clause-room : goal.returns-clause-room
returns-clause-room t c = c.revert.ensures.room ∙ c.goes_on-agrees.ensures.room ∙ c.apply.ensures.room
