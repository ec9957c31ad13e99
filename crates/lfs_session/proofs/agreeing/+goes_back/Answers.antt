-- Behind the change that is taken back stand those before it.
use Rattle.std.proofs.Common.{◌≡◌, ◌↔◌, ◌<◌, ◌≤◌, ℕ, [], ◌∷◌, ◌++◌, length, IsTrue, reverse, sym, ap, ◌∙◌, subst, arith, length-append}
use Rattle.std.specs.List.{AllByRecursion}
use Rattle.lfs_block.specs.Disk.{Disk}
use Rattle.lfs_block.specs.Patch.{IsGrowth, AgreesOld, AgreesNew, applied, reverted}
use Rattle.lfs_history.specs.History.{GoesBack}
use Rattle.lfs_session.specs.Known.{HasRoom}
use Rattle.lfs_session.proofs.OpeningLemmas.{each_last, last_of, back_agrees, back_disagrees, none_back}
use Rattle.lfs_session.proofs.RoomLemmas.{room_same}
use Rattle.std.proofs.lemmas.Bool.{false≢true}
use Rattle.lfs_session.proofs.agreeing.+goes_back.Goals as goal

pub goes_back-agrees-requires : goal.goes_back-agrees-requires
goes_back-agrees-requires t c =
    let p = c.in-Some.last.now in
    let ps = c.in-Some.earlier.now in
    let is : c.args.patches.now ≡ ps ++ p ∷ [] = c.in-Some.ensures.cases.0 in
    let growths = subst (AllByRecursion IsGrowth) is c.requires.patches in
    let room = subst (HasRoom c.args.image.now.room) is c.requires.room in
    let len = ap length is ∙ length-append ps (p ∷ []) in
    let fewer : length ps < t = omega (arith, len, c.decreases) in
    let more = room_same c.args.image.now.room c.revert.new.image.room ps c.revert.ensures.room
    (each_last (λ q. q.after ≤ c.args.image.now.room) ps p room).0 in
    (fewer, (c.revert.ensures.disk.disk, ((each_last IsGrowth ps p growths).0, more)))

pub apply-requires-clause-agrees : goal.apply-requires-clause-agrees
apply-requires-clause-agrees t c =
    let p = c.in-Some.last.now in
    let d = c.args.image.now.disk in
    let is : c.args.patches.now ≡ c.in-Some.earlier.now ++ p ∷ [] = c.in-Some.ensures.cases.0 in
    let growth = last_of IsGrowth c.args.patches.now c.in-Some.earlier.now p is c.requires.patches in
    let agrees : AgreesNew p d = c.agrees_new.ensures.0 c.if-not-agrees_new.false in
    let to : c.goes_back-agrees.new.image.disk ≡ reverted p d = c.goes_back-agrees.ensures.disk ∙ c.revert.ensures.reverted in
    subst (AgreesOld p) (sym to) (c.reverted_patches_apply_again.ensures.agrees p d c.requires.disk growth.patch agrees)

pub apply-requires-clause-room : goal.apply-requires-clause-room
apply-requires-clause-room t c =
    let p = c.in-Some.last.now in
    let is : c.args.patches.now ≡ c.in-Some.earlier.now ++ p ∷ [] = c.in-Some.ensures.cases.0 in
    let fits = last_of (λ q. q.after ≤ c.args.image.now.room) c.args.patches.now c.in-Some.earlier.now p is c.requires.room in
    subst (λ (n : ℕ). p.after ≤ n) (sym (c.goes_back-agrees.ensures.room ∙ c.revert.ensures.room)) fits

pub returns-clause-agrees : goal.returns-clause-agrees
returns-clause-agrees t c =
    let p = c.in-Some.last.now in
    let ps = c.in-Some.earlier.now in
    let d = c.args.image.now.disk in
    let is : c.args.patches.now ≡ c.in-Some.earlier.now ++ p ∷ [] = c.in-Some.ensures.cases.0 in
    let growth = last_of IsGrowth c.args.patches.now c.in-Some.earlier.now p is c.requires.patches in
    let agrees : AgreesNew p d = c.agrees_new.ensures.0 c.if-not-agrees_new.false in
    let both : IsTrue c.goes_back-agrees.result ↔ GoesBack (reverse ps) (reverted p d) =
    subst (λ (e : Disk). IsTrue c.goes_back-agrees.result ↔ GoesBack (reverse ps) e) c.revert.ensures.reverted c.goes_back-agrees.ensures.agrees in
    back_agrees c.args.patches.now ps p d c.goes_back-agrees.result is growth agrees both

pub returns-clause-disk : goal.returns-clause-disk
returns-clause-disk t c =
    let p = c.in-Some.last.now in
    let d = c.args.image.now.disk in
    let is : c.args.patches.now ≡ c.in-Some.earlier.now ++ p ∷ [] = c.in-Some.ensures.cases.0 in
    let growth = last_of IsGrowth c.args.patches.now c.in-Some.earlier.now p is c.requires.patches in
    let agrees : AgreesNew p d = c.agrees_new.ensures.0 c.if-not-agrees_new.false in
    let to : c.goes_back-agrees.new.image.disk ≡ reverted p d = c.goes_back-agrees.ensures.disk ∙ c.revert.ensures.reverted in
    c.apply.ensures.applied ∙ ap (applied p) to ∙ c.reverted_patches_apply_again.ensures.again p d c.requires.disk growth.patch agrees

pub revert-requires : goal.revert-requires
revert-requires t c = c.agrees_new.ensures.0 c.if-not-agrees_new.false

pub returns-in_default-clause-agrees : goal.returns-in_default-clause-agrees
returns-in_default-clause-agrees t c = none_back c.args.patches.now c.args.image.now.disk c.in_default.ensures.cases

pub returns-then-not-agrees_new-clause-agrees : goal.returns-then-not-agrees_new-clause-agrees
returns-then-not-agrees_new-clause-agrees t c =
    back_disagrees c.args.patches.now c.in-Some.earlier.now c.in-Some.last.now c.args.image.now.disk c.in-Some.ensures.cases.0
    (λ agrees. false≢true (sym c.if-not-agrees_new.true ∙ c.agrees_new.ensures.1 agrees))

pub returns-clause-room : goal.returns-clause-room
returns-clause-room t c = c.apply.ensures.room ∙ c.goes_back-agrees.ensures.room ∙ c.revert.ensures.room
