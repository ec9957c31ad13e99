-- Room is made, the commands are joined, their patch is put at the place, and what isn't kept is dropped.
use Rattle.std.proofs.Common.{◌≡◌, ◌≤◌, ◌+◌, ℕ, List, [], ◌∷◌, ◌++◌, map, take, Option, None, Some, vec_capacity, vec_len, true}
use Rattle.std.proofs.Common.{ap, sym, ◌∙◌, subst, arith}
use Rattle.std.specs.Result.{is_ok}
use Rattle.std.proofs.lemmas.Bool.{false≢true}
use Rattle.lfs_block.specs.Disk.{Disk}
use Rattle.lfs_block.specs.Patch.{ChangeSet}
use Rattle.lfs_command.specs.AskedFor.{asked_for}
use Rattle.lfs_history.specs.History.{History, history_at}
use Rattle.lfs_history.specs.Taking.{HasPlace}
use Rattle.lfs_history.specs.Together.{DoesTogether}
use Rattle.lfs_history.proofs.MoveLemmas.{Make}
use Rattle.lfs_session.specs.Joining.{AreJoined}
use Rattle.lfs_session.specs.Known.{IsKnown, IsSession}
use Rattle.lfs_session.proofs.PlaceLemmas.{IsPut}
use Rattle.lfs_session.proofs.RoomLemmas.{room_kept, room_put, session_grows}
use Rattle.lfs_session.proofs.TogetherLemmas.{on_no_err, on_ok, refused_first, together_at}
use Rattle.lfs_session.proofs.session.Session.push_all.Goals as goal

pub returns-in-Err-clause-unchanged : goal.returns-in-Err-clause-unchanged
returns-in-Err-clause-unchanged c =
    let s = c.self.inside in
    ap (λ (changes : List ChangeSet). history_at c.joined.new.image.disk changes s.done) c.reserve.ensures.items
    ∙ ap (λ (d : Disk). history_at d s.patches.items s.done) c.in-Err.ensures.unchanged
    ∙ c.self.view_is

pub returns-then-is_err-clause-refused : goal.returns-then-is_err-clause-refused
returns-then-is_err-clause-refused c =
    let s = c.self.inside in (
      c.requires.place,
      refused_first c.args.self.now.present c.args.commands.now c.requires.some,
      ap (λ (changes : List ChangeSet). history_at s.image.disk changes s.done) c.reserve.ensures.items ∙ c.self.view_is,
    )

pub prove-unreachable-requires-in-Ok-Some : goal.prove-unreachable-requires-in-Ok-Some
prove-unreachable-requires-in-Ok-Some c =
    let room : vec_len c.reserve.new.self + 1 ≤ vec_capacity c.reserve.new.self =
    on_no_err c.reserve.result (sym c.is_err.ensures.value ∙ c.if-is_err.false) c.reserve.ensures.ok in
    let succeeds : is_ok c.replace_from-put.result ≡ true = c.replace_from-put.ensures.succeeds (omega arith) in
    false≢true (sym c.if-prove-2.true ∙ c.is_ok.ensures.value ∙ succeeds)

pub invariant_of-self-in-Ok-Some : goal.invariant_of-self-in-Ok-Some
invariant_of-self-in-Ok-Some c =
    let s = c.self.inside in
    let p : ChangeSet = c.in-Ok-Some.patch in
    let d : Disk = s.image.disk in
    let e : Disk = c.joined.new.image.disk in
    let asked = map asked_for c.args.commands.now in
    let news = c.replace_from-put.new.patches.items in
    let kept = c.keep_latest-self-inside.new.patches.items in
    let joined : AreJoined d asked (Some p) e = subst (λ (o : Option ChangeSet). AreJoined d asked o e) c.in-Ok-Some.field-0-is
    c.in-Ok-Some.ensures.joined in
    let made = c.applied_patches_change_their_blocks.ensures in
    let back = c.applied_patches_revert.ensures in
    let law : Make = record { disk = made.disk; agrees = back.agrees; back = back.back } in
    let all : news ≡ take s.done c.reserve.new.self.items ++ p ∷ [] =
    on_ok c.replace_from-put.result (sym c.is_ok.ensures.value ∙ c.if-prove-2.false) c.replace_from-put.ensures.done in
    let is : news ≡ take s.done s.patches.items ++ p ∷ [] =
    all ∙ ap (λ (ps : List ChangeSet). take s.done ps ++ p ∷ []) c.reserve.ensures.items in
    let put : IsPut s.patches.items news s.done p = record { all = is; within = c.self.invariant.at.within } in
    let fits : p.after ≤ c.joined.new.image.room =
    subst (λ (n : ℕ). n ≤ c.joined.new.image.room) (ap (λ (x : Disk). x.count) joined.1) c.room.ensures.medium.room in
    record {
      at = (together_at law c.commands_are_made_together.ensures.one_by_one c.args.commands.now c.args.keep d e s.patches.items news kept
          s.done c.keep_latest-self-inside.result p c.requires.some put c.keep_latest-self-inside.ensures.kept
          c.keep_latest-self-inside.ensures.left c.self.invariant.at (subst (HasPlace c.args.keep) (sym c.self.view_is) c.requires.place)
          joined c.joined.ensures.mounts).keeps;
      known = c.joined.ensures.known;
      room = room_kept c.joined.new.image.room c.args.keep news kept c.keep_latest-self-inside.ensures.kept
          (room_put s.image.room c.joined.new.image.room s.patches.items news s.done p c.joined.ensures.most c.self.invariant.room fits is);
    }

pub invariant_of-self-in-Ok-None : goal.invariant_of-self-in-Ok-None
invariant_of-self-in-Ok-None c =
    let s = c.self.inside in
    let joined : AreJoined s.image.disk (map asked_for c.args.commands.now) None c.joined.new.image.disk =
    subst (λ (o : Option ChangeSet). AreJoined s.image.disk (map asked_for c.args.commands.now) o c.joined.new.image.disk)
    c.in-Ok-None.field-0-is c.in-Ok-None.ensures.joined in
    let known : IsKnown s.image.disk c.joined.new.known = subst (λ (x : Disk). IsKnown x c.joined.new.known) joined.1
    c.joined.ensures.known in
    subst (λ (changes : List ChangeSet). IsSession c.joined.new.image c.joined.new.known changes s.done) (sym c.reserve.ensures.items)
    (session_grows s.image c.joined.new.image s.known c.joined.new.known s.patches.items s.done joined.1 c.joined.ensures.most
    c.self.invariant known)

pub invariant_of-self-in-Err : goal.invariant_of-self-in-Err
invariant_of-self-in-Err c =
    let s = c.self.inside in
    let known : IsKnown s.image.disk c.joined.new.known = subst (λ (x : Disk). IsKnown x c.joined.new.known) c.in-Err.ensures.unchanged
    c.joined.ensures.known in
    subst (λ (changes : List ChangeSet). IsSession c.joined.new.image c.joined.new.known changes s.done) (sym c.reserve.ensures.items)
    (session_grows s.image c.joined.new.image s.known c.joined.new.known s.patches.items s.done c.in-Err.ensures.unchanged
    c.joined.ensures.most c.self.invariant known)

pub returns-in-Ok-Some-clause-done : goal.returns-in-Ok-Some-clause-done
returns-in-Ok-Some-clause-done c =
    let s = c.self.inside in
    let p : ChangeSet = c.in-Ok-Some.patch in
    let d : Disk = s.image.disk in
    let e : Disk = c.joined.new.image.disk in
    let asked = map asked_for c.args.commands.now in
    let news = c.replace_from-put.new.patches.items in
    let kept = c.keep_latest-self-inside.new.patches.items in
    let joined : AreJoined d asked (Some p) e = subst (λ (o : Option ChangeSet). AreJoined d asked o e) c.in-Ok-Some.field-0-is
    c.in-Ok-Some.ensures.joined in
    let made = c.applied_patches_change_their_blocks.ensures in
    let back = c.applied_patches_revert.ensures in
    let law : Make = record { disk = made.disk; agrees = back.agrees; back = back.back } in
    let all : news ≡ take s.done c.reserve.new.self.items ++ p ∷ [] =
    on_ok c.replace_from-put.result (sym c.is_ok.ensures.value ∙ c.if-prove-2.false) c.replace_from-put.ensures.done in
    let put : IsPut s.patches.items news s.done p = record {
      all = all ∙ ap (λ (ps : List ChangeSet). take s.done ps ++ p ∷ []) c.reserve.ensures.items;
      within = c.self.invariant.at.within;
    } in
    let to = together_at law c.commands_are_made_together.ensures.one_by_one c.args.commands.now c.args.keep d e s.patches.items news kept
    s.done c.keep_latest-self-inside.result p c.requires.some put c.keep_latest-self-inside.ensures.kept
    c.keep_latest-self-inside.ensures.left c.self.invariant.at (subst (HasPlace c.args.keep) (sym c.self.view_is) c.requires.place)
    joined c.joined.ensures.mounts in
    subst (λ (old : History). DoesTogether asked c.args.keep old (history_at e kept c.keep_latest-self-inside.result)) c.self.view_is to.moves
