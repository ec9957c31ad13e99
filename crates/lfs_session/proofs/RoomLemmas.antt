-- Room for the image after each change of a list.
use Rattle.std.proofs.Common.{◌≡◌, ℕ, zero, suc, ◌+◌, ◌<◌, ◌≤◌, List, [], ◌∷◌, ◌++◌, length, take, drop, get_or, sym, ap, ◌∙◌, subst, arith}
use Rattle.std.specs.Prelude.{Option}
use Rattle.std.specs.List.{AllByRecursion}
use Rattle.std.proofs.lemmas.List.{take_more}
use Rattle.lfs_block.specs.Disk.{Disk}
use Rattle.lfs_block.specs.Medium.{Medium}
use Rattle.lfs_block.specs.Patch.{ChangeSet}
use Rattle.lfs_history.specs.History.{IsHistoryAt}
use Rattle.lfs_history.specs.Moves.{kept_changes, dropped}
use Rattle.lfs_session.specs.declared.known.Known.{Known}
use Rattle.lfs_session.specs.Known.{HasRoom, IsKnown, IsSession}

-- ---- lists

pub each_at : (P : ChangeSet → Type 0) (ps : List ChangeSet) (i : ℕ) (p : ChangeSet) → AllByRecursion P ps → i < length ps
    → P (get_or ps i p)
each_at P [] i p each within = absurd (omega (arith, within))
each_at P (q ∷ ps) zero p each within = each.0
each_at P (q ∷ ps) (suc i) p each within = each_at P ps i p each.1 (omega (arith, within))

pub each_take : (P : ChangeSet → Type 0) (n : ℕ) (ps : List ChangeSet) → AllByRecursion P ps → AllByRecursion P (take n ps)
each_take P zero ps each = tt
each_take P (suc n) [] each = tt
each_take P (suc n) (p ∷ ps) each = (each.0, each_take P n ps each.1)

pub each_drop : (P : ChangeSet → Type 0) (n : ℕ) (ps : List ChangeSet) → AllByRecursion P ps → AllByRecursion P (drop n ps)
each_drop P zero ps each = each
each_drop P (suc n) [] each = tt
each_drop P (suc n) (p ∷ ps) each = each_drop P n ps each.1

pub each_push : (P : ChangeSet → Type 0) (ps : List ChangeSet) (p : ChangeSet) → AllByRecursion P ps → P p
    → AllByRecursion P (ps ++ p ∷ [])
each_push P [] p each last = (last, tt)
each_push P (q ∷ ps) p each last = (each.0, each_push P ps p each.1 last)

-- ---- room

-- more room serves too
pub room_grows : (less more : ℕ) (ps : List ChangeSet) → less ≤ more → HasRoom less ps → HasRoom more ps
room_grows less more [] le room = tt
room_grows less more (p ∷ ps) le room =
    let first : p.after ≤ less = room.0 in
    (omega (arith, first, le), room_grows less more ps le room.1)

-- a change more, and room that serves it too
pub room_more : (old new : ℕ) (ps : List ChangeSet) (i : ℕ) (p : ChangeSet) → old ≤ new → p.after ≤ new → HasRoom old (take i ps)
    → i < length ps → p ≡ get_or ps i p → HasRoom new (take (i + 1) ps)
room_more old new ps i p le fits room within is =
    subst (HasRoom new) (sym (take_more ps i p within ∙ ap (λ (q : ChangeSet). take i ps ++ q ∷ []) (sym is)))
    (each_push (λ q. q.after ≤ new) (take i ps) p (room_grows old new (take i ps) le room) fits)

-- a change is put behind those that were made
pub room_put : (old new : ℕ) (olds news : List ChangeSet) (i : ℕ) (p : ChangeSet) → old ≤ new → HasRoom old olds → p.after ≤ new
    → news ≡ take i olds ++ p ∷ [] → HasRoom new news
room_put old new olds news i p le room fits is =
    subst (HasRoom new) (sym is) (each_push (λ q. q.after ≤ new) (take i olds) p
    (each_take (λ q. q.after ≤ new) i olds (room_grows old new olds le room)) fits)

-- the latest changes are kept
pub room_kept : (room : ℕ) (keep : Option ℕ) (olds news : List ChangeSet) → news ≡ kept_changes keep olds → HasRoom room olds
    → HasRoom room news
room_kept room keep olds news is has =
    subst (HasRoom room) (sym is) (each_drop (λ q. q.after ≤ room) (dropped keep (length olds)) olds has)

-- the same room
pub room_same : (old new : ℕ) (ps : List ChangeSet) → new ≡ old → HasRoom old ps → HasRoom new ps
room_same old new ps same room = subst (λ (n : ℕ). HasRoom n ps) (sym same) room

-- a session whose image got more room, and of which something else is known
pub session_grows : (old new : Medium) (before after : Option Known) (changes : List ChangeSet) (done : ℕ) → new.disk ≡ old.disk
    → old.room ≤ new.room → IsSession old before changes done → IsKnown old.disk after → IsSession new after changes done
session_grows old new before after changes done same more is known = record {
  at = subst (λ (d : Disk). IsHistoryAt d changes done) (sym same) is.at;
  known = subst (λ (d : Disk). IsKnown d after) (sym same) known;
  room = room_grows old.room new.room changes more is.room;
}
