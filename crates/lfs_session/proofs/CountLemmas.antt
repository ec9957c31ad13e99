-- How many images a history has before the present one, and behind it.
use Rattle.std.proofs.Common.{◌≡◌, ℕ, ◌-◌, ◌<◌, ◌≤◌, List, [], ◌∷◌, length, take, drop, length-drop, refl, ap, ◌∙◌, arith}
use Rattle.std.specs.Prelude.{reverse}
use Rattle.std.proofs.lemmas.List.{length-reverse, length-take-le}
use Rattle.lfs_block.specs.Disk.{Disk}
use Rattle.lfs_block.specs.Patch.{ChangeSet, applied, reverted}
use Rattle.lfs_history.specs.History.{History, past_of, future_of}
use Rattle.lfs_history.specs.Moves.{Undoes, Redoes, Repeats}
use Rattle.lfs_history.proofs.RepeatLemmas.{undone_past, redone_future}

-- one for each change

past_len : (ps : List ChangeSet) (d : Disk) → length (past_of ps d) ≡ length ps
past_len [] d = refl
past_len (p ∷ ps) d = let rest = past_len ps (reverted p d) in omega arith

future_len : (ps : List ChangeSet) (d : Disk) → length (future_of ps d) ≡ length ps
future_len [] d = refl
future_len (p ∷ ps) d = let rest = future_len ps (applied p d) in omega arith

pub past_count : (d : Disk) (changes : List ChangeSet) (done : ℕ) → done ≤ length changes
    → length (past_of (reverse (take done changes)) d) ≡ done
past_count d changes done within =
    past_len (reverse (take done changes)) d ∙ length-reverse (take done changes) ∙ length-take-le done changes within

pub future_count : (d : Disk) (changes : List ChangeSet) (done : ℕ) → length (future_of (drop done changes) d) ≡ length changes - done
future_count d changes done = future_len (drop done changes) d ∙ length-drop done changes

-- where there are as many images as changes to be taken back, none of them is wanting

pub past_left : (n i : ℕ) (old mid : History) → Repeats Undoes i old mid → i < n → n ≤ length old.past → mid.past ≡ [] → ⊥
past_left n i old mid moves less many none =
    let left = undone_past i old mid moves in
    let len = ap length none in
    omega arith

pub future_left : (n i : ℕ) (old mid : History) → Repeats Redoes i old mid → i < n → n ≤ length old.future → mid.future ≡ [] → ⊥
future_left n i old mid moves less many none =
    let left = redone_future i old mid moves in
    let len = ap length none in
    omega arith
