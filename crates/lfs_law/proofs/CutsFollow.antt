-- A command whose parts are cut follows its equation too.
use Rattle.std.proofs.Common.{◌≡◌, ℕ, ◌+◌, ◌<◌, ◌≤◌, ◌==◌, ◌||◌, nat_lt, Bool, List, [], ◌∷◌, refl, ap, sym, ◌∙◌, subst, arith}
use Rattle.std.specs.Prelude.{All}
use Rattle.std.specs.List.{filter, range_with_len}
use Rattle.std.proofs.lemmas.Bool.Decides.{nat_tests}
use Rattle.lfs_meta.specs.Body.{Pair}
use Rattle.lfs_meta.specs.RunLaws.{RunsJoin}
use Rattle.lfs_fs.specs.NameOrder.{NamesAreOrdered}
use Rattle.lfs_fs.specs.Entry.{Entry}
use Rattle.lfs_fs.specs.Directory.{Part, thread}
use Rattle.lfs_fs.specs.Volume.{Volume}
use Rattle.lfs_fs.specs.Uses.{uses}
use Rattle.lfs_fs.specs.Sound.{IsSound}
use Rattle.lfs_command.specs.Command.{Command}
use Rattle.lfs_command.specs.Growth.{count_after}
use Rattle.lfs_command.specs.Supplies.{Supplies, supply_uses}
use Rattle.lfs_command.specs.Edited.{edited}
use Rattle.lfs_command.specs.Cut.{cut, HasEnough, new_pair_uses}
use Rattle.lfs_command.specs.Accepted.{AreChosen}
use Rattle.lfs_command.specs.Freed.{freed_uses, is_free_after}
use Rattle.lfs_law.specs.Laws.{CutsFollow, UsesAfter, FreeAfter}
use Rattle.lfs_law.proofs.Effect.{none}
use Rattle.lfs_law.proofs.EdgeEdits.{sound_is_good}
use Rattle.lfs_law.proofs.SameEdges.{tree_same, reached_with_root}
use Rattle.lfs_law.proofs.SoundAfter.{sound_after}
use Rattle.lfs_law.proofs.Cuts.{cut_effect, cut_good, cut_edges, pairs_for}
use Rattle.lfs_law.proofs.Carries.{Carries}
use Rattle.lfs_law.proofs.CommandsFollow.{commands_carry}

-- ---- a volume whose parts are cut

cut_uses : RunsJoin Entry → (chosen : Part → List Pair) (w : Volume) → All (HasEnough chosen w) (thread w.directories) → (b : ℕ)
    → uses b (cut chosen w) ≡ uses b w + new_pair_uses chosen w b
cut_uses join chosen w enough b = omega (arith, (cut_effect join chosen w w.directories enough).uses b)

cut_sound : RunsJoin Entry → (chosen : Part → List Pair) (w : Volume) → IsSound w → All (HasEnough chosen w) (thread w.directories)
    → ((b : ℕ) → uses b w + new_pair_uses chosen w b ≤ 1) → ((b : ℕ) → 0 < new_pair_uses chosen w b → b < w.count) → IsSound (cut chosen w)
cut_sound join chosen w sound enough once within =
    sound_after w (cut chosen w) none (record {
      uses = λ b. pairs_for chosen b (thread w.directories);
      names = λ k. 0;
      directories = λ k. 0;
    }) sound
    (cut_effect join chosen w w.directories enough) (cut_good join w.limits chosen w w.directories enough (sound_is_good w sound))
    sound.root_attributes refl
    (record {
      once = once;
      within = within;
      names = λ k. refl;
      stay = λ k gone reached. reached_with_root w (cut chosen w) (cut_edges join chosen w w.directories enough) k reached;
      come = λ k some. let no : ⊥ = omega arith in absurd no;
    })

-- ---- a command

chosen_once : (v : Volume) (c : Command) (s : Supplies) (chosen : Part → List Pair) → Carries v c s → AreChosen v c s chosen → (b : ℕ)
    → uses b (edited v c s) + new_pair_uses chosen (edited v c s) b ≤ 1
chosen_once v c s chosen carries pairs b = omega (arith, carries.uses b, pairs.once b)

pub cuts_follow : NamesAreOrdered → RunsJoin Entry → CutsFollow
cuts_follow ordered join v c s chosen ok pairs =
    let carries = commands_carry ordered v c s ok in
    let w = edited v c s in
    record {
      sound = cut_sound join chosen w carries.follows.sound pairs.enough (chosen_once v c s chosen carries pairs)
          (λ b some. subst (λ (n : ℕ). b < n) (sym carries.follows.count) (pairs.within b some));
      at = λ path. tree_same w (cut chosen w) (cut_edges join chosen w w.directories pairs.enough) refl path ∙ carries.follows.at path;
      size = carries.follows.size;
      count = carries.follows.count;
      limits = carries.follows.limits;
    }

pub uses_after : NamesAreOrdered → RunsJoin Entry → UsesAfter
uses_after ordered join v c s chosen ok pairs b =
    omega (arith, cut_uses join chosen (edited v c s) pairs.enough b, (commands_carry ordered v c s ok).uses b)

-- ---- the free blocks

same_test : (after freed was : ℕ) → after + freed ≡ was → was ≤ 1 → (after == 0) ≡ ((was == 0) || nat_lt 0 freed)
same_test after freed was h once = grind (arith, nat_tests)

pub filter_same : (f g : ℕ → Bool) → ((b : ℕ) → f b ≡ g b) → (xs : List ℕ) → filter f xs ≡ filter g xs
filter_same f g same [] = refl
filter_same f g same (x ∷ xs) = rw (same x, filter_same f g same xs) refl

pub free_after_command : NamesAreOrdered → RunsJoin Entry → FreeAfter
free_after_command ordered join v c s chosen ok pairs =
    let count : (edited v c s).count ≡ count_after c v.count = (commands_carry ordered v c s ok).follows.count in
    ap (λ (n : ℕ). filter (λ b. uses b (cut chosen (edited v c s)) == 0) (range_with_len 0 n)) count
    ∙ filter_same (λ b. uses b (cut chosen (edited v c s)) == 0) (is_free_after v c s chosen)
    (λ b. same_test (uses b (cut chosen (edited v c s))) (freed_uses v c b)
    (uses b v + supply_uses v c s b + new_pair_uses chosen (edited v c s) b)
    (uses_after ordered join v c s chosen ok pairs b) (pairs.once b))
    (range_with_len 0 (count_after c v.count))
