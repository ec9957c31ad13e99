-- At most two parts that an accepted command sets take more than a block.
use Rattle.std.proofs.Common.{◌≡◌, ◌+◌, ◌≤◌, ◌&&◌, ℕ, Bool, true, false, not, cond, List, [], ◌∷◌, length, map, refl, ap, arith, true≢false}
use Rattle.std.specs.Prelude.{Contains, if◌then◌else◌, nat_lt, sum_by}
use Rattle.std.specs.List.{filter}
use Rattle.std.proofs.lemmas.List.Sums.{length-filter, sum_by-cons}
use Rattle.lfs_meta.specs.Runs.{runs_after}
use Rattle.lfs_fs.specs.Directory.{Part, thread}
use Rattle.lfs_fs.specs.Entry.{Entry}
use Rattle.lfs_fs.specs.Outlined.{outlined, outlined_entry, outlined_part}
use Rattle.lfs_fs.specs.Volume.{Volume}
use Rattle.lfs_fs.specs.Weight.{superblock_weight, weight}
use Rattle.lfs_fs.proofs.ContainsLemmas.{contains_first, contains_later}
use Rattle.lfs_command.specs.Accepted.{IsAccepted}
use Rattle.lfs_command.specs.Command.{Command}
use Rattle.lfs_command.specs.Cut.{is_first, room, runs}
use Rattle.lfs_command.specs.Edited.{edited}
use Rattle.lfs_law.specs.Laws.{CommandsFollow}
use Rattle.lfs_command.specs.Need.{changed_parts, dirty_parts, is_new_to}
use Rattle.lfs_command.specs.Supplies.{Supplies}
use Rattle.lfs_law.proofs.FreshPairs.{edited_zero}
use Rattle.lfs_law.proofs.OutlineDirectories.{thread_outlined}

-- a part takes more than a block
abbrev pub is_more : Volume → Part → Bool
is_more o p = nat_lt 1 (length (runs o p))

-- one without entries doesn't
bare_by : (o : Volume) (p : Part) (t : Bool) → p.entries ≡ []
    → nat_lt 1 (length (if t then runs_after weight (room o) (superblock_weight o.attributes) 1 p.entries else runs_after weight
    (room o) 0 0 p.entries)) ≡ false
unfolding runs_after
bare_by o p true none = rw none refl
bare_by o p false none = rw none refl

empty_list : (es : List Entry) → length es ≡ 0 → es ≡ []
empty_list [] is = refl
empty_list (e ∷ es) is = absurd (omega (arith, is))

sum_le : {X : Type 0} (f g : X → ℕ) (xs : List X) → ((x : X) → Contains xs x → f x ≤ g x) → sum_by f xs ≤ sum_by g xs
sum_le f g [] le = omega arith
sum_le f g (x ∷ xs) le =
    omega (
      arith,
      sum_by-cons f x xs,
      sum_by-cons g x xs,
      le x (contains_first x xs),
      sum_le f g xs (λ y there. le y (contains_later x xs y there)),
    )

sum_map : {X Y : Type 0} (f : Y → ℕ) (g : X → Y) (xs : List X) → sum_by f (map g xs) ≡ sum_by (λ x. f (g x)) xs
sum_map f g [] = refl
sum_map f g (x ∷ xs) = omega (arith, sum_by-cons f (g x) (map g xs), sum_by-cons (λ y. f (g y)) x xs, sum_map f g xs)

at_most : (dirty more new : Bool) → (new ≡ true → more ≡ false) → cond {A = ℕ} (dirty && more) 1 0 ≤ cond {A = ℕ} (dirty && not new) 1 0
at_most false more new h = omega arith
at_most true false new h = omega arith
at_most true true false h = omega arith
at_most true true true h = absurd (true≢false (h refl))

first_of : {X : Type 0} (f g : X → Bool) (x : X) (xs : List X) (s t : Bool) → f x ≡ s → g x ≡ t
    → length (filter g (if s then x ∷ filter f xs else filter f xs)) ≡ cond {A = ℕ} (s && t) 1 0 + length (filter g (filter f xs))
first_of f g x xs false t fs gt = omega arith
first_of f g x xs true true fs gt = rw gt (omega arith)
first_of f g x xs true false fs gt = rw gt (omega arith)

filter_both : {X : Type 0} (f g : X → Bool) (xs : List X) → length (filter g (filter f xs)) ≡ sum_by (λ x. cond {A = ℕ} (f x && g x) 1 0) xs
filter_both f g [] = refl
filter_both f g (x ∷ xs) =
    omega (arith, first_of f g x xs (f x) (g x) refl refl, filter_both f g xs, sum_by-cons (λ y. cond {A = ℕ} (f y && g y) 1 0) x xs)

-- ---- the parts that a command leaves

more_by : CommandsFollow → (v : Volume) (c : Command) (s : Supplies) → IsAccepted v c s → (p : Part)
    → Contains (thread (edited v c s).directories) p
    → is_new_to v p.pair ≡ true → is_more (outlined (edited v c s)) (outlined_part p) ≡ false
more_by follow v c s ok p there new =
    let bare : p.entries ≡ [] = empty_list p.entries (edited_zero (λ q. length q.entries) (λ pair. refl) follow v c s ok p there new) in
    bare_by (outlined (edited v c s)) (outlined_part p) (is_first (outlined_part p)) (ap (map outlined_entry) bare)

-- those of its outline that take more than a block are among those that it rewrites
pub few_are_more : CommandsFollow → (v : Volume) (c : Command) (s : Supplies) → IsAccepted v c s
    → length (filter (is_more (outlined (edited v c s))) (dirty_parts (outlined (edited v c s))))
    ≤ length (changed_parts v (edited v c s))
few_are_more follow v c s ok =
    let w : Volume = edited v c s in
    let o : Volume = outlined w in
    let le : sum_by (λ p. cond {A = ℕ} (p.dirty && is_more o (outlined_part p)) 1 0) (thread w.directories)
    ≤ sum_by (λ p. cond {A = ℕ} (p.dirty && not (is_new_to v p.pair)) 1 0) (thread w.directories) =
    sum_le (λ (p : Part). cond {A = ℕ} (p.dirty && is_more o (outlined_part p)) 1 0)
    (λ (p : Part). cond {A = ℕ} (p.dirty && not (is_new_to v p.pair)) 1 0) (thread w.directories)
    (λ p there. at_most p.dirty (is_more o (outlined_part p)) (is_new_to v p.pair) (more_by follow v c s ok p there)) in
    omega (
      arith,
      filter_both (λ (p : Part). p.dirty) (is_more o) (thread o.directories),
      ap (sum_by (λ (p : Part). cond {A = ℕ} (p.dirty && is_more o p) 1 0)) (thread_outlined w.directories),
      sum_map (λ (p : Part). cond {A = ℕ} (p.dirty && is_more o p) 1 0) outlined_part (thread w.directories),
      le,
      length-filter (λ (p : Part). p.dirty && not (is_new_to v p.pair)) (thread w.directories),
    )
