-- Changes of new blocks lay a file's contents in them.
use Rattle.std.proofs.Common.{◌≡◌, ◌≢◌, ℕ, ◌<◌, ◌==◌, Bool, true, false, List, [], ◌∷◌, length, map, refl, ap, ◌∙◌, arith}
use Rattle.std.specs.Prelude.{All, AllPairs, if◌then◌else◌}
use Rattle.std.proofs.lemmas.Bool.Decides.{nat_tests}
use Rattle.std.proofs.lemmas.List.Elements.{All-head, All-tail}
use Rattle.lfs_block.specs.Bytes.{IsBytes}
use Rattle.lfs_block.specs.Change.{Change}
use Rattle.lfs_block.specs.Disk.{Disk, IsDisk}
use Rattle.lfs_block.specs.Geometry.{IsBlockSize}
use Rattle.lfs_meta.proofs.HeldPartLemmas.{block_bytes}
use Rattle.lfs_file.specs.Capacity.{least_blocks}
use Rattle.lfs_file.specs.Laws.{LaidAreAsMany, LaidAreBytes, LaidAreComplete}
use Rattle.lfs_file.specs.Laying.{laid}
use Rattle.lfs_write.specs.Laid.{AreLaid}
use Rattle.lfs_command.specs.PartWritten.{change_at, changes_at}
use Rattle.lfs_law.specs.WrittenLinks.{CanBeMade, block_after}
use Rattle.lfs_law.proofs.ChangesAt.{change_complete, changes_all, changes_numbers, changes_rising, rising_head, rising_tail}

here_by : (d : Disk) (b : ℕ) (new : List ℕ) (cs : List Change) → block_after d (change_at d b new ∷ cs) b ≡ new
here_by d b new cs = let same : (b == b) ≡ true = grind (arith, nat_tests) in rw same refl

later_by : (d : Disk) (b : ℕ) (new : List ℕ) (cs : List Change) (blocks : List ℕ) → All (λ m. b < m) blocks
    → map (block_after d (change_at d b new ∷ cs)) blocks ≡ map (block_after d cs) blocks
later_by d b new cs [] less = refl
later_by d b new cs (m ∷ blocks) less =
    let before : b < m = All-head (λ (n : ℕ). b < n) m blocks less in
    let other : (b == m) ≡ false = grind (arith, nat_tests) in
    ap (λ (t : Bool). (if t then new else block_after d cs m) ∷ map (block_after d (change_at d b new ∷ cs)) blocks) other
    ∙ ap (λ (xs : List (List ℕ)). block_after d cs m ∷ xs) (later_by d b new cs blocks (All-tail (λ (n : ℕ). b < n) m blocks less))

-- blocks then hold what their changes say
after_changes : (d : Disk) (blocks : List ℕ) (contents : List (List ℕ)) → length contents ≡ length blocks → AllPairs ◌<◌ blocks
    → map (block_after d (changes_at d blocks contents)) blocks ≡ contents
after_changes d [] [] many rising = refl
after_changes d [] (new ∷ contents) many rising = absurd (omega (arith, many))
after_changes d (b ∷ blocks) [] many rising = absurd (omega (arith, many))
after_changes d (b ∷ blocks) (new ∷ contents) many rising =
    ap (λ (x : List ℕ). x ∷ map (block_after d (changes_at d (b ∷ blocks) (new ∷ contents))) blocks)
    (here_by d b new (changes_at d blocks contents))
    ∙ ap (λ (xs : List (List ℕ)). new ∷ xs)
    (later_by d b new (changes_at d blocks contents) blocks (rising_head b blocks rising)
    ∙ after_changes d blocks contents (omega (arith, many)) (rising_tail b blocks rising))

differ : (blocks : List ℕ) → AllPairs ◌<◌ blocks → AllPairs ◌≢◌ blocks
differ blocks rising = λ i j d less within same. let before = rising i j d less within in absurd (omega (arith, before, same))

pub are_laid : (d : Disk) (bytes blocks : List ℕ) → LaidAreAsMany → LaidAreComplete → LaidAreBytes → IsDisk d → IsBlockSize d.size
    → IsBytes bytes
    → AllPairs ◌<◌ blocks → All (λ b. b < d.count) blocks → length blocks ≡ least_blocks d.size (length bytes)
    → AreLaid d bytes blocks (changes_at d blocks (laid d.size bytes blocks))
are_laid d bytes blocks many complete are disk size is rising below enough = record {
  rising = changes_rising d blocks contents rising;
  made =
      changes_all (CanBeMade d) d blocks contents (λ b. b < d.count) (λ new. (length new ≡ d.size) × IsBytes new)
      (λ b new within fits. let w = change_complete d b new disk within fits.0 fits.1 (block_bytes d b disk) in
      record { stands = w.stands; complete = w.complete })
      below (λ k e within. (complete d.size bytes blocks size k e within, are d.size bytes blocks is k e within));
  numbers = changes_numbers d blocks contents as_many;
  lays = record { count = enough; apart = differ blocks rising; same = after_changes d blocks contents as_many rising };
}
  where
    contents : List (List ℕ)
    contents = laid d.size bytes blocks

    as_many : length contents ≡ length blocks
    as_many = many d.size bytes blocks
