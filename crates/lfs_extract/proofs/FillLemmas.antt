-- A file that is begun, filled and ended.
use Rattle.std.proofs.Common.{◌≡◌, ℕ, List, [], ◌∷◌, ◌++◌, Bool, true, false, not, Option, None, Some, Result, Ok, Err, refl, ap, sym, subst, ◌∙◌, inr, length, take}
use Rattle.std.specs.Prelude.{IfSome, MatchOption}
use Rattle.std.specs.Io.KnownBytes.{Appends, Keeps}
use Rattle.std.proofs.Math.Seq.{take-length}
use Rattle.lfs_sink.specs.Send.{SendsBeginning}
use Rattle.lfs_host.specs.NewFolder.{FileMade, Fills, FolderMade, Made, Makes, bytes_filled, made_before}
use Rattle.lfs_host.proofs.MadeLemmas.{appends_filled, before_filled, begun_filled, keeps_filled, none_filled}
use Rattle.lfs_extract.specs.Extracted.{IsBegun, MakesOne, beginning}

-- ---- a write to it

pub sent_by : (count : Option ℕ) (bytes : List ℕ) (old new : Option (List Made)) → MatchOption count (new ≡ old) (λ n. Fills old new (take n bytes))
    → MatchOption count (Keeps (bytes_filled old) (bytes_filled new)) (λ n. Appends (bytes_filled old) (bytes_filled new) (take n bytes))
sent_by None bytes old new same = keeps_filled old new same
sent_by (Some n) bytes old new fills = appends_filled (take n bytes) old new fills

pub before_by : (count : Option ℕ) (bytes : List ℕ) (old new : Option (List Made)) → MatchOption count (new ≡ old) (λ n. Fills old new (take n bytes))
    → made_before new ≡ made_before old
before_by None bytes old new same = ap made_before same
before_by (Some n) bytes old new fills = before_filled (take n bytes) old new fills

pub twice : (b : Bool) → not (not b) ≡ b
twice true = refl
twice false = refl

pub six_same : {G A B C D E : Type 0} (g : G) (a x : A) (b y : B) (c z : C) (d v : D) (e w : E) → a ≡ x → b ≡ y → c ≡ z → d ≡ v → e ≡ w
    → ◌≡◌ {A = G × A × B × C × D × E} (g, a, b, c, d, e) (g, x, y, z, v, w)
six_same g a x b y c z d v e w p q r s t = cc

-- ---- all of its contents

filled_from : (before : Option (List Made)) (old new : Option (List ℕ)) (more : List ℕ) → IfSome before (λ _. old ≡ Some []) → Appends old new more
    → IfSome before (λ _. new ≡ Some more)
filled_from None old new more is appends = tt
filled_from (Some ms) None new more is appends = absurd cc
filled_from (Some ms) (Some xs) None more is appends = absurd appends
filled_from (Some ms) (Some xs) (Some ys) more is appends = ap (λ l. Some l) (appends ∙ ap (λ (l : List ℕ). l ++ more) (by is))
  where
    by : Some xs ≡ Some [] → xs ≡ []
    by same = cc

pub left_begun : (before old new : Option (List Made)) (name held : List ℕ) → Makes before old (FileMade name [] ∷ [])
    → made_before new ≡ made_before old → SendsBeginning (bytes_filled old) (bytes_filled new) held
    → (x : List Made) × IsBegun (FileMade name held) x × Makes before new x
left_begun before old new name held makes same (n, less, appends) = (
  FileMade name (take n held) ∷ [],
  inr (n, refl),
  begun_filled before old new name (take n held) makes same
      (filled_from before (bytes_filled old) (bytes_filled new) (take n held) (none_filled before old name makes) appends),
)

all_ended : (before old mid new : Option (List Made)) (name held : List ℕ)
    → Makes before old (FileMade name [] ∷ []) → made_before mid ≡ made_before old → Appends (bytes_filled old) (bytes_filled mid) held
    → new ≡ mid → Makes before new (FileMade name held ∷ [])
all_ended before old mid new name held makes same appends kept =
    subst (λ (m : Option (List Made)). Makes before m (FileMade name held ∷ [])) (sym kept)
    (begun_filled before old mid name held makes same
    (filled_from before (bytes_filled old) (bytes_filled mid) held (none_filled before old name makes) appends))

pub ended : {T E : Type 0} (result : Result T E) (before old mid new : Option (List Made)) (name held : List ℕ)
    → Makes before old (FileMade name [] ∷ []) → made_before mid ≡ made_before old → Appends (bytes_filled old) (bytes_filled mid) held
    → new ≡ mid → MakesOne result before new (FileMade name held)
ended (Ok done) before old mid new name held makes same appends kept = all_ended before old mid new name held makes same appends kept
ended (Err why) before old mid new name held makes same appends kept = (
  FileMade name held ∷ [],
  inr (length held, ap (λ (b : List ℕ). FileMade name b ∷ []) (sym (take-length held))),
  all_ended before old mid new name held makes same appends kept,
)
