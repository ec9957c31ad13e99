-- Contents that are read beside others.
use Rattle.std.proofs.Common.{◌≡◌, ◌≢◌, ℕ, Bool, true, false, List, [], ◌∷◌, ◌++◌, length, refl, ap, sym, subst, ◌∙◌, append-nil, append_assoc, arith, length-append}
use Rattle.std.specs.Prelude.{bytes_eq}
use Rattle.std.specs.List.{concat}
use Rattle.std.proofs.lemmas.List.{append_cancel_left, length-replicate, nil_from_length}
use Rattle.std.proofs.lemmas.Slice.Eq.{bytes_eq-Decides}
use Rattle.lfs_block.specs.Disk.{Disk}
use Rattle.lfs_file.specs.Content.{content}
use Rattle.lfs_fs.specs.Entry.{Chain}
use Rattle.lfs_fs.specs.Outlined.{blank}
use Rattle.lfs_listing.specs.Comparing.{IsReadable, TakesOff}

not_same : (xs ys : List ℕ) (b : Bool) → xs ≢ ys → (b ≡ true → xs ≡ ys) → false ≡ b
not_same xs ys true other is = absurd (other (is refl))
not_same xs ys false other is = refl

-- bytes are taken off all of as many
pub taken_complete : (taken : Bool) (old new bytes : List ℕ) → length bytes ≡ length old → TakesOff taken old new bytes
    → taken ≡ bytes_eq bytes old
taken_complete true old new bytes many is =
    let none : length new ≡ 0 = omega (arith, many, ap length is, length-append bytes new) in
    let all : old ≡ bytes = is ∙ ap (λ (l : List ℕ). bytes ++ l) (nil_from_length new none) ∙ append-nil bytes in
    sym ((bytes_eq-Decides bytes old).1 (sym all))
taken_complete false old new bytes many other =
    not_same bytes old (bytes_eq bytes old) (λ same. other [] (sym same ∙ sym (append-nil bytes))) (bytes_eq-Decides bytes old).0

swapped_by : (xs ys : List ℕ) (b : Bool) → (b ≡ true → ys ≡ xs) → (ys ≡ xs → b ≡ true) → bytes_eq xs ys ≡ b
swapped_by xs ys true is has = (bytes_eq-Decides xs ys).1 (sym (is refl))
swapped_by xs ys false is has = sym (not_same xs ys (bytes_eq xs ys) (λ same. absurd (cc (has (sym same)))) (bytes_eq-Decides xs ys).0)

pub swapped : (xs ys : List ℕ) → bytes_eq xs ys ≡ bytes_eq ys xs
swapped xs ys = swapped_by xs ys (bytes_eq ys xs) (bytes_eq-Decides ys xs).0 (bytes_eq-Decides ys xs).1

module _ (old mid bytes front slice : List ℕ) (items left : List (List ℕ)) (first : items ≡ slice ∷ left)
    (complete : front ++ concat items ≡ bytes) (was : old ≡ front ++ mid) where
  cut : bytes ≡ front ++ (slice ++ concat left)
  cut = sym complete ∙ ap (λ (l : List (List ℕ)). front ++ concat l) first

  -- a slice isn't what comes next
  pub slice_differs : ((rest : List ℕ) → mid ≢ slice ++ rest) → (rest : List ℕ) → old ≡ bytes ++ rest → ⊥
  slice_differs other rest same =
      other (concat left ++ rest) (append_cancel_left front mid (slice ++ (concat left ++ rest))
      (sym was ∙ same ∙ ap (λ (l : List ℕ). l ++ rest) cut ∙ append_assoc front (slice ++ concat left) rest
      ∙ ap (λ (l : List ℕ). front ++ l) (append_assoc slice (concat left) rest)))

  -- one slice more is taken off
  pub slice_taken : (new : List ℕ) → mid ≡ slice ++ new → (x : List ℕ) × (x ++ concat left ≡ bytes) × (old ≡ x ++ new)
  slice_taken new is = (
    front ++ slice,
    append_assoc front slice (concat left) ∙ sym cut,
    was ∙ ap (λ (l : List ℕ). front ++ l) is ∙ sym (append_assoc front slice new),
  )

-- ---- chains that can be read

pub chain_long : (d : Disk) (size : ℕ) (blocks : List ℕ) → IsReadable d (Chain blocks (blank size)) → length (content d size blocks) ≡ size
chain_long d size blocks complete =
    ap (λ (n : ℕ). length (content d n blocks)) (sym (length-replicate size 0)) ∙ complete.2 ∙ length-replicate size 0

-- a chain's contents are all of as many bytes, or others
pub chain_read : (d : Disk) (size : ℕ) (blocks old new bytes : List ℕ) (taken : Bool) → IsReadable d (Chain blocks (blank size))
    → old ≡ bytes → length bytes ≡ size → TakesOff taken old new (content d size blocks) → taken ≡ bytes_eq (content d size blocks) bytes
chain_read d size blocks old new bytes taken complete is many takes =
    taken_complete taken old new (content d size blocks) (chain_long d size blocks complete ∙ sym many ∙ ap length (sym is)) takes
    ∙ ap (λ (l : List ℕ). bytes_eq (content d size blocks) l) is

-- two chains of one size
pub chains_read : (d e : Disk) (size : ℕ) (blocks others old new : List ℕ) (taken : Bool) → IsReadable d (Chain blocks (blank size))
    → IsReadable e (Chain others (blank size)) → old ≡ content e size others → TakesOff taken old new (content d size blocks)
    → taken ≡ bytes_eq (content d size blocks) (content e size others)
chains_read d e size blocks others old new taken complete second is takes =
    chain_read d size blocks old new (content e size others) taken complete is (chain_long e size others second) takes

-- whatever disks these are
pub files_read : (taken : Bool) (on : Disk × Disk) (d e : Disk) (size : ℕ) (blocks others old new : List ℕ) → (d, e) ≡ on
    → IsReadable on.0 (Chain blocks (blank size)) → IsReadable on.1 (Chain others (blank size)) → old ≡ content e size others
    → TakesOff taken old new (content d size blocks) → taken ≡ bytes_eq (content on.0 size blocks) (content on.1 size others)
files_read taken on d e size blocks others old new is complete second begins takes =
    subst (λ (p : Disk × Disk). taken ≡ bytes_eq (content p.0 size blocks) (content p.1 size others)) is
    (chains_read d e size blocks others old new taken
    (subst (λ (p : Disk × Disk). IsReadable p.0 (Chain blocks (blank size))) (sym is) complete)
    (subst (λ (p : Disk × Disk). IsReadable p.1 (Chain others (blank size))) (sym is) second) begins takes)
