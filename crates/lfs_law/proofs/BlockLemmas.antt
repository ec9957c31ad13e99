-- Blocks of an image, and of its pairs.
use Rattle.std.proofs.Common.{◌≡◌, ◌⊎◌, ◌<◌, ◌==◌, Bool, true, false, if◌then◌else◌, ℕ, List, Option, Some, None, refl, arith, inl, inr}
use Rattle.lfs_block.specs.Change.{Change}
use Rattle.lfs_block.specs.Disk.{Disk, block_of}
use Rattle.lfs_meta.specs.Body.{Pair}
use Rattle.lfs_meta.specs.declared.live_block.LiveBlock.{LiveBlock}
use Rattle.lfs_meta.specs.declared.live_block.LiveBlock.TheVariants.{First, Second, Neither}
use Rattle.lfs_meta.specs.LiveBlock.{live_block}
use Rattle.lfs_meta.specs.Part.{StoredPart}
use Rattle.lfs_tag.specs.Commit.{Item}
use Rattle.lfs_pair.specs.Appending.{appended_tags, live_of, number_by, number_with}
use Rattle.lfs_pair.specs.Difference.{Forced}
use Rattle.lfs_command.specs.PairChanged.{beside, pair_number}
use Rattle.lfs_pair.specs.Writing.{other_than, other_number}
use Rattle.lfs_fs.specs.Uses.{times}
use Rattle.lfs_law.specs.WrittenLinks.{changed_blocks, number_in}

-- the block that isn't live is one of the pair's
pub other_is_one : (d : Disk) (pair : Pair) → (other_number d pair ≡ pair.0) ⊎ (other_number d pair ≡ pair.1)
other_is_one d pair = by (live_block (block_of d pair.0) (block_of d pair.1))
  where
    by : (live : LiveBlock) → (other_than live pair ≡ pair.0) ⊎ (other_than live pair ≡ pair.1)
    by (First log) = inr refl
    by (Second log) = inl refl
    by Neither = inr refl

-- a block of a pair is below what both are below
pub one_below : (pair : Pair) (n : ℕ) {count : ℕ} → (n ≡ pair.0) ⊎ (n ≡ pair.1) → pair.0 < count → pair.1 < count → n < count
one_below pair n is first second = elim is [ inl one ↦ omega (arith, one, first) | inr one ↦ omega (arith, one, second) ]

-- the block that changes name is one of the pair's
pub number_is_one : (cs : List Change) (pair : Pair) → (number_in cs pair ≡ pair.0) ⊎ (number_in cs pair ≡ pair.1)
number_is_one cs pair = by (times pair.0 (changed_blocks cs) == 0)
  where
    by : (t : Bool) → ((if t then pair.1 else pair.0) ≡ pair.0) ⊎ ((if t then pair.1 else pair.0) ≡ pair.1)
    by true = inr refl
    by false = inl refl

-- the block that carries a pair to a part is one of its two, and the other one is the other one
live_is_one : (live : LiveBlock) (pair : Pair) → (number_by live pair ≡ pair.0) ⊎ (number_by live pair ≡ pair.1)
live_is_one (First log) pair = inl refl
live_is_one (Second log) pair = inr refl
live_is_one Neither pair = inl refl

number_with_is_one : (d : Disk) (pair : Pair) (tags : Option (List Item)) → (number_with d pair tags ≡ pair.0)
    ⊎ (number_with d pair tags ≡ pair.1)
number_with_is_one d pair None = other_is_one d pair
number_with_is_one d pair (Some tags) = live_is_one (live_of d pair) pair

pub pair_number_is_one : (d : Disk) (is_cut : Bool) (forced : Forced) (pair : Pair) (q : StoredPart)
    → (pair_number d is_cut forced pair q ≡ pair.0) ⊎ (pair_number d is_cut forced pair q ≡ pair.1)
pair_number_is_one d true forced pair q = other_is_one d pair
pair_number_is_one d false forced pair q = number_with_is_one d pair (appended_tags d pair forced q)

pub beside_is_one : (pair : Pair) (n : ℕ) → (beside pair n ≡ pair.0) ⊎ (beside pair n ≡ pair.1)
beside_is_one pair n = by (pair.0 == n)
  where
    by : (t : Bool) → ((if t then pair.1 else pair.0) ≡ pair.0) ⊎ ((if t then pair.1 else pair.0) ≡ pair.1)
    by true = inr refl
    by false = inl refl
