-- The block of a pair that version 2.1 takes for the live one.
use Rattle.std.proofs.Common.{◌≡◌, inl, inr, ℕ, ◌<◌, Bool, true, false, List, Option, Some, None, refl, ◌∙◌}
use Rattle.std.specs.Prelude.{if◌then◌else◌, is_some}
use Rattle.lfs_block.specs.Disk.{Disk, block_of}
use Rattle.lfs_tag.specs.Commit.{Item}
use Rattle.lfs_meta.specs.Body.{Pair}
use Rattle.lfs_meta.specs.LiveBlock.{is_later, revision}
use Rattle.lfs_lower.specs.Alone.{AreOf}
use Rattle.lfs_lower.specs.LaterReading.{live_by, tags_or}
use Rattle.lfs_lower.specs.Lowered.{IsLaterLive, tried_first}
use Rattle.lfs_lower.specs.Spelled.{is_root_block, lowered_tags}

-- the tags of a block
abbrev tags_at : Disk → ℕ → Option (List Item)
tags_at d b = lowered_tags (is_root_block b) (block_of d b)

-- a pair, the other way round if that is asked for
abbrev turned : Bool → Pair → Pair
turned late pair = if late then (pair.1, pair.0) else pair

-- of the block that is tried first the tags are read, if there are some
tags_by : (d : Disk) (pair : Pair) (late : Bool)
    → live_by late (tags_at d pair.0) (tags_at d pair.1) ≡ tags_or (tags_at d (turned late pair).0) (tags_at d (turned late pair).1)
tags_by d pair true = refl
tags_by d pair false = refl

of_by : (pair : Pair) (late : Bool) → AreOf pair (turned late pair).0 (turned late pair).1
of_by pair true = inr (refl, refl)
of_by pair false = inl (refl, refl)

first_of : (one other : Option (List Item)) → is_some one ≡ true → tags_or one other ≡ one
first_of None other there = cc
first_of (Some ts) other there = refl

second_of : (one other : Option (List Item)) → is_some one ≡ false → tags_or one other ≡ other
second_of None other there = refl
second_of (Some ts) other there = cc

turn : (pair : Pair) (live beside : ℕ) → AreOf pair live beside → AreOf pair beside live
turn pair live beside (inl is) = inr (is.1, is.0)
turn pair live beside (inr is) = inl (is.1, is.0)

module _ (d : Disk) (pair : Pair) where
  abbrev late : Bool
  late = is_later (revision (block_of d pair.1)) (revision (block_of d pair.0))

  abbrev tried : Pair
  tried = tried_first d pair

  pub live_first : is_some (tags_at d tried.0) ≡ true → IsLaterLive d pair tried.0 tried.1
  live_first there = record { of = of_by pair late; tags = tags_by d pair late ∙ first_of (tags_at d tried.0) (tags_at d tried.1) there }

  pub live_second : is_some (tags_at d tried.0) ≡ false → IsLaterLive d pair tried.1 tried.0
  live_second there = record {
    of = turn pair tried.0 tried.1 (of_by pair late);
    tags = tags_by d pair late ∙ second_of (tags_at d tried.0) (tags_at d tried.1) there;
  }

  within_by : (t : Bool) → pair.0 < d.count → pair.1 < d.count → (turned t pair).0 < d.count
  within_by true first second = second
  within_by false first second = first

  pub tried_within : pair.0 < d.count → pair.1 < d.count → tried.0 < d.count
  tried_within first second = within_by late first second
