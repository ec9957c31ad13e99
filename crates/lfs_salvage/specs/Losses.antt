-- Whether anything is lost of what is named in an image (own).
use Rattle.std.specs.Prelude.{ℕ, ◌+◌, ◌==◌, ◌&&◌, ◌||◌, not, Bool, true, false, List, [], ◌∷◌, Option, Some, None, option_map, slice_get, slice_index_or, unwrap_or}
use Rattle.std.specs.List.{list_any}
use Rattle.lfs_block.specs.declared.mount_fault.MountFault.{MountFault}
use Rattle.lfs_block.specs.declared.mount_fault.MountFault.TheVariants.{BlockTwice}
use Rattle.lfs_meta.specs.Body.{Pair}
use Rattle.lfs_salvage.specs.Lost.{has_start}
use Rattle.lfs_salvage.specs.declared.block_use.BlockUse.{BlockUse}
use Rattle.lfs_salvage.specs.declared.block_use.BlockUse.TheVariants as use_of
use Rattle.lfs_salvage.specs.declared.saved.Saved.{Saved}
use Rattle.lfs_salvage.specs.declared.unsaved.Why.{Why}
use Rattle.lfs_salvage.specs.declared.unsaved.Why.TheVariants as why
use Rattle.lfs_survey.specs.declared.area.Area.{Area}
use Rattle.lfs_survey.specs.declared.call.Call.{Call}
use Rattle.lfs_survey.specs.declared.found.Found.{Found}
use Rattle.lfs_survey.specs.declared.found.Found.TheVariants.{Part, Refused}

-- two pairs have the same blocks
abbrev pub are_same : Pair → Pair → Bool
are_same p q = (p.0 == q.0 && p.1 == q.1) || (p.0 == q.1 && p.1 == q.0)

-- a part is found at a call, at the pair with these blocks
abbrev pub is_part_of : Option Found → Pair → Bool
is_part_of None pair = false
is_part_of (Some (Part p)) pair = are_same p.0 pair
is_part_of (Some (Refused fault)) pair = false

-- what is found at a call of an area
abbrev pub found_at_call : Option Area → ℕ → Option Found
found_at_call None call = None
found_at_call (Some a) call = slice_get a.found.items call

-- its first block is in use for the part that is found at the pair, so that this is saved under another name
abbrev pub is_saved_at : List Area → BlockUse → Pair → Bool
is_saved_at areas use_of.Free pair = false
is_saved_at areas (use_of.Part area call) pair = is_part_of (found_at_call (slice_get areas area) call) pair
is_saved_at areas use_of.Chain pair = false
is_saved_at areas (use_of.Head parent size) pair = false

-- a pair is lost that isn't read, unless its part is saved under another name
abbrev pub is_lost_for : MountFault → Bool → Bool
is_lost_for BlockTwice saved = not saved
is_lost_for fault saved = true

abbrev pub is_lost : List Area → List BlockUse → Pair → Found → Bool
is_lost areas uses pair (Part p) = false
is_lost areas uses pair (Refused fault) = is_lost_for fault (is_saved_at areas (slice_index_or uses pair.0 use_of.Free) pair)

-- the pair of the call of this number; that of the root where there is no such call
abbrev pub call_pair : List Call → ℕ → Pair
call_pair calls call = unwrap_or (option_map (λ c. c.pair) (slice_get calls call)) (0, 0)

-- one of these is, of which the first is found at the call of this number
abbrev pub losses_from : List Area → List BlockUse → List Call → ℕ → List Found → Bool
losses_from areas uses calls call [] = false
losses_from areas uses calls call (f ∷ fs) =
    is_lost areas uses (call_pair calls call) f || losses_from areas uses calls (call + 1) fs

-- an entry isn't saved, under no name
abbrev pub is_file_lost : Why → Bool
is_file_lost (why.Fault fault) = true
is_file_lost (why.Elsewhere parent) = false
is_file_lost why.Name = true

-- something is lost: no part is found anywhere, or a pair is lost, or an entry
abbrev pub has_loss : Saved → Bool
has_loss s =
    not (list_any (λ a. has_start a.found.items) s.areas.items)
    || list_any (λ a. losses_from s.areas.items s.salvage.uses.items a.calls.items 0 a.found.items) s.areas.items
    || list_any (λ u. is_file_lost u.why) s.salvage.unsaved.items
