-- A command of a row that is carried out on the outline of a new image's volume, and then on the image.
use Rattle.std.proofs.Common.{◌≡◌, ◌<◌, ◌≤◌, ℕ, List, [], ◌∷◌, ◌++◌, Option, Some, None, length, take, refl, ap, sym, ◌∙◌, subst, arith}
use Rattle.std.proofs.Common.{inl, inr}
use Rattle.std.specs.Prelude.{◌^◌, All, AllPairs, Contains, replicate}
use Rattle.std.proofs.lemmas.List.{length-take-le, take-take}
use Rattle.std.proofs.lemmas.List.Elements.{All-contains_itself, All-weaker}
use Rattle.lfs_block.specs.Disk.{Disk, block_of}
use Rattle.lfs_fs.specs.DiskBut.{IsDiskBut}
use Rattle.lfs_fs.specs.Free.{free_blocks}
use Rattle.lfs_fs.specs.Table.{IsTableOf}
use Rattle.lfs_fs.specs.Uses.{times, uses}
use Rattle.lfs_fs.specs.Volume.{Volume}
use Rattle.lfs_command.specs.declared.refusal.Refusal.{Refusal}
use Rattle.lfs_command.specs.AskedFor.{OnNames, contents_len, named_command}
use Rattle.lfs_command.specs.Command.{Command, Grow, Mkdir, Mv, Put, Rm, RmAttr, SetAttr}
use Rattle.lfs_command.specs.Freed.{freed_uses}
use Rattle.lfs_command.specs.Growth.{grown}
use Rattle.lfs_command.specs.Need.{data_blocks, need}
use Rattle.lfs_command.specs.Planned.{CarriesOut, HasLaid}
use Rattle.lfs_command.specs.Supplies.{Supplies, supply_uses}
use Rattle.lfs_command.specs.Verdict.{checks, first_refusal, room_checks}
use Rattle.lfs_law.specs.Laws.{UsesAfter}
use Rattle.lfs_law.specs.PlansHold.{content_blocks}
use Rattle.lfs_law.proofs.FreeBlocks.{taken_below, taken_rise}
use Rattle.lfs_law.proofs.FrugalPlans.{enough_free}
use Rattle.lfs_law.proofs.LeastBlocks.{none_or_some}
use Rattle.lfs_law.proofs.WrittenLemmas.{times_there}
use Rattle.lfs_edit.specs.Carried.{IsCarriedOnOutline, IsOutlined}
use Rattle.lfs_edit.proofs.JudgedLemmas.{accepted_short}
use Rattle.lfs_pack.specs.declared.new_image.NewImage.{NewImage}
use Rattle.lfs_pack.specs.RowsCarried.{IsAtWork}
use Rattle.lfs_pack.specs.Unwritten.{CommandsGoOn, IsOfRow}
use Rattle.lfs_pack.proofs.GoingOn.{same_count}

-- the outline is that of the volume
pub outlined_at : (t : NewImage) (v : Volume) → IsAtWork t v → IsOutlined v t.outline
outlined_at t v at = record { holdable = at.unwritten.holdable; outline = at.outline }

-- the same of lists that are the blocks
pub does_on : (v : Volume) (c : Command) (taken blocks gone back : List ℕ) (o : Volume) → blocks ≡ taken → back ≡ gone
    → IsCarriedOnOutline v c taken gone o → IsCarriedOnOutline v c blocks back o
does_on v c taken blocks gone back o are returned does =
    subst (λ (l : List ℕ). IsCarriedOnOutline v c l back o) (sym are) (subst (λ (l : List ℕ). IsCarriedOnOutline v c taken l o) (sym returned) does)

-- the size alone says how many blocks contents take
data_same : (v w : Volume) (c : Command) → v.size ≡ w.size → data_blocks v c ≡ data_blocks w c
data_same v w (Mkdir p) same = refl
data_same v w (Put p bytes most) same = ap (λ (n : ℕ). data_blocks (record {
  size = n;
  count = v.count;
  limits = v.limits;
  attributes = v.attributes;
  directories = v.directories;
}) (Put p bytes most)) same
data_same v w (Rm p) same = refl
data_same v w (Mv p q) same = refl
data_same v w (SetAttr p k value) same = refl
data_same v w (RmAttr p k) same = refl
data_same v w (Grow n) same = refl

front_passes : (xs ys : List (Option Refusal)) → first_refusal (xs ++ ys) ≡ None → first_refusal xs ≡ None
front_passes [] ys passes = refl
front_passes (None ∷ xs) ys passes = front_passes xs ys passes
front_passes (Some r ∷ xs) ys passes = passes

-- contents that are put are short
pub put_short : (v w : Volume) (c : OnNames) (t : NewImage) → IsAtWork t v → CarriesOut (named_command c) v w → contents_len c < 2 ^ 32
put_short v w c t at carries =
    accepted_short v c at.unwritten.holdable.limits
    (front_passes (checks v (named_command c)) (room_checks v (named_command c)) carries.accepted.unrefused)

module _ (t : NewImage) (v : Volume) (c : Command) (blocks back : List ℕ) (o : Volume) (at : IsAtWork t v) (row : IsOfRow c)
    (does : IsCarriedOnOutline v c blocks back o) where
  abbrev d : Disk
  d = t.image.disk

  count : (grown c v).count ≡ d.count
  count = same_count c v.count row ∙ at.unwritten.count

  -- ---- what is taken

  pub taken_in_order : AllPairs ◌<◌ blocks
  taken_in_order = subst (AllPairs ◌<◌) (sym does.taken) (taken_rise (grown c v) (need v c))

  pub taken_inside : All (λ b. b < d.count) blocks
  taken_inside =
      subst (All (λ b. b < d.count)) (sym does.taken)
      (subst (λ (n : ℕ). All (λ b. b < n) (take (need v c) (free_blocks (grown c v)))) count (taken_below (grown c v) (need v c)))

  many : length blocks ≡ need v c
  many =
      ap (λ (bs : List ℕ). length bs) does.taken
      ∙ length-take-le (need v c) (free_blocks (grown c v)) (enough_free v c does.carried.accepted.unrefused)

  within_need : data_blocks v c ≤ need v c
  within_need = omega arith

  pub taken_enough : (x : Volume) → x.size ≡ d.size → data_blocks x c ≤ length blocks
  taken_enough x same = omega (arith, many, within_need, data_same x v c (same ∙ sym at.unwritten.size))

  pub contents_first : does.carried.supplies.blocks ≡ take (data_blocks v c) blocks
  contents_first =
      ap (λ (s : Supplies). s.blocks) does.supplies
      ∙ sym (ap (take (data_blocks v c)) does.taken ∙ take-take (data_blocks v c) (need v c) (free_blocks (grown c v)) within_need)

  -- ---- what is given back

  gone_is_block : UsesAfter → (b : ℕ) → 0 < freed_uses v c b → b < d.count
  gone_is_block after b gone = elim (none_or_some (uses b v)) [
    | inr used ↦ omega (arith, does.carried.accepted.sound.within b used, at.unwritten.count)
    | inl unused ↦ elim (none_or_some (supply_uses v c does.carried.supplies b)) [
      | inr supplied ↦ omega (arith, does.carried.accepted.free.within b supplied, count)
      | inl other ↦
          omega (
            arith,
            does.carried.pairs.within b
                (omega (arith, gone, unused, other, after v c does.carried.supplies does.carried.chosen does.carried.accepted does.carried.pairs b)),
            count,
          )
    ]
  ]

  pub back_inside : UsesAfter → All (λ b. b < d.count) back
  back_inside after =
      All-weaker (Contains back) (λ (b : ℕ). b < d.count)
      (λ b there. gone_is_block after b (omega (arith, times_there b back there, does.gone b))) back (All-contains_itself back)

  -- ---- what comes of it

  pub at_work_on : CommandsGoOn → (laid : Disk) (u : NewImage)
      → ((x : Volume) (s : Supplies) → x.size ≡ d.size → s.blocks ≡ take (data_blocks x c) blocks → HasLaid x c s laid)
      → ((x : Volume) (s : Supplies) → x.size ≡ d.size → s.blocks ≡ take (data_blocks x c) blocks → IsDiskBut (content_blocks x c s) d laid)
      → IsDiskBut back laid u.image.disk
      → ((b : ℕ) → 0 < times b back → block_of u.image.disk b ≡ replicate u.image.disk.size 0xff)
      → u.outline ≡ o → IsTableOf u.outline u.used → (w : Volume) × CarriesOut c v w × IsAtWork u w
  at_work_on go laid u has others left erased leaves table = (
    does.after,
    does.carried,
    record {
      unwritten = go v does.after c does.carried d laid u.image.disk row at.unwritten (record {
        least = does.supplies;
        others = others v does.carried.supplies at.unwritten.size contents_first;
        contents = has v does.carried.supplies at.unwritten.size contents_first;
        gone = back;
        are = does.gone;
        left = left;
        erased = erased;
      });
      outline = leaves ∙ does.leaves;
      table = table;
    },
  )
