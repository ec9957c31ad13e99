-- Rows are packed into as many blocks as they use, and into no fewer.
use Rattle.std.proofs.Common.{◌≡◌, ◌-◌, ◌/◌, ◌<◌, ◌≤◌, ◌==◌, ℕ, Bool, false, List, [], ◌∷◌, ◌++◌, length, min, take, refl, ap, sym}
use Rattle.std.proofs.Common.{◌∙◌, subst, arith, None}
use Rattle.std.specs.Prelude.{Contains, nat_le, nat_lt}
use Rattle.std.specs.List.{AllByRecursion, list_any}
use Rattle.std.proofs.lemmas.Bool.Decides.{nat_tests}
use Rattle.std.proofs.lemmas.List.Elements.{All-contains_itself, All-weaker}
use Rattle.std.proofs.lemmas.Nat.{le-div}
use Rattle.std.proofs.lemmas.Option.{none-some}
use Rattle.lfs_block.specs.Geometry.{IsGeometry}
use Rattle.lfs_fs.specs.declared.limits.Limits.{Limits}
use Rattle.lfs_fs.specs.Formatted.{empty_volume}
use Rattle.lfs_fs.specs.Free.{free_blocks}
use Rattle.lfs_fs.specs.Row.{PathsAreOrdered}
use Rattle.lfs_fs.specs.Sound.{IsSound}
use Rattle.lfs_fs.specs.Uses.{times, uses}
use Rattle.lfs_fs.specs.Volume.{Volume}
use Rattle.lfs_command.specs.declared.refusal.Refusal.{Refusal}
use Rattle.lfs_command.specs.declared.refusal.Refusal.TheVariants.{EntryTooLarge, Memory, NoSpace}
use Rattle.lfs_command.specs.Command.{Command, Mkdir, Put, Rm, Mv, SetAttr, RmAttr, Grow}
use Rattle.lfs_command.specs.Edited.{edited}
use Rattle.lfs_command.specs.Growth.{grown}
use Rattle.lfs_command.specs.Need.{dirty_parts, need}
use Rattle.lfs_command.specs.Supplies.{nothing}
use Rattle.lfs_command.specs.Verdict.{checks, first_refusal, is_too_large, refuse_if, room_checks, verdict}
use Rattle.lfs_law.specs.Laws.{UsesAfter}
use Rattle.lfs_law.specs.Lengthened.{with_count}
use Rattle.lfs_law.proofs.CarriedFollow.{CarriedFollow}
use Rattle.lfs_law.proofs.FrugalPlans.{enough_free}
use Rattle.lfs_law.proofs.Parents.{first_passes, test_passes}
use Rattle.lfs_law.proofs.PartsFit.{checks_pass}
use Rattle.lfs_law.proofs.WrittenLemmas.{times_there}
use Rattle.lfs_law.proofs.Verdicts.{front_passes, passed_first}
use Rattle.lfs_pack.specs.Laws.{IsLeastOf, LeastCountsAreLeast}
use Rattle.lfs_pack.specs.Least.{IsLeastCount, most_count}
use Rattle.lfs_pack.specs.Packed.{ArePackable, Packed, commands}
use Rattle.lfs_pack.specs.Packing.{IsNotPacked, IsPacked, RefusesPack}
use Rattle.lfs_pack.proofs.Counted.{edited_counted, lead_counted, many_left, need_counted}
use Rattle.lfs_pack.proofs.CountsKept.{KeepsCount, kept, rows_keep}
use Rattle.lfs_pack.proofs.NoneFreed.{IsParted, LeadOn, all_on, parted, sound_on, uses_more, uses_on}

-- ---- a verdict on fewer blocks

checks_counted : (m : ℕ) (v : Volume) (c : Command) → KeepsCount c → checks (with_count m v) c ≡ checks v c
unfolding KeepsCount
checks_counted m v (Mkdir p) keeps = refl
checks_counted m v (Put p bytes most) keeps = refl
checks_counted m v (Rm p) keeps = refl
checks_counted m v (Mv p q) keeps = refl
checks_counted m v (SetAttr p k value) keeps = refl
checks_counted m v (RmAttr p k) keeps = refl
checks_counted m v (Grow n) keeps = let one : n ≡ 0 = keeps 0 in let two : n ≡ 1 = keeps 1 in absurd (omega (arith, one, two))

-- none of them refuses what is accepted, where enough blocks are free
still_accepted : (m : ℕ) (v : Volume) (c : Command) → KeepsCount c → verdict v c ≡ None
    → need v c ≤ length (free_blocks (with_count m v)) → verdict (with_count m v) c ≡ None
unfolding KeepsCount
still_accepted m v c keeps passes enough =
    let set : Volume = edited v c nothing in
    let large : list_any (is_too_large set) (dirty_parts set) ≡ false =
    test_passes (list_any (is_too_large set) (dirty_parts set)) EntryTooLarge
    (first_passes (refuse_if (list_any (is_too_large set) (dirty_parts set)) EntryTooLarge) _
    (checks_pass (checks v c) (room_checks v c) passes)).0 in
    let still : list_any (is_too_large (edited (with_count m v) c nothing)) (dirty_parts (edited (with_count m v) c nothing)) ≡ false =
    ap (λ (x : Volume). list_any (is_too_large x) (dirty_parts x)) (edited_counted m v c nothing keeps) ∙ large in
    let many : need (with_count m v) c ≤ length (free_blocks (grown c (with_count m v))) =
    omega (arith, need_counted m v c keeps, enough, ap (λ (n : ℕ). length (free_blocks (with_count n v))) (keeps m)) in
    let free : nat_lt (length (free_blocks (grown c (with_count m v)))) (need (with_count m v) c) ≡ false =
    not_less (length (free_blocks (grown c (with_count m v)))) (need (with_count m v) c) many in
    passed_first (checks (with_count m v) c) (room_checks (with_count m v) c)
    (ap first_refusal (checks_counted m v c keeps) ∙ front_passes (checks v c) (room_checks v c) passes)
    ∙ ap (λ (t : Bool). first_refusal (refuse_if t EntryTooLarge
    ∷ refuse_if (nat_lt (length (free_blocks (grown c (with_count m v)))) (need (with_count m v) c))
    (NoSpace (need (with_count m v) c) (length (free_blocks (grown c (with_count m v))))) ∷ [])) still
    ∙ ap (λ (t : Bool). first_refusal (refuse_if t
    (NoSpace (need (with_count m v) c) (length (free_blocks (grown c (with_count m v))))) ∷ [])) free
  where
    not_less : (x y : ℕ) → y ≤ x → nat_lt x y ≡ false
    not_less x y le = grind (arith, nat_tests)

-- ---- parts of a list of commands

keeps_front : (done : List Command) (next : Command) (later : List Command) → AllByRecursion KeepsCount (done ++ next ∷ later)
    → AllByRecursion KeepsCount done × KeepsCount next
keeps_front [] next later keep = (tt, keep.0)
keeps_front (c ∷ cs) next later keep = let rest = keeps_front cs next later keep.1 in ((keep.0, rest.0), rest.1)

-- an image has no more blocks than it may have
within_most : (size m : ℕ) → IsGeometry size m → m ≤ most_count size
within_most size m fits =
    let room : m ≤ 67108864 / size = le-div m 67108864 size (omega (arith, fits.size_fits.0)) fits.length_fits in
    least_of (67108864 / size) m room fits.count_fits.1
  where
    least_of : (a k : ℕ) → k ≤ a → k ≤ 65536 → k ≤ min a 65536
    least_of a k less few = omega (arith, less, few)

in_use : (b n k : ℕ) → 1 ≤ k → (k == 0) ≡ nat_le n b → b < n
in_use b n k some is = grind (arith, nat_tests)

used_before : (b n k : ℕ) → b < n → (k == 0) ≡ nat_le n b → 0 < k
used_before b n k lt is = grind (arith, nat_tests)

module _ (follow : CarriedFollow) (order : PathsAreOrdered) (after : UsesAfter) (size n m : ℕ) (limits : Limits) (rows : List Packed)
    (packable : ArePackable rows) (least : IsLeastCount size limits rows n) (fits : IsGeometry size m) where
  abbrev begun : Volume
  begun = empty_volume size (most_count size) limits []

  within : m ≤ begun.count
  within = within_most size m fits

  -- ---- in as many blocks none of the commands is refused

  never_refused : n ≤ m → (r : Refusal) → IsNotPacked size m limits rows r → ⊥
  unfolding KeepsCount
  never_refused le r stop = none-some r (sym accepted ∙ ap (λ (x : Volume). verdict x stop.next) (sym same) ∙ stop.refused)
    where
      parts : IsParted stop.done stop.next stop.later begun least.volume
      parts = parted stop.done stop.next stop.later begun least.volume (subst (λ (cs : List Command). LeadOn cs begun least.volume) stop.are
          (all_on follow order size (most_count size) limits rows least.volume packable least.led))

      v : Volume
      v = parts.before

      keep : AllByRecursion KeepsCount stop.done × KeepsCount stop.next
      keep = keeps_front stop.done stop.next stop.later (subst (AllByRecursion KeepsCount) stop.are (rows_keep rows))

      same : stop.volume ≡ with_count m v
      same = lead_counted follow m stop.done begun v stop.volume keep.0 within parts.led stop.led

      count : v.count ≡ begun.count
      count = (kept follow stop.done begun v keep.0 parts.led).1

      sound : IsSound least.volume
      sound = sound_on follow stop.later parts.left least.volume parts.on (follow stop.next v parts.left parts.carried).sound

      free_is : free_blocks (grown stop.next v) ≡ free_blocks v
      free_is = ap (λ (k : ℕ). free_blocks (with_count k v)) (keep.1 v.count)

      -- what it takes is in use in the end
      taken_below : (b : ℕ) → Contains (take (need v stop.next) (free_blocks v)) b → b < m
      taken_below b there =
          let once : 1 ≤ times b (take (need v stop.next) (free_blocks v)) = times_there b (take (need v stop.next) (free_blocks v)) there in
          let some : 1 ≤ uses b least.volume = omega (
            arith,
            once,
            uses_more after stop.next v parts.left parts.carried parts.freed b,
            ap (λ (bs : List ℕ). times b (take (need v stop.next) bs)) free_is,
            uses_on after stop.later parts.left least.volume parts.on b,
          ) in
          let used : b < n = in_use b n (uses b least.volume) some (least.uses.free b (sound.within b some)) in
          omega (arith, used, le)

      enough : need v stop.next ≤ length (free_blocks (with_count m v))
      enough = many_left m v (need v stop.next) (omega (arith, within, count))
          (omega (arith, enough_free v stop.next parts.carried.accepted.unrefused, ap (λ (bs : List ℕ). length bs) free_is))
          (All-weaker (Contains (take (need v stop.next) (free_blocks v))) (λ (b : ℕ). b < m) taken_below
          (take (need v stop.next) (free_blocks v)) (All-contains_itself (take (need v stop.next) (free_blocks v))))

      accepted : verdict (with_count m v) stop.next ≡ None
      accepted = still_accepted m v stop.next keep.1 parts.carried.accepted.unrefused enough

  only_memory : n ≤ m → (r : Refusal) → RefusesPack size m limits rows r → r ≡ Memory
  only_memory le Memory stop = refl
  only_memory le r stop = absurd (never_refused le r stop)

  -- ---- in fewer the last block that is in use isn't there

  never_packed : m < n → (bytes : List ℕ) → IsPacked size m limits rows bytes → ⊥
  never_packed lt bytes packs =
      let same : packs.volume ≡ with_count m least.volume =
      lead_counted follow m (commands rows) begun least.volume packs.volume (rows_keep rows) within least.led packs.led in
      let sound : IsSound (with_count m least.volume) = subst IsSound same packs.sound in
      let last : 0 < uses (n - 1) least.volume =
      used_before (n - 1) n (uses (n - 1) least.volume) (omega (arith, lt))
      (least.uses.free (n - 1) (omega (arith, lt, least.uses.within))) in
      omega (arith, sound.within (n - 1) last, lt)

  pub is_least : IsLeastOf size limits rows n m
  is_least = record { packs = only_memory; none = never_packed }

pub least_counts_are_least : CarriedFollow → PathsAreOrdered → UsesAfter → LeastCountsAreLeast
least_counts_are_least follow order after size n m limits rows packable least fits =
    is_least follow order after size n m limits rows packable least fits
