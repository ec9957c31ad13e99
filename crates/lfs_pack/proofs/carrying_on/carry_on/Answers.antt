-- What is carried out on the outline is done to the image.
use Rattle.std.proofs.Common.{◌<◌, ℕ, List, All, inl, inr, refl, sym, subst}
use Rattle.std.proofs.lemmas.Result.{err_from_is_err_and}
use Rattle.lfs_command.specs.AskedFor.{named_command}
use Rattle.lfs_edit.specs.Carried.{IsCarriedOnOutline}
use Rattle.lfs_pack.proofs.CarriedOn.{at_work_on, back_inside, contents_first, does_on, outlined_at, put_short, taken_enough, taken_in_order, taken_inside}
use Rattle.lfs_pack.proofs.carrying_on.carry_on.Goals as goal

pub carry-requires-clause-outline : goal.carry-requires-clause-outline
carry-requires-clause-outline c =
    (c.requires.at_work.0, outlined_at c.args.new.now c.requires.at_work.0 c.requires.at_work.1)

pub carry-requires-clause-table : goal.carry-requires-clause-table
carry-requires-clause-table c = c.requires.at_work.1.table

pub returns-in_err-carried-clause-refused : goal.returns-in_err-carried-clause-refused
returns-in_err-carried-clause-refused c =
    let p = err_from_is_err_and c.from_residual.result c.from_residual.ensures.1 in
    rw (p.1, p.2) (elim c.in_err-carried.ensures.refused [
      | inl memory ↦ inl memory
      | inr refused ↦ inr (λ v at. refused v (outlined_at c.args.new.now v at))
    ])

pub lay_for-requires-clause-rising : goal.lay_for-requires-clause-rising
lay_for-requires-clause-rising c =
    let v = c.requires.at_work.0 in
    let at = c.requires.at_work.1 in
    let carried = c.in_ok-carried.carried in
    let command = named_command c.args.command.now in
    taken_in_order c.args.new.now v command c.deref.result.now carried.gone.items c.carry.new.outline at c.requires.row
    (subst (λ (bs : List ℕ). IsCarriedOnOutline v command bs carried.gone.items c.carry.new.outline) (sym c.deref.ensures.value)
    (c.in_ok-carried.ensures.carried v (outlined_at c.args.new.now v at)))

pub lay_for-requires-clause-below : goal.lay_for-requires-clause-below
lay_for-requires-clause-below c =
    let v = c.requires.at_work.0 in
    let at = c.requires.at_work.1 in
    let carried = c.in_ok-carried.carried in
    let command = named_command c.args.command.now in
    taken_inside c.args.new.now v command c.deref.result.now carried.gone.items c.carry.new.outline at c.requires.row
    (subst (λ (bs : List ℕ). IsCarriedOnOutline v command bs carried.gone.items c.carry.new.outline) (sym c.deref.ensures.value)
    (c.in_ok-carried.ensures.carried v (outlined_at c.args.new.now v at)))

pub lay_for-requires-clause-enough : goal.lay_for-requires-clause-enough
lay_for-requires-clause-enough c =
    let v = c.requires.at_work.0 in
    let at = c.requires.at_work.1 in
    let carried = c.in_ok-carried.carried in
    let command = named_command c.args.command.now in
    taken_enough c.args.new.now v command c.deref.result.now carried.gone.items c.carry.new.outline at c.requires.row
    (subst (λ (bs : List ℕ). IsCarriedOnOutline v command bs carried.gone.items c.carry.new.outline) (sym c.deref.ensures.value)
    (c.in_ok-carried.ensures.carried v (outlined_at c.args.new.now v at)))

pub lay_for-requires-clause-len : goal.lay_for-requires-clause-len
lay_for-requires-clause-len c =
    let v = c.requires.at_work.0 in
    let at = c.requires.at_work.1 in
    let does = c.in_ok-carried.ensures.carried v (outlined_at c.args.new.now v at) in
    put_short v does.after c.args.command.now c.args.new.now at does.carried

pub erase-requires : goal.erase-requires
erase-requires c =
    let v = c.requires.at_work.0 in
    let at = c.requires.at_work.1 in
    let command = named_command c.args.command.now in
    let does = does_on v command c.in_ok-carried.carried.blocks.items c.deref.result.now c.in_ok-carried.carried.gone.items c.deref-2.result.now
    c.carry.new.outline c.deref.ensures.value c.deref-2.ensures.value
    (c.in_ok-carried.ensures.carried v (outlined_at c.args.new.now v at)) in
    subst (λ (n : ℕ). All (λ b. b < n) c.deref-2.result.now)
    (sym (c.in_ok-lay_for.ensures.others v does.carried.supplies at.unwritten.size (contents_first c.args.new.now v command
    c.deref.result.now c.deref-2.result.now c.carry.new.outline at c.requires.row does)).disk.count)
    (back_inside c.args.new.now v command c.deref.result.now c.deref-2.result.now c.carry.new.outline at c.requires.row does
    c.free_after.ensures.uses)

pub returns-clause-carried : goal.returns-clause-carried
returns-clause-carried c v at =
    let command = named_command c.args.command.now in
    let does = does_on v command c.in_ok-carried.carried.blocks.items c.deref.result.now c.in_ok-carried.carried.gone.items c.deref-2.result.now
    c.carry.new.outline c.deref.ensures.value c.deref-2.ensures.value
    (c.in_ok-carried.ensures.carried v (outlined_at c.args.new.now v at)) in
    at_work_on c.args.new.now v command c.deref.result.now c.deref-2.result.now c.carry.new.outline at c.requires.row does
    c.unwritten_images_go_on.ensures.go_on c.lay_for.new.image.disk
    (record { image = c.erase.new.image; outline = c.carry.new.outline; used = c.carry.new.used })
    c.in_ok-lay_for.ensures.laid c.in_ok-lay_for.ensures.others c.in_ok-erase.ensures.others c.in_ok-erase.ensures.erased refl
    c.in_ok-carried.ensures.table
